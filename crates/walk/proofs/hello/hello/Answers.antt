-- A HELLO line's rows, one after another.
use Rattle.std.specs.Prelude.{◌+◌, ◌≤◌, ◌++◌, Option}
use Rattle.std.proofs.Common.{arith, ap}
use denote.Param.{number}
use Rattle.meaning.specs.Rows.{end, span, words}
use Rattle.rows.specs.Put.{words_of_row}
use Rattle.text3.specs.declared.hello.Login.{Login}
use Rattle.text3.specs.Hello.{fields_of, login_fields, name_fields}
use Rattle.walk.specs.contracts.hello.hello.{WRITE-type}
use Rattle.walk.proofs.Hellos.{Filled, own_row, all_words, filled-none, filled-next, filled-login, filled-name, filled-end, hello-full, hello-walks, login-fits, name-fits}
use Rattle.walk.proofs.hello.hello.Goals.{in-Some, in_default, in-Some-name, in_default-name}
use Rattle.walk.proofs.hello.hello.Goals as goal

pub returns-then-room-row-clause-walks : goal.returns-then-room-row-clause-walks
returns-then-room-row-clause-walks g c = hello-full c.args.attribute c.args.g c.requires (rw (← c.fields-fields.ensures) c.if-room-row.true)

pub returns-clause-walks : goal.returns-clause-walks
returns-clause-walks g c =
    let few = c.args.room.few in
    let own = own_row c.args.attribute c.args.g.version (fields_of c.args.g) in
    let fits : c.args.room.used + 1 + span (fields_of c.args.g) ≤ c.args.room.lim = omega (arith, c.fields-fields.ensures, c.if-room-row.false, c.requires) in
    let first = filled-next few filled-none c.requires own (rw (c.code.ensures, c.fields-fields.ensures) at c.put.ensures) in
    let second : Filled (WRITE-type (number g.row.WRITE)) c.args.room.lim c.args.room.used c.args.t.now c.match-g.t c.match-g.row (words_of_row own ++ words (login_fields c.args.g.login end)) =
    elim c.match-g.branch [
      | in-Some w ↦ rw (w.t-is, w.row-is) (filled-login few first w.in-Some.is (login-fits c.args.attribute c.args.g _ w.in-Some.is fits) w.put_field.ensures w.put_field-in-Some.ensures)
      | in_default w ↦ rw (w.t-is, w.row-is) (filled-end few first (ap (λ (o : Option Login). login_fields o end) w.in_default.is))
    ] in
    let third : Filled (WRITE-type (number g.row.WRITE)) c.args.room.lim c.args.room.used c.args.t.now c.match-g-2.t c.match-g-2.row (all_words c.args.attribute c.args.g) =
    elim c.match-g-2.branch [
      | in-Some-name w ↦ rw (w.t-is, w.row-is) (filled-name few second w.in-Some-name.is (name-fits c.args.attribute c.args.g w.in-Some-name.is fits second) w.put_field-in-Some-name.ensures)
      | in_default-name w ↦ rw (w.t-is, w.row-is) (filled-end few second (ap name_fields w.in_default-name.is))
    ] in
    hello-walks c.args.attribute c.args.g third fits
