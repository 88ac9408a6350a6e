-- Bytes that are shown as they are are ASCII, and so UTF-8.
use Rattle.std.proofs.Common.{sym, ◌∙◌, Result, Ok, Err, rules}
use Rattle.std.specs.Result.{IsOk}
use Rattle.std.specs.Prelude.{MatchResult}
use Rattle.std.proofs.Output.{has_written_of_eq}
use Rattle.std.proofs.lemmas.Str.{IsUtf8-from_ascii}
use Rattle.wording.specs.EscapeLaws.{escaped-plain, plain-ascii}
use Rattle.wording.proofs.plain.Goals as goal

ok-of : {A E : Type 0} (P : A → Type 0) (Q : E → Type 0) (r : Result A E) → MatchResult r P Q → ((e : E) → Q e → ⊥) → IsOk r
ok-of P Q (Ok x) m none = search rules
ok-of P Q (Err e) m none = absurd (none e m)

pub unwrap-requires : goal.unwrap-requires
unwrap-requires g c = ok-of _ _ c.from_utf8.result c.from_utf8.ensures.cases (λ e q. q.0 (IsUtf8-from_ascii _ (plain-ascii _ c.requires)))

pub returns : goal.returns
returns g c =
    let valid = rw c.unwrap.ensures at c.from_utf8.ensures.cases in
    λ p q. has_written_of_eq _ _ _ _ _ (valid.0 ∙ sym (escaped-plain _ c.requires)) (c.write_str.ensures.writes p q)
