-- `text3::parts::cut` meets its contract.
use Rattle.std.proofs.Common.{rules}
use Rattle.std.proofs.lemmas.Iterator.{YieldsList-from_slice}
use Rattle.std.proofs.lemmas.Iterator.Search.{position_from_yields_List}
use borrow.Author.Tests.{tests}
use Rattle.text3.proofs.Cuts.{is_space, cut_some, cut_none}
use Rattle.text3.proofs.parts.cut.Goals as goal

pub returns-in-Some-clause-parts : goal.returns-in-Some-clause-parts
returns-in-Some-clause-parts c =
    let e = c.args in
    let found = position_from_yields_List is_space c.position.new.self _ c.position.result c.position.ensures.ran (YieldsList-from_slice e.text.now cc) (λ x b q k. search (rules, tests)) in
    cut_some e.text.now c.position.result c.in-Some.end found c.in-Some.is

pub returns-in-None-clause-parts : goal.returns-in-None-clause-parts
returns-in-None-clause-parts c =
    let e = c.args in
    let found = position_from_yields_List is_space c.position.new.self _ c.position.result c.position.ensures.ran (YieldsList-from_slice e.text.now cc) (λ x b q k. search (rules, tests)) in
    cut_none e.text.now c.position.result found c.in-None.is
