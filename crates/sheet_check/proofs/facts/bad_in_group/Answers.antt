-- `bad_in_group` meets its contract: `find` gives the first bad fact. Assumes nothing.
use Prim.Native.Nat.{◌-◌}
use mathlib.Core.Path.{refl}
use Rattle.std.proofs.Common.{rules}
use borrow.Author.Tests.{tests}
use Rattle.std.proofs.lemmas.Iterator.{YieldsList-from_range}
use Rattle.std.proofs.lemmas.Iterator.Search.{find_from_yields_List}
use Rattle.sheet_check.proofs.FoundLaws.{first_found}
use Rattle.sheet.specs.Causes.{bad_fact, group_place}
use Rattle.sheet_check.proofs.facts.bad_in_group.Goals as goal

pub returns : goal.returns
unfolding group_place
returns c =
    let from : _ = c.args.group.at in
    let end : _ = c.args.group.end in
    first_found (bad_fact c.args.w.now from) from end _
    (find_from_yields_List (bad_fact c.args.w.now from) c.find.new.self _ c.find.result c.find.ensures.ran (YieldsList-from_range from end (end - from) refl refl) (λ x b q k. search (rules, tests)))
