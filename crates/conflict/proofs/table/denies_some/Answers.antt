-- `denies_some` meets its contract: `any` tells whether one of the facts is denied. Assumes nothing.
use mathlib.Core.Path.{refl, sym, ◌∙◌}
use Rattle.std.proofs.Common.{rules}
use borrow.Author.Tests.{tests}
use Rattle.std.proofs.lemmas.Iterator.Search.{any_from_yields_List}
use Rattle.std.proofs.lemmas.Iterator.Consumers.{YieldsList-from_first}
use Rattle.sheet.specs.Decode.{fact_of}
use Rattle.sheet.specs.Between.Group.{group_left}
use Rattle.conflict.specs.Between.Table.{denies}
use Rattle.conflict.proofs.DenyLaws.{some_of_any}
use Rattle.conflict.proofs.table.denies_some.Goals as goal

pub returns : goal.returns
returns c =
    any_from_yields_List (denies c.args.table.now) c.any.new.self _ _ c.any.ensures.ran (YieldsList-from_first fact_of group_left {s = c.args.facts} _ refl) (λ x b q k. search (rules, tests))
    ∙ sym (some_of_any _ _)
