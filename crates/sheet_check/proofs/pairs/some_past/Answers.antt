-- `some_past` meets its contract: `any` tells whether one of the effects runs past the end. Assumes nothing.
use mathlib.Core.Path.{sym, ◌∙◌}
use Rattle.std.proofs.Common.{rules}
use borrow.Author.Tests.{tests}
use Rattle.std.proofs.lemmas.Iterator.Search.{any_from_yields_List}
use Rattle.std.proofs.lemmas.Iterator.Consumers.{YieldsList-from_first}
use Rattle.sheet.specs.Causes.{runs_past}
use Rattle.sheet.specs.Between.Effects.{places_left}
use Rattle.conflict.proofs.DenyLaws.{some_of_any}
use Rattle.sheet_check.proofs.pairs.some_past.Goals as goal

pub returns : goal.returns
returns c =
    any_from_yields_List (runs_past c.args.w.now c.args.end) c.any.new.self _ _ c.any.ensures.ran (YieldsList-from_first (λ i. i) places_left _ c.new.ensures) (λ x b q k. search (rules, tests))
    ∙ sym (some_of_any _ _)
