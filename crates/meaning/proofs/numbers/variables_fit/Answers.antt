-- `variables_fit` meets its contract: it tests each variable. Assumes nothing.
use native.Mathlib.Nat.{sub-zero}
use Rattle.std.proofs.Common.{rules, ◌≡◌, ◌∙◌, refl}
use borrow.Author.Tests.{tests}
use Rattle.std.proofs.lemmas.Iterator.{YieldsList-from_range}
use Rattle.std.proofs.lemmas.Iterator.Search.{all_from_yields_List}
use Rattle.std.specs.List.{list_all, range_with_len}
use Rattle.meaning.proofs.SectionLaws.{variable_fit, fit_all}
use Rattle.meaning.proofs.numbers.variables_fit.Goals as goal

pub returns : goal.returns
returns c =
    let each : c.all.result ≡ list_all (variable_fit c.args.all.now c.number-v.result) (range_with_len 0 c.number-v.result) =
    all_from_yields_List (variable_fit c.args.all.now c.number-v.result) _ _ _ c.all.ensures.ran
    (YieldsList-from_range 0 c.number-v.result c.number-v.result refl (sub-zero _)) (λ x b q k. search (rules, tests)) in
    each ∙ fit_all _ _ c.number-v.ensures.0
