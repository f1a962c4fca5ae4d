-- `cost` meets its contract, by whether the metric is 0. Assumes nothing.
use mathlib.Core.Path.{sym, ◌∙◌, ap}
use Rattle.meaning.specs.Between.Sections.{number_at}
use Rattle.meaning.proofs.SectionLaws.{cost_alike, cost_told}
use Rattle.meaning.proofs.operator.Operator.cost.Goals as goal

pub returns-then-word-eq0 : goal.returns-then-word-eq0
returns-then-word-eq0 c = cost_alike _ _ (sym c.word.ensures ∙ c.if-word-eq0.true)

pub returns : goal.returns
returns c =
    c.word-2.ensures ∙ ap (number_at _) c.cost_at.ensures.0 ∙ cost_told _ _ (λ none. c.if-word-eq0.false (c.word.ensures ∙ none))
