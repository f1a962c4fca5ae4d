-- `build` meets its contract, by each test of the task. Assumes nothing.
use native.Mathlib.Omega.{arith}
use Rattle.task_sheet.proofs.BuildLaws.{builds_unfit, none_built, built_of, no_variables, many_actions, parts_unfit, words_over, sheet_built}
use Rattle.task_sheet.proofs.build.build.Goals as goal

pub returns-in_err-numbers : goal.returns-in_err-numbers
returns-in_err-numbers c = rw c.from_residual.ensures (none_built c.in_err-numbers.ensures)

pub returns-then-variables-lt1 : goal.returns-then-variables-lt1
returns-then-variables-lt1 c =
    built_of c.in_ok-numbers.ensures (λ _ _. builds_unfit (no_variables _ (omega (arith, c.variables-variables.ensures.0, c.if-variables-lt1.true))))

pub returns-then-operators-gt-ACTIONS : goal.returns-then-operators-gt-ACTIONS
returns-then-operators-gt-ACTIONS c =
    built_of c.in_ok-numbers.ensures
    (λ _ _. builds_unfit (many_actions _ (omega (arith, c.operators-operators.ensures.0, c.if-operators-gt-ACTIONS.true))))

pub returns-in_err-words : goal.returns-in_err-words
returns-in_err-words c =
    rw c.from_residual-in_err-words.ensures (built_of c.in_ok-numbers.ensures (λ _ _. builds_unfit (parts_unfit _ _ _ c.in_err-words.ensures)))

pub returns-then-words-gt-WORDS : goal.returns-then-words-gt-WORDS
returns-then-words-gt-WORDS c =
    built_of c.in_ok-numbers.ensures (λ _ _. builds_unfit (words_over _ _ _ c.in_ok-words.ensures c.if-words-gt-WORDS.true))

pub returns : goal.returns
returns c =
    built_of c.in_ok-numbers.ensures
    (λ few fits.
    sheet_built _ _ _ c.in_ok-words.ensures _ _ c.variables-variables.ensures.0 c.operators-operators.ensures.0 _ c.write_header.ensures c.if-variables-lt1.false
    (omega (arith, c.variables-variables.ensures.1)) c.if-operators-gt-ACTIONS.false fits c.if-words-gt-WORDS.false)
