-- What is answered to the numbers of a text that has the form. Only the contract of the function that answers it cites
-- this file, so it need not be believed. Assumes nothing.
use Rattle.std.specs.Prelude.{ℕ, ◌≡◌, List, length, Result}
use Rattle.refusal.specs.Check.{answer}
use Rattle.meaning.specs.Between.Sections.{meaning}
use Rattle.refusal.specs.declared.Refusal.{Refusal}
use Rattle.translation.specs.Translation.{told_translated}
use Rattle.translation.specs.Between.Checks.{task_checks, LeavesTask}

pub record WritesTask (x before : List ℕ) (r : Result ℕ Refusal) (after : List ℕ) : Type 0 where
  pub answers : told_translated r ≡ answer (task_checks x (length before))
  pub leaves : LeavesTask (meaning x) before r after
