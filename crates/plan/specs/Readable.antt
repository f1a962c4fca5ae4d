-- A plan (document 01: list) that can be read, valid or not. Assumes nothing.
use Rattle.std.specs.Prelude.{ℕ, ◌≤◌, ◌<◌, length}
use mathlib.Core.List.{List, Memᴰ}
use Rattle.sheet.specs.Layout.{actions}
use Rattle.sheet.specs.Causes.{Accepted}
use Rattle.plan.specs.Limits.{most_steps}

-- each entry of a list is the number of an action
abbrev pub EntriesKnown : List ℕ → List ℕ → Type 0
EntriesKnown w l = (a : ℕ) → Memᴰ a l → a < actions w

-- its sheet is accepted, it has no more steps than the limit, and each entry is the number of an action
pub record ReadableWithin (limit : ℕ) (w l : List ℕ) : Type 0 where
  pub accepted : Accepted w
  pub few : length l ≤ limit
  pub known : EntriesKnown w l

abbrev pub Readable : List ℕ → List ℕ → Type 0
Readable w l = ReadableWithin most_steps w l
