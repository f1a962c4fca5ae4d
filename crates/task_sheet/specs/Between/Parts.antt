-- The parts of a task's sheet, and what the functions that write them hand to each other. Assumes nothing.
use Rattle.std.specs.Prelude.{ℕ, Option, ◌+◌, ◌≤◌, ◌≡◌, Bool, true, ◌&&◌, cond, length, Some, None}
use mathlib.Core.List.{List, map, flatten}
use Rattle.std.proofs.lemmas.List.Edits.{sets}
use Rattle.sas.specs.Task.{Assignment, Action, Task}
use Rattle.sheet.specs.Limits.{limits}
use Rattle.sheet.specs.Layout.{first_edition}
use Rattle.sheet.specs.Between.Encode.{fact_words, action_part}
use Rattle.meaning.specs.Between.Order.{in_order, ordered_action}
use Rattle.meaning.specs.Between.Writable.{group_fits, actions_fit}
use Rattle.sheet_writer.specs.Between.Laid.{laid}

-- the word where something ends, if it fits
abbrev pub ends_if : Bool → ℕ → Option ℕ
ends_if fit end = cond fit (Some end) None

-- a part written from word `at` on, if it fits
pub record Writes (fit : Bool) (part : List ℕ) (most : ℕ) (before after : List ℕ) (at : ℕ) (r : Option ℕ) : Type 0 where
  pub end : r ≡ ends_if fit (at + length part)
  pub few : fit ≡ true → length part ≤ most
  pub written : fit ≡ true → after ≡ sets before at part

-- facts put in order, and written
abbrev pub WritesGroup : List ℕ → Assignment → List ℕ → List ℕ → ℕ → Option ℕ → Type 0
WritesGroup ranges fs before after at r =
    Writes (group_fits ranges fs) (fact_words (in_order fs)) limits.variables before after at r

-- the parts of actions, each group in order
abbrev pub action_parts : List Action → List (List ℕ)
action_parts p = map (action_part first_edition) (map ordered_action p)

-- the goal and the actions fit
abbrev pub facts_fit : Task → Bool
facts_fit T = group_fits T.domains T.goal && actions_fit T.domains T.actions

-- parts and their pairs written, if they fit
pub record Lays (fit : Bool) (k : ℕ) (ps : List (List ℕ)) (before after : List ℕ) (at : ℕ) (r : Option ℕ) : Type 0 where
  pub end : r ≡ ends_if fit (at + length (flatten ps))
  pub written : fit ≡ true → after ≡ laid k at ps before
