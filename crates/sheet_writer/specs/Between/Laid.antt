-- Parts of a sheet among words, and how far they reach. Assumes nothing.
use Rattle.std.specs.Prelude.{ℕ, ◌+◌, ◌*◌}
use mathlib.Core.List.{List, flatten}
use Rattle.std.proofs.lemmas.List.Edits.{sets}
use Rattle.sheet.specs.Limits.{limits}
use Rattle.sheet.specs.Layout.{header}
use Rattle.sheet.specs.Between.Encode.{pairs_of}

-- where the parts of a sheet with n actions begin
abbrev pub first_word : ℕ → ℕ
first_word n = header + 2 * (3 + n)

-- the most words of an action's part: its cost, its number of precondition facts, and two groups
abbrev pub part_most : ℕ
part_most = 2 + 2 * limits.variables

-- a word past all parts, however long they are
abbrev pub past : ℕ
past = first_word limits.actions + (3 * limits.variables + part_most * (limits.actions + 1))

-- parts laid over words, end to end from word `at` on, and their pairs, from pair k on
unfoldable pub laid : ℕ → ℕ → List (List ℕ) → List ℕ → List ℕ
laid k at ps w = sets (sets w (header + 2 * k) (pairs_of at ps)) at (flatten ps)
