-- Words for the unflagged steps of a plan, with a bit for each fact that a step may write: one where the fact is wanted
-- behind the step, or where neither a later step nor the goal needs it. Not to be believed: proofs/BitTheorem ties them
-- to the cuts `wanted_held` and `useful`. Assumes nothing.
use Rattle.std.specs.Prelude.{ℕ, ◌+◌, ◌/◌, ◌%◌, ◌<◌, ◌≡◌, Bool, true, false, not, ◌&&◌, ◌||◌, List, [], ◌∷◌, map, length, get_or, take, drop, replicate, eqb}
use Rattle.sas.specs.Task.{Assignment, State}
use Rattle.sas.specs.Plan.{holds, written, needed}
use Rattle.reduction.specs.Reduction.{Reduction}
use Rattle.mask.specs.Mask.{word_bits, binary}
use Rattle.sheet.specs.Decode.{goal, action}
use Rattle.sheet.specs.Between.Encode.{fact_word}
use Rattle.plan.specs.Limits.{most_steps}
use Rattle.fact_bits.specs.declared.bits.Behind.{Behind}
use Rattle.fact_table.specs.Between.Tables.{most_facts, stamped, has_fact, wanted_before, goal_table}

-- which facts of an assignment the table t has
abbrev pub flagged : List Bool → Assignment → List Bool
flagged t q = map (λ f. has_fact t (fact_word f)) q

-- the bits of an assignment's facts, the first the lowest, as far as a word has bits
unfoldable pub packed : List Bool → Assignment → ℕ
packed t q = binary (take word_bits (flagged t q))

-- the table of what is wanted before the steps l, of which `flags` has those that are kept in any case
unfoldable pub table_before : List ℕ → List ℕ → Reduction → List Bool
table_before w [] flags = goal_table w
table_before w (a ∷ l) flags = wanted_before (table_before w l (drop 1 flags)) (action w a) (get_or flags 0 false)

-- the table of what no step of l and not the goal needs
unfoldable pub unneeded_behind : List ℕ → List ℕ → List Bool
unneeded_behind w [] = stamped (replicate most_facts true) (goal w) false
unneeded_behind w (a ∷ l) = stamped (unneeded_behind w l) (needed (action w a)) false

-- the bits of what the step at index i may write, by either table behind it
unfoldable pub step_bits : List ℕ → List ℕ → Reduction → ℕ → ℕ
step_bits w l flags i = packed (table_before w (drop (i + 1) l) (drop (i + 1) flags)) (written (action w (get_or l i 0)))

unfoldable pub useless_bits : List ℕ → List ℕ → ℕ → ℕ
useless_bits w l i = packed (unneeded_behind w (drop (i + 1) l)) (written (action w (get_or l i 0)))

-- a step that nothing is told of
abbrev pub no_bits : Behind
no_bits = record { wanted = 0; useless = 0 }

-- both words of each unflagged step of the list l that is within the limit
pub record ToldBehind (w l : List ℕ) (flags : Reduction) (behind : List Behind) : Type 0 where
  pub sized : length behind ≡ most_steps
  pub wants : (i : ℕ) → i < length l → i < most_steps → get_or flags i false ≡ false
      → (get_or behind i no_bits).wanted ≡ step_bits w l flags i
  pub idles : (i : ℕ) → i < length l → i < most_steps → get_or flags i false ≡ false
      → (get_or behind i no_bits).useless ≡ useless_bits w l i

-- each fact of an assignment whose bit is one holds in a state; the first has the lowest bit
unfoldable pub bits_hold : State → ℕ → Assignment → Bool
bits_hold s x [] = true
bits_hold s x (f ∷ q) = not (eqb (x % 2) 1 && not (holds s f)) && bits_hold s (x / 2) q

-- each fact of an assignment has its bit or holds in a state; a fact past the last bit has none
unfoldable pub idle_or_held : State → ℕ → Assignment → Bool
idle_or_held s x [] = true
idle_or_held s x (f ∷ q) = (eqb (x % 2) 1 || holds s f) && idle_or_held s (x / 2) q
