-- The words of the job sheet that a SAS+ task is written as (document 01, "The job sheet"), and which tasks can be.
-- Assumes nothing.
use Rattle.std.specs.Prelude.{ℕ, ◌+◌, ◌*◌, ◌≤◌, ◌<◌, ◌≡◌, ◌⊎◌, cond, length, get_or, eqb}
use mathlib.Core.List.{List, [], ◌∷◌, ◌++◌, map, flatten, Memᴰ}
use Rattle.sas.specs.Task.{Fact, Assignment, Effect, Action, Task}
use Rattle.sas.specs.Plan.{written}
use Rattle.sas.specs.Between.WellFormed.{Plain, WellFormed}
use Rattle.sheet.specs.Limits.{limits}
use Rattle.sheet.specs.Layout.{header, first_edition, second_edition}

-- a fact is one word, variable × 256 + value
abbrev pub fact_word : Fact → ℕ
fact_word f = f.variable * limits.values + f.value

abbrev pub fact_words : Assignment → List ℕ
fact_words q = map fact_word q

-- an effect in edition 2: its number of condition facts, those facts, and its own fact
unfoldable pub effect_part : Effect → List ℕ
effect_part e = length e.condition ∷ (fact_words e.condition ++ (fact_word e.fact ∷ []))

-- effects in an edition: in the first a fact each
unfoldable pub effects_part : ℕ → Action → List ℕ
effects_part edition a =
    cond (eqb edition second_edition) (flatten (map effect_part a.effects)) (fact_words (written a))

-- the part of an action: its cost, its number of precondition facts, those facts, then its effects. Of what is written
-- here this is all that editions say otherwise, but for their number
unfoldable pub action_part : ℕ → Action → List ℕ
action_part edition a =
    a.cost ∷ length a.precondition ∷ (fact_words a.precondition ++ effects_part edition a)

-- the parts in the order of their pairs: the domain sizes, the starting values, the goal facts, then the actions
unfoldable pub parts : ℕ → Task → List (List ℕ)
parts edition T = T.domains ∷ T.initial ∷ fact_words T.goal ∷ map (action_part edition) T.actions

-- the pairs of offset and length of parts that begin at word `from`:
-- each later offset is the offset before it plus that length
unfoldable pub pairs_of : ℕ → List (List ℕ) → List ℕ
pairs_of from [] = []
pairs_of from (p ∷ ps) = from ∷ length p ∷ pairs_of (from + length p) ps

-- the first offset, past the first four words and a pair for each part
abbrev pub first_offset : List (List ℕ) → ℕ
first_offset ps = header + 2 * length ps

-- all words from word 4 on: the pairs, then the parts end to end
unfoldable pub body : List (List ℕ) → List ℕ
body ps = pairs_of (first_offset ps) ps ++ flatten ps

-- the words of these parts: the edition, V, A, and N, the number of words, before the rest
unfoldable pub sheet_of : ℕ → ℕ → ℕ → List (List ℕ) → List ℕ
sheet_of edition variables actions ps = edition ∷ variables ∷ actions ∷ (header + length (body ps)) ∷ body ps

-- in an edition: a domain for each variable, and the task's actions
unfoldable pub encode : ℕ → Task → List ℕ
encode edition T = sheet_of edition (length T.domains) (length T.actions) (parts edition T)

-- facts none of which is below the one before it, the first being `from` or above, as words
pub data Unfalling : ℕ → Assignment → Type 0 where
  nothing : {from : ℕ} → Unfalling from []
  not_below : {from : ℕ} {f : Fact} {q : Assignment} → from ≤ fact_word f → Unfalling (fact_word f) q
      → Unfalling from (f ∷ q)

-- a task that can be written in an edition: well-formed, so that each domain has at least its starting value, and within
-- the limits; in the first edition of plain actions, in the second of actions whose effects are in the order of their
-- facts
pub record Encodable (edition : ℕ) (T : Task) : Type 0 where
  pub known : (edition ≡ first_edition) ⊎ (edition ≡ second_edition)
  pub well_formed : WellFormed T
  pub plain : edition ≡ first_edition → (a : Action) → Memᴰ a T.actions → Plain T.domains a
  pub in_order : edition ≡ second_edition → (a : Action) → Memᴰ a T.actions → Unfalling 0 (written a)
  pub some_variable : 1 ≤ length T.domains
  pub variables : length T.domains ≤ limits.variables
  pub values : (v : ℕ) → v < length T.domains → get_or T.domains v 0 ≤ limits.values
  pub actions : length T.actions ≤ limits.actions
  pub costs : (a : Action) → Memᴰ a T.actions → a.cost ≤ limits.cost
  pub words : length (encode edition T) ≤ limits.words
