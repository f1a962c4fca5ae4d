-- The causes of refusal of a task (document 01, "Causes of refusal", 1 to 7, and document 02, C-15, 16). Assumes
-- nothing.
use Rattle.std.specs.Prelude.{ℕ, ◌+◌, ◌-◌, ◌≡◌, Bool, true, false, cond, not, ◌&&◌, ◌||◌, List, [], ◌∷◌, length, ltb, leb, eqb, None}
use Rattle.std.proofs.Math.Option.{none}
use Rattle.sas.specs.Conflict.{some_of, conflicting}
use Rattle.refusal.specs.Place.{Place}
use Rattle.refusal.specs.Place.{when, or_else, first_of, first}
use Rattle.refusal.specs.Check.{Check, answer}
use Rattle.sheet.specs.Limits.{limits}
use Rattle.sheet.specs.Layout.{word, edition, variables, actions, stated_length, header, pairs, pairs_end}
use Rattle.sheet.specs.Layout.{first_edition, has_conditions, effect_fact}
use Rattle.sheet.specs.Layout.{offset, size, part_end, domain, start, goal_start, goal_end, cost_word}
use Rattle.sheet.specs.Layout.{precondition_start}
use Rattle.sheet.specs.Layout.{effect_start, effect_end}
use Rattle.sheet.specs.Decode.{fact_of, effect_words, action}

-- 1: under 4 or over 8,192 words, or N differs from the length
unfoldable pub bad_length : List ℕ → Bool
bad_length w = ltb (length w) header || (ltb limits.words (length w) || not (eqb (stated_length w) (length w)))

-- 2: edition not 1
unfoldable pub bad_edition : List ℕ → Bool
bad_edition w = not (eqb (edition w) first_edition)

-- 3: V or A beyond its range
unfoldable pub bad_counts : List ℕ → Bool
bad_counts w = ltb (variables w) 1 || (ltb limits.variables (variables w) || ltb limits.actions (actions w))

-- the offset due in pair k: past all pairs for the first, past the part before for a later one
unfoldable pub due : List ℕ → ℕ → ℕ
due w k = elim (eqb k 0) [ true ↦ pairs_end w | false ↦ part_end w (k - 1) ]

-- an effect of edition 2 at word i runs past the end of its part: fewer words follow its number of condition facts than
-- that number and one
unfoldable pub runs_past : List ℕ → ℕ → ℕ → Bool
runs_past w end i = ltb (end - (i + 1)) (word w i + 1)

-- an effect of the action of pair k does; its effects stand from word i on
unfoldable pub past_part : List ℕ → ℕ → ℕ → Bool
past_part w end i = has_conditions w && some_of (runs_past w end) (effect_words w end i (end - i))

-- pair k has a length other than V, for pairs 0 and 1, or, for an action, a length under 2, p over the length − 2, or an
-- effect that runs past its part
unfoldable pub wrong_size : List ℕ → ℕ → Bool
wrong_size w k =
    (ltb k 2 && not (eqb (size w k) (variables w)))
    || (leb 3 k
    && (ltb (size w k) 2
    || (ltb (size w k - 2) (word w (offset w k + 1))
    || past_part w (part_end w k) (offset w k + 2 + word w (offset w k + 1)))))

-- pair k has another offset than due, ends past N, is last and ends before N, or has a wrong length
unfoldable pub bad_pair : List ℕ → ℕ → Bool
bad_pair w k =
    not (eqb (offset w k) (due w k))
    || (ltb (stated_length w) (part_end w k)
    || ((eqb (k + 1) (pairs w) && ltb (part_end w k) (stated_length w))
    || wrong_size w k))

-- 4: the pairs don't fit, place 0; else the first bad pair
unfoldable pub pair_place : List ℕ → Place
pair_place w = or_else (when (ltb (stated_length w) (pairs_end w)) 0) (first (bad_pair w) 0 (pairs w))

-- the domain size or the starting value of variable v is beyond its range
unfoldable pub bad_variable : List ℕ → ℕ → Bool
bad_variable w v = ltb (domain w v) 1 || (ltb limits.values (domain w v) || leb (domain w v) (start w v))

-- 5: the first such variable
unfoldable pub variable_place : List ℕ → Place
variable_place w = first (bad_variable w) 0 (variables w)

-- the fact at word i has an unknown variable or value, or, in a group of facts that begins at word `from`, a variable
-- not above that of the fact before it
unfoldable pub bad_fact : List ℕ → ℕ → ℕ → Bool
bad_fact w from i =
    leb (variables w) (fact_of (word w i)).variable
    || (leb (domain w (fact_of (word w i)).variable) (fact_of (word w i)).value
    || (ltb from i && leb (fact_of (word w i)).variable (fact_of (word w (i - 1))).variable))

-- the first bad fact of a group
unfoldable pub group_place : List ℕ → ℕ → ℕ → Place
group_place w from end = first (bad_fact w from) from end

-- the fact of the effect of edition 2 at word i has an unknown variable or value, or falls: it is below the fact of the
-- effect before, which stands before word i; the first of all effects stands at word `from`
unfoldable pub bad_effect : List ℕ → ℕ → ℕ → ℕ → Bool
bad_effect w from end i =
    let k : ℕ = effect_fact w end i in
    leb (variables w) (fact_of (word w k)).variable
    || (leb (domain w (fact_of (word w k)).variable) (fact_of (word w k)).value
    || (ltb from i && ltb (word w k) (word w (i - 1))))

-- the first bad fact of that effect: of its condition, which is a group, or its own
unfoldable pub effect_place : List ℕ → ℕ → ℕ → ℕ → Place
effect_place w from end i =
    or_else (group_place w (i + 1) (effect_fact w end i)) (when (bad_effect w from end i) (effect_fact w end i))

-- the first place that f finds at one of some numbers
unfoldable pub first_in : (ℕ → Place) → List ℕ → Place
first_in f [] = None
first_in f (i ∷ is) = or_else (f i) (first_in f is)

-- the first bad fact of effects that stand from word `from` up to word end: in edition 1 they are a group
unfoldable pub effects_place : List ℕ → ℕ → ℕ → Place
effects_place w from end =
    cond (has_conditions w)
    (first_in (effect_place w from end) (effect_words w end from (end - from)))
    (group_place w from end)

-- the first bad fact of action a
unfoldable pub action_place : List ℕ → ℕ → Place
action_place w a =
    or_else
    (group_place w (precondition_start w a) (effect_start w a))
    (effects_place w (effect_start w a) (effect_end w a))

-- 6: the word of the first bad fact, in the order of the words
unfoldable pub fact_place : List ℕ → Place
fact_place w = or_else (group_place w (goal_start w) (goal_end w)) (first_of (action_place w) 0 (actions w))

-- 7: the first action whose price is above 1,000,000
unfoldable pub cost_place : List ℕ → Place
cost_place w = first (λ a. ltb limits.cost (cost_word w a)) 0 (actions w)

-- 16: the first action in which two effects give one variable different values, and the preconditions with both
-- conditions name no variable at two values
unfoldable pub conflict_place : List ℕ → Place
conflict_place w = first (λ a. conflicting (action w a)) 0 (actions w)

-- the sheet's checks, in the order in which they run: 16 comes after 7
unfoldable pub sheet_checks : List ℕ → List Check
sheet_checks w =
    record { number = 1; fires = when (bad_length w) 0 }
    ∷ record { number = 2; fires = when (bad_edition w) 0 }
    ∷ record { number = 3; fires = when (bad_counts w) 0 }
    ∷ record { number = 4; fires = pair_place w }
    ∷ record { number = 5; fires = variable_place w }
    ∷ record { number = 6; fires = fact_place w }
    ∷ record { number = 7; fires = cost_place w }
    ∷ record { number = 16; fires = conflict_place w }
    ∷ []

-- a sheet is accepted when its words meet no cause of refusal that the sheet check has
abbrev pub Accepted : List ℕ → Type 0
Accepted w = answer (sheet_checks w) ≡ none
