-- Whether a sheet can say a task: within every limit and rule of document 01, "a variable twice in one group" among
-- them. Tested of the task, before anything is a word. Assumes nothing.
use Rattle.std.specs.Prelude.{ℕ, Bool, true, false, not, ◌&&◌, ◌||◌, List, [], ◌∷◌, length, get_or, ltb, leb, eqb}
use Rattle.sas.specs.Task.{Fact, Assignment, State, Effect, Action, Task}
use Rattle.sas.specs.Plan.{written}
use Rattle.sheet.specs.Limits.{limits}
use Rattle.sheet.specs.Layout.{first_edition}
use Rattle.sheet.specs.Between.Encode.{encode}
use Rattle.meaning.specs.Between.Order.{insert, ordered}

-- a fact of a variable that has a range, at a value in it
unfoldable pub known : List ℕ → Fact → Bool
known ranges f = ltb f.variable (length ranges) && ltb f.value (get_or ranges f.variable 0)

-- whether a group has a fact of this variable
unfoldable pub has : ℕ → Assignment → Bool
has v [] = false
has v (f ∷ q) = eqb v f.variable || has v q

-- facts that are known, each of a variable that neither the group q nor a fact before it has
unfoldable pub fit_in : List ℕ → Assignment → Assignment → Bool
fit_in ranges q [] = true
fit_in ranges q (f ∷ fs) = known ranges f && (not (has f.variable q) && fit_in ranges (insert f q) fs)

abbrev pub group_fits : List ℕ → Assignment → Bool
group_fits ranges fs = fit_in ranges [] fs

-- a range of 1 to 256 values, the starting value in it
unfoldable pub variables_fit : List ℕ → State → Bool
variables_fit [] s = true
variables_fit (r ∷ rs) [] = false
variables_fit (r ∷ rs) (v ∷ s) = leb r limits.values && (ltb v r && variables_fit rs s)

-- effects none of which has a condition
unfoldable pub no_condition : List Effect → Bool
no_condition [] = true
no_condition (e ∷ es) = elim e.condition [ [] ↦ no_condition es | f ∷ q ↦ false ]

unfoldable pub action_fits : List ℕ → Action → Bool
action_fits ranges a =
    no_condition a.effects
    && (group_fits ranges a.precondition && (group_fits ranges (written a) && leb a.cost limits.cost))

unfoldable pub actions_fit : List ℕ → List Action → Bool
actions_fit ranges [] = true
actions_fit ranges (a ∷ p) = action_fits ranges a && actions_fit ranges p

-- 1 to 64 variables, at most 1,024 actions, and a sheet of at most 8,192 words
unfoldable pub writable : Task → Bool
writable T =
    leb 1 (length T.domains)
    && (leb (length T.domains) limits.variables
    && (leb (length T.actions) limits.actions
    && (variables_fit T.domains T.initial
    && (group_fits T.domains T.goal
    && (actions_fit T.domains T.actions
    && leb (length (encode first_edition (ordered T))) limits.words)))))
