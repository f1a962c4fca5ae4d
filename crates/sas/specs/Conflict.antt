-- Effects that would give one variable two values at once (document 02, C-15, refusal 16). Assumes nothing.
use Rattle.std.specs.Prelude.{Bool, false, not, ◌&&◌, ◌||◌, List, [], ◌∷◌, ◌++◌, eqb}
use Rattle.sas.specs.Task.{Fact, Assignment, Effect, Action}

-- some element of a list passes a test
unfoldable pub some_of : {A : Type 0} → (A → Bool) → List A → Bool
some_of test [] = false
some_of test (x ∷ xs) = test x || some_of test xs

-- two facts give one variable different values
unfoldable pub differ : Fact → Fact → Bool
differ f g = eqb f.variable g.variable && not (eqb f.value g.value)

-- facts contradict each other: they name some variable at two values
unfoldable pub contradictory : Assignment → Bool
contradictory q = some_of (λ f. some_of (differ f) q) q

-- two effects of an action conflict: they give one variable different values, and the precondition with both conditions
-- names no variable at two values, so that both may act in one state
unfoldable pub conflict : Assignment → Effect → Effect → Bool
conflict q d e =
    differ d.fact e.fact && not (contradictory (q ++ (d.condition ++ e.condition)))

-- some two effects of an action conflict
unfoldable pub conflicting : Action → Bool
conflicting a = some_of (λ d. some_of (conflict a.precondition d) a.effects) a.effects
