-- The tests that the search of a minimal reduction is told: where a step may be struck and where it may be kept. Not to
-- be believed: proofs/turns/CutLaws, ChangeLaws and UseLaws show that they are sound. Assumes nothing.
use Rattle.std.specs.Prelude.{ℕ, ◌+◌, Bool, false, not, ◌&&◌, ◌||◌, List, [], ◌∷◌, get_or, drop, eqb}
use Rattle.sas.specs.Task.{Fact, Assignment, Action}
use Rattle.sas.specs.Plan.{holds, acting, written, needed}
use Rattle.reduction.specs.Reduction.{Reduction, meets}
use Rattle.reduction.specs.Landmark.{step}
use Rattle.reduction.specs.Between.Wanted.{has, wanted}
use Rattle.sas.specs.Conflict.{some_of}
use Rattle.reduction.specs.Between.Search.{Visit, Tests, bound, both}

-- A cut: a step is struck only where each fact that it may write and that is wanted behind it holds already.
unfoldable pub wanted_held : Assignment → List Action → Reduction → Visit → Bool
wanted_held goal p flags v =
    not (some_of
    (λ f. wanted goal (drop (v.index + 1) p) (drop (v.index + 1) flags) f && not (holds v.state f))
    (written (step p v.index)))

-- a step of p or the goal needs a fact
unfoldable pub needed_in : Assignment → List Action → Fact → Bool
needed_in goal [] f = has goal f
needed_in goal (a ∷ p) f = has (needed a) f || needed_in goal p f

-- A cut: a step is kept only where it may write a fact that a later step or the goal needs and that does not hold yet.
unfoldable pub useful : Assignment → List Action → Visit → Bool
useful goal p v =
    some_of (λ f. needed_in goal (drop (v.index + 1) p) f && not (holds v.state f)) (written (step p v.index))

-- a condition of an action's effects names a variable
unfoldable pub reads : Action → ℕ → Bool
reads a v = some_of (λ e. some_of (λ f. eqb f.variable v) e.condition) a.effects

-- one of the steps p does
unfoldable pub read_in : List Action → ℕ → Bool
read_in [] v = false
read_in (a ∷ p) v = reads a v || read_in p v

-- a fact matters before the steps p: one of them or the goal needs it, or a condition among them reads its variable
unfoldable pub matters : Assignment → List Action → Fact → Bool
matters goal p f = needed_in goal p f || read_in p f.variable

-- A cut for steps of any kind: a step is kept only where an effect acts whose fact matters behind it and does not hold
-- yet. Of plain actions it says no more than `useful`.
unfoldable pub changing : Assignment → List Action → Visit → Bool
changing goal p v =
    some_of
    (λ f. matters goal (drop (v.index + 1) p) f && not (holds v.state f))
    (acting v.state (step p v.index).effects)

-- a cut that is asked at unflagged steps alone
abbrev pub unless_flagged : Reduction → (Visit → Bool) → Visit → Bool
unless_flagged flags x v = get_or flags v.index false || x v

-- what the search is told: the flags and the goal, the wanted facts where it strikes, and where it keeps the bound and
-- the use
abbrev pub tests : Assignment → List Action → Reduction → Tests
tests goal p flags =
    record {
      flags = flags;
      ends = meets goal;
      may_strike = wanted_held goal p flags;
      may_keep = unless_flagged flags (both (bound p) (useful goal p));
    }
