-- The first place at which a test holds. Assumes nothing.
use Rattle.std.specs.Prelude.{ℕ, zero, suc, ◌+◌, ◌-◌, Bool, true, false, Option, None, Some}

-- where a check fires, if it does
abbrev pub Place : Type 0
Place = Option ℕ

-- the place k where a test holds
abbrev pub when : Bool → ℕ → Place
when true k = Some k
when false k = None

-- the first place if there is one, else the second
abbrev pub or_else : Place → Place → Place
or_else None q = q
or_else (Some k) q = Some k

-- the first place that f finds at one of the n numbers from i on
unfoldable pub first_of_next : (ℕ → Place) → ℕ → ℕ → Place
first_of_next f i zero = None
first_of_next f i (suc n) = elim (f i) [ None ↦ first_of_next f (i + 1) n | Some k ↦ Some k ]

-- the first place that f finds at one of the numbers from i up to, not including, end
unfoldable pub first_of : (ℕ → Place) → ℕ → ℕ → Place
first_of f i end = first_of_next f i (end - i)

-- the first of the numbers from i up to, not including, end at which a test holds
unfoldable pub first : (ℕ → Bool) → ℕ → ℕ → Place
first test i end = first_of (λ k. when (test k) k) i end
