-- When some element of a list passes a test: just where a member does. By list induction, with what a Boolean disjunction says. Assumes nothing.
use mathlib.Core.Path.{◌≡◌, refl, sym, ◌∙◌}
use mathlib.Core.Logic.{◌⊎◌, inl, inr, ⊎_elim}
use mathlib.Core.Bool.{Bool, true, false, true≢false, false≢true, ◌||◌}
use mathlib.Core.List.{List, [], ◌∷◌, Memᴰ}
use Rattle.sas.specs.Conflict.{some_of}

pub or_cases : (a b : Bool) → (a || b) ≡ true → (a ≡ true) ⊎ (b ≡ true)
or_cases true b h = inl refl
or_cases false b h = inr h

or_second : (a b : Bool) → b ≡ true → (a || b) ≡ true
or_second true b h = refl
or_second false b h = h

pub or_neither : (a b : Bool) → (a || b) ≡ false → (a ≡ false) × (b ≡ false)
or_neither true b h = absurd (true≢false h)
or_neither false b h = (refl, h)

-- an element that passes the test is found
pub found : {A : Type 0} {x : A} {q : List A} (test : A → Bool) → Memᴰ x q → test x ≡ true → some_of test q ≡ true
unfolding some_of
found test (Memᴰ.head {xs = q} same) h = rw (← same, h)
found test (Memᴰ.tail {x = g} {xs = q} later) h = or_second (test g) (some_of test q) (found test later h)

-- and what is found passes it
pub found_passes : {A : Type 0} (test : A → Bool) (q : List A) → some_of test q ≡ true → (x : A) × Memᴰ x q × (test x ≡ true)
unfolding some_of
found_passes test [] h = absurd (false≢true h)
found_passes test (g ∷ q) h =
    ⊎_elim
    (λ here. (g, Memᴰ.head refl, here))
    (λ later. let (f, m, passes) = found_passes test q later in (f, Memᴰ.tail m, passes))
    (or_cases (test g) (some_of test q) h)

-- where none is found, no member passes
pub found_none : {A : Type 0} {x : A} {q : List A} (test : A → Bool) → some_of test q ≡ false → Memᴰ x q → test x ≡ false
found_none {x = x} test none m = by_case (test x) refl
  where
    by_case : (b : Bool) → test x ≡ b → b ≡ false
    by_case true e = absurd (true≢false (sym (found test m e) ∙ none))
    by_case false e = refl

-- and where no member passes, none is found
pub none_found : {A : Type 0} (test : A → Bool) (q : List A) → ((x : A) → Memᴰ x q → test x ≡ false) → some_of test q ≡ false
none_found test q none = by_case (some_of test q) refl
  where
    by_case : (b : Bool) → some_of test q ≡ b → b ≡ false
    by_case true e = let (x, m, passes) = found_passes test q e in absurd (true≢false (sym passes ∙ none x m))
    by_case false e = refl
