-- What a list of checks answers, by whether its first check fires, and for a list that another begins. Assumes nothing.
use Rattle.std.specs.Prelude.{None, Some}
use Prim.Native.Nat.{ℕ}
use mathlib.Core.Path.{◌≡◌, refl, sym, ◌∙◌}
use mathlib.Core.Option.{Option, none, some, some-ne-none}
use mathlib.Core.List.{List, [], ◌∷◌, ◌++◌}
use Rattle.refusal.specs.Place.{Place}
use Rattle.refusal.specs.Refusal.{Told}
use Rattle.refusal.specs.Check.{Check, answer}

-- what is told is its number and its place
pub told_parts : (t : Told) (n : ℕ) → n ≡ t.number → ◌≡◌ {A = Told} (record { number = n; place = t.place }) t
told_parts t n e = rw e

pub answer_fires : (c : Check) (cs : List Check) (k : ℕ) → c.fires ≡ Some k → answer (c ∷ cs) ≡ some (record { number = c.number; place = k })
unfolding answer
answer_fires c cs k e = rw e

pub answer_passes : (c : Check) (cs : List Check) → c.fires ≡ None → answer (c ∷ cs) ≡ answer cs
unfolding answer
answer_passes c cs e = rw e

pub answer_nothing : answer [] ≡ none
unfolding answer
answer_nothing = refl

-- where no check answers, the first does not fire
pub none_fires : (c : Check) (cs : List Check) → answer (c ∷ cs) ≡ none → (c.fires ≡ None) × (answer cs ≡ none)
none_fires c cs h = by_case c.fires refl
  where
    by_case : (p : Place) → c.fires ≡ p → (c.fires ≡ None) × (answer cs ≡ none)
    by_case None e = (e, sym (answer_passes c cs e) ∙ h)
    by_case (Some k) e = absurd (some-ne-none _ (sym (answer_fires c cs k e) ∙ h))

-- a list of checks that another begins: where the first list answers, so does the whole; where it does not, the second does
pub answer_first : (cs ds : List Check) {t : Told} → answer cs ≡ some t → answer (cs ++ ds) ≡ some t
answer_first [] ds h = absurd (some-ne-none _ (sym h ∙ answer_nothing))
answer_first (c ∷ cs) ds {t} h = by_case (λ e. answer_first cs ds e) c.fires refl
  where
    by_case : (answer cs ≡ some t → answer (cs ++ ds) ≡ some t) → (p : Place) → c.fires ≡ p → answer (c ∷ (cs ++ ds)) ≡ some t
    by_case below None e = answer_passes c (cs ++ ds) e ∙ below (sym (answer_passes c cs e) ∙ h)
    by_case below (Some k) e = answer_fires c (cs ++ ds) k e ∙ sym (answer_fires c cs k e) ∙ h

pub answer_second : (cs ds : List Check) → answer cs ≡ none → answer (cs ++ ds) ≡ answer ds
answer_second [] ds h = refl
answer_second (c ∷ cs) ds h = let (passes, rest) = none_fires c cs h in answer_passes c (cs ++ ds) passes ∙ answer_second cs ds rest

-- where two lists of checks joined answer nothing, the first answers nothing
pub first_none : (cs ds : List Check) (t : Option Told) → answer (cs ++ ds) ≡ none → answer cs ≡ t → answer cs ≡ none
first_none cs ds none h e = e
first_none cs ds (some t) h e = absurd (some-ne-none _ (sym (answer_first cs ds e) ∙ h))
