-- What is struck goes over from the list to the tally, within the tally's bounds: so of two trials on one list the one that strikes more leaves the lower
-- list. Assumes nothing.
use Prim.Native.Nat.{ℕ, zero, suc, ◌+◌, ◌<◌}
use native.Mathlib.Omega.{arith}
use mathlib.Core.Path.{◌≡◌, refl, sym, ◌∙◌}
use mathlib.Core.Bool.{Bool, true, false, false≢true}
use mathlib.Core.List.{List, [], ◌∷◌}
use lib.ListN.{length, get_or, set, length-map}
use lib.Dec.{ltb, eqb}
use borrow.Author.Tests.{ltb-true, ltb-false, lt-ltb, le-ltb, eqb-true, eqb-false, eq-eqb, ne_eqb}
use Rattle.sas.specs.Plan.{cost}
use Rattle.tally.specs.declared.Tally.{Tally}
use Rattle.tally.specs.Tally.{nothing, one_more, comparison}
use Rattle.tally.proofs.TallyLaws.{counted}
use Rattle.sheet.specs.Layout.{cost_word}
use Rattle.sheet.specs.Decode.{action}
use Rattle.plan.specs.Valid.{steps}
use Rattle.reduction.specs.Reduction.{Reduction, kept}
use Rattle.reduction.specs.Between.Order.{lower}
use Rattle.reduced.specs.Between.Held.{mask}
use Rattle.std.specs.Ordering.{is_lt}
use Rattle.reduced.proofs.TalliedLaws.{left_bounded}
use Rattle.reduced.proofs.LessLaws.{less_lower, kept_mask}
use Rattle.trial.specs.Between.Walk.{Fits, Balanced}
use Rattle.plan.specs.Readable.{Readable}

-- a step that is struck takes its price with it
strike_left : (w l : List ℕ) (m : Reduction) (j : ℕ) → j < length l → get_or m j false ≡ true
    → (cost (kept (set m j false) (steps w l)) + cost_word w (get_or l j 0) ≡ cost (kept m (steps w l))) × (length (kept (set m j false) (steps w l)) + 1 ≡ length (kept m (steps w l)))
unfolding kept cost action
strike_left w [] m j h up = absurd (omega arith)
strike_left w (a ∷ l) [] j h up = absurd (false≢true up)
strike_left w (a ∷ l) (true ∷ m) zero h up = (omega arith, omega arith)
strike_left w (a ∷ l) (false ∷ m) zero h up = absurd (false≢true up)
strike_left w (a ∷ l) (true ∷ m) (suc j) h up = let rest = strike_left w l m j (omega arith) up in (omega (arith, rest.0), omega (arith, rest.1))
strike_left w (a ∷ l) (false ∷ m) (suc j) h up = strike_left w l m j (omega arith) up

module _ (w l : List ℕ) where
  -- it goes over to the tally
  pub strike_balanced : (m : Reduction) (j : ℕ) (t : Tally) → j < length l → get_or m j false ≡ true → Fits w l m t
      → Balanced w l m (set m j false) t (one_more t (cost_word w (get_or l j 0)))
  strike_balanced m j t here up fits =
      let (price, step) = strike_left w l m j here up in
      let plain : one_more t (cost_word w (get_or l j 0)) ≡ record { cost = t.cost + cost_word w (get_or l j 0); steps = t.steps + 1 } = counted t _ (omega (arith, fits.by_steps)) (omega (arith, fits.by_cost)) in
      rw plain (record { by_cost = omega arith; by_steps = omega arith })

  -- nothing goes over where nothing is struck
  pub same_balanced : (m : Reduction) (t : Tally) → Balanced w l m m t t
  same_balanced m t = record { by_cost = refl; by_steps = refl }

  pub balanced_then : (m m' m'' : Reduction) (t t' t'' : Tally) → Balanced w l m m' t t' → Balanced w l m' m'' t' t'' → Balanced w l m m'' t t''
  balanced_then m m' m'' t t' t'' first second = record { by_cost = second.by_cost ∙ first.by_cost; by_steps = second.by_steps ∙ first.by_steps }

  -- and the rest fits as well
  pub balanced_fits : (m m' : Reduction) (t t' : Tally) → Balanced w l m m' t t' → Fits w l m t → Fits w l m' t'
  balanced_fits m m' t t' over fits = record { by_cost = omega (arith, over.by_cost, fits.by_cost); by_steps = omega (arith, over.by_steps, fits.by_steps) }

  -- flags past the end of the list count for nothing
  left_mask : (m : Reduction) → kept (mask l m) (steps w l) ≡ kept m (steps w l)
  left_mask m = rw (← length-map l (action w)) (kept_mask m (steps w l))

  pub balanced_mask : (m n : Reduction) (t : Tally) → Balanced w l m n nothing t → Balanced w l (mask l m) (mask l n) nothing t
  balanced_mask m n t over = record { by_cost = rw (left_mask m, left_mask n) over.by_cost; by_steps = rw (left_mask m, left_mask n) over.by_steps }

  -- of a list that can be read all steps fit
  pub readable_fits : (m : Reduction) → Readable w l → length (mask l m) ≡ length l → Fits w l m nothing
  readable_fits m readable as_long =
      let (price, number) = rw (left_mask m) at (left_bounded w l (mask l m) readable as_long) in
      record { by_cost = omega (arith, price); by_steps = omega (arith, number) }

-- of two parts of one sum the one is less where the other is more
less_rest : (a b x y : ℕ) → a + x ≡ b + y → ltb a b ≡ ltb y x
less_rest a b x y same = by_case (ltb a b) refl
  where
    by_case : (p : Bool) → ltb a b ≡ p → ltb a b ≡ ltb y x
    by_case true e = e ∙ sym (lt-ltb y x (omega (arith, ltb-true a b e)))
    by_case false e = e ∙ sym (le-ltb y x (omega (arith, ltb-false a b e)))

same_rest : (a b x y : ℕ) → a + x ≡ b + y → eqb a b ≡ eqb y x
same_rest a b x y same = by_case (eqb a b) refl
  where
    by_case : (p : Bool) → eqb a b ≡ p → eqb a b ≡ eqb y x
    by_case true e = e ∙ sym (eq-eqb y x (omega (arith, eqb-true a b e)))
    by_case false e = e ∙ sym (ne_eqb y x (λ like. eqb-false a b e (omega arith)))

-- of two trials on one list the one that strikes more leaves the lower list
pub more_struck : (w l : List ℕ) (m k n : Reduction) (t u : Tally) → Balanced w l m k nothing t → Balanced w l m n nothing u
    → is_lt (comparison u t) ≡ lower (kept k (steps w l)) (kept n (steps w l))
unfolding lower
more_struck w l m k n t u to_k to_n =
    let price : u.cost + cost (kept n (steps w l)) ≡ t.cost + cost (kept k (steps w l)) = to_n.by_cost ∙ sym to_k.by_cost in
    let number : u.steps + length (kept n (steps w l)) ≡ t.steps + length (kept k (steps w l)) = to_n.by_steps ∙ sym to_k.by_steps in
    less_lower u.cost u.steps t.cost t.steps
    ∙ rw (less_rest u.cost t.cost _ _ price, same_rest u.cost t.cost _ _ price, less_rest u.steps t.steps _ _ number)
