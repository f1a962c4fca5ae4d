-- The tally of a reduction, step by step, and as the plain sum and number of the kept steps, which so stay within its bounds. Assumes nothing.
use Prim.Native.Nat.{ℕ, zero, suc, ◌+◌, ◌≤◌, ◌<◌}
use native.Mathlib.Numerals.{add-one}
use native.Mathlib.Omega.{arith}
use mathlib.Core.Path.{◌≡◌, refl, sym, ◌∙◌, ap}
use mathlib.Core.Bool.{Bool, true, false, cond, ◌&&◌, false≢true, true≢false}
use mathlib.Core.List.{List, [], ◌∷◌, map}
use lib.ListN.{length, get_or, drop, length-map, drop_of_length-le}
use lib.Dec.{ltb, leb}
use borrow.Author.Tests.{leb-true}
use Rattle.sas.specs.Plan.{cost}
use Rattle.tally.specs.declared.Tally.{Tally}
use Rattle.tally.specs.Tally.{bounds, nothing, one_more, after}
use Rattle.sheet.specs.Layout.{cost_word}
use Rattle.sheet.specs.Decode.{action}
use Rattle.plan.specs.Valid.{steps}
use Rattle.plan.proofs.PlanLaws.{walked_tally}
use Rattle.reduction.specs.Reduction.{Reduction, kept}
use Rattle.reduction.proofs.ReductionLaws.{kept_none, kept_lodged, left_length}
use Rattle.reduced.specs.Between.Tallied.{tallied}
use Rattle.plan.specs.Readable.{Readable}

kept_here : (m : Reduction) (l : List ℕ) (i : ℕ) → i < length l → get_or m i false ≡ true → kept (drop i m) (drop i l) ≡ get_or l i 0 ∷ kept (drop (suc i) m) (drop (suc i) l)
unfolding kept
kept_here m [] i h up = absurd (omega arith)
kept_here [] (a ∷ l) i h up = absurd (false≢true up)
kept_here (true ∷ m) (a ∷ l) zero h up = refl
kept_here (false ∷ m) (a ∷ l) zero h up = absurd (false≢true up)
kept_here (b ∷ m) (a ∷ l) (suc i) h up = kept_here m l i (omega arith) up

kept_skip : (m : Reduction) (l : List ℕ) (i : ℕ) → i < length l → get_or m i false ≡ false → kept (drop i m) (drop i l) ≡ kept (drop (suc i) m) (drop (suc i) l)
unfolding kept
kept_skip m [] i h down = absurd (omega arith)
kept_skip [] (a ∷ l) zero h down = sym (kept_none l)
kept_skip [] (a ∷ l) (suc i) h down = kept_none (drop i l) ∙ sym (kept_none (drop (suc i) l))
kept_skip (true ∷ m) (a ∷ l) zero h down = absurd (true≢false down)
kept_skip (false ∷ m) (a ∷ l) zero h down = refl
kept_skip (b ∷ m) (a ∷ l) (suc i) h down = kept_skip m l i (omega arith) down

-- the tally so far, with the kept steps from index i on still to come
unfoldable pub tallied_from : List ℕ → List ℕ → Reduction → ℕ → Tally → Tally
tallied_from w l m i t = after t (map (cost_word w) (kept (drop i m) (drop i l)))

pub tallied_start : (w l : List ℕ) (m : Reduction) (t : Tally) → t ≡ nothing → tallied_from w l m 0 t ≡ tallied w l m
unfolding tallied_from tallied
tallied_start w l m t e = rw e

pub tallied_kept : (w l : List ℕ) (m : Reduction) (i : ℕ) (t : Tally) (up : Bool) (c : ℕ) → i < length l → up ≡ get_or m i false → up ≡ true → c ≡ cost_word w (get_or l i 0)
    → tallied_from w l m (i + 1) (one_more t c) ≡ tallied_from w l m i t
unfolding tallied_from after
tallied_kept w l m i t up c h read is price = rw (kept_here m l i h (sym read ∙ is), price, add-one)

pub tallied_skip : (w l : List ℕ) (m : Reduction) (i : ℕ) (t : Tally) (up : Bool) → i < length l → up ≡ get_or m i false → up ≡ false → tallied_from w l m (i + 1) t ≡ tallied_from w l m i t
unfolding tallied_from
tallied_skip w l m i t up h read is = rw (kept_skip m l i h (sym read ∙ is), add-one)

pub tallied_over : (w l : List ℕ) (m : Reduction) (i : ℕ) (t : Tally) → length l ≤ i → tallied_from w l m i t ≡ t
unfolding tallied_from after kept
tallied_over w l m i t h = rw (drop_of_length-le l h)

-- a reduction of the actions is the actions of the reduction
pub kept_steps : (w l : List ℕ) (m : Reduction) → kept m (steps w l) ≡ steps w (kept m l)
unfolding kept
kept_steps w [] m = refl
kept_steps w (a ∷ l) [] = refl
kept_steps w (a ∷ l) (true ∷ m) = ap (λ p. action w a ∷ p) (kept_steps w l m)
kept_steps w (a ∷ l) (false ∷ m) = kept_steps w l m

-- the tally is the price and the number of the kept steps
pub plainly : (w l : List ℕ) (m : Reduction) → Readable w l → length m ≡ length l → tallied w l m ≡ record { cost = cost (kept m (steps w l)); steps = length (kept m l) }
unfolding tallied
plainly w l m readable fits =
    rw (kept_steps w l m) (walked_tally w (kept m l) readable.accepted (λ a left. readable.known a (kept_lodged m l left)) (omega (arith, left_length m l fits, readable.few)))

one_bounded : (t : Tally) (c : ℕ) → t.cost ≤ bounds.cost → (one_more t c).cost ≤ bounds.cost
unfolding one_more
one_bounded t c h = by_case (ltb t.steps bounds.steps) (leb (t.cost + c) bounds.cost) refl
  where
    by_case : (p q : Bool) → leb (t.cost + c) bounds.cost ≡ q → (cond (p && q) (record { cost = t.cost + c; steps = t.steps + 1 }) t).cost ≤ bounds.cost
    by_case true true e = leb-true (t.cost + c) bounds.cost e
    by_case true false e = h
    by_case false q e = h

-- no tally passes its bound of cost
after_bounded : (t : Tally) (costs : List ℕ) → t.cost ≤ bounds.cost → (after t costs).cost ≤ bounds.cost
unfolding after
after_bounded t [] h = h
after_bounded t (c ∷ costs) h = after_bounded (one_more t c) costs (one_bounded t c h)

-- so the kept steps of a list that can be read stay within both
pub left_bounded : (w l : List ℕ) (m : Reduction) → Readable w l → length m ≡ length l → (cost (kept m (steps w l)) ≤ bounds.cost) × (length (kept m (steps w l)) ≤ bounds.steps)
unfolding tallied
left_bounded w l m readable fits =
    let sum : (tallied w l m).cost ≤ bounds.cost = after_bounded nothing (map (cost_word w) (kept m l)) (omega arith) in
    (rw (plainly w l m readable fits) at sum, omega (arith, left_length m (steps w l) (fits ∙ sym (length-map l (action w))), length-map l (action w), readable.few))
