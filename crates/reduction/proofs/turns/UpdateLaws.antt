-- The algebra of the best reduction found so far: to update it with the better of two reductions is to update it with each in turn, since of three lists the
-- lower of two, then the lower of that and the third, do not depend on the order of the comparisons. By the laws of `lower`. Assumes nothing.
use native.Mathlib.Omega.{arith}
use mathlib.Core.Path.{◌≡◌, refl, sym, ◌∙◌}
use mathlib.Core.Logic.{inl, inr}
use mathlib.Core.Bool.{Bool, true, false, cond}
use mathlib.Core.Option.{Option, none, some}
use mathlib.Core.List.{List, [], ◌∷◌, ◌++◌}
use lib.ListN.{length, take, drop}
use lib.Seq.{append_snoc}
use Rattle.sas.specs.Task.{Action}
use Rattle.sas.specs.Plan.{cost}
use Rattle.reduction.specs.Reduction.{Reduction, kept}
use Rattle.reduction.specs.Between.Order.{lower}
use Rattle.reduction.specs.Between.Elimination.{better}
use Rattle.reduction.specs.Between.Found.{begun_with}
use Rattle.reduction.proofs.ReductionLaws.{kept_behind}
use Rattle.reduction.proofs.LowerLaws.{Lower, lower_true, true_lower, lower_through, lower_once}
use Rattle.reduction.proofs.minimal.WinsLaws.{not_lower_through}

-- the lower of the best reduction and another, the best where that is not lower
abbrev pub lower_of : List Action → Reduction → Reduction → Reduction
lower_of p b m = cond (lower (kept m p) (kept b p)) m b

pub lower_of_three : (p : List Action) (b m n : Reduction) → lower_of p (lower_of p b m) n ≡ lower_of p b (lower_of p m n)
lower_of_three p b m n = by_case (lower (kept m p) (kept b p)) (lower (kept n p) (kept m p)) refl refl
  where
    by_case : (x y : Bool) → lower (kept m p) (kept b p) ≡ x → lower (kept n p) (kept m p) ≡ y → lower_of p (lower_of p b m) n ≡ lower_of p b (lower_of p m n)
    by_case true true e f = rw (e, f, lower_through (kept n p) (kept m p) (kept b p) f (lower_once (kept m p) (kept b p) e))
    by_case true false e f = rw (e, f, e)
    by_case false true e f = rw (e, f)
    by_case false false e f = rw (e, f, not_lower_through (kept n p) (kept m p) (kept b p) f e, e)

-- what is not lower than another is not lower than the lower of that and the best
pub not_lower_of : (p : List Action) (b m n : Reduction) → lower (kept n p) (kept m p) ≡ false → lower (kept n p) (kept (lower_of p b m) p) ≡ false
not_lower_of p b m n h = by_case (lower (kept m p) (kept b p)) refl
  where
    by_case : (x : Bool) → lower (kept m p) (kept b p) ≡ x → lower (kept n p) (kept (lower_of p b m) p) ≡ false
    by_case true e = rw (e, h)
    by_case false e = rw (e, not_lower_through (kept n p) (kept m p) (kept b p) h e)

-- a step in front of two lists changes nothing of their order
lower_first : (a : Action) (p q : List Action) → lower (a ∷ p) (a ∷ q) ≡ lower p q
unfolding cost
lower_first a p q = by_case (lower p q) (lower (a ∷ p) (a ∷ q)) refl refl
  where
    more : Lower p q → Lower (a ∷ p) (a ∷ q)
    more (inl less) = inl (omega arith)
    more (inr less) = inr (omega arith)

    fewer : Lower (a ∷ p) (a ∷ q) → Lower p q
    fewer (inl less) = inl (omega arith)
    fewer (inr less) = inr (omega arith)

    by_case : (x y : Bool) → lower p q ≡ x → lower (a ∷ p) (a ∷ q) ≡ y → lower (a ∷ p) (a ∷ q) ≡ lower p q
    by_case true y e f = true_lower (a ∷ p) (a ∷ q) (more (lower_true p q e)) ∙ sym e
    by_case false true e f = f ∙ sym (true_lower p q (fewer (lower_true (a ∷ p) (a ∷ q) f)))
    by_case false false e f = f ∙ sym e

-- nor do several
lower_behind : (e p q : List Action) → lower (e ++ p) (e ++ q) ≡ lower p q
lower_behind [] p q = refl
lower_behind (a ∷ e) p q = lower_first a (e ++ p) (e ++ q) ∙ lower_behind e p q

-- behind the decisions d two reductions compare as what they leave of the rest
pub alike : (p : List Action) (d m n : Reduction)
    → lower (kept (d ++ m) p) (kept (d ++ n) p) ≡ lower (kept m (drop (length d) p)) (kept n (drop (length d) p))
alike p d m n = rw (kept_behind d m p, kept_behind d n p) (lower_behind (kept d (take (length d) p)) (kept m (drop (length d) p)) (kept n (drop (length d) p)))

-- the best when a reduction of the rest of the plan, perhaps none, is found behind the decisions d
abbrev pub update : List Action → Reduction → Reduction → Option Reduction → Reduction
update p d b none = b
update p d b (some n) = lower_of p b (d ++ n)

-- a decision more, or one in front of what is found
pub update_decided : (p : List Action) (d : Reduction) (c : Bool) (b : Reduction) (x : Option Reduction)
    → update p (d ++ (c ∷ [])) b x ≡ update p d b (begun_with c x)
update_decided p d c b none = refl
update_decided p d c b (some n) = rw (append_snoc d c n)

-- to update with the better of two is to update twice
pub update_twice : (p : List Action) (d b : Reduction) (x y : Option Reduction)
    → update p d (update p d b x) y ≡ update p d b (better (drop (length d) p) x y)
unfolding better
update_twice p d b none none = refl
update_twice p d b none (some n) = refl
update_twice p d b (some m) none = refl
update_twice p d b (some m) (some n) =
    rw (← alike p d n m) (lower_of_three p b (d ++ m) (d ++ n) ∙ chosen (lower (kept (d ++ n) p) (kept (d ++ m) p)))
  where
    chosen : (t : Bool) → lower_of p b (cond t (d ++ n) (d ++ m)) ≡ update p d b (cond t (some n) (some m))
    chosen true = refl
    chosen false = refl
