-- The cuts of the search are sound, and two sound cuts are one. A cut that is stated so costs the search nothing more: SearchTheorem takes any. By the laws of
-- `lower` and of wanted facts. Assumes nothing.
use Prim.Native.Nat.{◌+◌, ◌<◌}
use native.Mathlib.Numerals.{add-one}
use native.Mathlib.Omega.{arith}
use mathlib.Core.Path.{◌≡◌, refl, sym, ◌∙◌}
use mathlib.Core.Logic.{inl, inr}
use mathlib.Core.Bool.{Bool, true, false, true≢false}
use mathlib.Core.List.{List, ◌∷◌}
use lib.ListN.{length, get_or, set, drop, length-set}
use lib.Seq.{get_or-set_other, drop-cons}
use lib.Dec.{ltb, eqb}
use borrow.Author.Tests.{ltb-true, ltb-false, eqb-true, eqb-false}
use Rattle.sas.specs.Task.{Assignment, State, Action, idle}
use Rattle.sas.specs.Plan.{satisfies}
use Rattle.reduction.specs.Reduction.{Reduction, keeps, kept, Before, ValidFor}
use Rattle.reduction.specs.Between.Order.{lower, Contains}
use Rattle.reduction.specs.Landmark.{step}
use Rattle.reduction.specs.Between.Search.{Visit, both, bound}
use Rattle.reduction.specs.Between.Sound.{FlagsKept, Visited, Follows, Hopeless, Cut, Lacks}
use Rattle.reduction.proofs.ReductionLaws.{kept_length, strike_cost, strike_count, contains_behind, alike_before, alike_behind}
use Rattle.reduction.proofs.LowerLaws.{Lower}
use Rattle.reduction.proofs.minimal.WinsLaws.{not_lower, not_lower_through}
use Rattle.reduction.proofs.turns.WantedLaws.{wanted_holds}
use Rattle.reduction.proofs.minimal.BeforeLaws.{rest_valid}
use Rattle.reduction.proofs.minimal.MinimalTheorem.{valid_struck}

-- two sound cuts of a choice are one
pub both_cut : {ends : State → Bool} {s : State} {p : List Action} {flags : Reduction} {choice : Bool} (x y : Visit → Bool) → Cut ends s p flags choice x
    → Cut ends s p flags choice y → Cut ends s p flags choice (both x y)
both_cut {ends} {s} {p} {choice = choice} x y first second v inside visited tried barred = by_case (x v) refl
  where
    by_case : (t : Bool) → x v ≡ t → Hopeless ends s p v choice
    by_case true e = second v inside visited tried (rw e at barred)
    by_case false e = first v inside visited tried e

-- what keeps all that another reduction keeps is not lower
pub contains_not_lower : (p : List Action) (m n : Reduction) → length m ≡ length p → length n ≡ length p → Contains m n → lower (kept m p) (kept n p) ≡ false
contains_not_lower p m n fits other_fits h = not_lower (kept m p) (kept n p) never
  where
    never : Lower (kept m p) (kept n p) → ⊥
    never (inl less) = omega (arith, strike_cost m n p h)
    never (inr (same, less)) = omega (arith, strike_count m n h, kept_length m p fits, kept_length n p other_fits)

-- what follows a visit is valid from its state
pub follows_rest : {ends : State → Bool} {s : State} {p : List Action} {flags : Reduction} {v : Visit} {choice : Bool} {r : Reduction} → v.index < length p
    → Visited s p flags v → Follows ends s p v choice r
    → ValidFor ends v.state (step p v.index ∷ drop (v.index + 1) p) (choice ∷ drop (v.index + 1) r)
follows_rest {s = s} {p} {v = v} {r = r} inside visited follows =
    let reached : Before s p r v.index v.state = rw follows.decided visited.reached in
    let fewer : v.index < length r = omega (arith, follows.valid.fits) in
    rw (add-one, ← follows.chosen, ← drop-cons p v.index idle inside, ← drop-cons r v.index false fewer)
    (rest_valid s v.state p r v.index reached follows.valid)

module _ {ends : State → Bool} {s : State} {p : List Action} {flags : Reduction} (flagged : FlagsKept ends s p flags) where
  -- a valid reduction that keeps the step of a visit keeps all that is then kept so far
  keeps_so_far : {v : Visit} {r : Reduction} → Visited s p flags v → Follows ends s p v true r → Contains r (set v.so_far v.index true)
  keeps_so_far {v} {r} visited follows k up = by_case (eqb k v.index) (ltb k v.index) refl refl
    where
      other : eqb k v.index ≡ false → get_or v.so_far k false ≡ true
      other e = sym (get_or-set_other v.so_far v.index k true false (eqb-false k v.index e)) ∙ up

      by_case : (x y : Bool) → eqb k v.index ≡ x → ltb k v.index ≡ y → keeps r k
      by_case true y e l = rw (eqb-true k v.index e) follows.chosen
      by_case false true e l = alike_before r v.so_far v.index k follows.decided (ltb-true k v.index l) ∙ other e
      by_case false false e l =
          flagged r follows.valid k (sym (alike_behind v.so_far flags v.index k visited.to_come (ltb-false k v.index l)) ∙ other e)

  -- The bound. No valid reduction that keeps the step is lower than what is then kept so far, the flagged steps to come among it: so where that is not lower
  -- than the best, to keep has no chance.
  pub bound_cut : Cut ends s p flags true (bound p)
  unfolding bound
  bound_cut v inside visited tried barred r follows =
      let so_far : Reduction = set v.so_far v.index true in
      not_lower_through (kept r p) (kept so_far p) (kept v.best p)
      (contains_not_lower p r so_far follows.valid.fits (length-set v.so_far v.index true ∙ visited.fits) (keeps_so_far visited follows))
      barred

  -- The wanted facts. A fact that is wanted behind a step holds there in every valid reduction, and a struck step makes nothing true: so where such a fact does
  -- not hold, to strike has no chance. A test may look at as few of the facts as it likes.
  pub wanted_cut : (goal : Assignment) (test : Visit → Bool) → ((t : State) → ends t ≡ true → satisfies t goal ≡ true)
      → ((v : Visit) → v.index < length p → Visited s p flags v → test v ≡ false → Lacks goal p flags v) → Cut ends s p flags false test
  wanted_cut goal test met bars v inside visited tried barred r follows =
      let lacks : Lacks goal p flags v = bars v inside visited barred in
      let rest = valid_struck ends v.state (step p v.index) (drop (v.index + 1) p) (follows_rest inside visited follows) in
      let later : Contains (drop (v.index + 1) r) (drop (v.index + 1) flags) = contains_behind r flags (v.index + 1) (flagged r follows.valid) in
      let held = wanted_holds ends goal met v.state _ _ _ lacks.fact rest.fits rest.valid_left later lacks.wanted_behind in
      absurd (true≢false (sym held ∙ lacks.unheld))
