-- Every valid reduction keeps every marked step. If it struck one, the fact that the later marked step needs would be false behind the earlier one, which wrote
-- another value there whatever the state, and stay false up to the later one, since no other step between writes it. By induction on the rule, and for one link along the states
-- before the indices between. Assumes nothing.
use Prim.Native.Nat.{ℕ, zero, suc, ◌≤◌, ◌<◌}
use native.Mathlib.Omega.{arith}
use mathlib.Core.Path.{◌≡◌, refl, sym, ◌∙◌, ap}
use mathlib.Core.Logic.{⊎_elim, ◌≢◌, ◌↔◌}
use mathlib.Core.Bool.{true, false, true≢false}
use mathlib.Core.List.{List, [], Memᴰ}
use lib.ListN.{length, get_or, drop, drop_of_length-le, length-replicate}
use lib.Dec.{ltb}
use borrow.Author.Tests.{ltb-true, ltb-false}
use Rattle.sas.specs.Task.{Fact, Assignment, State, Action}
use Rattle.sas.specs.Plan.{holds, applicable, apply, may_write, needs}
use Rattle.sas.specs.Between.WellFormed.{ActionFormed}
use Rattle.sas.proofs.FactLaws.{satisfied_holds}
use Rattle.sas.proofs.WellFormedLaws.{ActionsFormed}
use Rattle.sas.proofs.ActionLaws.{result_applied, needed_holds, idle_needs_nothing, other_fails, stays_false}
use Rattle.reduction.specs.Reduction.{Reduction, keeps, kept, whole, Before, ValidFor, meets, valid, ValidReduction}
use Rattle.reduction.specs.Landmark.{step, end_step, framed, WritesOther, Link, Marked, Landmark}
use Rattle.reduction.specs.Landmark.Marked.{start_marked, end_marked, linked}
use Rattle.reduction.specs.Between.Landmarks.{landmarks}
use Rattle.reduction.specs.Between.Order.{Contains}
use Rattle.reduction.specs.Between.Sound.{FlagsKept}
use Rattle.reduction.proofs.ValidLaws.{valid_end}
use Rattle.reduction.proofs.ReductionLaws.{whole_valid, count_whole, strike_count, kept_inside}
use Rattle.reduction.proofs.minimal.WinsLaws.{full_whole}
use Rattle.reduction.proofs.minimal.BeforeLaws.{before_first, rest_valid, Passes, before_next}
use Rattle.reduction.proofs.turns.HeldLaws.{each_step}
use Rattle.reduction.proofs.marks.FrameLaws.{framed_start, framed_step, framed_end, framed_past, start_other_false, end_needs_goal}
use Rattle.reduction.proofs.marks.LinkLaws.{either, before_or_at}
use Rattle.reduction.proofs.marks.LandmarkTheorem.{flagged_just_marked}

module _ {domains : List ℕ} (s : State) (goal : Assignment) (p : List Action) (formed : ActionsFormed domains p) (m : Reduction)
    (v : ValidReduction s goal p m) where
  -- the states before the indices of the list, where the kept steps are done
  next : (y : ℕ) (t : State) → y < length p → Before s p m y t → Passes s p m y t
  next y t h reached = before_next s goal p m y v.fits v.valid_left (omega (arith, v.fits)) reached

  reach : (y : ℕ) → y ≤ length p → (t : State) × Before s p m y t
  reach zero h = (s, before_first s p m)
  reach (suc y) h =
      let (t, reached) = reach y (omega arith) in
      ⊎_elim
      (λ up. (apply t (step p y), (next y t (omega arith) reached).kept_next up))
      (λ down. (t, (next y t (omega arith) reached).struck_next down))
      (either (get_or m y false))

  -- behind the last the goal is met
  goal_met : (z : ℕ) (t : State) → z ≡ length p → Before s p m z t → meets goal t ≡ true
  unfolding kept
  goal_met z t same reached =
      let rest : ValidFor (meets goal) t (drop z p) (drop z m) = rest_valid s t p m z reached v in
      let over : drop z p ≡ [] = drop_of_length-le p {i = z} (omega arith) in
      valid_end (meets goal) t (rw over at rest.valid_left)

  -- a position, if it is that of a step, is kept
  abbrev KeptAt : ℕ → Type 0
  KeptAt k = (y : ℕ) → k ≡ suc y → y < length p → keeps m y

  -- the fact of a link whose step is struck is false
  module _ {i k j : ℕ} {f : Fact} (link : Link (framed s goal p) i k j f) (earlier : KeptAt i) (x : ℕ) (here : k ≡ suc x) (inside : x < length p)
      (struck : get_or m x false ≡ false) where
    abbrev FalseBefore : ℕ → Type 0
    FalseBefore z = (t : State) × Before s p m z t × (holds t f ≡ false)

    -- behind the earlier position
    false_behind : (n : ℕ) → i ≡ n → FalseBefore n
    false_behind zero first =
        let other : WritesOther (step (framed s goal p) 0) f = rw first at link.other_earlier in
        (s, before_first s p m, start_other_false s f (rw (framed_start s goal p) at other))
    false_behind (suc y) is =
        let below : y < length p = omega (arith, link.earlier) in
        let up : keeps m y = earlier y is below in
        let (t, reached) = reach y (omega arith) in
        let (g, w, variable, value) : WritesOther (step p y) f = rw (is, framed_step s goal p y below) at link.other_earlier in
        let on : Passes s p m y t = next y t below reached in
        (apply t (step p y), on.kept_next up, other_fails (step p y) t f (each_step formed y below) (on.able up) w variable value)

    -- it stays false at each step between
    false_next : (z : ℕ) → i ≤ z → z < length p → suc z < j → FalseBefore z → FalseBefore (suc z)
    false_next z above below before (t, reached, unheld) =
        let on : Passes s p m z t = next z t below reached in
        ⊎_elim
        (λ up.
        let other : suc z ≢ k = λ same. true≢false (sym up ∙ ap (λ y. get_or m y false) (omega arith) ∙ struck) in
        let unwritten : may_write (step p z) f → ⊥ = rw (framed_step s goal p z below) at (link.no_other (suc z) (omega arith) before other) in
        (apply t (step p z), on.kept_next up, stays_false t (step p z) (result_applied t (step p z) (on.able up)) f unwritten unheld))
        (λ down. (t, on.struck_next down, unheld))
        (either (get_or m z false))

    false_along : (z : ℕ) → i ≤ z → z ≤ length p → z < j → FalseBefore z
    false_along zero above below before = false_behind zero (omega arith)
    false_along (suc z) above below before =
        ⊎_elim
        (λ EarlierOn. false_next z (omega arith) (omega arith) before (false_along z (omega arith) (omega arith) (omega arith)))
        (λ same. false_behind (suc z) same)
        (before_or_at i (suc z) (omega arith))

    -- so a later position that is kept can't need it
    never : (n : ℕ) → j ≡ n → KeptAt j → ⊥
    never zero is later = omega (arith, link.later)
    never (suc z) is later = ⊎_elim (λ low. of_step (ltb-true z (length p) low)) (λ high. by_end (ltb-false z (length p) high)) (either (ltb z (length p)))
      where
        need : needs (step (framed s goal p) (suc z)) f
        need = rw is at link.needed_later

        above : i ≤ z
        above = omega (arith, link.earlier, link.later)

        of_step : z < length p → ⊥
        of_step below =
            let (t, reached, unheld) = false_along z above (omega arith) (omega arith) in
            let able : applicable t (step p z) ≡ true = (next z t below reached).able (later z is below) in
            true≢false (sym (needed_holds t (step p z) able (rw (framed_step s goal p z below) at need)) ∙ unheld)

        at_end : z ≡ length p → ⊥
        at_end same =
            let (t, reached, unheld) = false_along z above (omega arith) (omega arith) in
            let wanted : needs (end_step goal) f = rw (same, framed_end s goal p) at need in
            true≢false (sym (satisfied_holds t (goal_met z t same reached) (end_needs_goal goal wanted)) ∙ unheld)

        by_end : length p ≤ z → ⊥
        by_end high =
            ⊎_elim
            (λ past. idle_needs_nothing (rw (framed_past s goal p z past) at need))
            (λ same. at_end (sym same))
            (before_or_at (length p) z (omega arith))

  marked_kept : {k : ℕ} → Marked s goal p k → KeptAt k
  marked_kept start_marked y is below = absurd (omega arith)
  marked_kept end_marked y is below = absurd (omega arith)
  marked_kept (linked {j = j} earlier later link) y is below =
      ⊎_elim
      (λ up. up)
      (λ down. absurd (never link (λ x at inside. marked_kept earlier x at inside) y is below down j refl (λ x at inside. marked_kept later x at inside)))
      (either (get_or m y false))

-- every valid reduction keeps every marked step
pub landmark_kept : {domains : List ℕ} {s : State} {goal : Assignment} {p : List Action} {m : Reduction} {i : ℕ}
    → ((a : Action) → Memᴰ a p → ActionFormed domains a) → ValidReduction s goal p m → Landmark s goal p i → keeps m i
landmark_kept {s = s} {goal = goal} {p = p} {m = m} {i = i} formed v (inside, marked) = marked_kept s goal p formed m v marked i refl inside

-- and so the flagged ones
pub landmarks_kept : {domains : List ℕ} (s : State) (goal : Assignment) (p : List Action) → ActionsFormed domains p → FlagsKept (meets goal) s p (landmarks s goal p)
landmarks_kept s goal p formed m v i up = landmark_kept formed v ((flagged_just_marked s goal p i).0 up)

-- so a valid list whose steps are all marked has no valid reduction but the whole
pub all_marked_whole : {domains : List ℕ} (s : State) (goal : Assignment) (p : List Action) → ActionsFormed domains p → valid s goal p ≡ true
    → ((i : ℕ) → i < length p → Landmark s goal p i) → (m : Reduction) → ValidReduction s goal p m ↔ (m ≡ whole p)
all_marked_whole s goal p formed v marked m = (keeps_all, λ same. rw same (whole_valid p v))
  where
    inside : (i : ℕ) → keeps (whole p) i → i < length p
    inside i up = omega (arith, kept_inside (whole p) i up, length-replicate (length p) true)

    keeps_all : ValidReduction s goal p m → m ≡ whole p
    keeps_all left =
        let contains : Contains m (whole p) = λ i up. landmark_kept formed left (marked i (inside i up)) in
        full_whole p m left.fits (omega (arith, strike_count m (whole p) contains, count_whole p))
