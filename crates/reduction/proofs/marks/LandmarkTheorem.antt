-- The steps that `landmarks` flags are just those that the rule marks, and as many rounds as there are steps reach them all: by induction on the rounds, on the
-- rule and on the rounds' rule, since what is flagged after so many rounds is closed under links. Assumes nothing.
use Prim.Native.Nat.{ℕ, zero, suc, ◌+◌, ◌≤◌, ◌<◌}
use native.Mathlib.Omega.{arith}
use mathlib.Core.Path.{◌≡◌, refl, sym, ◌∙◌, ap}
use mathlib.Core.Logic.{◌↔◌, ◌⊎◌, inl, inr, ⊎_elim}
use mathlib.Core.Bool.{true, false, false≢true}
use mathlib.Core.List.{List, [], ◌∷◌, ◌++◌}
use lib.ListN.{length, get_or, take, drop, replicate, length-append, length-replicate, length-drop}
use lib.Seq.{length-take-le, get_or-take, get_or-drop}
use Rattle.sas.specs.Task.{Assignment, State, Action}
use Rattle.reduction.specs.Reduction.{Reduction, keeps, count}
use Rattle.reduction.specs.Landmark.{framed, Marked, Landmark, InRound}
use Rattle.reduction.specs.Landmark.Marked.{start_marked, end_marked, linked}
use Rattle.reduction.specs.Landmark.InRound.{start_first, end_first, linked_in}
use Rattle.reduction.specs.Between.Order.{Contains}
use Rattle.reduction.specs.Between.Landmarks.{rounds, ends_alone, of_steps, landmarks}
use Rattle.reduction.proofs.ReductionLaws.{kept_inside}
use Rattle.reduction.proofs.marks.RoundLaws.{Closed, links, round_more, round_why, round_has, rounds_length, rounds_settle, settled_closed}

-- flags of which the last alone is up
last_up : (n : ℕ) → keeps (replicate n false ++ (true ∷ [])) n
last_up zero = refl
last_up (suc n) = last_up n

last_why : (n k : ℕ) → keeps (replicate n false ++ (true ∷ [])) k → k ≡ n
last_why zero zero up = refl
last_why zero (suc k) up = absurd (false≢true up)
last_why (suc n) zero up = absurd (false≢true up)
last_why (suc n) (suc k) up = ap suc (last_why n k up)

last_count : (n : ℕ) → count (replicate n false ++ (true ∷ [])) ≡ 1
unfolding count
last_count zero = refl
last_count (suc n) = last_count n

-- the flags of the first n steps among those of the positions
module _ (n : ℕ) (m : Reduction) where
  pub step_flag : (i : ℕ) → i < n → get_or (take n (drop 1 m)) i false ≡ get_or m (suc i) false
  step_flag i inside =
      let next : 1 + i ≡ suc i = omega arith in
      get_or-take n (drop 1 m) i false inside ∙ get_or-drop 1 m i false ∙ rw next

  pub step_flags_length : n < length m → length (take n (drop 1 m)) ≡ n
  step_flags_length room = length-take-le n (drop 1 m) (omega (arith, length-drop 1 m))

module _ (p : List Action) where
  -- start and end alone
  pub ends_why : (k : ℕ) → keeps (ends_alone p) k → (k ≡ 0) ⊎ (k ≡ suc (length p))
  ends_why zero up = inl refl
  ends_why (suc k) up = inr (ap suc (last_why (length p) k up))

  pub ends_length : length (ends_alone p) ≡ suc (suc (length p))
  ends_length = ap suc (length-append (replicate (length p) false) (true ∷ []) ∙ rw length-replicate (omega arith))

  ends_count : count (ends_alone p) ≡ 2
  unfolding count
  ends_count = ap suc (last_count (length p))

pub framed_length : (s : State) (goal : Assignment) (p : List Action) → length (framed s goal p) ≡ suc (suc (length p))
unfolding framed
framed_length s goal p = ap suc (length-append p _ ∙ omega arith)

module _ (s : State) (goal : Assignment) (p : List Action) where
  -- the flags of all positions after r rounds
  abbrev pub flags : ℕ → Reduction
  flags r = rounds (framed s goal p) (ends_alone p) r

  pub flags_length : (r : ℕ) → length (flags r) ≡ suc (suc (length p))
  flags_length r = rounds_length (framed s goal p) (ends_alone p) r ∙ ends_length p

  pub flags_fit : (r : ℕ) → length (flags r) ≡ length (framed s goal p)
  flags_fit r = flags_length r ∙ sym (framed_length s goal p)

  flags_more : (r : ℕ) → Contains (flags (suc r)) (flags r)
  unfolding rounds
  flags_more r = round_more (framed s goal p) (flags r)

  pub start_up : (r : ℕ) → keeps (flags r) 0
  unfolding rounds
  start_up zero = refl
  start_up (suc r) = flags_more r 0 (start_up r)

  pub end_up : (r : ℕ) → keeps (flags r) (suc (length p))
  unfolding rounds
  end_up zero = last_up (length p)
  end_up (suc r) = flags_more r (suc (length p)) (end_up r)

  -- what a round flags the rounds' rule has
  pub flagged_in_round : (r k : ℕ) → keeps (flags r) k → (a : ℕ) × (a ≤ r) × InRound s goal p a k
  unfolding rounds
  flagged_in_round zero k up =
      ⊎_elim
      (λ first. (0, omega arith, rw first start_first))
      (λ last. (0, omega arith, rw last end_first))
      (ends_why p k up)
  flagged_in_round (suc r) k up =
      ⊎_elim
      (λ before. let (a, few, found) = flagged_in_round r k before in (a, omega arith, found))
      (λ l.
      let (a, few, earlier) = flagged_in_round r l.i l.marked_earlier in
      let (b, few', later) = flagged_in_round r l.j l.marked_later in
      (suc r, omega arith, linked_in (omega arith) (omega arith) earlier later l.link))
      (round_why (framed s goal p) (flags r) k (start_up r) up)

  -- and what it has is flagged then, and from then on
  pub in_round_flagged : {a k : ℕ} (r : ℕ) → a ≤ r → InRound s goal p a k → keeps (flags r) k
  unfolding rounds
  in_round_flagged r few start_first = start_up r
  in_round_flagged r few end_first = end_up r
  in_round_flagged zero few (linked_in below below' earlier later link) = absurd (omega arith)
  in_round_flagged (suc r) few (linked_in {k = k} below below' earlier later link) =
      round_has (framed s goal p) (flags r) (flags_fit r) k
      (links (in_round_flagged r (omega arith) earlier) (in_round_flagged r (omega arith) later) link)

  -- every step of a round is marked
  pub in_round_marked : {r k : ℕ} → InRound s goal p r k → Marked s goal p k
  in_round_marked start_first = start_marked
  in_round_marked end_first = end_marked
  in_round_marked (linked_in below below' earlier later link) = linked (in_round_marked earlier) (in_round_marked later) link

  -- as many rounds as there are steps are closed under links
  pub last_closed : Closed (framed s goal p) (flags (length p))
  last_closed =
      settled_closed (framed s goal p) (ends_alone p) (length p) (ends_length p ∙ sym (framed_length s goal p))
      (rounds_settle (framed s goal p) (ends_alone p) (length p) (omega (arith, ends_length p, ends_count p)))

  marked_flagged : {k : ℕ} → Marked s goal p k → keeps (flags (length p)) k
  marked_flagged start_marked = start_up (length p)
  marked_flagged end_marked = end_up (length p)
  marked_flagged (linked {k = k} earlier later link) =
      last_closed k (links (marked_flagged earlier) (marked_flagged later) link)

  -- every marked step is in some round, and no step needs more rounds than there are steps
  pub marked_in_round : {k : ℕ} → Marked s goal p k → (r : ℕ) × (r ≤ length p) × InRound s goal p r k
  marked_in_round {k} marked = flagged_in_round (length p) k (marked_flagged marked)

  -- each step has a flag
  pub landmarks_length : length (landmarks s goal p) ≡ length p
  unfolding landmarks
  landmarks_length = step_flags_length (length p) (flags (length p)) (omega (arith, flags_length (length p)))

  -- a step is flagged just where the rule marks it
  pub flagged_just_marked : (i : ℕ) → keeps (landmarks s goal p) i ↔ Landmark s goal p i
  unfolding landmarks
  flagged_just_marked i = (to, from)
    where
      to : keeps (landmarks s goal p) i → Landmark s goal p i
      to up =
          let inside : i < length p = rw landmarks_length at (kept_inside (landmarks s goal p) i up) in
          let (r, few, found) = flagged_in_round (length p) (suc i) (sym (step_flag (length p) (flags (length p)) i inside) ∙ up) in
          (inside, in_round_marked found)

      from : Landmark s goal p i → keeps (landmarks s goal p) i
      from (inside, marked) = step_flag (length p) (flags (length p)) i inside ∙ marked_flagged marked
