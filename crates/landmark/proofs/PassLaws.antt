-- A pass along the positions of a plan: it keeps the flags that are up, raises all that a round does, and nothing outside a set that has them and is closed
-- under links. By induction on the position from which it walks back. Assumes nothing.
use Prim.Native.Nat.{ℕ, zero, suc, ◌≤◌, ◌<◌}
use native.Mathlib.Omega.{arith}
use mathlib.Core.Path.{◌≡◌, refl, ◌∙◌}
use mathlib.Core.Logic.{⊎_elim}
use mathlib.Core.Bool.{true, false, cond}
use mathlib.Core.List.{List}
use lib.ListN.{length, get_or}
use Rattle.sas.specs.Task.{Fact, Action}
use Rattle.sas.specs.Plan.{needed}
use Rattle.reduction.specs.Reduction.{Reduction, keeps}
use Rattle.reduction.specs.Landmark.{step, Link}
use Rattle.reduction.specs.Between.Order.{Contains}
use Rattle.reduction.specs.Between.Landmarks.{support, supported, round}
use Rattle.reduction.proofs.ReductionLaws.{kept_inside}
use Rattle.reduction.proofs.marks.LinkLaws.{either, before_or_at}
use Rattle.reduction.proofs.marks.RoundLaws.{raised_length, raised_more, Closed, supported_links, link_raised, round_why}
use Rattle.landmark.specs.Between.Passes.{pass_from, pass}

module _ (q : List Action) (m : Reduction) where
  -- one position more
  next : ℕ → Reduction → Reduction
  next j n = cond (get_or n j false) (supported q m j n) n

  next_length : (j : ℕ) (n : Reduction) → length (next j n) ≡ length n
  unfolding next
  next_length j n =
      ⊎_elim
      (λ up. rw up (raised_length (support q m j) (needed (step q j)) n))
      (λ down. rw down)
      (either (get_or n j false))

  next_more : (j : ℕ) (n : Reduction) → Contains (next j n) n
  unfolding next
  next_more j n k up =
      ⊎_elim
      (λ marked. rw marked (raised_more (support q m j) (needed (step q j)) n k up))
      (λ unmarked. rw unmarked up)
      (either (get_or n j false))

  from_length : (j : ℕ) (n : Reduction) → length (pass_from q m j n) ≡ length n
  unfolding pass_from next
  from_length zero n = refl
  from_length (suc j) n = from_length j (next j n) ∙ next_length j n

  from_more : (j : ℕ) (n : Reduction) → Contains (pass_from q m j n) n
  unfolding pass_from next
  from_more zero n k up = up
  from_more (suc j) n k up = from_more j (next j n) k (next_more j n k up)

  from_has : (x : ℕ) (n : Reduction) {i k j : ℕ} {f : Fact} → j < x → k < length n → keeps m i → keeps n j → Link q i k j f
      → keeps (pass_from q m x n) k
  unfolding pass_from next
  from_has zero n h inside earlier later link = absurd (omega arith)
  from_has (suc x) n {k = k} {j = j} h inside earlier later link =
      ⊎_elim
      (λ before. from_has x (next x n) before (rw (next_length x n) inside) earlier (next_more x n j later) link)
      (λ same.
      let here : get_or n x false ≡ true = rw same at later in
      from_more x (next x n) k (rw here (link_raised q m n earlier (rw same at link) inside)))
      (before_or_at j x h)

  module _ (L : Reduction) (closed : Closed q L) (all : Contains L m) (start : keeps L 0) where
    next_within : (j : ℕ) (n : Reduction) → Contains L n → Contains L (next j n)
    unfolding next
    next_within j n within k up =
        ⊎_elim
        (λ marked. ⊎_elim (within k) (⊎_elim (λ there. there) (closed k)) (supported_links q m L n j k all start (within j marked) (rw marked at up)))
        (λ unmarked. within k (rw unmarked at up))
        (either (get_or n j false))

    from_within : (x : ℕ) (n : Reduction) → Contains L n → Contains L (pass_from q m x n)
    unfolding pass_from next
    from_within zero n within = within
    from_within (suc x) n within = from_within x (next x n) (next_within x n within)

    -- a pass stays within what is closed under links
    pub pass_within : Contains L (pass q m)
    pass_within = from_within (length q) m all

  pub pass_length : length (pass q m) ≡ length m
  pass_length = from_length (length q) m

  pub pass_more : Contains (pass q m) m
  pass_more = from_more (length q) m

  -- and has all that one round more has, of flags that are up before it
  pub pass_has_round : (n : Reduction) → length n ≡ length q → length q ≤ length m → keeps n 0 → Contains m n → Contains (pass q m) (round q n)
  pass_has_round n fits room start all k up =
      ⊎_elim
      (λ before. pass_more k (all k before))
      (λ l.
      let later : l.j < length q = rw fits at (kept_inside n l.j l.marked_later) in
      from_has (length q) m later (omega (arith, l.link.later)) (all l.i l.marked_earlier) (all l.j l.marked_later) l.link)
      (round_why q n k start up)
