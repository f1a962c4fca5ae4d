-- A round of marks: it keeps the flags that are up and raises just those that the rule links to two of them; and as often as flags can be raised, one round
-- more changes nothing. Flags are raised by list induction, and a list that has all flags of another is the same or has more. Assumes nothing.
use Prim.Native.Nat.{ℕ, zero, suc, ◌+◌, ◌≤◌, ◌<◌}
use native.Mathlib.Omega.{arith}
use mathlib.Core.Path.{◌≡◌, refl, sym, ◌∙◌, ap}
use mathlib.Core.Logic.{◌⊎◌, inl, inr, ⊎_elim}
use mathlib.Core.Bool.{true, false, false≢true}
use mathlib.Core.List.{List, [], ◌∷◌, Memᴰ}
use lib.ListN.{length, get_or, set, length-set}
use lib.Seq.{get_or-set_same, get_or-set_other}
use lib.Dec.{eqb}
use borrow.Author.Tests.{eqb-true, eqb-false}
use Rattle.sas.specs.Task.{Fact, Assignment, Action}
use Rattle.sas.specs.Plan.{needed, needs}
use Rattle.reduction.specs.Reduction.{Reduction, keeps, count}
use Rattle.reduction.specs.Landmark.{step, Link}
use Rattle.reduction.specs.Between.Order.{Contains}
use Rattle.reduction.specs.Between.Landmarks.{support, raised, supported, round_to, round, rounds}
use Rattle.reduction.proofs.ReductionLaws.{strike_count, kept_inside}
use Rattle.reduction.proofs.marks.LinkLaws.{either, before_or_at, link_supports, support_links}

-- one flag raised
pub up_more : (m : Reduction) (i k : ℕ) → keeps m k → keeps (set m i true) k
up_more m i k up =
    ⊎_elim
    (λ same. rw (eqb-true k i same) (get_or-set_same m i true false (rw (eqb-true k i same) at (kept_inside m k up))))
    (λ other. get_or-set_other m i k true false (eqb-false k i other) ∙ up)
    (either (eqb k i))

pub up_why : (m : Reduction) (i k : ℕ) → keeps (set m i true) k → keeps m k ⊎ (i ≡ k)
up_why m i k up =
    ⊎_elim
    (λ same. inr (sym (eqb-true k i same)))
    (λ other. inl (sym (get_or-set_other m i k true false (eqb-false k i other)) ∙ up))
    (either (eqb k i))

-- the flags that are raised for the facts of an assignment
module _ (at : Fact → ℕ) where
  pub raised_length : (e : Assignment) (m : Reduction) → length (raised at e m) ≡ length m
  unfolding raised
  raised_length [] m = refl
  raised_length (f ∷ e) m = raised_length e (set m (at f) true) ∙ length-set m (at f) true

  pub raised_more : (e : Assignment) (m : Reduction) (k : ℕ) → keeps m k → keeps (raised at e m) k
  unfolding raised
  raised_more [] m k up = up
  raised_more (f ∷ e) m k up = raised_more e (set m (at f) true) k (up_more m (at f) k up)

  pub raised_has : {f : Fact} {e : Assignment} (m : Reduction) → Memᴰ f e → at f < length m → keeps (raised at e m) (at f)
  unfolding raised
  raised_has m (Memᴰ.head {x = g} {xs = e} same) inside =
      rw same (raised_more e (set m (at g) true) (at g) (get_or-set_same m (at g) true false (rw same at inside)))
  raised_has m (Memᴰ.tail {x = g} later) inside = raised_has (set m (at g) true) later (rw length-set inside)

  pub raised_why : (e : Assignment) (m : Reduction) (k : ℕ) → keeps (raised at e m) k → keeps m k ⊎ ((f : Fact) × Memᴰ f e × (at f ≡ k))
  unfolding raised
  raised_why [] m k up = inl up
  raised_why (f ∷ e) m k up =
      ⊎_elim
      (λ before. ⊎_elim inl (λ here. inr (f, Memᴰ.head refl, here)) (up_why m (at f) k before))
      (λ (g, later, there). inr (g, Memᴰ.tail later, there))
      (raised_why e (set m (at f) true) k up)

-- two positions of m link k
pub record Linked (q : List Action) (m : Reduction) (k : ℕ) : Type 0 where
  pub i : ℕ
  pub j : ℕ
  pub fact : Fact
  pub marked_earlier : keeps m i
  pub marked_later : keeps m j
  pub link : Link q i k j fact

pub links : {q : List Action} {m : Reduction} {i k j : ℕ} {f : Fact} → keeps m i → keeps m j → Link q i k j f → Linked q m k
links {i = i} {j = j} {f = f} earlier later link =
    record { i = i; j = j; fact = f; marked_earlier = earlier; marked_later = later; link = link }

-- what the rule links to positions of m is in m
abbrev pub Closed : List Action → Reduction → Type 0
Closed q m = (k : ℕ) → Linked q m k → keeps m k

module _ (q : List Action) (m : Reduction) where
  -- the flags raised for what a position of L needs are links in L, where L has the start and all of m
  pub supported_links : (L n : Reduction) (j k : ℕ) → Contains L m → keeps L 0 → keeps L j → keeps (supported q m j n) k → keeps n k ⊎ (keeps L k ⊎ Linked q L k)
  supported_links L n j k all start marked up =
      ⊎_elim
      inl
      (λ (f, need, there). inr (by_place f need there k refl))
      (raised_why (support q m j) (needed (step q j)) n k up)
    where
      by_place : (f : Fact) → needs (step q j) f → support q m j f ≡ k → (x : ℕ) → k ≡ x → keeps L k ⊎ Linked q L k
      by_place f need there zero first = inl (rw first start)
      by_place f need there (suc x) later =
          let (i, earlier, link) = support_links q m f j k need there (omega arith) in
          inr (links (all i earlier) marked link)

  module _ (n : Reduction) {i k j : ℕ} {f : Fact} (marked : keeps m i) (link : Link q i k j f) (inside : k < length n) where
    -- and each link is raised
    pub link_raised : keeps (supported q m j n) k
    link_raised =
        let there : support q m j f ≡ k = link_supports q m f marked link in
        rw there at (raised_has (support q m j) n link.needed_later (rw there inside))

  to_length : (j : ℕ) → length (round_to q m j) ≡ length m
  unfolding round_to
  to_length zero = refl
  to_length (suc j) =
      ⊎_elim
      (λ up. rw up (raised_length (support q m j) (needed (step q j)) (round_to q m j) ∙ to_length j))
      (λ down. rw down (to_length j))
      (either (get_or m j false))

  to_next : (j k : ℕ) → keeps (round_to q m j) k → keeps (round_to q m (suc j)) k
  unfolding round_to
  to_next j k up =
      ⊎_elim
      (λ marked. rw marked (raised_more (support q m j) (needed (step q j)) (round_to q m j) k up))
      (λ unmarked. rw unmarked up)
      (either (get_or m j false))

  to_more : (j k : ℕ) → keeps m k → keeps (round_to q m j) k
  unfolding round_to
  to_more zero k up = up
  to_more (suc j) k up = to_next j k (to_more j k up)

  to_has : (n : ℕ) {i k j : ℕ} {f : Fact} → j < n → keeps m i → keeps m j → Link q i k j f → keeps (round_to q m n) k
  unfolding round_to
  to_has zero h earlier marked link = absurd (omega arith)
  to_has (suc n) {k = k} {j = j} h earlier marked link =
      ⊎_elim
      (λ before. to_next n k (to_has n before earlier marked link))
      (λ same.
      let inside : k < length (round_to q m n) = omega (arith, to_length n, link.later, kept_inside m j marked) in
      let here : keeps m n = rw same at marked in
      rw here (link_raised (round_to q m n) earlier (rw same at link) inside))
      (before_or_at j n h)

  to_why : (n k : ℕ) → keeps m 0 → keeps (round_to q m n) k → keeps m k ⊎ Linked q m k
  unfolding round_to
  to_why zero k start up = inl up
  to_why (suc n) k start up =
      ⊎_elim
      (λ marked.
      ⊎_elim (to_why n k start) (λ found. found)
      (supported_links m (round_to q m n) n k (λ i up. up) start marked (rw marked at up)))
      (λ unmarked. to_why n k start (rw unmarked at up))
      (either (get_or m n false))

  pub round_length : length (round q m) ≡ length m
  round_length = to_length (length q)

  pub round_more : Contains (round q m) m
  round_more k = to_more (length q) k

  pub round_why : (k : ℕ) → keeps m 0 → keeps (round q m) k → keeps m k ⊎ Linked q m k
  round_why k = to_why (length q) k

  pub round_has : length m ≡ length q → (k : ℕ) → Linked q m k → keeps (round q m) k
  round_has fits k l = to_has (length q) (omega (arith, kept_inside m l.j l.marked_later)) l.marked_earlier l.marked_later l.link

-- a list that has all flags of another is the same, or has more
same_or_more : (m n : Reduction) → length n ≡ length m → Contains n m → (n ≡ m) ⊎ (count m < count n)
unfolding count
same_or_more [] [] fits h = inl refl
same_or_more [] (b ∷ n) fits h = absurd (omega arith)
same_or_more (b ∷ m) [] fits h = absurd (omega arith)
same_or_more (true ∷ m) (false ∷ n) fits h = absurd (false≢true (h 0 refl))
same_or_more (true ∷ m) (true ∷ n) fits h =
    ⊎_elim (λ same. inl (ap (λ r. true ∷ r) same)) (λ more. inr (omega arith)) (same_or_more m n (omega arith) (λ i. h (suc i)))
same_or_more (false ∷ m) (false ∷ n) fits h =
    ⊎_elim (λ same. inl (ap (λ r. false ∷ r) same)) (λ more. inr more) (same_or_more m n (omega arith) (λ i. h (suc i)))
same_or_more (false ∷ m) (true ∷ n) fits h =
    ⊎_elim (λ same. inr (rw same (omega arith))) (λ more. inr (omega arith)) (same_or_more m n (omega arith) (λ i. h (suc i)))

-- two lists of one length that have the same flags are the same
pub same_flags : (m n : Reduction) → length n ≡ length m → Contains n m → Contains m n → n ≡ m
same_flags m n fits h back =
    ⊎_elim (λ same. same) (λ more. absurd (omega (arith, strike_count m n back))) (same_or_more m n fits h)

pub count_few : (m : Reduction) → count m ≤ length m
unfolding count
count_few [] = omega arith
count_few (true ∷ m) = omega (arith, count_few m)
count_few (false ∷ m) = omega (arith, count_few m)

module _ (q : List Action) (m : Reduction) where
  pub rounds_length : (r : ℕ) → length (rounds q m r) ≡ length m
  unfolding rounds
  rounds_length zero = refl
  rounds_length (suc r) = round_length q (rounds q m r) ∙ rounds_length r

  -- after r rounds a further one changes nothing, or r flags were raised
  settled_or_more : (r : ℕ) → (round q (rounds q m r) ≡ rounds q m r) ⊎ (r + count m ≤ count (rounds q m r))
  unfolding rounds
  settled_or_more zero = inr (omega arith)
  settled_or_more (suc r) =
      ⊎_elim
      (λ settled. inl (ap (round q) settled))
      (λ many.
      ⊎_elim
      (λ settled. inl (ap (round q) settled))
      (λ more. inr (omega arith))
      (same_or_more (rounds q m r) (round q (rounds q m r)) (round_length q (rounds q m r)) (round_more q (rounds q m r))))
      (settled_or_more r)

  -- as many rounds as flags can be raised are enough
  pub rounds_settle : (r : ℕ) → length m ≤ r + count m → round q (rounds q m r) ≡ rounds q m r
  rounds_settle r enough =
      ⊎_elim
      (λ settled. settled)
      (λ many.
      ⊎_elim
      (λ settled. settled)
      (λ more. absurd (omega (arith, count_few (round q (rounds q m r)), round_length q (rounds q m r), rounds_length r)))
      (same_or_more (rounds q m r) (round q (rounds q m r)) (round_length q (rounds q m r)) (round_more q (rounds q m r))))
      (settled_or_more r)

  pub settled_closed : (r : ℕ) → length m ≡ length q → round q (rounds q m r) ≡ rounds q m r → Closed q (rounds q m r)
  settled_closed r fits settled k l =
      let up : keeps (round q (rounds q m r)) k = round_has q (rounds q m r) (rounds_length r ∙ fits) k l in
      rw settled at up
