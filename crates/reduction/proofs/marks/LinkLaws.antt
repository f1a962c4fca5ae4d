-- The trace of a fact tells the links of the rule: where marked positions are told by m, the support of a fact before position j is just the step that a link
-- through a marked earlier position has. By induction on the position, one law for each number of the trace. Assumes nothing.
use Prim.Native.Nat.{ℕ, zero, suc, ◌≤◌, ◌<◌}
use native.Mathlib.Omega.{arith}
use mathlib.Core.Path.{◌≡◌, refl, sym, ◌∙◌}
use mathlib.Core.Logic.{◌⊎◌, inl, inr, ⊎_elim, ◌≢◌}
use mathlib.Core.Bool.{Bool, true, false, false≢true, cond, not, ◌&&◌, and-eq-true_iff}
use mathlib.Core.List.{List}
use lib.ListN.{get_or}
use lib.Dec.{ltb, eqb}
use borrow.Author.Tests.{eqb-true, eq-eqb, ltb-true, ltb-false, lt-ltb, not-true}
use Rattle.sas.specs.Task.{Fact, Action}
use Rattle.sas.specs.Plan.{written, written_always, may_write, needs}
use Rattle.reduction.specs.Reduction.{Reduction, keeps}
use Rattle.reduction.specs.Landmark.{step, WritesOther, Link}
use Rattle.reduction.specs.Between.Wanted.{has}
use Rattle.reduction.specs.Between.Landmarks.{other_value, sets_other, passed, trace, support}
use Rattle.reduction.proofs.MemberLaws.{has_member, member_has, has_no_member, no_member_has}
use Rattle.sas.proofs.SomeLaws.{found, found_passes}

pub either : (b : Bool) → (b ≡ true) ⊎ (b ≡ false)
either true = inl refl
either false = inr refl

pub before_or_at : (i k : ℕ) → i < suc k → (i < k) ⊎ (i ≡ k)
before_or_at i k h = ⊎_elim (λ e. inl (ltb-true i k e)) (λ e. inr (omega (arith, ltb-false i k e))) (either (ltb i k))

-- a step sets another value just where it writes one
pub sets_writes : (a : Action) (f : Fact) → sets_other a f ≡ true → WritesOther a f
unfolding sets_other
sets_writes a f h =
    let (g, w, passes) = found_passes (other_value f) (written_always a) h in
    let (variable, value) = (and-eq-true_iff (eqb g.variable f.variable) (not (eqb g.value f.value))).0 passes in
    (g, w, eqb-true _ _ variable, λ same. false≢true (sym (not-true _ value) ∙ eq-eqb _ _ same))

pub writes_sets : (a : Action) (f : Fact) → WritesOther a f → sets_other a f ≡ true
unfolding sets_other
writes_sets a f (g, w, variable, value) = found (other_value f) w (rw (eq-eqb _ _ variable, unequal (eqb g.value f.value) refl))
  where
    unequal : (b : Bool) → eqb g.value f.value ≡ b → eqb g.value f.value ≡ false
    unequal true e = absurd (value (eqb-true _ _ e))
    unequal false e = e

module _ (q : List Action) (m : Reduction) (f : Fact) where
  -- the numbers of the trace
  abbrev last : ℕ → ℕ
  last j = (trace q m f j).last

  abbrev until : ℕ → ℕ
  until j = (trace q m f j).until

  abbrev supp : ℕ → ℕ
  supp j = (trace q m f j).support

  -- no position from i + 1 on and before j writes the fact
  abbrev Unwritten : ℕ → ℕ → Type 0
  Unwritten i j = (x : ℕ) → i < x → x < j → may_write (step q x) f → ⊥

  module _ (j : ℕ) where
    -- a position writes the fact, or does not
    writer_case : may_write (step q j) f ⊎ (may_write (step q j) f → ⊥)
    writer_case = ⊎_elim (λ e. inl (has_member _ f e)) (λ e. inr (has_no_member _ f e)) (either (has (written (step q j)) f))

    last_here : may_write (step q j) f → last (suc j) ≡ j
    unfolding trace passed
    last_here w = rw (member_has w)

    last_as_before : (may_write (step q j) f → ⊥) → last (suc j) ≡ last j
    unfolding trace passed
    last_as_before w = rw (no_member_has (written (step q j)) f w)

    until_here : (get_or m j false && sets_other (step q j) f) ≡ true → until (suc j) ≡ suc j
    unfolding trace passed
    until_here h = rw h

    until_as_before : (get_or m j false && sets_other (step q j) f) ≡ false → until (suc j) ≡ until j
    unfolding trace passed
    until_as_before h = rw h

    support_here : may_write (step q j) f → supp (suc j) ≡ cond (ltb (last j) (until j)) j 0
    unfolding trace passed
    support_here w = rw (member_has w)

    support_as_before : (may_write (step q j) f → ⊥) → supp (suc j) ≡ supp j
    unfolding trace passed
    support_as_before w = rw (no_member_has (written (step q j)) f w)

  last_below : (j : ℕ) → last j ≤ j
  unfolding trace
  last_below zero = omega arith
  last_below (suc j) = ⊎_elim (λ w. omega (arith, last_here j w)) (λ w. omega (arith, last_as_before j w, last_below j)) (writer_case j)

  -- no position behind i writes the fact: its last writer is not behind i
  last_within : (i k : ℕ) → i < k → Unwritten i k → last k ≤ i
  last_within i zero h u = absurd (omega arith)
  last_within i (suc k) h u =
      ⊎_elim
      (λ before. omega (arith, last_as_before k (u k before (omega arith)), last_within i k before (λ x above below. u x above (omega arith))))
      (λ same. ⊎_elim (λ w. omega (arith, last_here k w)) (λ w. omega (arith, last_as_before k w, last_below k)) (writer_case k))
      (before_or_at i k h)

  -- and a writer is never behind the last one
  last_covers : (x j : ℕ) → x < j → may_write (step q x) f → x ≤ last j
  last_covers x zero h w = absurd (omega arith)
  last_covers x (suc j) h w =
      ⊎_elim
      (λ here. omega (arith, last_here j here))
      (λ none_here.
      ⊎_elim
      (λ before. omega (arith, last_as_before j none_here, last_covers x j before w))
      (λ same. absurd (none_here (rw same at w)))
      (before_or_at x j h))
      (writer_case j)

  -- the last marked position that writes another value, and that there is none behind it
  until_why : (j i : ℕ) → until j ≡ suc i → (i < j) × keeps m i × WritesOther (step q i) f
  unfolding trace
  until_why zero i h = absurd (omega arith)
  until_why (suc j) i h =
      ⊎_elim
      (λ e.
      let same : i ≡ j = omega (arith, until_here j e) in
      let below : j < suc j = omega arith in
      let (marked, other) = (and-eq-true_iff (get_or m j false) (sets_other (step q j) f)).0 e in
      rw same (below, marked, sets_writes (step q j) f other))
      (λ e.
      let (below, marked, other) = until_why j i (sym (until_as_before j e) ∙ h) in
      (omega arith, marked, other))
      (either (get_or m j false && sets_other (step q j) f))

  until_covers : (i j : ℕ) → i < j → keeps m i → WritesOther (step q i) f → suc i ≤ until j
  until_covers i zero h marked other = absurd (omega arith)
  until_covers i (suc j) h marked other =
      ⊎_elim
      (λ e. omega (arith, until_here j e))
      (λ e.
      ⊎_elim
      (λ before. omega (arith, until_as_before j e, until_covers i j before marked other))
      (λ same. absurd (false≢true (sym e ∙ rw (rw same at marked, writes_sets (step q j) f (rw same at other)))))
      (before_or_at i j h))
      (either (get_or m j false && sets_other (step q j) f))

  -- the support of a fact is its last writer, before which it was cleared
  pub record Supports (j k : ℕ) : Type 0 where
    pub before : k < j
    pub writes : may_write (step q k) f
    pub unwritten : Unwritten k j
    pub cleared : last k < until k

  supports_here : (j k : ℕ) → supp (suc j) ≡ k → 0 < k → may_write (step q j) f → Supports (suc j) k
  supports_here j k h some w =
      ⊎_elim
      (λ e.
      let same : k ≡ j = sym h ∙ support_here j w ∙ rw e in
      rw same (record { before = omega arith; writes = w; unwritten = λ x above below. absurd (omega arith); cleared = ltb-true (last j) (until j) e }))
      (λ e. let nothing : k ≡ 0 = sym h ∙ support_here j w ∙ rw e in absurd (omega arith))
      (either (ltb (last j) (until j)))

  supports_further : (j k : ℕ) → (may_write (step q j) f → ⊥) → Supports j k → Supports (suc j) k
  supports_further j k none_here found =
      record { before = omega (arith, found.before); writes = found.writes; unwritten = further; cleared = found.cleared }
    where
      further : Unwritten k (suc j)
      further x above below = ⊎_elim (λ before. found.unwritten x above before) (λ same. rw same none_here) (before_or_at x j below)

  support_why : (j k : ℕ) → supp j ≡ k → 0 < k → Supports j k
  unfolding trace
  support_why zero k h some = absurd (omega arith)
  support_why (suc j) k h some =
      ⊎_elim
      (supports_here j k h some)
      (λ none_here. supports_further j k none_here (support_why j k (sym (support_as_before j none_here) ∙ h) some))
      (writer_case j)

  support_is : (k j : ℕ) → Supports j k → supp j ≡ k
  support_is k zero found = absurd (omega (arith, found.before))
  support_is k (suc j) found =
      ⊎_elim
      (λ before.
      support_as_before j (found.unwritten j before (omega arith))
      ∙ support_is k j (record { before = before; writes = found.writes; unwritten = λ x above below. found.unwritten x above (omega arith); cleared = found.cleared }))
      (λ same.
      let here : may_write (step q j) f = rw same at found.writes in
      let up : ltb (last j) (until j) ≡ true = lt-ltb (last j) (until j) (rw same at found.cleared) in
      support_here j here ∙ rw up (sym same))
      (before_or_at k j found.before)

  -- the step of a link through a marked earlier position is the support of its fact
  pub link_supports : {i k j : ℕ} → keeps m i → Link q i k j f → support q m j f ≡ k
  link_supports {i} {k} {j} marked link =
      support_is k j
      (record {
        before = link.later;
        writes = link.written_here;
        unwritten = λ x above below. link.no_other x (omega (arith, link.earlier)) below (λ same. omega arith);
        cleared =
            omega (
              arith,
              last_within i k link.earlier (λ x above below. link.no_other x above (omega (arith, link.later)) (λ same. omega arith)),
              until_covers i k link.earlier marked link.other_earlier,
            );
      })

  -- and the support of what a position needs, if there is one, has such a link
  pub support_links : (j k : ℕ) → needs (step q j) f → support q m j f ≡ k → 0 < k → (i : ℕ) × keeps m i × Link q i k j f
  support_links j k need is some = by_case (support_why j k is some) (until k) refl
    where
      by_case : Supports j k → (n : ℕ) → until k ≡ n → (i : ℕ) × keeps m i × Link q i k j f
      by_case found zero e = absurd (omega (arith, found.cleared))
      by_case found (suc i) e =
          let (before, marked, other) = until_why k i e in (
            i,
            marked,
            record {
              earlier = before;
              later = found.before;
              needed_later = need;
              written_here = found.writes;
              other_earlier = other;
              no_other = between;
            },
          )
        where
          between : (x : ℕ) → i < x → x < j → x ≢ k → may_write (step q x) f → ⊥
          between x above below other writes =
              ⊎_elim
              (λ h. let early : x ≤ last k = last_covers x k (ltb-true x k h) writes in omega (arith, found.cleared))
              (λ h. found.unwritten x (omega (arith, ltb-false x k h)) below writes)
              (either (ltb x k))
