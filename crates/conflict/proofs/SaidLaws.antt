-- A table in which facts are noted denies a fact just where one of them differs from it, so that three assignments contradict each other where the table of
-- the first denies the second, or that of both the third. By what `assign` does to a table. Assumes nothing.
use Prim.Native.Nat.{◌<◌}
use native.Mathlib.Omega.{arith}
use mathlib.Core.Path.{◌≡◌, refl, sym, ◌∙◌, ap}
use mathlib.Core.Logic.{⊎_elim}
use mathlib.Core.Bool.{Bool, true, false, true≢false, not, and-eq-true_iff}
use mathlib.Core.List.Memᴰ
use mathlib.Core.List.{[], ◌∷◌, ◌++◌, append_assoc, Memᴰ}
use lib.ListN.{length, get_or, length-replicate, get_or-replicate}
use lib.Dec.{eqb}
use borrow.Author.Tests.{eqb-false, ne_eqb, not-true}
use Rattle.sas.specs.Task.{Fact, Assignment, State}
use Rattle.sas.specs.Plan.{holds, assign}
use Rattle.sas.specs.Conflict.{some_of, differ, contradictory}
use Rattle.sas.specs.Between.WellFormed.{Agreeing}
use Rattle.sas.proofs.FactLaws.{holds_value, holds_there}
use Rattle.sas.proofs.SomeLaws.{found, found_passes}
use Rattle.sas.proofs.AssignLaws.{assign_length, assigned_or_held, assigned_holds}
use Rattle.sheet.specs.Limits.{limits}
use Rattle.conflict.specs.Between.Table.{unsaid, blank, denies}
use Rattle.conflict.proofs.DifferLaws.{differ_parts, differ_there, contradicted, agreeing_not, joined_agrees}

-- an assignment that a table can hold: its facts agree, of variables that a table has, at values
pub record Holdable (q : Assignment) : Type 0 where
  pub agree : Agreeing q
  pub variable : (f : Fact) → Memᴰ f q → f.variable < limits.variables
  pub value : (f : Fact) → Memᴰ f q → f.value < limits.values

-- the table of an assignment
abbrev pub table_of : Assignment → State
table_of q = assign blank q

table_length_of : (q : Assignment) → length (table_of q) ≡ limits.variables
table_length_of q = assign_length blank q ∙ length-replicate limits.variables unsaid

-- what it denies differs from a fact that was noted
denied_why : (q : Assignment) (f : Fact) → f.variable < limits.variables → denies (table_of q) f ≡ true → (g : Fact) × Memᴰ g q × (differ f g ≡ true)
unfolding denies
denied_why q f below h =
    let (some, other) = (and-eq-true_iff (not (eqb (get_or (table_of q) f.variable 0) unsaid)) (not (eqb (get_or (table_of q) f.variable 0) f.value))).0 h in
    let g : Fact = record { variable = f.variable; value = get_or (table_of q) f.variable 0 } in
    let there : holds (table_of q) g ≡ true = holds_there (table_of q) g (rw table_length_of below) refl in
    let apart : differ f g ≡ true = differ_there f g refl (λ e. eqb-false _ _ (not-true _ other) (sym e)) in
    ⊎_elim
    (λ m. (g, m, apart))
    (λ held. absurd (eqb-false _ _ (not-true _ some) (sym (holds_value blank g held) ∙ get_or-replicate limits.variables f.variable unsaid 0 below)))
    (assigned_or_held blank q g there)

-- and what differs from a fact that was noted is denied
denied_by : {g : Fact} (q : Assignment) (f : Fact) → Holdable q → Memᴰ g q → differ f g ≡ true → denies (table_of q) f ≡ true
unfolding denies
denied_by {g} q f holdable m h =
    let (same, other) = differ_parts f g h in
    let inside : g.variable < length blank = rw (length-replicate limits.variables unsaid) (holdable.variable g m) in
    let said : get_or (table_of q) f.variable 0 ≡ g.value = ap (λ v. get_or (table_of q) v 0) same ∙ holds_value (table_of q) g (assigned_holds blank holdable.agree m inside) in
    let small : g.value < unsaid = holdable.value g m in
    rw (said, ne_eqb g.value unsaid (λ e. omega arith), ne_eqb g.value f.value (λ e. other (sym e)))

-- facts are noted one list behind the other
noted_both : (t : State) (p q : Assignment) → assign (assign t p) q ≡ assign t (p ++ q)
unfolding assign
noted_both t [] q = refl
noted_both t (f ∷ p) q = noted_both _ p q

module _ (p q : Assignment) (first : Holdable p) (second : Holdable q) where
  -- where a fact of q is denied, two facts among any that have both lists contradict each other
  pub denied_contradicts : (r : Assignment) → ((f : Fact) → Memᴰ f p → Memᴰ f r) → ((f : Fact) → Memᴰ f q → Memᴰ f r)
      → some_of (denies (table_of p)) q ≡ true → contradictory r ≡ true
  denied_contradicts r has_p has_q h =
      let (f, m, denied) = found_passes (denies (table_of p)) q h in
      let (g, n, apart) = denied_why p f (second.variable f m) denied in
      contradicted r (has_q f m) (has_p g n) apart

  -- where none is, a table can hold both
  pub joined_holdable : some_of (denies (table_of p)) q ≡ false → Holdable (p ++ q)
  joined_holdable none =
      record {
        agree = joined_agrees p q first.agree second.agree (λ f g m n. between f g m n (differ f g) refl);
        variable = λ f m. ⊎_elim (first.variable f) (second.variable f) (Memᴰ.append_cases p m);
        value = λ f m. ⊎_elim (first.value f) (second.value f) (Memᴰ.append_cases p m);
      }
    where
      between : (f g : Fact) → Memᴰ f q → Memᴰ g p → (b : Bool) → differ f g ≡ b → b ≡ false
      between f g m n true apart = absurd (true≢false (sym (found (denies (table_of p)) m (denied_by p f first n apart)) ∙ none))
      between f g m n false apart = refl

module _ (q c d : Assignment) (first : Holdable q) (second : Holdable c) where
  -- the table of the first denies the second
  pub denied_at_once : some_of (denies (table_of q)) c ≡ true → contradictory (q ++ (c ++ d)) ≡ true
  denied_at_once = denied_contradicts q c first second (q ++ (c ++ d)) (λ f m. Memᴰ.append_left (c ++ d) m) (λ f m. Memᴰ.append_right q (Memᴰ.append_left d m))

  -- or does not: then that of both tells
  pub told_by_both : Holdable d → some_of (denies (table_of q)) c ≡ false → contradictory (q ++ (c ++ d)) ≡ some_of (denies (assign (table_of q) c)) d
  told_by_both third none = by_case (some_of (denies (table_of (q ++ c))) d) refl ∙ ap (λ t. some_of (denies t) d) (sym (noted_both blank q c))
    where
      both : Holdable (q ++ c)
      both = joined_holdable q c first second none

      by_case : (b : Bool) → some_of (denies (table_of (q ++ c))) d ≡ b → contradictory (q ++ (c ++ d)) ≡ some_of (denies (table_of (q ++ c))) d
      by_case true h =
          rw (← append_assoc q c d)
          (denied_contradicts (q ++ c) d both third ((q ++ c) ++ d) (λ f m. Memᴰ.append_left d m) (λ f m. Memᴰ.append_right (q ++ c) m) h ∙ sym h)
      by_case false h = rw (← append_assoc q c d) (agreeing_not _ (joined_holdable (q ++ c) d both third h).agree ∙ sym h)
