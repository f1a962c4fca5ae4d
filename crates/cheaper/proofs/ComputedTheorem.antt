-- What the service of both eliminations answers is what is computed: each leaves what its rule leaves, and nothing else. Assumes nothing.
use Prim.Native.Nat.{ℕ}
use mathlib.Core.Path.{◌≡◌, refl, sym, ◌∙◌, ap}
use mathlib.Core.Option.{Option, none, some}
use mathlib.Core.List.{List}
use Rattle.refusal.specs.Refusal.{Verdict}
use Rattle.refusal.specs.Refusal.{Told, told}
use Rattle.refusal.specs.Check.{unless_refused}
use Rattle.tally.specs.declared.Tally.{Tally}
use Rattle.tally.specs.Tally.{nothing}
use Rattle.reduction.specs.Reduction.{Reduction}
use Rattle.reduced.specs.Reduced.{tally_left, output_left}
use Rattle.reduced.proofs.LodgedLaws.{lodged_valid}
use Rattle.elimination.specs.declared.single.Elimination.{Elimination}
use Rattle.elimination.specs.declared.single.Elimination.TheVariants.{Plain, Greedy}
use Rattle.elimination.specs.Eliminations.{RuleLeaves}
use Rattle.elimination.specs.Between.Left.{left_by}
use Rattle.elimination.proofs.LeavesLaws.{rule_leaves}
use Rattle.cheaper.specs.Cheaper.{LeftWith, ReducesBoth}
use Rattle.cheaper.specs.Between.Computed.{ReducesBothOf}

-- on a refusal the reduction does not matter
same_left : {A : Type 0} (t : Option Told) (m n : Reduction) (f : Reduction → A) (x z : A) → (t ≡ none → m ≡ n) → x ≡ unless_refused t (f m) z
    → x ≡ unless_refused t (f n) z
same_left none m n f x z same is = is ∙ ap f (same refl)
same_left (some t) m n f x z same is = is

-- what one of the two leaves, where its rule leaves what is computed
module _ (t : Option Told) (by : Elimination) (w l before : List ℕ) (tally : Tally) (after : List ℕ) (rule : t ≡ none → RuleLeaves by w l (left_by by w l)) where
  left_so : tally ≡ unless_refused t (tally_left w l (left_by by w l)) nothing → after ≡ unless_refused t (output_left l (left_by by w l) before) before
      → LeftWith t by w l before tally after
  left_so counted written = record { left = left_by by w l; is_left = λ passed. (rule passed (left_by by w l)).0 refl; told = (counted, written) }

  left_of : LeftWith t by w l before tally after
      → (tally ≡ unless_refused t (tally_left w l (left_by by w l)) nothing) × (after ≡ unless_refused t (output_left l (left_by by w l) before) before)
  left_of left =
      let same : t ≡ none → left.left ≡ left_by by w l = λ passed. (rule passed left.left).1 (left.is_left passed) in (
        same_left t left.left (left_by by w l) (tally_left w l) tally nothing same left.told.0,
        same_left t left.left (left_by by w l) (λ m. output_left l m before) after before same left.told.1,
      )

module _ (w l before before' : List ℕ) (v : Verdict) (first second : Tally) (after after' : List ℕ) where
  pub both_so : ReducesBothOf w l before before' v first second after after' → ReducesBoth w l before before' v first second after after'
  both_so computed =
      let rule : told v ≡ none → (by : Elimination) → RuleLeaves by w l (left_by by w l) =
      λ passed. rule_leaves w l (lodged_valid _ w l (sym computed.refusal ∙ passed)) in
      record {
        refusal = computed.refusal;
        elimination = left_so (told v) Plain w l before first after (λ passed. rule passed Plain) computed.first_tally computed.first_output;
        greedy = left_so (told v) Greedy w l before' second after' (λ passed. rule passed Greedy) computed.second_tally computed.second_output;
      }

  pub both_of : ReducesBoth w l before before' v first second after after' → ReducesBothOf w l before before' v first second after after'
  both_of both =
      let rule : told v ≡ none → (by : Elimination) → RuleLeaves by w l (left_by by w l) =
      λ passed. rule_leaves w l (lodged_valid _ w l (sym both.refusal ∙ passed)) in
      let (first_tally, first_output) = left_of (told v) Plain w l before first after (λ passed. rule passed Plain) both.elimination in
      let (second_tally, second_output) = left_of (told v) Greedy w l before' second after' (λ passed. rule passed Greedy) both.greedy in
      record {
        refusal = both.refusal;
        first_tally = first_tally;
        second_tally = second_tally;
        first_output = first_output;
        second_output = second_output;
      }
