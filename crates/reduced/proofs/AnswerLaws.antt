-- What is told and written of a reduction, and with it what a service answers, refused or not. The mask tells the reduction by the laws of masks, and
-- the tally is plain by those of tallies. Assumes nothing.
use Rattle.std.specs.Prelude.{Err, Ok}
use Prim.Native.Nat.{ℕ, ◌≤◌}
use native.Mathlib.Omega.{arith}
use mathlib.Core.Path.{◌≡◌, refl, sym, ◌∙◌, ap, subst}
use mathlib.Core.Option.{Option, none, some}
use mathlib.Core.List.{List}
use lib.ListN.{length, replicate}
use Rattle.refusal.specs.declared.Refusal.{Refusal}
use Rattle.refusal.specs.Refusal.{Told}
use Rattle.tally.specs.declared.Tally.{Tally}
use Rattle.tally.proofs.TallyLaws.{same_tally}
use Rattle.plan.specs.Checked.{Answer}
use Rattle.plan.specs.Checked.{told_answer}
use Rattle.reduction.specs.Reduction.{Reduction}
use Rattle.mask.specs.Mask.{mask_length, mask_bits}
use Rattle.mask.proofs.MaskTheorem.{ones_are_kept, mask_keeps}
use Rattle.reduced.specs.Reduced.{Answers}
use Rattle.reduced.specs.Between.Kept.{Keeps, Finishes}
use Rattle.reduced.proofs.TalliedLaws.{plainly}
use Rattle.plan.specs.Readable.{Readable}

-- what is computed is by the rules where the list can be read and the flags are a reduction of it
pub keeps : (w l : List ℕ) (m : Reduction) (before after words : List ℕ) (tally : Tally) → Readable w l → length m ≡ length l
    → Finishes w l m before tally words after → Keeps w l m before tally words after
keeps w l m before after words tally readable fits x =
    let few : length m ≤ mask_bits = omega (arith, readable.few) in
    record {
      counted = same_tally _ _ (x.costs ∙ ap (λ t. t.cost) (plainly w l m readable fits)) (x.steps ∙ rw x.told_by (ones_are_kept m few));
      told_by = x.told_by;
      written = x.written ∙ rw (x.told_by, mask_keeps m l few fits);
    }

-- of a refusal the reduction does not matter
pub answers_same : (t : Option Told) (w l : List ℕ) (m n : Reduction) (before : List ℕ) (given : Answer) (mask after : List ℕ) → (t ≡ none → m ≡ n)
    → Answers t w l m before given mask after → Answers t w l n before given mask after
answers_same none w l m n before given mask after same answers = subst (λ k. Answers none w l k before given mask after) (same refl) answers
answers_same (some r) w l m n before given mask after same answers =
    record { refusal = answers.refusal; tally = answers.tally; told_by = answers.told_by; output = answers.output }

module _ (t : Option Told) (w l : List ℕ) (m : Reduction) (before : List ℕ) (given : Answer) (checked : told_answer given ≡ t) where
  -- a service refuses, with zeros, and touches nothing
  pub answers_refused : (r : Refusal) → given ≡ Err r → Answers t w l m before (Err r) (replicate mask_length 0) before
  answers_refused r refuses =
      let refused : told_answer (Err r) ≡ t = sym (ap told_answer refuses) ∙ checked in
      record { refusal = refused; tally = rw (← refused); told_by = rw (← refused); output = rw (← refused) }

  -- or hands on what is told and written of its reduction
  pub answers_kept : (lodged : Tally) (left : Reduction) (after words : List ℕ) (tally : Tally) → given ≡ Ok lodged → left ≡ m → Keeps w l left before tally words after
      → Answers t w l m before (Ok tally) words after
  answers_kept lodged left after words tally passes same keeps =
      let passed : none ≡ t = sym (ap told_answer passes) ∙ checked in
      record {
        refusal = passed;
        tally = rw (← passed, ← same) keeps.counted;
        told_by = rw (← passed, ← same) keeps.told_by;
        output = rw (← passed, ← same) keeps.written;
      }
