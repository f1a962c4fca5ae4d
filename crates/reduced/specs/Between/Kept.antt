-- What is told and written of the reduction m of the plan l, by the rules and as it is computed. Assumes nothing.
use Rattle.std.specs.Prelude.{ℕ, ◌≡◌, List}
use Rattle.std.proofs.lemmas.List.Edits.{sets}
use Rattle.tally.specs.declared.Tally.{Tally}
use Rattle.reduction.specs.Reduction.{Reduction}
use Rattle.mask.specs.Mask.{mask_words, ones_of}
use Rattle.mask.specs.Between.Places.{kept_by_words}
use Rattle.reduced.specs.Reduced.{tally_left, output_left}
use Rattle.reduced.specs.Between.Tallied.{tallied}

-- by the rules
pub record Keeps (w l : List ℕ) (m : Reduction) (before : List ℕ) (tally : Tally) (mask after : List ℕ) : Type 0 where
  pub counted : tally ≡ tally_left w l m
  pub told_by : mask ≡ mask_words m
  pub written : after ≡ output_left l m before

-- as it is computed of any flags: the cost as it is counted, the ones of the mask as the steps, and over the output the
-- plan's words at those ones
pub record Finishes (w l : List ℕ) (m : Reduction) (before : List ℕ)
    (tally : Tally) (mask after : List ℕ) : Type 0 where
  pub costs : tally.cost ≡ (tallied w l m).cost
  pub steps : tally.steps ≡ ones_of mask
  pub told_by : mask ≡ mask_words m
  pub written : after ≡ sets before 0 (kept_by_words mask l)
