-- What an elimination leaves of a valid list: what its written rule leaves, and nothing else; and as flags of a list that can be read, a reduction of the list,
-- and its tally. Assumes nothing.
use Prim.Native.Nat.{ℕ}
use mathlib.Core.Path.{◌≡◌, refl, ◌∙◌}
use mathlib.Core.Bool.{true}
use mathlib.Core.List.{List}
use lib.ListN.{length, length-map}
use Rattle.tally.specs.declared.Tally.{Tally}
use Rattle.sheet.specs.Decode.{initial, goal, action}
use Rattle.plan.specs.Valid.{steps}
use Rattle.plan.specs.Readable.{Readable}
use Rattle.plan.specs.Checked.{Answer}
use Rattle.reduction.specs.Reduction.{Reduction, valid, ValidReduction}
use Rattle.reduction.proofs.ReductionLaws.{kept_length}
use Rattle.reduction.proofs.trials.EliminationTheorem.{eliminate_shortens, greedy_shortens, elimination_in_words, greedy_in_words}
use Rattle.reduced.specs.Reduced.{tally_left, Reduces}
use Rattle.reduced.specs.Between.Held.{mask, flags_of, Leaves}
use Rattle.reduced.specs.Between.Tallied.{tallied}
use Rattle.reduced.proofs.HeldLaws.{leaves}
use Rattle.reduced.proofs.LodgedLaws.{lodged_valid}
use Rattle.reduced.proofs.TalliedLaws.{plainly}
use Rattle.elimination.specs.declared.single.Elimination.{Elimination}
use Rattle.elimination.specs.declared.single.Elimination.TheVariants.{Plain, Greedy}
use Rattle.elimination.specs.Eliminations.{RuleLeaves, Eliminates}
use Rattle.elimination.specs.Between.Left.{left_by}

pub rule_leaves : (w l : List ℕ) → valid (initial w) (goal w) (steps w l) ≡ true → (by : Elimination) → RuleLeaves by w l (left_by by w l)
rule_leaves w l valid_list Plain = elimination_in_words (initial w) (goal w) (steps w l) valid_list
rule_leaves w l valid_list Greedy = greedy_in_words (initial w) (goal w) (steps w l) valid_list

-- what is computed is what the service may answer
pub eliminates_so : (by : Elimination) (w l before : List ℕ) (given : Answer) (words after : List ℕ) → Reduces w l (left_by by w l) before given words after
    → Eliminates by w l before given words after
eliminates_so by w l before given words after reduces =
    record { left = left_by by w l; is_left = λ passed. (rule_leaves w l (lodged_valid _ w l passed) by (left_by by w l)).0 refl; told = reduces }

module _ (w l : List ℕ) (readable : Readable w l) (valid_list : valid (initial w) (goal w) (steps w l) ≡ true) where
  pub left_valid : (by : Elimination) → ValidReduction (initial w) (goal w) (steps w l) (left_by by w l)
  left_valid Plain = (eliminate_shortens (initial w) (goal w) (steps w l) valid_list).reduction
  left_valid Greedy = (greedy_shortens (initial w) (goal w) (steps w l) valid_list).reduction

  pub left_fits : (by : Elimination) → length (left_by by w l) ≡ length (steps w l)
  left_fits by = (left_valid by).fits

  pub left_leaves : (by : Elimination) (flags : Reduction) → flags ≡ flags_of l (left_by by w l) → Leaves l (left_by by w l) flags
  left_leaves by flags is = leaves w l (left_by by w l) (left_by by w l) flags (left_fits by) refl is

  -- the tally that is counted of what an elimination leaves
  pub counted_left : (by : Elimination) (flags : Reduction) (t : Tally) → flags ≡ flags_of l (left_by by w l) → t ≡ tallied w l (mask l flags)
      → t ≡ tally_left w l (left_by by w l)
  counted_left by flags t is counted =
      let left : Leaves l (left_by by w l) flags = left_leaves by flags is in
      let fits : length (left_by by w l) ≡ length l = left_fits by ∙ length-map l (action w) in
      counted ∙ rw (left.same, plainly w l (left_by by w l) readable fits, kept_length (left_by by w l) l fits)
