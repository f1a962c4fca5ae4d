-- `skip_blocks` meets its contract: a block in which no line ends is passed over. Assumes nothing.
use native.Mathlib.Omega.{arith}
use mathlib.Core.Path.{sym, ◌∙◌}
use mathlib.Core.Bool.{false}
use Rattle.fields.proofs.LineLaws.{block_passed, ends_folded}
use Rattle.fields.proofs.lines.skip_blocks.Goals as goal

pub loop-block-preserved : goal.loop-block-preserved
loop-block-preserved c = (
  block_passed 16 _ _ _ c.in-Some.ensures.cases.0 c.in-Some.ensures.cases.1
      (sym (ends_folded false c.in-Some.block.now) ∙ sym c.ends_within.ensures ∙ c.if-ends_within.false)
      ∙ c.loop-block.invariant.0,
  omega (arith, c.in-Some.ensures.cases.2, c.loop-block.invariant.1),
)
