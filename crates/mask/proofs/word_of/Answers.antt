-- `word_of` meets its contract. The loop's invariant: the word so far is that of the flags from i on; each turn puts one flag below them. Assumes nothing.
use mathlib.Core.Path.{ap, sym, ◌∙◌}
use Rattle.mask.specs.Mask.{digit}
use native.Mathlib.Omega.{arith}
use Rattle.mask.proofs.MaskLaws.{upper_none, upper_next, upper_fits, upper_whole, digit_told}
use Rattle.mask.proofs.word_of.Goals as goal

pub loop-i-init : goal.loop-i-init
loop-i-init c = (omega arith, sym (upper_none _ _))

pub overflow_mul-word : goal.overflow_mul-word
overflow_mul-word c =
    let args = c.args in
    omega (arith, upper_fits args.flags.now args.from c.loop-i.i c.loop-i-test.true c.loop-i.invariant.0)

pub overflow_add-word : goal.overflow_add-word
overflow_add-word c =
    let args = c.args in
    omega (arith, c.from.ensures ∙ digit_told c.get_or.result ∙ ap digit c.get_or.ensures, upper_fits args.flags.now args.from c.loop-i.i c.loop-i-test.true c.loop-i.invariant.0)

pub loop-i-preserved : goal.loop-i-preserved
loop-i-preserved c = (omega arith, cc (upper_next _ _ _ c.loop-i-test.true c.loop-i.invariant.0, c.from.ensures, c.get_or.ensures))

pub returns : goal.returns
returns c = c.loop-i.invariant.1 ∙ upper_whole _ _ _ c.loop-i-test.false
