-- `write_kept` meets its contract. The loop's invariant: with the words that are left still to be written out, the output is that of all words. Assumes nothing.
use Prim.Native.Nat.{◌*◌, ◌<◌}
use native.Mathlib.Nat.{zero-add}
use native.Mathlib.Omega.{arith}
use mathlib.Core.Path.{◌≡◌, refl, ap, ◌∙◌}
use mathlib.Core.List.{[]}
use lib.ListN.{length, get_or}
use lib.Seq.{sets}
use Rattle.mask.specs.Mask.{word_bits}
use Rattle.access.proofs.OnesLaws.{ones_at_few}
use Rattle.mask.proofs.LengthLaws.{words_length}
use Rattle.mask.proofs.WriteLaws.{places_left, left_whole, left_length, left_none, word_passed, word_stored}
use Rattle.mask.proofs.write_kept.Goals as goal

pub loop-k-init : goal.loop-k-init
loop-k-init c =
    let start = c in
    let words = start.args.mask.words in
    let plan = start.args.plan.now in (
      ap (sets start.args.out.now 0) (left_whole words plan),
      zero-add _ ∙ left_length words plan,
      omega arith,
      omega arith,
      words_length start.args.mask _ start.well_formed.0,
      refl,
    )

pub loop-k-preserved : goal.loop-k-preserved
loop-k-preserved c =
    let args = c.args in
    let words = args.mask.words in
    let here = c.loop-k in
    let more : here.k < length words = omega (arith, c.loop-k-test.true, here.invariant.4) in
    let word = c.write_word-to in (
      cc (word_stored words here.k more here.to args.plan.now here.out, word.ensures.0, word.ensures.1, here.invariant.0),
      cc (word_passed words here.k more here.to, word.ensures.1, here.invariant.1),
      omega (arith, word.ensures.1, ones_at_few (here.k * word_bits) word_bits (get_or words here.k 0), here.invariant.2),
      omega (arith, c.loop-k-test.true),
      here.invariant.4,
      word.auto.out ∙ here.invariant.5,
    )

pub returns : goal.returns
returns c =
    let args = c.args in
    let here = c.loop-k in
    let none : places_left args.mask.words here.k ≡ [] = left_none args.mask.words here.k (omega (arith, c.loop-k-test.false, here.invariant.4)) in (
      rw none at here.invariant.0,
      omega (arith, ap length none, here.invariant.1),
    )
