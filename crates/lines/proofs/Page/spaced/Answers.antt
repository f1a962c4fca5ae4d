-- `spaced` meets its contract. The loop's invariant: the numbers passed are put, each behind a space. Assumes nothing.
use native.Mathlib.Numerals.{add-one}
use lib.ListN.{take}
use lib.Seq.{take-suc}
use mathlib.Core.List.{[], ◌∷◌, ◌++◌}
use Rattle.std.proofs.lemmas.Slice.Zip.{all_zipped_more}
use Rattle.lines.specs.Lines.{spaced}
use Rattle.lines.proofs.PutsLaws.{puts_nothing, spaced_put}
use Rattle.lines.proofs.Page.spaced.Goals as goal

pub loop-number-init : goal.loop-number-init
unfolding spaced
loop-number-init g c = ([], tt, puts_nothing _)

pub loop-number-preserved : goal.loop-number-preserved
loop-number-preserved g c =
    let (xs, zipped, puts) = c.loop-number.invariant in
    let numbers = c.args.numbers.now in
    let i = c.loop-number.number-index in
    let one_more = take-suc numbers i c.number-item.result c.loop-number-test.true in
    (xs ++ (c.into.result ∷ []), rw (add-one i, one_more, ← c.number-item.is) (all_zipped_more _ (take i numbers) xs _ _ zipped c.into.ensures), spaced_put xs _ puts c.text.ensures c.number.ensures)
