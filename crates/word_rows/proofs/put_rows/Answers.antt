-- `put_rows` meets its contract. The loop's invariant: what is put, and the lines of the words left, are the lines of all words. Assumes nothing.
use native.Mathlib.Omega.{arith}
use mathlib.Core.Path.{sym, ◌∙◌, ap}
use mathlib.Core.List.{[], ◌++◌, append-nil}
use Rattle.std.specs.Slice.Iter.{chunks_rest}
use Rattle.lines.specs.Lines.{line}
use Rattle.lines.proofs.PutsLaws.{puts_as, puts_both, of_same}
use Rattle.word_rows.proofs.RowLaws.{rows_nothing, row_put}
use Rattle.word_rows.proofs.put_rows.Goals as goal

pub loop-row-preserved : goal.loop-row-preserved
loop-row-preserved c =
    let (done, ten, puts, all) = c.loop-row.invariant in
    let row = c.in-Some.row.now in
    let left = chunks_rest c.next.new.self in
    let (size, (parts, long, some_there)) = c.in-Some.ensures.steps in (
      done ++ line [] row,
      size ∙ ten,
      puts_both puts (of_same {t = line []} c.end_line.ensures),
      row_put row left (rw parts at some_there) (rw (ten, parts) at long) done _ (rw parts at all),
    )

pub returns : goal.returns
returns c =
    let (done, ten, puts, all) = c.loop-row.invariant in
    let (size, (none_there, stays)) = c.in-None.ensures.steps in
    puts_as (sym (append-nil done) ∙ ap (λ t. done ++ t) (sym (rows_nothing _ (omega (arith, none_there)))) ∙ all) puts
