-- `repeat` meets its contract. The loop's invariant: going on with the lines that are left finds what going on with all of them found, with the tape that
-- was there where each call of the step keeps it. Assumes nothing.
use Rattle.form.proofs.ReadsLaws.{passed_on_found, repeats_more_found, repeats_stopped_found, repeats_over_found, passed_on, repeats_more, repeats_stopped, repeats_over}
use Rattle.form.proofs.reader.Reader.repeat.Goals as goal

pub loop-preserved : goal.loop-preserved
loop-preserved g c = (
  λ ds always. repeats_more_found _ _ _ (c.loop.invariant.0 ds always) c.loop-test.true (always.each _ _ _ c.in_ok-step.ensures),
  λ ds always. repeats_more _ _ _ (c.loop.invariant.1 ds always) c.loop-test.true (always.each _ _ _ c.in_ok-step.ensures),
)

pub returns-in_err-step-clause-finds : goal.returns-in_err-step-clause-finds
returns-in_err-step-clause-finds g c =
    λ ds always.
    passed_on_found c.from_residual.ensures.1 (repeats_stopped_found _ _ _ (c.loop.invariant.0 ds always) c.loop-test.true (always.each _ _ _ c.in_err-step.ensures))

pub returns-in_err-step-clause-reads : goal.returns-in_err-step-clause-reads
returns-in_err-step-clause-reads g c =
    λ ds always.
    passed_on c.from_residual.ensures.1 (repeats_stopped _ _ _ (c.loop.invariant.1 ds always) c.loop-test.true (always.each _ _ _ c.in_err-step.ensures))

pub returns-clause-finds : goal.returns-clause-finds
returns-clause-finds g c = λ ds always. repeats_over_found _ _ _ (c.loop.invariant.0 ds always) c.loop-test.false

pub returns-clause-reads : goal.returns-clause-reads
returns-clause-reads g c = λ ds always. repeats_over _ _ _ (c.loop.invariant.1 ds always) c.loop-test.false
