-- `read_run` meets its contract. The loop's invariant: so many numbers are read, and what is behind them leads to what all leads to. Assumes nothing.
use mathlib.Core.Path.{◌≡◌}
use lib.ListN.{length}
use Rattle.text_effects.specs.Between.Runs.{HasRun}
use Rattle.text_effects.proofs.effects.read_run.Given as goal

abbrev pub invariant-loop-k : goal.invariant-loop-k
invariant-loop-k l = HasRun l.bytes l.initial.tape l.from l.k l.rest l.tape × (length l.tape ≡ length l.initial.tape)
