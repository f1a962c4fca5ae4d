-- `check_room` meets its contract: the check fires, or not. Assumes nothing.
use Rattle.reduced.specs.Reduced.{room_checks}
use Rattle.refusal.proofs.CheckLaws.{answer_fires, answer_passes, answer_nothing}
use borrow.Author.Tests.{lt-ltb, le-ltb}
use mathlib.Core.Path.{sym, ◌∙◌}
use Rattle.reduced.proofs.room.check_room.Goals as goal

pub returns-then-room-steps : goal.returns-then-room-steps
unfolding room_checks
returns-then-room-steps c = sym (answer_fires _ _ _ (rw (lt-ltb _ _ c.if-room-steps.true)))

pub returns : goal.returns
unfolding room_checks
returns c = sym (answer_passes _ _ (rw (le-ltb _ _ c.if-room-steps.false)) ∙ answer_nothing)
