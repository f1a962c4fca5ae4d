-- `read` meets its contract, by how the reading ends. Assumes nothing.
use Rattle.std.proofs.Common.{refl, rules}
use Rattle.program.proofs.PrintedLaws.{read_nothing, read_enough, read_short}
use Rattle.program.proofs.input.read.Goals as goal

pub returns-then-bytes-further : goal.returns-then-bytes-further
returns-then-bytes-further g c = read_nothing _ _ _

pub returns-then-want-have : goal.returns-then-want-have
returns-then-want-have g c = read_enough _ _ _ _ _ c.loop-have.invariant c.bytes_to_read-want.ensures.0 c.if-want-have.true

pub returns-then-have-want : goal.returns-then-have-want
returns-then-have-want g c =
    read_short _ _ _ _ _ c.loop-have.invariant c.bytes_to_read-want.ensures.0 _ _ _ refl (search rules) c.if-have-want.true
