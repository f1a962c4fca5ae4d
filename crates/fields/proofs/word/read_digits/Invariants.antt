-- `read_digits` meets its contract. The loop's invariant: the digits left lead to what all lead to. The measure is the number of bytes left. Assumes nothing.
use lib.ListN.{length}
use Rattle.fields.specs.Between.Reading.{DigitsLeft}
use Rattle.fields.proofs.word.read_digits.Given as goal

abbrev pub invariant-loop-digit : goal.invariant-loop-digit
invariant-loop-digit l = DigitsLeft l.bytes l.value l.rest

abbrev pub decreases-loop-digit : goal.decreases-loop-digit
decreases-loop-digit l = length l.rest
