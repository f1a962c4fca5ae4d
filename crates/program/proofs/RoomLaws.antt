-- How long a line of numbers of 64 bits is: each has no more than 20 digits. Assumes nothing.
use Prim.Native.Nat.{ℕ, suc, ◌*◌, ◌^◌, ◌≤◌, ◌<◌}
use native.Mathlib.Omega.{arith}
use mathlib.Core.List.{List, [], ◌∷◌}
use lib.ListN.{length, get_or, length-append}
use lib.Dec.{lit≤}
use Rattle.lines.specs.Lines.{numeral, spaced}
use Rattle.lines.proofs.NumeralLaws.{numeral_length}
use Rattle.program.specs.Between.Room.{word_room, ShortLine}

pub numeral_fits : (x : ℕ) → x < 2 ^ 64 → length (numeral x) ≤ word_room
numeral_fits x h = numeral_length word_room x (omega (arith, h)) (lit≤ tt)

-- numbers, each behind a space
spaced_length : (numbers : List ℕ) → ((i : ℕ) → get_or numbers i 0 < 2 ^ 64) → length (spaced numbers) ≤ 21 * length numbers
unfolding spaced
spaced_length [] small = omega arith
spaced_length (x ∷ xs) small =
    let others = spaced_length xs (λ i. small (suc i)) in
    let long = length-append (numeral x) (spaced xs) in
    omega (arith, numeral_fits x (small 0), long, others)

-- so a line of no more than two has room in a line
pub line_fits : (word numbers : List ℕ) → ((i : ℕ) → get_or numbers i 0 < 2 ^ 64) → length numbers ≤ 2 → ShortLine word numbers
line_fits word numbers small few short = rw (length-append, length-append) (omega (arith, spaced_length numbers small))
