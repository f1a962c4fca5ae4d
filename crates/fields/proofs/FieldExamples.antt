-- What some lines of numbers are, computed from the definitions. Assumes nothing.
use mathlib.Core.Path.{◌≡◌, refl}
use mathlib.Core.Bool.{true, false}
use mathlib.Core.List.{[], ◌∷◌}
use Rattle.ascii.specs.Bytes.{ascii, split, all_digits, decimal_from}
use Rattle.fields.specs.Between.Numbers.{most_number, any_value}
use Rattle.fields.specs.Between.Fields.{same, is_number, number, word_reads, word_number, all_read, line_reads, line_numbers}

-- lines of numbers, −1 among them, and a number above every limit of a sheet
pub numbers_read : ((line_reads (ascii "0") ≡ true) × (line_numbers (ascii "0") ≡ 0 ∷ []))
    × ((line_reads (ascii "-1") ≡ true) × (line_numbers (ascii "-1") ≡ any_value ∷ []))
    × ((line_reads (ascii "12 -1 345") ≡ true) × (line_numbers (ascii "12 -1 345") ≡ 12 ∷ any_value ∷ 345 ∷ []))
    × ((line_reads (ascii "123456789012345678901234567890") ≡ true) × (line_numbers (ascii "123456789012345678901234567890") ≡ most_number ∷ []))
unfolding split same all_digits decimal_from is_number number word_reads word_number all_read
numbers_read = ((refl, refl), (refl, refl), (refl, refl), (refl, refl))

-- a needless zero, −0, another number below zero, two spaces, a space at the beginning and at the end, and nothing at all
pub no_numbers_read : (line_reads (ascii "01") ≡ false)
    × (line_reads (ascii "-0") ≡ false)
    × (line_reads (ascii "-2") ≡ false)
    × (line_reads (ascii "1  2") ≡ false)
    × (line_reads (ascii " 1") ≡ false)
    × (line_reads (ascii "1 ") ≡ false)
    × (line_reads (ascii "") ≡ false)
unfolding split same all_digits is_number word_reads all_read
no_numbers_read = (refl, refl, refl, refl, refl, refl, refl)
