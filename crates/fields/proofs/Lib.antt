-- ClassLaws: what a byte is by its class, as the code tells it.
pub mod ClassLaws
-- LineLaws: what stands behind a line.
pub mod LineLaws
-- DigitLaws: the digits in front of bytes, and their number.
pub mod DigitLaws
-- WordLaws: the first word of what is left of a line.
pub mod WordLaws
-- NumberLaws: a line of numbers, word by word.
pub mod NumberLaws
-- ClassTheorem: a line of numbers holds digits, minuses and spaces and nothing else.
pub mod ClassTheorem
-- FieldExamples: some lines of numbers, computed.
pub mod FieldExamples
