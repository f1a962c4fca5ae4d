-- PrintLaws: a text behind another, byte by byte and number by number.
pub mod PrintLaws
-- PutsLaws: texts on a page.
pub mod PutsLaws
-- NumeralLaws: the library's digits of a number are its numeral, and how long it is.
pub mod NumeralLaws
-- NumeralTheorem: a numeral stands for its number, and digits with no needless zero are a numeral.
pub mod NumeralTheorem
-- LineExamples: some lines, computed.
pub mod LineExamples
