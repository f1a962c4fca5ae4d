-- MaskWordLaws: a word by its binary digits.
pub mod MaskWordLaws
-- LengthLaws: a mask has four words.
pub mod LengthLaws
-- MaskLaws: the words of a reduction, one after the other.
pub mod MaskLaws
-- KeptWordLaws: what the words of a reduction keep.
pub mod KeptWordLaws
-- WriteLaws: the turns of the loop that writes out what words keep.
pub mod WriteLaws
-- MaskTheorem: a mask tells a reduction bit by bit, by its ones, and by the list that is written out.
pub mod MaskTheorem
-- BitLaws: a bit as it is read.
pub mod BitLaws
