-- InputWordLaws: a word by its four bytes, and in input that goes on.
pub mod InputWordLaws
-- FormLaws: where a record ends, by cases; its form, and the bytes that must be read to tell it; and what an ending and a form say.
pub mod FormLaws
-- FormTheorem: what is read, as far as it must be, tells the form of the record in the whole input.
pub mod FormTheorem
-- BytesTheorem: reading the bytes of words gives the words back.
pub mod BytesTheorem
-- SizedTheorem: the words of an accepted sheet and of a list that can be read fit four bytes.
pub mod SizedTheorem
