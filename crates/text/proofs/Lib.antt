-- TextLaws: the fields of a text, by its next byte.
pub mod TextLaws
-- ReaderLaws: how a byte takes a reader on.
pub mod ReaderLaws
-- WordTheorem: the words of a text fit four bytes, so reading their bytes gives them back.
pub mod WordTheorem
-- FewTheorem: how many words a text has at most.
pub mod FewTheorem
