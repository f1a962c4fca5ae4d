-- FoundLaws: what is found in the forms that programs read, written to lent words.
pub mod FoundLaws
