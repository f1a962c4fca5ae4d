-- CountLaws: lines of one number, and what follows one that counts.
pub mod CountLaws
-- FormLaws: the beginning and the end of a text.
pub mod FormLaws
