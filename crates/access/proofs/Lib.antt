-- StoreLaws: a run of stores into lent words.
pub mod StoreLaws
-- OnesLaws: the places of the ones in a word, and words written at them.
pub mod OnesLaws
