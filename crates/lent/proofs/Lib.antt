-- StoredLaws: runs of stores into lent words, one behind the other.
pub mod StoredLaws
