-- LentLaws: what a service that strikes nothing has stored into lent words.
pub mod LentLaws
