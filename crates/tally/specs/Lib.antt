-- Tally: one step more, and which of two tallies is the lower.
pub mod Tally
