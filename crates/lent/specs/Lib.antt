-- Words: what answers, tallies, orders and states are as words that programs in other languages lend and read.
pub mod Words
