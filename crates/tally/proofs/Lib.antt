-- TallyLaws: one step more, by cases; and that within its bounds a tally is the plain sum and the number of steps.
pub mod OrderLaws
pub mod TallyLaws
