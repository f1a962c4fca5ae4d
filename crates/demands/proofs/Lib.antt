-- FireLaws: a list of checks answers by the first that fires.
pub mod FireLaws
-- FitLaws: what is left of a list has a flag for each of its steps.
pub mod FitLaws
-- OrderLaws: two tallies compare by price, then by steps.
pub mod OrderLaws
-- TextLaws: a planner's text is refused just by its causes.
pub mod TextLaws
-- OneTheorem: demand 1 holds of all services.
pub mod OneTheorem
-- TwoTheorem: demand 2 holds of all services.
pub mod TwoTheorem
