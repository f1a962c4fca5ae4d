-- Minimised: what the minimal reduction answers as a service. Statement: demand 3 as one statement.
pub mod Minimised
pub mod Statement
-- between: what functions hand to each other, which need not be believed.
pub mod Between
