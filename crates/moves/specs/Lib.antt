-- Moves: the row of each step of a list, and the service that writes them.
pub mod Moves
-- between: what functions hand to each other, which need not be believed.
pub mod Between
