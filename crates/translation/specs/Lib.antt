-- Translation: what the service that reads a planner's text into a sheet answers.
pub mod Translation
-- between: what functions hand to each other, which need not be believed.
pub mod Between
