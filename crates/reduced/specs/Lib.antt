-- Reduced: what a service that answers with a reduction answers.
pub mod Reduced
-- between: what functions hand to each other, which need not be believed.
pub mod Between
