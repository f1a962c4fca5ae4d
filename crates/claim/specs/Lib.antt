-- Licensing: what the licence tells of a list. Licensed: what it answers. Statement: what holds of every list that it answers.
pub mod Licensing
pub mod Licensed
pub mod Statement
-- between: what functions hand to each other, which need not be believed.
pub mod Between
