-- Marks: the marks of a list (document 02, C-12), and what the service answers.
pub mod Marks
-- between: what functions hand to each other, which need not be believed.
pub mod Between
