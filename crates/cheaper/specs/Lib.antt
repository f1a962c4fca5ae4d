-- Cheaper: the cheaper of both eliminations, and what the service of both answers.
pub mod Cheaper
-- between: what functions hand to each other, which need not be believed.
pub mod Between
