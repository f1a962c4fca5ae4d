-- Eliminations: what the two eliminations leave of a list, and what each answers.
pub mod Eliminations
-- between: what functions hand to each other, which need not be believed.
pub mod Between
