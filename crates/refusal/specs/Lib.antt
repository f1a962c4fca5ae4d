-- Place: the first place at which a test holds. Refusal: document 01's refusals by number and place. Check: a list of
-- checks, of which the first that fires answers.
pub mod Place
pub mod Refusal
pub mod Check
