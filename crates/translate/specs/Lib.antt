-- Input: how far the input was read. Answer: what is written and said. Translate: what is answered to a planner's text,
-- and what the program has done.
pub mod Input
pub mod Answer
pub mod Translate
