-- Mask: the four words of a reduction.
pub mod Mask
-- between: what functions hand to each other, which need not be believed.
pub mod Between
