-- Bits: how many bits a wide word has.
pub mod Bits
-- between: what functions hand to each other, which need not be believed.
pub mod Between
