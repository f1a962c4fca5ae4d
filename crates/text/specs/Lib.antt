-- Text: what a text means. Limits: how long it is.
pub mod Text
pub mod Limits
-- between: what functions hand to each other, which need not be believed.
pub mod Between
