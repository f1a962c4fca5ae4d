-- Document 01's job sheet. Limits: what it may hold at most. Layout: where its parts stand. Decode: the SAS+ task that
-- it means. Causes: the causes of refusal 1 to 7 and 16.
pub mod Limits
pub mod Layout
pub mod Decode
pub mod Causes
-- between: what functions hand to each other, which need not be believed.
pub mod Between
