-- Document 01's list. Limits: how long it may be. Readable: when it can be read. Valid: its steps, and where it fails
-- to be valid. Checked: what the check of a list answers.
pub mod Limits
pub mod Readable
pub mod Valid
pub mod Checked
-- between: what functions hand to each other, which need not be believed.
pub mod Between
