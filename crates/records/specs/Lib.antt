-- RecordForm: little-endian words, where a record ends, and the form of a record and of an input. Bytes: words as
-- bytes.
pub mod RecordForm
pub mod Bytes
-- between: what functions hand to each other, which need not be believed.
pub mod Between
