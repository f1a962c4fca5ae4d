-- LongLaws: the refusal of a plan that is too long to be read, by cases, and against the check of a plan.
pub mod LongLaws
-- OpeningLaws: what a program finds of its input, by the input's form.
pub mod OpeningLaws
-- ReplyLaws: what a program answers to its input, by what it finds.
pub mod ReplyLaws
-- ReplyTheorem: what is answered to the bytes that are read is what is answered to the whole input.
pub mod ReplyTheorem
-- PackLaws: words as bytes, one after the other.
pub mod PackLaws
-- PrintedLaws: the line of a refusal, and what has been read.
pub mod PrintedLaws
-- RecordTheorem: a sheet and its list, as the bytes of an input, are opened as that sheet and that list.
pub mod RecordTheorem
-- RoomLaws: how long a line of numbers is.
pub mod RoomLaws
