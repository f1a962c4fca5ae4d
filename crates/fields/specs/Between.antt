-- What stands between the code and the definitions to be believed: laws tie the two together.
-- Numbers: which numbers are told from others. Fields: the lines of a planner's text, the words of a line, and the
-- numbers that they are. Reading: a line as the code reads it, word by word.
pub mod Numbers
pub mod Fields
pub mod Reading
