-- JoinLaws: words joined by spaces, and lines with their line ends. SignLaws: a line of numbers, by its numbers.
-- DatumLaws: a line that is due, by what it holds. FillLaws: lines that are what they must be. FormatLaws: data whose
-- printed lines are just those. BlockLaws: the blocks of a text.
pub mod JoinLaws
pub mod SignLaws
pub mod DatumLaws
pub mod FillLaws
pub mod FormatLaws
pub mod BlockLaws
-- TextTheorem: the lines that fill what a text must have are those of one text.
pub mod TextTheorem
-- CompletionLaws: whatever lines are due, some lines fill it.
pub mod CompletionLaws
-- WalkLaws: reading line by line finds lines that are what they must be.
pub mod WalkLaws
-- RunLaws: the runs of bytes. PrintedTheorem: bytes have the form exactly where one text prints them.
pub mod RunLaws
pub mod PrintedTheorem
