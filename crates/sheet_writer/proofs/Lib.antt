-- LayLaws: words stored over others, and parts stored among them with their pairs.
pub mod LayLaws
-- SheetLaws: parts laid out behind the first words are the sheet of a task.
pub mod SheetLaws
-- HeldLaws: a group that bits and slots hold, and its words.
pub mod HeldLaws
-- CopyLaws: the turns of a loop that copies words.
pub mod CopyLaws
