-- WalkLaws: a walk along words, section by section.
pub mod WalkLaws
-- ShownLaws: the text of bytes, by their form and number.
pub mod ShownLaws
-- LaysTheorem: the words of a text in which words are laid out are those words.
pub mod LaysTheorem
-- PrintedTheorem: the words of the text that is printed for words are those words.
pub mod PrintedTheorem
-- RoomTheorem: how many bytes the text of words has at most.
pub mod RoomTheorem
