-- What stands between the code and the definitions to be believed: laws and theorems tie the two together.
-- Lays: words as lines, with comments between them. Walk: a walk along words, from section to section. Room: how many
-- bytes a text that is shown may have.
pub mod Lays
pub mod Walk
pub mod Room
