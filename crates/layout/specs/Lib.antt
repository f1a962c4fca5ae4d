-- Layout: words as a text, in sections. Shown: the text of the words that bytes are.
pub mod Layout
pub mod Shown
-- between: what functions hand to each other, which need not be believed.
pub mod Between
