-- Lines: lines of words and numbers, as a program prints them. Prints: such a text in a lent slice of bytes. Puts:
-- such a text on a page.
pub mod Lines
pub mod Prints
pub mod Puts
