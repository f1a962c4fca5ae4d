-- SayLaws: an answer put into lent bytes.
pub mod SayLaws
-- TranslateLaws: what is answered to a text, by what the service tells of it.
pub mod TranslateLaws
-- SheetBytesTheorem: the array that is lent has room for the bytes of a sheet, and as much of a longer input is read as
-- tells what is answered to it.
pub mod SheetBytesTheorem
