-- Bytes: the bytes of a text, the runs between those at which it is cut, and the number that digits stand for.
pub mod Bytes
