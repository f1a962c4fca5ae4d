-- Validate: what the program prints for the bytes of its input.
pub mod Validate
