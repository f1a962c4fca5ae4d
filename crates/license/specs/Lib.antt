-- License: what the program prints for the bytes of its input.
pub mod License
-- Statement: what is printed is a licence and the report of its reduction, as one statement.
pub mod Statement
