-- One: demand 1, what is lent and when a service refuses. Two: demand 2, lists, marks, eliminations, prices and counts.
pub mod One
pub mod Two
