-- What stands between the code and the definitions to be believed: laws and theorems tie the two together.
-- Sections: the SAS+ task that the numbers of a planner's text are. Order: a task with each group of facts in rising
-- order. Writable: whether a sheet can say it. Small: numbers whose variables have bits and slots. Gathered: the facts
-- of lines, and what the functions that gather them hand to each other.
pub mod Sections
pub mod Order
pub mod Writable
pub mod Small
pub mod Gathered
