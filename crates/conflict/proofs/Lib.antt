-- DifferLaws: facts that differ, and facts that contradict each other.
pub mod DifferLaws
-- SaidLaws: what a table denies, by the facts that were noted in it.
pub mod SaidLaws
-- DenyLaws: facts against a table, and noted in one, by the cases of a loop along a group.
pub mod DenyLaws
-- ConflictTheorem: effects conflict just where one clashes with one behind it.
pub mod ConflictTheorem
-- ClashLaws: an action's effects, each against those behind it, by the cases of a loop along them.
pub mod ClashLaws
-- FindTheorem: in a sheet that meets none of the causes before it, the first action in which effects clash is the place of cause 16.
pub mod FindTheorem
