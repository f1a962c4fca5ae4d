-- PartLaws: the parts that hold facts, by each way to a return.
pub mod PartLaws
-- PartsLaws: all parts of a sheet, laid out one behind the other.
pub mod PartsLaws
-- BuildLaws: the sheet as a whole, by each way to a return.
pub mod BuildLaws
