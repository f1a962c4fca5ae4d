-- What stands between the code and the definitions to be believed: laws and theorems tie the two together.
-- Parts: the parts of a task's sheet, as they are written. Built: the whole sheet.
pub mod Parts
pub mod Built
