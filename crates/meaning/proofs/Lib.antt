-- RaiseLaws: a fact put into a group that bits and slots hold.
pub mod RaiseLaws
-- GatherLaws: facts put into a group that is held.
pub mod GatherLaws
-- SectionLaws: the numbers of a text by the cases and turns of the code.
pub mod SectionLaws
-- OrderLaws: what it does to a group to put a fact into it in order.
pub mod OrderLaws
-- OrderTheorem: a group in order has the same facts, rising where they fit, and a task that passes the test for a sheet can be written as one.
pub mod OrderTheorem
-- SamePlanTheorem: a task in order has the plans of the task, at the same cost.
pub mod SamePlanTheorem
-- SectionExamples: what the numbers of a tiny text mean, and the sheet that it is.
pub mod SectionExamples
