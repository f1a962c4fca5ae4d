-- What stands between the code and the definitions to be believed: laws tie the two together.
-- Form: what each line of a planner's text must be, given those before it, and the numbers that are read of it.
-- Reading: what the rest of a text means to a reader that stands within it.
pub mod Form
pub mod Reading
