-- Course: the states along a list, and the service that writes them.
pub mod Course
-- between: what functions hand to each other, which need not be believed.
pub mod Between
