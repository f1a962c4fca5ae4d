-- CourseLaws: the states along a sequence of actions, by its first action, and what the walk has written of them.
pub mod CourseLaws
-- CourseTheorem: the states along a list are those that its beginnings reach, and how many they are.
pub mod CourseTheorem
