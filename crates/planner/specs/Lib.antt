-- A planner's text (document 02, C-11). Text: what it holds, as data. Printed: its lines, and its bytes. Meant: the
-- task that it means, and its first line that no sheet can say. Broken: which bytes are a text, and the place of a line
-- that breaks the form.
pub mod Text
pub mod Printed
pub mod Meant
pub mod Broken
