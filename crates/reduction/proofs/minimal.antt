-- The minimal reduction: that there is just one.
-- WinsLaws: when one reduction of a plan wins against another.
pub mod WinsLaws
-- MinimalTheorem: every plan has just one minimal reduction, it is computed, and nothing more can be struck of what it leaves.
pub mod MinimalTheorem
-- BeforeLaws: the state before an index of a valid reduction, step by step, and flags past the end of a plan.
pub mod BeforeLaws
