-- StampLaws: a table stamped with facts, by the cases of a loop along a group, and what stands in it.
pub mod StampLaws
-- WantsLaws: a table tells the facts that are wanted before the steps of a plan.
pub mod WantsLaws
