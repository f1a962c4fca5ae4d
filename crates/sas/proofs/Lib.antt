-- FactLaws: which facts hold in a state, and in one that satisfies an assignment.
pub mod FactLaws
-- SomeLaws: when some element of a list passes a test.
pub mod SomeLaws
-- WellFormedLaws: the facts of an assignment whose variables rise, and assignments to a state within its domains.
pub mod WellFormedLaws
-- EffectLaws: which facts of an action act in a state, and that they agree.
pub mod EffectLaws
-- AssignLaws: what an assignment does to a state, for assignments whose variables rise too.
pub mod AssignLaws
-- ActionLaws: what a theorem about plans may use of an action.
pub mod ActionLaws
-- RunLaws: what a sequence of actions does, and that it keeps within the domains.
pub mod RunLaws
-- PartLaws: the first values of a state do by themselves what they do in it.
pub mod PartLaws
-- Faults: a sequence that reaches no state is stuck at one position.
pub mod Faults
