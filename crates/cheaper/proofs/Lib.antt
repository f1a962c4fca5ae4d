-- CheaperLaws: which of the two eliminations is the cheaper.
pub mod CheaperLaws
-- ComputedTheorem: what the service of both answers is what is computed.
pub mod ComputedTheorem
-- ServiceLaws: what the service of both answers, and the part that is shown.
pub mod ServiceLaws
-- CheaperTheorem: the part shown of what the service of both returns is the lower list.
pub mod CheaperTheorem
