-- EffectLaws: effects as the code reads them.
pub mod EffectLaws
