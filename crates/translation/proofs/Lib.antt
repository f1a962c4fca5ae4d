-- TapeLaws: what the numbers kept of a text tell.
pub mod TapeLaws
-- MeantTheorem: the task that they mean is the text's, with each number as it is read.
pub mod MeantTheorem
-- SatLaws: numbers above every limit are read as one, which changes no answer.
pub mod SatLaws
-- CopyLaws: the same facts in another order.
pub mod CopyLaws
-- EffectOrderLaws: the same effects but for their order.
pub mod EffectOrderLaws
-- SheetTheorem: which tasks have a sheet, and that it is one.
pub mod SheetTheorem
-- TranslationLaws: what the service answers, by each way to a return.
pub mod TranslationLaws
-- TranslationTheorem: what is answered is what document 02 asks for.
pub mod TranslationTheorem
-- WorkedTexts: texts computed by the definitions.
pub mod WorkedTexts
