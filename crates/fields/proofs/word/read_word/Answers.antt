-- `read_word` meets its contract: a law for each way to a return, by the first bytes. Assumes nothing.
use mathlib.Core.List.{[], ◌∷◌}
use Rattle.fields.specs.Between.Fields.{minus_sign}
use Rattle.fields.proofs.LineLaws.{begins_byte, begins_otherwise}
use Rattle.fields.proofs.WordLaws.{reads_minus_one, reads_other_minus, reads_no_minus}
use Rattle.fields.proofs.word.read_word.Goals as goal

pub returns-in_default : goal.returns-in_default
returns-in_default c = reads_no_minus _ _ (λ t. begins_otherwise (minus_sign ∷ []) c.args.bytes.now t c.in_default.ensures.cases) _ c.read_number.ensures

pub returns-in_default-strip_prefix : goal.returns-in_default-strip_prefix
returns-in_default-strip_prefix c =
    reads_other_minus _ _ _ (begins_byte _ _ _ c.in-Some.ensures.cases.0 c.in-Some.ensures.cases.1)
    (λ t. begins_otherwise (49 ∷ []) c.in-Some.rest.now t c.in_default-strip_prefix.ensures.cases)

pub returns : goal.returns
returns c =
    reads_minus_one _ _ _ _ (begins_byte _ _ _ c.in-Some.ensures.cases.0 c.in-Some.ensures.cases.1)
    (begins_byte _ _ _ c.in-Some-strip_prefix.ensures.cases.0 c.in-Some-strip_prefix.ensures.cases.1) _ c.word_before.ensures
