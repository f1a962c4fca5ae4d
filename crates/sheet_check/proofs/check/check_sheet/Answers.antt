-- `check_sheet` meets its contract: the checks of the header, then those of the parts. Assumes nothing.
use mathlib.Core.Path.{sym, ◌∙◌}
use Rattle.refusal.proofs.CheckLaws.{answer_fires, answer_passes}
use Rattle.sheet.specs.Causes.{sheet_checks}
use Rattle.sheet_check.proofs.check.check_sheet.Goals as goal

pub returns-then-bad_length : goal.returns-then-bad_length
unfolding sheet_checks
returns-then-bad_length c = sym (answer_fires _ _ 0 (rw (← c.bad_length.ensures, c.if-bad_length.true)))

pub returns-then-bad_edition : goal.returns-then-bad_edition
unfolding sheet_checks
returns-then-bad_edition c = sym (answer_passes _ _ (rw (← c.bad_length.ensures, c.if-bad_length.false)) ∙ answer_fires _ _ 0 (rw (← c.bad_edition.ensures, c.if-bad_edition.true)))

pub returns-then-bad_counts : goal.returns-then-bad_counts
unfolding sheet_checks
returns-then-bad_counts c = sym (answer_passes _ _ (rw (← c.bad_length.ensures, c.if-bad_length.false)) ∙ answer_passes _ _ (rw (← c.bad_edition.ensures, c.if-bad_edition.false)) ∙ answer_fires _ _ 0 (rw (← c.bad_counts.ensures, c.if-bad_counts.true)))

pub check_parts-requires : goal.check_parts-requires
check_parts-requires c = sym c.bad_counts.ensures ∙ c.if-bad_counts.false

pub returns : goal.returns
unfolding sheet_checks
returns c = c.check_parts.ensures ∙ sym (answer_passes _ _ (rw (← c.bad_length.ensures, c.if-bad_length.false)) ∙ answer_passes _ _ (rw (← c.bad_edition.ensures, c.if-bad_edition.false)) ∙ answer_passes _ _ (rw (← c.bad_counts.ensures, c.if-bad_counts.false)))
