-- `translate` meets its contract: what is answered by checks is what document 02 asks for. Assumes nothing.
use Rattle.translation.proofs.TranslationTheorem.{checks_translate}
use Rattle.translation.proofs.translate.translate.Goals as goal

pub returns : goal.returns
returns c = let checked = c.run_checks.ensures in record { checks = checked; answer = checks_translate _ _ _ _ checked }
