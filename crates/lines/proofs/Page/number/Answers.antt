-- `number` meets its contract: the digits that the library puts into an array are the number's numeral. Assumes nothing.
use mathlib.Core.Path.{◌∙◌}
use Rattle.lines.proofs.NumeralLaws.{numeral_digits}
use Rattle.lines.proofs.PutsLaws.{puts_as}
use Rattle.lines.proofs.Page.number.Goals as goal

pub returns : goal.returns
returns c =
    let spelled = c.decimal-n.ensures in
    puts_as (spelled.digits ∙ numeral_digits _ _ spelled.len) c.text.ensures
