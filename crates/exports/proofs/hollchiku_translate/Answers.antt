-- `hollchiku_translate` meets its contract: what is written is what the service answers. Assumes nothing.
use Rattle.exports.proofs.LentLaws.{text_lent}
use Rattle.exports.proofs.hollchiku_translate.Goals as goal

pub returns : goal.returns
returns c = text_lent _ c.translate.ensures.checks c.write_counted.ensures
