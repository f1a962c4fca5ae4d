-- `hollchiku_check_sheet` meets its contract: what is written is what the check of a task answers. Assumes nothing.

use Rattle.exports.proofs.hollchiku_check_sheet.Goals as goal

pub returns : goal.returns
returns c = cc
