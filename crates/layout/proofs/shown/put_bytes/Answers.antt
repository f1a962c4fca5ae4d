-- `put_bytes` meets its contract, by the form of the bytes. Assumes nothing.
use mathlib.Core.Path.{refl, sym, ◌∙◌}
use Rattle.lines.proofs.PutsLaws.{puts_as}
use Rattle.layout.proofs.ShownLaws.{text_is}
use Rattle.layout.proofs.shown.put_bytes.Goals as goal

pub returns-in-Ok : goal.returns-in-Ok
returns-in-Ok c = puts_as (text_is c.args.bytes.now _ _ _ _ c.requires refl c.unpack.ensures c.front-words.ensures (sym c.in-Ok.is ∙ c.frame_input.ensures)) c.put_whole.ensures

pub returns-in-Err : goal.returns-in-Err
returns-in-Err c = puts_as (text_is c.args.bytes.now _ _ _ _ c.requires refl c.unpack.ensures c.front-words.ensures (sym c.in-Err.is ∙ c.frame_input.ensures)) c.put_rows.ensures
