-- `open_input` meets its contract: each form of the input is a case of what is found. Assumes nothing.
use mathlib.Core.Path.{sym, ◌∙◌, ap}
use Rattle.std.specs.Prelude.{Err}
use Rattle.refusal.specs.Refusal.{told_refusal}
use Rattle.program.proofs.OpeningLaws.{opens_broken, opens_long, opens_whole}
use Rattle.program.proofs.opened.open_input.Goals as goal

pub returns-in-Ok : goal.returns-in-Ok
returns-in-Ok c = record { opens = opens_whole _ _ _ _ c.requires c.unpack.ensures _ c.in-Ok.ensures; fills = c.unpack.ensures }

pub returns-in-Err-Broken : goal.returns-in-Err-Broken
returns-in-Err-Broken c =
    record { opens = opens_broken _ _ _ _ c.requires c.unpack.ensures (ap Err (sym c.in-Err-Broken.field-0-is) ∙ c.in-Err-Broken.ensures); fills = c.unpack.ensures }

pub returns-in-Err-Long : goal.returns-in-Err-Long
returns-in-Err-Long c =
    let frames = ap Err (sym c.in-Err-Long.field-0-is) ∙ c.in-Err-Long.ensures in
    record { opens = opens_long _ _ _ _ c.requires c.unpack.ensures _ _ (told_refusal c.refuse_long.result) frames c.front.ensures c.refuse_long.ensures; fills = c.unpack.ensures }
