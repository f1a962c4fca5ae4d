-- A mask has four words, since its array has: what owning a struct tells of its fields says so. Assumes nothing.
use mathlib.Core.Path.{◌≡◌}
use mathlib.Core.List.{List}
use lib.ListN.{length}
use mir.Val.{Val}
use denote.Laws.{Is}
use denote.Struct.Laws as LL
use Rattle.mask.specs.declared.Mask.{Mask}
use Rattle.mask.specs.Mask.{mask_length}
use Rattle.mask.specs.contracts.Mask as M
use Rattle.mask.proofs.Mask.TheLaws as M'

pub words_length : (m : Mask) (vs : List Val) → Is M.the_row m vs → length m.words ≡ mask_length
words_length m vs is = (LL.owed M.the_type M'.the_laws m vs is).0.1.0.1
