-- `main` meets its contract: what is answered lies inside the arrays. Assumes nothing.
use Rattle.translate.proofs.SayLaws.{counts_written}
use Rattle.translate.proofs.main.Goals as goal

pub slice_bounds-give-end : goal.slice_bounds-give-end
slice_bounds-give-end c = (counts_written c.translate_input-done.ensures.has_translated.gives).0.1

pub slice_bounds-give-end-2 : goal.slice_bounds-give-end-2
slice_bounds-give-end-2 c = (counts_written c.translate_input-done.ensures.has_translated.gives).1.1
