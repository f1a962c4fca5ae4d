-- `put_record` meets its contract: a task, and its plan behind it. Assumes nothing.
use Rattle.lines.proofs.PutsLaws.{puts_as, puts_both}
use mathlib.Core.Path.{◌∙◌, ap}
use lib.ListN.{take, drop}
use Rattle.std.proofs.lemmas.List.{take_min, drop_min}
use Rattle.layout.specs.Layout.{laid_out, sections, list_sections, record_text}
use Rattle.layout.proofs.sections.put_record.Goals as goal

pub returns : goal.returns
unfolding record_text
returns c =
    let words = c.args.words.now in
    let sheet = c.split_at.ensures.front ∙ ap (λ n. take n words) c.min.ensures ∙ take_min c.args.task words in
    let list = c.split_at.ensures.back ∙ ap (λ n. drop n words) c.min.ensures ∙ drop_min c.args.task words in
    puts_both
    (puts_as (ap (λ l. laid_out 0 (sections l) l) sheet) c.put_task.ensures)
    (puts_as (ap (λ l. laid_out 0 (list_sections l) l) list) c.put_list.ensures)
