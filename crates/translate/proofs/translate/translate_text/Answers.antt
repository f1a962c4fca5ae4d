-- `translate_text` meets its contract, by what the service tells of the text. Assumes nothing.
use mathlib.Core.Path.{refl}
use Rattle.std.proofs.Common.{rules}
use Rattle.lines.proofs.PutsLaws.{puts_prints}
use Rattle.translate.proofs.TranslateLaws.{gives_refusal, gives_sheet}
use Rattle.translate.proofs.translate.translate_text.Goals as goal

pub returns-in-Ok : goal.returns-in-Ok
returns-in-Ok c =
    let page = c.new-page.ensures in
    let (gives, short) = gives_sheet _ refl c.in-Ok.ensures.checks (puts_prints page.kept page.empty c.pack.ensures (search rules)) in
    record { gives = gives; text_len_bound = short }

pub returns-in-Err : goal.returns-in-Err
returns-in-Err c =
    let page = c.new-page-in-Err.ensures in
    let put = c.put_refusal.ensures in
    let (gives, short) = gives_refusal _ refl c.in-Err.ensures.checks (puts_prints page.kept page.empty put.puts (search rules)) put.refusal_len_bound in
    record { gives = gives; text_len_bound = short }
