-- `answer` meets its contract: what is printed is that of the bytes read. Assumes nothing.
use Rattle.std.proofs.Common.{rules}
use Rattle.program.specs.Printed.{refusal_line}
use Rattle.program.specs.Reply.{reply}
use Rattle.program.proofs.PrintedLaws.{has_done}
use Rattle.program.proofs.answer.answer.Goals as goal

pub returns-clause-done : goal.returns-clause-done
returns-clause-done g c =
    let page = c.new-page.ensures in
    has_done 0 (reply refusal_line g.S.Service.text) _ _ _ c.requires c.read-input.ensures c.put_reply.ensures page.kept page.empty (search rules)
