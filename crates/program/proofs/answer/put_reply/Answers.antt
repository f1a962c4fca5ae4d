-- `put_reply` meets its contract: the input is refused, or the service answers. Assumes nothing.
use native.Mathlib.Omega.{arith}
use mathlib.Core.Path.{refl}
use Rattle.program.specs.Between.Room.{TextPut}
use Rattle.program.proofs.ReplyLaws.{reply_refused, reply_lodged}
use Rattle.program.proofs.answer.put_reply.Goals as goal

pub returns-in-Err : goal.returns-in-Err
returns-in-Err g c =
    let put = c.put_refusal.ensures in
    reply_refused _ _ _ _ (TextPut g.S.Service.room _ _) _ c.in-Err.ensures.opens (put.puts, omega (arith, put.refusal_len_bound, g.met.S.Service.refusal_fits))

pub returns-in-Ok : goal.returns-in-Ok
returns-in-Ok g c =
    reply_lodged _ _ _ _ (TextPut g.S.Service.room _ _) _ c.in-Ok.extent _ _ _ c.in-Ok.ensures.opens c.task_words.ensures c.plan_words.ensures refl
    c.put.ensures
