use Rattle.std.proofs.Common.{Some, None, refl}
use Rattle.ipx_router.specs.RouterPackets.{sending_of}
use Rattle.ipx_carrier.proofs.PriorityPutting.{leaving_givable}
use Rattle.ipx_carrier.proofs.priority_queue.dequeue.Goals as goal

pub write_to-requires-clause-givable : goal.write_to-requires-clause-givable
write_to-requires-clause-givable c =
    let g = c.requires.givable in
    (g.0, leaving_givable g.0 (sending_of c.in_ok-reply.reply) _ _ c.in_ok-reply.ensures g.1 g.2)

pub returns-clause-given : goal.returns-clause-given
returns-clause-given c = (Some (sending_of c.in_ok-reply.reply), c.in_ok-reply.ensures, c.write_to.ensures.given)

pub returns-clause-there : goal.returns-clause-there
returns-clause-there c = λ ports gw gq.
    c.write_to.ensures.there ports (leaving_givable ports (sending_of c.in_ok-reply.reply) _ _ c.in_ok-reply.ensures gw gq)

pub returns-in_err-reply-clause-given : goal.returns-in_err-reply-clause-given
returns-in_err-reply-clause-given c = rw c.from_residual.ensures (None, c.in_err-reply.ensures, refl)
