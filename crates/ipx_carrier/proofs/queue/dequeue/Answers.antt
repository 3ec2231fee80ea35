use Rattle.std.proofs.Common.{Some, None, ap, refl}
use Rattle.ipx_router.specs.RouterPackets.{sending_of, sendings}
use Rattle.ipx_carrier.proofs.Putting.{front_givable, none_left}
use Rattle.ipx_carrier.proofs.queue.dequeue.Goals as goal

pub write_to-requires-clause-givable : goal.write_to-requires-clause-givable
write_to-requires-clause-givable c =
    let g = c.requires.givable in
    (g.0, front_givable g.0 (sending_of c.in_ok-reply.reply) _ _ (ap sendings c.in_ok-reply.ensures.items) g.1)

pub returns-clause-given : goal.returns-clause-given
returns-clause-given c = (Some (sending_of c.in_ok-reply.reply), ap sendings c.in_ok-reply.ensures.items, c.write_to.ensures.given)

pub returns-clause-there : goal.returns-clause-there
returns-clause-there c = λ ports g.
    c.write_to.ensures.there ports (front_givable ports (sending_of c.in_ok-reply.reply) _ _ (ap sendings c.in_ok-reply.ensures.items) g)

pub returns-in_err-reply-clause-given : goal.returns-in_err-reply-clause-given
returns-in_err-reply-clause-given c =
    let none = none_left c.args.queue.now.items c.pop_front.new.self.items c.in_err-reply.ensures.items c.in_err-reply.ensures.rest in
    rw c.from_residual.ensures (None, (ap sendings none.0, ap sendings none.1), refl)
