use Rattle.std.proofs.Common.{◌+◌, arith, refl}
use Rattle.ipx_carrier.proofs.PriorityLeaving.{none_leaves, own_leaves, row_ends}
use Rattle.ipx_carrier.proofs.priority_queue.take_own.Goals as goal

pub returns-then-count-ge-MAX_ORIGINATED_RUN : goal.returns-then-count-ge-MAX_ORIGINATED_RUN
returns-then-count-ge-MAX_ORIGINATED_RUN c = row_ends c.args.own.now.items c.args.originated_run.now 0 (omega arith) refl

pub returns-in_err-reply : goal.returns-in_err-reply
returns-in_err-reply c =
    rw c.from_residual.ensures
    (none_leaves c.args.own.now.items c.pop_front.new.self.items c.args.originated_run.now 0 c.in_err-reply.ensures.items c.in_err-reply.ensures.rest refl)

pub returns : goal.returns
returns c =
    own_leaves c.args.own.now.items c.pop_front.new.self.items c.args.originated_run.now (c.args.originated_run.now + 1) c.in_ok-reply.reply c.in_ok-reply.ensures.items (omega arith) refl
