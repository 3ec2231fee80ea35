use Rattle.std.proofs.Common.{◌∙◌, ◌++◌, ap}
use Rattle.std.specs.Option.{option_to_list}
use Rattle.ipx_carrier.proofs.PriorityLeaving.{after_none, forwarded_leaves}
use Rattle.ipx_carrier.proofs.priority_queue.take_next.Goals as goal

pub returns-in_default : goal.returns-in_default
returns-in_default c =
    let left = c.pop_front.new.self.items in
    after_none c.args.forwarded.now.items left c.args.own.now.items c.take_own.new.own.items c.args.originated_run.now c.take_own.new.originated_run _
    (c.pop_front.ensures.items ∙ ap (λ o. option_to_list o ++ left) c.in_default.is) c.pop_front.ensures.rest c.take_own.ensures

pub returns : goal.returns
returns c =
    let left = c.pop_front.new.self.items in
    forwarded_leaves c.args.forwarded.now.items left c.args.own.now.items c.args.originated_run.now c.run_after_forward.result c.in-Some.reply
    (c.pop_front.ensures.items ∙ ap (λ o. option_to_list o ++ left) c.in-Some.is) c.run_after_forward.ensures
