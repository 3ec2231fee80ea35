use Rattle.std.proofs.Common.{◌∙◌, sym, take}
use Rattle.spx_messages.proofs.Turning.{gave_if, one_more, quiet_if}
use Rattle.spx_messages.proofs.poll.turn.poll_links.Goals as goal

pub returns-then-is_some-clause-gives : goal.returns-then-is_some-clause-gives
returns-then-is_some-clause-gives c =
    gave_if c.args.place c.args.links.now c.loop-next.links c.poll_one-given.new.links c.args.now c.loop-next.id c.in-Some.next c.poll_one-given.result (λ g. take g.count c.poll_one-given.new.room) c.loop-next.invariant.0 c.in-Some.ensures.ids c.in-Some.ensures.next c.poll_one-given.ensures.leaves c.poll_one-given.ensures.gives

pub loop-next-preserved : goal.loop-next-preserved
loop-next-preserved c =
    let quiet = quiet_if c.poll_one-given.result (sym c.is_some.ensures ∙ c.if-is_some.false) c.poll_one-given.ensures.rests in
    (one_more c.args.links.now c.loop-next.links c.poll_one-given.new.links c.args.now c.loop-next.id c.in-Some.next c.loop-next.invariant.0 c.in-Some.ensures.next c.poll_one-given.ensures.leaves quiet.0, quiet.1 ∙ c.loop-next.invariant.1)
