use Rattle.std.proofs.Common.{◌+◌, ℕ, Option, subst, sym, take}
use Rattle.ipxnet_server.specs.Pings.{IsNextPing, is_one_asked}
use Rattle.ipxnet_server.proofs.PingTimes.{next_ask_of_more, next_ask_of_none}
use Rattle.ipxnet_server.proofs.pings.next_ask.Goals as goal

pub loop-one-init : goal.loop-one-init
loop-one-init c = next_ask_of_none c.args.before

pub loop-one-preserved : goal.loop-one-preserved
loop-one-preserved c =
    let ns = c.args.noted.now in
    let before = c.args.before in
    let i = c.loop-one.one-index in
    subst (λ (o : Option ℕ). IsNextPing (is_one_asked before (take (i + 1) ns)) o) (sym c.sooner-next.ensures)
    (next_ask_of_more before i _ ns c.loop-one.next c.next_ask_of.result c.loop-one-test.true c.loop-one.invariant c.next_ask_of.ensures)
