use Rattle.std.proofs.Common.{◌+◌, ℕ, Option, subst, sym, take}
use Rattle.ipxnet_server.specs.Pings.{IsNextPing, is_one_pinged}
use Rattle.ipxnet_server.proofs.PingTimes.{next_of_more, next_of_none}
use Rattle.ipxnet_server.proofs.pings.next_ping.Goals as goal

pub loop-client-init : goal.loop-client-init
loop-client-init c = next_of_none c.args.before

pub loop-client-preserved : goal.loop-client-preserved
loop-client-preserved c =
    let cs = c.args.clients.now in
    let before = c.args.before in
    let i = c.loop-client.client-index in
    subst (λ (o : Option ℕ). IsNextPing (is_one_pinged before (take (i + 1) cs)) o) (sym c.sooner-next.ensures)
    (next_of_more before i _ cs c.loop-client.next c.next_ping_of.result c.loop-client-test.true c.loop-client.invariant c.next_ping_of.ensures)
