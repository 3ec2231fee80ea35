use Rattle.std.proofs.Common.{◌≡◌, ℕ, List, None, ◌∙◌, ap, arith, length, min, subst, sym}
use Rattle.ipx_ipxnet_ports.specs.OnServers.{PingsThroughSockets, servers_view}
use Rattle.ipx_ipxnet_ports.specs.ServerAddresses.{SendsByServerSockets}
use Rattle.ipx_ipxnet_ports.specs.declared.server_ports.Servers.{Servers}
use Rattle.ipx_ipxnet_ports.specs.declared.sockets.ServerSockets.{ServerSockets}
use Rattle.ipx_site.specs.DropLog.{AreDropsLogged}
use Rattle.ipx_site.specs.IdleTime.{counts_to_log, happened}
use Rattle.ipx_site.specs.PortsView.{ways_in}
use Rattle.ipx_site.specs.RouterPings.{BeginsTurns, ipxnet_in}
use Rattle.ipx_site.specs.RouterRounds.{AsksAgain}
use Rattle.ipx_site.specs.RouterMetrics.{with_batch}
use Rattle.ipx_site.specs.RouterWork.{notes_of}
use Rattle.ipx_site.specs.WorkRefusals.{IsDoneIfDue, with_refusals}
use Rattle.ipx_site.specs.declared.router_counts.RouterCounts.{RouterCounts}
use Rattle.ipx_site.specs.TunnelLog.{drop_counts}
use Rattle.ipx_sockets.specs.Moments.{AreLoggedIfDue}
use Rattle.ipx_sockets.specs.Steady.{NeverGoesBack, StopsThere}
use Rattle.ipx_site.proofs.PortsRun.{ways_pinged, ways_stay}
use Rattle.ipx_site.proofs.Rounds.{is_round}
use Rattle.ipx_site.proofs.Worked.{does_then}
use Rattle.ipx_site.proofs.running_router.RunningRouter.round.Goals as goal

pub returns-clause-core : goal.returns-clause-core
returns-clause-core g c =
    let self = c.args.self.now in
    let kept = c.keep.new.self in
    let told = c.set_time.new.self in
    let begun = c.send_pings.new.self in
    let new = c.run_batch-batch.new.driver in
    let now = c.stop-now.result in
    let later = c.set_time.ensures in
    let e = c.send_pings.ensures in
    let sends : ℕ → Servers ServerSockets → Type 0 = λ now l. PingsThroughSockets SendsByServerSockets now (min (length l.servers.items) (length l.sockets.sockets.items))
    (servers_view l.servers.items l.kept None l.sockets.failures) (ipxnet_in begun) l.sockets begun.servers.sockets in
    let set = later.servers ∙ ap (λ p. record p.servers { moment = now }) c.keep.ensures.ports in
    let sent : sends now self.ports.servers = subst (λ (l : Servers ServerSockets). sends l.moment l) set e.sends in
    let begins : BeginsTurns now self.ports begun = (
      sent,
      e.pinged,
      e.moment ∙ ap (λ l. l.moment) later.servers,
      e.ethernet ∙ later.ethernet ∙ ap (λ p. record p.ethernet { moment = now }) c.keep.ensures.ports,
      e.datagrams ∙ later.datagrams ∙ ap (λ p. p.datagrams) c.keep.ensures.ports,
      e.port_indices ∙ later.port_indices ∙ ap (λ p. p.port_indices) c.keep.ensures.ports,
    ) in
    is_round StopsThere NeverGoesBack self.ports begun new self.clock c.stop-now.new.self kept.clock c.run_batch-batch.new.clock
    now new.ethernet.moment self.asked kept.asked self.core kept.core c.run_batch-batch.new.core c.run_batch-batch.result
    c.stop-now.ensures c.keep.ensures.clock (ap (λ k. k.2) c.run_batch-batch.ensures.kept ∙ ap (λ w. w.moment) e.ethernet ∙ ap (λ w. w.moment) later.ethernet) c.keep.ensures.core begins
    (ways_pinged told begun e.datagrams e.ethernet e.port_indices ∙ ways_stay kept.ports told now later.datagrams later.ethernet later.servers later.port_indices ∙ ap ways_in c.keep.ensures.ports)
    (c.run_batch-batch.ensures.turns (ap (λ s. length s.items) e.port_indices ∙ ap (λ s. length s.items) later.port_indices ∙ kept.port_indices, omega arith))

pub returns-clause-work : goal.returns-clause-work
returns-clause-work g c =
    let self = c.args.self.now in
    let kept = c.keep.new.self in
    let now = c.stop-now.result in
    let moment : c.run_batch-batch.new.driver.ethernet.moment ≡ now =
    ap (λ k. k.2) c.run_batch-batch.ensures.kept ∙ ap (λ w. w.moment) c.send_pings.ensures.ethernet ∙ ap (λ w. w.moment) c.set_time.ensures.ethernet in
    let refused = c.keep.ensures.totals.0 in
    let totals : kept.totals ≡ with_refusals refused self.totals = c.keep.ensures.totals.1 in
    let told = subst (λ p. AreLoggedIfDue (counts_to_log (happened kept.totals kept.core p)) now self.warnings.causes kept.warnings.causes) c.keep.ensures.ports c.keep.ensures.told in
    let told_of = subst (λ (t : RouterCounts). AreLoggedIfDue (counts_to_log (happened t kept.core self.ports)) now self.warnings.causes kept.warnings.causes) totals told in
    let logged = subst (λ p. AreDropsLogged kept.core.core.core.core.outcomes kept.core.drops (drop_counts p.ethernet.sockets.ethernet.items p.port_indices.items) p.ethernet.switches.items p.port_indices.items now self.drops kept.drops) c.keep.ensures.ports c.keep.ensures.drops in
    record {
      mid = kept.core;
      asks = subst (λ (m : ℕ). AsksAgain m self.asked kept.asked self.core kept.core) (sym moment) c.keep.ensures.core;
      refused = refused;
      works = does_then refused self.ports kept.core now _ (notes_of self) (notes_of kept) c.add.new.self kept.warnings kept.drops moment c.keep.ensures.totals.2;
      totals = c.add.ensures ∙ ap (with_batch c.run_batch-batch.result) totals;
      warns = subst (λ (m : ℕ). AreLoggedIfDue (counts_to_log (happened (with_refusals refused self.totals) kept.core self.ports)) m self.warnings.causes kept.warnings.causes) (sym moment) told_of;
      logs = subst (λ (m : ℕ). AreDropsLogged kept.core.core.core.core.outcomes kept.core.drops (drop_counts self.ports.ethernet.sockets.ethernet.items self.ports.port_indices.items) self.ports.ethernet.switches.items self.ports.port_indices.items m self.drops kept.drops) (sym moment) logged;
      writes = subst (λ (m : ℕ). IsDoneIfDue 10000 m self.written kept.written) (sym moment) c.keep.ensures.written;
    }
