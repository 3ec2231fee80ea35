use Rattle.std.proofs.Common.{◌≡◌, ◌+◌, ◌∙◌, ℕ, suc, arith, refl, subst}
use Rattle.ipx_ipxnet_ports.specs.OnServers.{HandsPings, PingsAtServer, PingsAtServers, PingsThroughSockets, ServersView}
use Rattle.ipx_ipxnet_ports.specs.PlaceTraffic.{PlaceDatagram}
use Rattle.ipx_ipxnet_ports.proofs.server_ports.Servers.send_pings.Goals as goal

-- one more server pings
one_more : (now now' n : ℕ) (old mid new : ServersView) → now' ≡ now → PingsAtServers now n old mid → PingsAtServer now' n mid new → PingsAtServers now (n + 1) old new
one_more now now' n old mid new same first one =
    let next : suc n ≡ n + 1 = omega arith in
    let then : PingsAtServer now n mid new = subst (λ (k : ℕ). PingsAtServer k n mid new) same one in
    subst (λ (k : ℕ). PingsAtServers now k old new) next (mid, first, then)

one_more_through : {S : Type 0} (sends : S → PlaceDatagram → S → Type 0) (now now' n : ℕ) (old mid new : ServersView) (x y z : S) → now' ≡ now → PingsThroughSockets sends now n old mid x y → PingsAtServer now' n mid new
    → HandsPings sends now' mid.servers n y z → PingsThroughSockets sends now (n + 1) old new x z
one_more_through sends now now' n old mid new x y z same first one hands =
    let next : suc n ≡ n + 1 = omega arith in
    let then : PingsAtServer now n mid new = subst (λ (k : ℕ). PingsAtServer k n mid new) same one in
    let handed : HandsPings sends now mid.servers n y z = subst (λ (k : ℕ). HandsPings sends k mid.servers n y z) same hands in
    subst (λ (k : ℕ). PingsThroughSockets sends now k old new x z) next (mid, y, first, then, handed)

pub loop-port-init : goal.loop-port-init
loop-port-init g c = record {
  pings = refl;
  sends = (refl, refl);
  moment = refl;
  kept = refl;
  servers = refl;
  ports = refl;
  filtered = refl;
  marks = λ port. refl;
}

pub loop-port-preserved : goal.loop-port-preserved
loop-port-preserved g c =
    let i = c.loop-port.invariant in
    let e = c.ping_port.ensures in
    record {
      pings = one_more _ _ c.loop-port.port _ _ _ i.moment i.pings e.pings;
      sends = one_more_through g.D.PlaceSockets.sends _ _ c.loop-port.port _ _ _ _ _ _ i.moment i.sends e.pings e.sends;
      moment = e.moment ∙ i.moment;
      kept = e.kept ∙ i.kept;
      servers = e.servers ∙ i.servers;
      ports = e.ports ∙ i.ports;
      filtered = e.filtered ∙ i.filtered;
      marks = λ port. e.marks port ∙ i.marks port;
    }
