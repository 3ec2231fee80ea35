-- Answers in place: a packet for another network is forwarded, and everything else is answered unchanged.
use Rattle.std.proofs.Common.{◌≡◌, ℕ, ◌+◌, List, length, Option, Some, None, Result, Ok, Err, refl, sym, subst}
use Rattle.std.specs.Prelude.{IfOk, OnErr, MatchOption}
use Rattle.ipx_wire.specs.declared.address.Network.{Network}
use Rattle.ipx_wire.specs.declared.ipx.fault.IpxFault.{IpxFault}
use Rattle.ipx_wire.specs.declared.ipx.packet.IpxHeader.{IpxHeader}
use Rattle.ipx_wire.specs.declared.memory.OutOfMemory.{OutOfMemory}
use Rattle.ipx_wire.specs.Ipx.{BeginsWith, IsIpx, PacketView, ipx_fault, packet_of}
use Rattle.ipx_tables.specs.declared.route.RouteMetric.{RouteMetric}
use Rattle.ipx_tables.specs.declared.service.ServiceKey.{ServiceKey}
use Rattle.ipx_tables.specs.declared.service.ServiceMetric.{ServiceMetric}
use Rattle.ipx_tables.specs.Content.{Table}
use Rattle.ipx_router.specs.declared.classify.PacketClass.{PacketClass}
use Rattle.ipx_router.specs.declared.classify.PacketClass.TheVariants as classes
use Rattle.ipx_router.specs.declared.port.Port.{Port}
use Rattle.ipx_router.specs.declared.port.PortNow.{PortNow}
use Rattle.ipx_router.specs.declared.reason.Reason.TheVariants.{Bad}
use Rattle.ipx_router.specs.Knowledge.{HoldsKnown, Known, Tables, known_in, routes_in}
use Rattle.ipx_router.specs.OutcomeView.{OutcomeView, Forward, Replies, Heard, Dropped}
use Rattle.ipx_router.specs.Onward.{ForwardsNothing, IsOnward}
use Rattle.ipx_router.specs.Classify.{class_of}
use Rattle.ipx_router.specs.Forward.{Forwards}
use Rattle.ipx_router.specs.Answer.{AnswersByClass, AnswersBytes, AnswersPacket}
use Rattle.ipx_router.specs.OutOfMemoryCases.{NoneIsOnward}
use Rattle.ipx_router.specs.Forwarded.{ForwardsEachReading, ForwardsPacket, IsForwardOf}
use Rattle.ipx_router.proofs.Fits.{rip_fits, sap_fits}

-- ---- a packet for another network

forwards_packet : (bytes : List ℕ) (d : PacketView) → BeginsWith bytes d → (a : OutcomeView) → ForwardsPacket bytes a
forwards_packet bytes d is (Forward port next out) = (d, is)
forwards_packet bytes d is (Replies sent) = tt
forwards_packet bytes d is (Heard n) = tt
forwards_packet bytes d is (Dropped reason) = tt

module _ (ports : List Port) (routes : Table Network RouteMetric) (services : Table ServiceKey ServiceMetric) (at : PortNow) (bytes : List ℕ) (h : IpxHeader) (count : ℕ) (on : IsOnward at.port bytes h count) (a : OutcomeView) where
  pub on_answers : ((body tail : List ℕ) → IsIpx (packet_of h body) bytes tail → 30 + length body ≡ count → Forwards ports (routes_in routes) at (packet_of h body) a)
      → AnswersBytes (known_in ports routes services) at bytes a (routes, services)
  on_answers forwards =
      let k : Known = known_in ports routes services in
      let new : Tables = (routes, services) in
      let d : PacketView = packet_of h on.body in
      let same : HoldsKnown k new = record { routes = λ p. refl; services = λ p. refl } in
      let by : AnswersByClass k at d a new (class_of at.port h) = subst (AnswersByClass k at d a new) (sym on.packet_class) (forwards on.body on.tail on.packet on.size, same) in
      subst (λ (f : Option IpxFault). MatchOption f (AnswersPacket k at bytes a new) (λ f. (a ≡ Dropped (Bad f)) × HoldsKnown k new)) (sym on.whole) (d, on.tail, on.packet, by)

  pub on_packet : ForwardsPacket bytes a
  on_packet = forwards_packet bytes (packet_of h on.body) (on.tail, on.packet) a

  pub on_one_hop : ((body tail : List ℕ) → IsIpx (packet_of h body) bytes tail → 30 + length body ≡ count → IsForwardOf at.port (packet_of h body) a) → ForwardsEachReading at.port bytes a
  on_one_hop one = λ d begins. subst (λ (e : PacketView). IsForwardOf at.port e a) (sym (on.only d begins)) (one on.body on.tail on.packet on.size)

-- ---- everything else

module _ (k : Known) (at : PortNow) (bytes : List ℕ) (none : NoneIsOnward at.port bytes) (a : OutcomeView) (new : Tables) where
  class_nothing : (d : PacketView) → BeginsWith bytes d → (c : PacketClass) → class_of at.port d.header ≡ c → AnswersByClass k at d a new c → ForwardsNothing a
  class_nothing d is (classes.Dropped reason) e h = subst ForwardsNothing (sym h.0) tt
  class_nothing d is classes.Rip e h = rip_fits at d ForwardsNothing (λ n. tt) (λ r. tt) (λ sent by own. tt) k.ports k.routes a new.0 h.0
  class_nothing d is classes.Sap e h = sap_fits at d ForwardsNothing (λ n. tt) (λ r. tt) (λ sent by own. tt) k.services a new.1 h.0
  class_nothing d is classes.Forward e h = absurd (none d is e)

  bytes_nothing : (f : Option IpxFault) → MatchOption f (AnswersPacket k at bytes a new) (λ f. (a ≡ Dropped (Bad f)) × HoldsKnown k new) → ForwardsNothing a
  bytes_nothing None h = class_nothing h.0 (h.1, h.2) (class_of at.port h.0.header) refl h.3
  bytes_nothing (Some f) h = subst ForwardsNothing (sym h.0) tt

  pub forwards_nothing : AnswersBytes k at bytes a new → ForwardsNothing a
  forwards_nothing h = bytes_nothing (ipx_fault bytes) h
