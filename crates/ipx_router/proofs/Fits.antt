-- What holds of the packets of every answer: they leave by ports that exist, and the router's own are not
-- SPX.
use Rattle.ipx_wire.specs.Assigned.{rip_socket, sap_socket}
use Rattle.std.proofs.Common.{◌≡◌, ℕ, ◌+◌, Bool, true, false, List, [], ◌∷◌, Option, Some, None, Result, Ok, Err, sym, subst, arith}
use Rattle.std.specs.Prelude.{IfOk, MatchBool, MatchOption}
use Rattle.std.specs.List.{All}
use Rattle.std.proofs.lemmas.List.Elements.{All-append, All-cons, All-nil, All-weaker}
use Rattle.ipx_wire.specs.declared.address.Network.{Network}
use Rattle.ipx_wire.specs.declared.ipx.fault.IpxFault.{IpxFault}
use Rattle.ipx_wire.specs.declared.memory.OutOfMemory.{OutOfMemory}
use Rattle.ipx_wire.specs.Ipx.{PacketView, ipx_fault}
use Rattle.ipx_control.specs.declared.fault.ControlFault.{ControlFault}
use Rattle.ipx_control.specs.declared.rip.packet.RipEntry.{RipEntry}
use Rattle.ipx_control.specs.declared.sap.packet.ServiceEntry.{ServiceEntry}
use Rattle.ipx_control.specs.Rip.{RipView, IsRip, rip_fault}
use Rattle.ipx_control.specs.Rip as rip
use Rattle.ipx_control.specs.Sap.{SapView, IsSap, sap_fault}
use Rattle.ipx_control.specs.Sap as sap
use Rattle.ipx_tables.specs.declared.route.RouteMetric.{RouteMetric}
use Rattle.ipx_tables.specs.declared.service.ServiceKey.{ServiceKey}
use Rattle.ipx_tables.specs.declared.service.ServiceMetric.{ServiceMetric}
use Rattle.ipx_tables.specs.declared.source.Source.{Source}
use Rattle.ipx_tables.specs.Content.{Table}
use Rattle.ipx_router.specs.declared.classify.PacketClass.{PacketClass}
use Rattle.ipx_router.specs.declared.classify.PacketClass.TheVariants as classes
use Rattle.ipx_router.specs.declared.forwarding.Forwarding.{Forwarding}
use Rattle.ipx_router.specs.declared.forwarding.Forwarding.TheVariants as outcomes
use Rattle.ipx_router.specs.declared.outcome.Outcome.{Outcome}
use Rattle.ipx_router.specs.declared.port.Port.{Port}
use Rattle.ipx_router.specs.declared.port.PortNow.{PortNow}
use Rattle.ipx_router.specs.declared.reason.Reason.{Reason}
use Rattle.ipx_router.specs.declared.reason.Reason.TheVariants.{Bad, BadControl}
use Rattle.ipx_router.specs.RouterView.{RouterView}
use Rattle.ipx_router.specs.Knowledge.{HoldsKnown, HoldsRoutes, HoldsServices, Known, Routes, Services, Tables}
use Rattle.ipx_router.specs.Ports.{AreOnPorts, IsPortNumber}
use Rattle.ipx_router.specs.RouterPackets.{AreOwn, IsOwn, SendingView, all_nodes, recipient_at}
use Rattle.ipx_router.specs.OutcomeView.{OutcomeView, Forward, Replies, Heard, Dropped, IsOnPort, replies_of, router_outcome}
use Rattle.ipx_router.specs.Classify.{class_of}
use Rattle.ipx_router.specs.Hearing.{source_of}
use Rattle.ipx_router.specs.Forward.{IsForwardingAnswer, by_route}
use Rattle.ipx_router.specs.Answer.{AnswersByClass, AnswersPacket, AnswersRip, AnswersRipMessage, AnswersSap, AnswersSapMessage, HearsRoutes, HearsServices, Receives}
use Rattle.ipx_router.specs.Starting.{AreAsked, AreStarts, all_asked}
use Rattle.ipx_router.specs.Advertisements.{AreAdvertisements, AreAdvertised, TellsIfDue, is_due}
use Rattle.ipx_router.proofs.Cuts.{rip_packet_own, route_packets_own, route_packets_port, sap_packet_own, service_packets_own, service_packets_port}

-- a fact of answers that holds if entries were learned, if the packet was dropped, and for replies of the
-- router by the port that the request came in on
module _ (at : PortNow) (d : PacketView) (Q : OutcomeView → Type 0) (heard : (n : ℕ) → Q (Heard n)) (dropped : (r : Reason) → Q (Dropped r))
    (replies : (sent : List SendingView) → All (λ (s : SendingView). s.port ≡ at.number) sent → AreOwn sent → Q (Replies sent)) where
  heard_fits : (ports : List Port) (routes : Routes) (source : Source) (entries : List RipEntry) (a : OutcomeView) (new : Table Network RouteMetric) → HearsRoutes ports routes source at.now entries a new → Q a
  heard_fits ports routes source entries (Heard n) new h = heard n
  heard_fits ports routes source entries (Dropped r) new h = dropped r
  heard_fits ports routes source entries (Forward port next bytes) new h = absurd h
  heard_fits ports routes source entries (Replies sent) new h = absurd h

  services_fit : (services : Services) (source : Source) (entries : List ServiceEntry) (a : OutcomeView) (new : Table ServiceKey ServiceMetric) → HearsServices services source at.now entries a new → Q a
  services_fit services source entries (Heard n) new h = heard n
  services_fit services source entries (Dropped r) new h = dropped r
  services_fit services source entries (Forward port next bytes) new h = absurd h
  services_fit services source entries (Replies sent) new h = absurd h

  module _ (ports : List Port) (routes : Routes) (a : OutcomeView) (new : Table Network RouteMetric) where
    rip_message_fits : (m : RipView) → AnswersRipMessage ports routes at d.header m a new → Q a
    rip_message_fits (rip.Request asked) h =
        subst Q (sym h.1) (replies h.0 (route_packets_port (recipient_at at d.header) _ h.0 h.2.packets) (route_packets_own (recipient_at at d.header) _ h.0 h.2.packets))
    rip_message_fits (rip.Response entries) h = heard_fits ports routes (source_of at d.header) entries a new h

    rip_fits_by : (f : Option ControlFault) → MatchOption f ((m : RipView) × (tail : List ℕ) × IsRip m d.body tail × AnswersRipMessage ports routes at d.header m a new) (λ f. (a ≡ Dropped (BadControl f)) × HoldsRoutes new routes) → Q a
    rip_fits_by None h = rip_message_fits h.0 h.3
    rip_fits_by (Some f) h = subst Q (sym h.0) (dropped (BadControl f))

    pub rip_fits : AnswersRip ports routes at d a new → Q a
    rip_fits h = rip_fits_by (rip_fault d.body) h

  module _ (services : Services) (a : OutcomeView) (new : Table ServiceKey ServiceMetric) where
    sap_message_fits : (m : SapView) → AnswersSapMessage services at d.header m a new → Q a
    sap_message_fits (sap.Query nearest kind) h =
        subst Q (sym h.1) (replies h.0 (service_packets_port (recipient_at at d.header) nearest _ h.0 h.2.packets) (service_packets_own (recipient_at at d.header) nearest _ h.0 h.2.packets))
    sap_message_fits (sap.Response nearest entries) h = services_fit services (source_of at d.header) entries a new h

    sap_fits_by : (f : Option ControlFault) → MatchOption f ((m : SapView) × (tail : List ℕ) × IsSap m d.body tail × AnswersSapMessage services at d.header m a new) (λ f. (a ≡ Dropped (BadControl f)) × HoldsServices new services) → Q a
    sap_fits_by None h = sap_message_fits h.0 h.3
    sap_fits_by (Some f) h = subst Q (sym h.0) (dropped (BadControl f))

    pub sap_fits : AnswersSap services at d a new → Q a
    sap_fits h = sap_fits_by (sap_fault d.body) h

-- ---- replies leave by the port that the request came in on

on_ports : (count number : ℕ) (sent : List SendingView) → IsPortNumber count number → All (λ (s : SendingView). s.port ≡ number) sent → AreOnPorts count sent
on_ports count number sent is all = All-weaker (λ (s : SendingView). s.port ≡ number) (λ (s : SendingView). IsPortNumber count s.port) (λ s e. (omega (arith, e, is.0), omega (arith, e, is.1))) sent all

pub rip_there_ok : (count : ℕ) (ports : List Port) (routes : Routes) (at : PortNow) (is : IsPortNumber count at.number) (d : PacketView) (new : Table Network RouteMetric) (o : Result Outcome OutOfMemory)
    → IfOk o (λ x. AnswersRip ports routes at d (router_outcome x) new) → IfOk o (λ x. IsOnPort count (router_outcome x))
rip_there_ok count ports routes at is d new (Ok x) h =
    rip_fits at d (IsOnPort count) (λ n. tt) (λ r. tt) (λ sent by own. on_ports count at.number sent is by) ports routes (router_outcome x) new h
rip_there_ok count ports routes at is d new (Err e) h = tt

pub sap_there_ok : (count : ℕ) (services : Services) (at : PortNow) (is : IsPortNumber count at.number) (d : PacketView) (new : Table ServiceKey ServiceMetric) (o : Result Outcome OutOfMemory)
    → IfOk o (λ x. AnswersSap services at d (router_outcome x) new) → IfOk o (λ x. IsOnPort count (router_outcome x))
sap_there_ok count services at is d new (Ok x) h =
    sap_fits at d (IsOnPort count) (λ n. tt) (λ r. tt) (λ sent by own. on_ports count at.number sent is by) services (router_outcome x) new h
sap_there_ok count services at is d new (Err e) h = tt

-- ---- replies are not SPX

abbrev RepliesOwn : OutcomeView → Type 0
RepliesOwn a = AreOwn (replies_of a)

fate_own : (arrived : Port) (d : PacketView) (f : Forwarding) (a : OutcomeView) → IsForwardingAnswer arrived d f a → RepliesOwn a
fate_own arrived d (outcomes.Dropped reason) a h = subst RepliesOwn (sym h) (All-nil IsOwn)
fate_own arrived d (outcomes.Forward port next) a h = subst RepliesOwn (sym h.1) (All-nil IsOwn)

module _ (k : Known) (at : PortNow) (a : OutcomeView) (new : Tables) where
  class_own : (d : PacketView) (c : PacketClass) → AnswersByClass k at d a new c → RepliesOwn a
  class_own d (classes.Dropped reason) h = subst RepliesOwn (sym h.0) (All-nil IsOwn)
  class_own d classes.Rip h =
      rip_fits at d RepliesOwn (λ n. All-nil IsOwn) (λ r. All-nil IsOwn) (λ sent by own. own) k.ports k.routes a new.0 h.0
  class_own d classes.Sap h =
      sap_fits at d RepliesOwn (λ n. All-nil IsOwn) (λ r. All-nil IsOwn) (λ sent by own. own) k.services a new.1 h.0
  class_own d classes.Forward h = fate_own at.port d (by_route d.header h.0.0) a h.0.2

  bytes_own : (bytes : List ℕ) (f : Option IpxFault) → MatchOption f (AnswersPacket k at bytes a new) (λ f. (a ≡ Dropped (Bad f)) × HoldsKnown k new) → RepliesOwn a
  bytes_own bytes None h = class_own h.0 (class_of at.port h.0.header) h.3
  bytes_own bytes (Some f) h = subst RepliesOwn (sym h.0) (All-nil IsOwn)

pub receives_own : {O : Type 0} (view : O → OutcomeView) (old : RouterView) (port : ℕ) (bytes : List ℕ) (now : ℕ) (new : RouterView) (o : Result O OutOfMemory)
    → IfOk o (λ x. Receives old port bytes now (view x) new) → IfOk o (λ x. AreOwn (replies_of (view x)))
receives_own view old port bytes now new (Ok x) r = bytes_own _ _ (view x) _ bytes (ipx_fault bytes) r.answers.2
receives_own view old port bytes now new (Err e) r = tt

-- ---- and neither is what the router asks and advertises

asked_own : (number : ℕ) (port : Port) (sent : List SendingView) → AreAsked number port sent → AreOwn sent
asked_own number port sent asked =
    subst AreOwn (sym asked.2) (All-cons IsOwn asked.0 (asked.1 ∷ []) (rip_packet_own (all_nodes number port rip_socket) (rip.Request (all_asked ∷ [])) asked.0 asked.3)
    (All-cons IsOwn asked.1 [] (sap_packet_own (all_nodes number port sap_socket) (sap.Query false 65535) asked.1 asked.4) (All-nil IsOwn)))

starts_own : (number : ℕ) (ports : List Port) (sent : List SendingView) → AreStarts number ports sent → AreOwn sent
starts_own number [] sent e = subst AreOwn (sym e) (All-nil IsOwn)
starts_own number (port ∷ ports) sent s =
    subst AreOwn (sym s.2) (All-append IsOwn s.0 s.1 (asked_own number port s.0 s.3) (starts_own (number + 1) ports s.1 s.4))

told_own : (ports : List Port) (routes : Routes) (services : Services) (at : PortNow) (sent : List SendingView) → AreAdvertised ports routes services at sent → AreOwn sent
told_own ports routes services at sent t =
    subst AreOwn (sym t.are) (All-append IsOwn t.route_packets t.service_packets
    (route_packets_own (all_nodes at.number at.port rip_socket) t.advertised_routes t.route_packets t.in_route_packets)
    (service_packets_own (all_nodes at.number at.port sap_socket) false t.advertised_services t.service_packets t.in_service_packets))

tellings_own : (all : List Port) (routes : Routes) (services : Services) (now number : ℕ) (ports : List Port) (sent : List SendingView) → AreAdvertisements all routes services now number ports sent → AreOwn sent
tellings_own all routes services now number [] sent e = subst AreOwn (sym e) (All-nil IsOwn)
tellings_own all routes services now number (port ∷ ports) sent s =
    subst AreOwn (sym s.2) (All-append IsOwn s.0 s.1 (told_own all routes services _ s.0 s.3) (tellings_own all routes services now (number + 1) ports s.1 s.4))

tells_own_by : (k : Known) (last : Option ℕ) (now : ℕ) (sent : List SendingView) (told : Option ℕ) (due : Bool)
    → MatchBool due (AreAdvertisements k.ports k.routes k.services now 1 k.ports sent × (told ≡ Some now)) ((sent ≡ []) × (told ≡ last)) → AreOwn sent
tells_own_by k last now sent told true h = tellings_own k.ports k.routes k.services now 1 k.ports sent h.0
tells_own_by k last now sent told false h = subst AreOwn (sym h.0) (All-nil IsOwn)

tells_own : (k : Known) (last : Option ℕ) (now : ℕ) (sent : List SendingView) (told : Option ℕ) → TellsIfDue k last now sent told → AreOwn sent
tells_own k last now sent told h = tells_own_by k last now sent told (is_due last now) h

pub starts_own_ok : {V X : Type 0} (sent : V → List SendingView) (ports : List Port) (o : Result V X) → IfOk o (λ v. AreStarts 1 ports (sent v)) → IfOk o (λ v. AreOwn (sent v))
starts_own_ok sent ports (Ok v) h = starts_own 1 ports (sent v) h
starts_own_ok sent ports (Err e) h = tt

pub tells_own_ok : {V X : Type 0} (sent : V → List SendingView) (k : Known) (last : Option ℕ) (now : ℕ) (told : Option ℕ) (o : Result V X) → IfOk o (λ v. TellsIfDue k last now (sent v) told) → IfOk o (λ v. AreOwn (sent v))
tells_own_ok sent k last now told (Ok v) h = tells_own k last now (sent v) told h
tells_own_ok sent k last now told (Err e) h = tt
