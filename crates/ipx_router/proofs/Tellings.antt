-- The packets of all ports, one port after another.
use Rattle.ipx_wire.specs.Assigned.{rip_socket, sap_socket}
use Rattle.std.proofs.Common.{◌≡◌, ℕ, ◌+◌, ◌<◌, ◌≤◌, false, List, [], ◌∷◌, ◌++◌, length, drop, refl, sym, ap, ◌∙◌, subst, arith, append_assoc}
use Rattle.std.specs.List.{All}
use Rattle.std.proofs.lemmas.List.Elements.{All-append, All-cons, All-nil, All-weaker}
use Rattle.ipx_control.specs.declared.rip.packet.RipEntry.{RipEntry}
use Rattle.ipx_control.specs.declared.sap.packet.ServiceEntry.{ServiceEntry}
use Rattle.ipx_control.specs.Rip as rip
use Rattle.ipx_control.specs.Sap as sap
use Rattle.ipx_router.specs.declared.outcome.Reply.{Reply}
use Rattle.ipx_router.specs.declared.packets.Recipient.{Recipient}
use Rattle.ipx_router.specs.declared.port.Port.{Port}
use Rattle.ipx_router.specs.declared.port.PortNow.{PortNow}
use Rattle.ipx_router.specs.Knowledge.{Routes, Services}
use Rattle.ipx_router.specs.AdvertisedEntries.{AreAdvertisedRoutes, AreAdvertisedServices}
use Rattle.ipx_router.specs.RouterPackets.{AreRoutePackets, AreServicePackets, IsRipPacket, IsSapPacket, SendingView, all_nodes, sending_of, sendings}
use Rattle.ipx_router.specs.Adding.{AddsPackets}
use Rattle.ipx_router.specs.Ports.{AreOnPorts, IsPortNumber}
use Rattle.ipx_router.specs.Starting.{AreAsked, AreStarts, all_asked}
use Rattle.ipx_router.specs.Advertisements.{AreAdvertisements, AreAdvertised}
use Rattle.ipx_router.proofs.Cuts.{route_packets_port, service_packets_port, sendings_one}

-- all leave by this port
abbrev ByPort : ℕ → List SendingView → Type 0
ByPort number sent = All (λ (s : SendingView). s.port ≡ number) sent

-- all leave by ports from this number on
abbrev ByPorts : ℕ → ℕ → List SendingView → Type 0
ByPorts first count sent = All (λ (s : SendingView). (first ≤ s.port) × (s.port < first + count)) sent

in_a_row : (added old later : List SendingView) (new : List SendingView) → new ≡ old ++ added → new ++ later ≡ old ++ (added ++ later)
in_a_row added old later new e = ap (λ (t : List SendingView). t ++ later) e ∙ append_assoc old added later

-- two packets that ask
pub asks_two : (number : ℕ) (port : Port) (old mid new : List Reply) (r s : Reply) → mid ≡ old ++ r ∷ [] → new ≡ mid ++ s ∷ []
    → IsRipPacket (all_nodes number port rip_socket) (rip.Request (all_asked ∷ [])) (sending_of r) → IsSapPacket (all_nodes number port sap_socket) (sap.Query false 65535) (sending_of s)
    → AddsPackets (AreAsked number port) old new
asks_two number port old mid new r s e f p q = (
  sending_of r ∷ sending_of s ∷ [],
  ap sendings f ∙ sendings_one mid s ∙ ap (λ (t : List SendingView). t ++ (sending_of s ∷ [])) (ap sendings e ∙ sendings_one old r) ∙ append_assoc (sendings old) (sending_of r ∷ []) (sending_of s ∷ []),
  (sending_of r, sending_of s, refl, p, q),
)

-- routes, followed by services
pub tells_both : (ports : List Port) (routes : Routes) (services : Services) (at : PortNow) (old mid new : List Reply) (advertised_routes : List RipEntry) (advertised_services : List ServiceEntry) (for_routes for_services : Recipient)
    → for_routes ≡ all_nodes at.number at.port rip_socket → for_services ≡ all_nodes at.number at.port sap_socket
    → AreAdvertisedRoutes ports routes at advertised_routes → AreAdvertisedServices services at advertised_services
    → AddsPackets (AreRoutePackets for_routes advertised_routes) old mid → AddsPackets (AreServicePackets for_services false advertised_services) mid new
    → AddsPackets (AreAdvertised ports routes services at) old new
tells_both ports routes services at old mid new rs ss tr ts er es of_r of_s p q = (
  p.0 ++ q.0,
  q.1 ∙ ap (λ (t : List SendingView). t ++ q.0) p.1 ∙ append_assoc (sendings old) p.0 q.0,
  record {
    advertised_routes = rs;
    advertised_services = ss;
    route_packets = p.0;
    service_packets = q.0;
    are = refl;
    of_routes = of_r;
    of_services = of_s;
    in_route_packets = subst (λ (t : Recipient). AreRoutePackets t rs p.0) er p.2;
    in_service_packets = subst (λ (t : Recipient). AreServicePackets t false ss q.0) es q.2;
  },
)

-- what was added to an empty list is the whole list
pub adds_to_none : (P : List SendingView → Type 0) (old new : List Reply) → old ≡ [] → AddsPackets P old new → P (sendings new)
adds_to_none P old new none adds = subst P (sym (adds.1 ∙ ap (λ (rs : List Reply). sendings rs ++ adds.0) none)) adds.2

module _ (ports : List Port) (i : ℕ) (port : Port) (at : drop i ports ≡ port ∷ drop (i + 1) ports) (old new : List Reply) where
  pub starts_more : ((later : List SendingView) → AreStarts (i + 1) (drop i ports) later → AreStarts 1 ports (sendings old ++ later)) → AddsPackets (AreAsked (i + 1) port) old new
      → (later : List SendingView) → AreStarts (i + 1 + 1) (drop (i + 1) ports) later → AreStarts 1 ports (sendings new ++ later)
  starts_more left adds later rest =
      let here : AreStarts (i + 1) (port ∷ drop (i + 1) ports) (adds.0 ++ later) = (adds.0, later, refl, adds.2, rest) in
      subst (AreStarts 1 ports) (sym (in_a_row adds.0 (sendings old) later (sendings new) adds.1))
      (left (adds.0 ++ later) (subst (λ (ps : List Port). AreStarts (i + 1) ps (adds.0 ++ later)) (sym at) here))

  module _ (routes : Routes) (services : Services) (now : ℕ) where
    abbrev Tellings : ℕ → List Port → List SendingView → Type 0
    Tellings = AreAdvertisements ports routes services now

    pub tellings_more : ((later : List SendingView) → AreAdvertisements ports routes services now (i + 1) (drop i ports) later → AreAdvertisements ports routes services now 1 ports (sendings old ++ later))
        → AddsPackets (AreAdvertised ports routes services (record { number = i + 1; port = port; now = now })) old new
        → (later : List SendingView) → AreAdvertisements ports routes services now (i + 1 + 1) (drop (i + 1) ports) later → AreAdvertisements ports routes services now 1 ports (sendings new ++ later)
    tellings_more left adds later rest =
        let here : Tellings (i + 1) (port ∷ drop (i + 1) ports) (adds.0 ++ later) = (adds.0, later, refl, adds.2, rest) in
        subst (Tellings 1 ports) (sym (in_a_row adds.0 (sendings old) later (sendings new) adds.1))
        (left (adds.0 ++ later) (subst (λ (ps : List Port). Tellings (i + 1) ps (adds.0 ++ later)) (sym at) here))

-- ---- the ports that they leave by

wider : (first count : ℕ) (sent : List SendingView) → ByPort first sent → 0 < count → ByPorts first count sent
wider first count sent by some = All-weaker (λ (s : SendingView). s.port ≡ first) (λ (s : SendingView). (first ≤ s.port) × (s.port < first + count)) (λ s e. (omega arith, omega arith)) sent by

later_ports : (first count : ℕ) (sent : List SendingView) → ByPorts (first + 1) count sent → ByPorts first (count + 1) sent
later_ports first count sent by = All-weaker (λ (s : SendingView). (first + 1 ≤ s.port) × (s.port < first + 1 + count)) (λ (s : SendingView). (first ≤ s.port) × (s.port < first + (count + 1))) (λ s e. (omega (arith, e.0, e.1), omega (arith, e.0, e.1))) sent by

joined : (first count : ℕ) (sent a b : List SendingView) → sent ≡ a ++ b → ByPort first a → ByPorts (first + 1) count b → ByPorts first (count + 1) sent
joined first count sent a b e p q =
    subst (ByPorts first (count + 1)) (sym e) (All-append (λ (s : SendingView). (first ≤ s.port) × (s.port < first + (count + 1))) a b (wider first (count + 1) a p (omega arith)) (later_ports first count b q))

asked_port : (number : ℕ) (port : Port) (sent : List SendingView) → AreAsked number port sent → ByPort number sent
asked_port number port sent asked =
    let P : SendingView → Type 0 = λ s. s.port ≡ number in
    subst (All P) (sym asked.2) (All-cons P asked.0 (asked.1 ∷ []) asked.3.port (All-cons P asked.1 [] asked.4.port (All-nil P)))

starts_ports : (number : ℕ) (ports : List Port) (sent : List SendingView) → AreStarts number ports sent → ByPorts number (length ports) sent
starts_ports number [] sent e = subst (ByPorts number 0) (sym e) (All-nil _)
starts_ports number (port ∷ ports) sent s =
    let more : length (port ∷ ports) ≡ length ports + 1 = omega arith in
    rw more (joined number (length ports) sent s.0 s.1 s.2 (asked_port number port s.0 s.3) (starts_ports (number + 1) ports s.1 s.4))

told_port : (ports : List Port) (routes : Routes) (services : Services) (at : PortNow) (sent : List SendingView) → AreAdvertised ports routes services at sent → ByPort at.number sent
told_port ports routes services at sent t =
    subst (ByPort at.number) (sym t.are) (All-append (λ (s : SendingView). s.port ≡ at.number) t.route_packets t.service_packets
    (route_packets_port (all_nodes at.number at.port rip_socket) t.advertised_routes t.route_packets t.in_route_packets)
    (service_packets_port (all_nodes at.number at.port sap_socket) false t.advertised_services t.service_packets t.in_service_packets))

tellings_ports : (all : List Port) (routes : Routes) (services : Services) (now number : ℕ) (ports : List Port) (sent : List SendingView) → AreAdvertisements all routes services now number ports sent → ByPorts number (length ports) sent
tellings_ports all routes services now number [] sent e = subst (ByPorts number 0) (sym e) (All-nil _)
tellings_ports all routes services now number (port ∷ ports) sent s =
    let more : length (port ∷ ports) ≡ length ports + 1 = omega arith in
    rw more (joined number (length ports) sent s.0 s.1 s.2 (told_port all routes services _ s.0 s.3) (tellings_ports all routes services now (number + 1) ports s.1 s.4))

there : (count : ℕ) (sent : List SendingView) → ByPorts 1 count sent → AreOnPorts count sent
there count sent by = All-weaker (λ (s : SendingView). (1 ≤ s.port) × (s.port < 1 + count)) (λ (s : SendingView). IsPortNumber count s.port) (λ s e. (e.0, omega (arith, e.1))) sent by

pub starts_there : (ports : List Port) (sent : List SendingView) → AreStarts 1 ports sent → AreOnPorts (length ports) sent
starts_there ports sent s = there (length ports) sent (starts_ports 1 ports sent s)

pub tellings_there : (all : List Port) (routes : Routes) (services : Services) (now : ℕ) (sent : List SendingView) → AreAdvertisements all routes services now 1 all sent → AreOnPorts (length all) sent
tellings_there all routes services now sent s = there (length all) sent (tellings_ports all routes services now 1 all sent s)
