-- What a router advertises is determined, and so is what it asks as it starts.
use Rattle.std.proofs.Common.{◌≡◌, ℕ, ◌+◌, Bool, true, false, List, [], ◌∷◌, ◌++◌, Option, Some, sym, ◌∙◌, subst}
use Rattle.std.specs.Prelude.{MatchBool}
use Rattle.ipx_wire.specs.Assigned.{rip_socket, sap_socket}
use Rattle.ipx_control.specs.declared.rip.packet.RipEntry.{RipEntry}
use Rattle.ipx_control.specs.declared.sap.packet.ServiceEntry.{ServiceEntry}
use Rattle.ipx_control.specs.Rip as rip
use Rattle.ipx_control.specs.Sap as sap
use Rattle.ipx_router.specs.declared.port.Port.{Port}
use Rattle.ipx_router.specs.declared.port.PortNow.{PortNow}
use Rattle.ipx_router.specs.Knowledge.{Known, Routes, Services}
use Rattle.ipx_router.specs.OneValue.{IsKnownAlike, IsOneStart, AdvertisementsAreDetermined}
use Rattle.ipx_router.specs.RouterPackets.{AreRoutePackets, AreServicePackets, SendingView, all_nodes}
use Rattle.ipx_router.specs.Starting.{AreAsked, all_asked}
use Rattle.ipx_router.specs.Advertisements.{AreAdvertisements, AreAdvertised, TellsIfDue, is_due}
use Rattle.ipx_router.specs.AdvertisedEntries.{AreAdvertisedRoutes, AreAdvertisedServices, IsAdvertisedRoute, IsAdvertisedService, key_of_service, route_key}
use Rattle.ipx_router.proofs.Rising.{network_total}
use Rattle.ipx_router.proofs.OneList.{list_is_one}
use Rattle.ipx_router.proofs.OneAnswer.{Facts, key_total, rip_packet_one, route_packets_one, sap_packet_one, service_packets_one}

-- lists with equal parts are equal
parts : {X : Type 0} (xs ys a b c d : List X) → xs ≡ a ++ b → ys ≡ c ++ d → a ≡ c → b ≡ d → xs ≡ ys
parts xs ys a b c d of_x of_y front back = of_x ∙ (λ i. front i ++ back i) ∙ sym of_y

told_routes_one : (ports : List Port) (routes : Routes) (at : PortNow) (xs ys : List RipEntry) → AreAdvertisedRoutes ports routes at xs → AreAdvertisedRoutes ports routes at ys → xs ≡ ys
told_routes_one ports routes at = list_is_one network_total route_key (IsAdvertisedRoute ports routes at)

told_services_one : (services : Services) (at : PortNow) (xs ys : List ServiceEntry) → AreAdvertisedServices services at xs → AreAdvertisedServices services at ys → xs ≡ ys
told_services_one services at = list_is_one key_total key_of_service (IsAdvertisedService services at)

-- what is advertised on a port
told_one : Facts → (ports : List Port) (routes : Routes) (services : Services) (at : PortNow) (a b : List SendingView) → AreAdvertised ports routes services at a → AreAdvertised ports routes services at b → a ≡ b
told_one f ports routes services at a b x y =
    let to_rip = all_nodes at.number at.port rip_socket in
    let to_sap = all_nodes at.number at.port sap_socket in
    let same_routes = told_routes_one ports routes at x.advertised_routes y.advertised_routes x.of_routes y.of_routes in
    let same_services = told_services_one services at x.advertised_services y.advertised_services x.of_services y.of_services in
    let moved_routes = subst (λ (es : List RipEntry). AreRoutePackets to_rip es x.route_packets) same_routes x.in_route_packets in
    let moved_services = subst (λ (es : List ServiceEntry). AreServicePackets to_sap false es x.service_packets) same_services x.in_service_packets in
    parts a b x.route_packets x.service_packets y.route_packets y.service_packets x.are y.are
    (route_packets_one f to_rip y.advertised_routes x.route_packets y.route_packets moved_routes y.in_route_packets)
    (service_packets_one f to_sap false y.advertised_services x.service_packets y.service_packets moved_services y.in_service_packets)

-- what is advertised on all ports
tellings_one : Facts → (ports : List Port) (routes : Routes) (services : Services) (now number : ℕ) (left : List Port) (a b : List SendingView) → AreAdvertisements ports routes services now number left a → AreAdvertisements ports routes services now number left b → a ≡ b
tellings_one f ports routes services now number [] a b x y = x ∙ sym y
tellings_one f ports routes services now number (port ∷ left) a b x y =
    parts a b x.0 x.1 y.0 y.1 x.2 y.2
    (told_one f ports routes services (record { number = number; port = port; now = now }) x.0 y.0 x.3 y.3)
    (tellings_one f ports routes services now (number + 1) left x.1 y.1 x.4 y.4)

-- the same is known
known_one : (k other : Known) → IsKnownAlike k other → k ≡ other
known_one k other same = λ i. record { ports = same.ports i; routes = λ p. same.routes p i; services = λ p. same.services p i }

Tells : Bool → Known → Option ℕ → ℕ → List SendingView → Option ℕ → Type 0
Tells due k last now sent told = MatchBool due (AreAdvertisements k.ports k.routes k.services now 1 k.ports sent × (told ≡ Some now)) ((sent ≡ []) × (told ≡ last))

tells_one : Facts → (due : Bool) (k : Known) (last : Option ℕ) (now : ℕ) (a b : List SendingView) (told_a told_b : Option ℕ) → Tells due k last now a told_a → Tells due k last now b told_b → (a ≡ b) × (told_a ≡ told_b)
unfolding Tells
tells_one f true k last now a b told_a told_b x y = (tellings_one f k.ports k.routes k.services now 1 k.ports a b x.0 y.0, x.1 ∙ sym y.1)
tells_one f false k last now a b told_a told_b x y = (x.0 ∙ sym y.0, x.1 ∙ sym y.1)

pub telling_one : Facts → AdvertisementsAreDetermined
unfolding Tells
telling_one f k other last now a b told_a told_b same x y =
    let moved = subst (λ (j : Known). TellsIfDue j last now a told_a) (known_one k other same) x in
    tells_one f (is_due last now) other last now a b told_a told_b moved y

-- what is asked on a port
asked_one : Facts → (number : ℕ) (port : Port) (a b : List SendingView) → AreAsked number port a → AreAsked number port b → a ≡ b
asked_one f number port a b x y =
    let for_routes = rip_packet_one f (all_nodes number port rip_socket) (rip.Request (all_asked ∷ [])) x.0 y.0 x.3 y.3 in
    let for_services = sap_packet_one f (all_nodes number port sap_socket) (sap.Query false 65535) x.1 y.1 x.4 y.4 in
    x.2 ∙ (λ i. for_routes i ∷ for_services i ∷ []) ∙ sym y.2

pub start_one : Facts → IsOneStart
start_one f number [] a b x y = x ∙ sym y
start_one f number (port ∷ ports) a b x y =
    parts a b x.0 x.1 y.0 y.1 x.2 y.2 (asked_one f number port x.0 y.0 x.3 y.3) (start_one f (number + 1) ports x.1 y.1 x.4 y.4)
