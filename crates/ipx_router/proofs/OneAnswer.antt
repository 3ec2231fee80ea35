-- A router's answer is determined.
use Rattle.ipx_wire.specs.Assigned.{rip_socket, sap_socket}
use Rattle.std.proofs.Common.{◌≡◌, ℕ, ◌<◌, inl, inr, Bool, true, false, List, [], ◌∷◌, length, Option, Some, None, refl, sym, ap, ◌∙◌, subst}
use Rattle.std.specs.Prelude.{MatchBool, MatchOption, if◌then◌else◌}
use Rattle.std.specs.Cmp.{IsTotalOrder}
use Rattle.std.specs.Cmp.Lexicographic.{slice_cmp}
use Rattle.std.specs.Ordering.{nat_cmp}
use Rattle.std.proofs.lemmas.Cmp.{nat_cmp_total, nat_list_cmp_total, on_total, then_total}
use Rattle.std.proofs.lemmas.Map.Lookups.{exact_unsigned, exact_bytes, exact_pairs}
use Rattle.std.proofs.lemmas.Option.{slice_get_within}
use Rattle.ipx_wire.specs.declared.address.Network.{Network}
use Rattle.ipx_wire.specs.declared.ipx.packet.IpxHeader.{IpxHeader}
use Rattle.ipx_wire.specs.Ipx.{IsBytes, IsIpx, PacketView, ipx_fault}
use Rattle.ipx_control.specs.declared.rip.packet.RipEntry.{RipEntry}
use Rattle.ipx_control.specs.declared.sap.packet.ServiceEntry.{ServiceEntry}
use Rattle.ipx_control.specs.Rip.{RipView, IsRip, rip_fault}
use Rattle.ipx_control.specs.Rip as rip
use Rattle.ipx_control.specs.Sap.{SapView, IsSap, sap_fault}
use Rattle.ipx_control.specs.Sap as sap
use Rattle.ipx_tables.specs.declared.route.RouteMetric.{RouteMetric}
use Rattle.ipx_tables.specs.declared.service.ServiceKey.{ServiceKey}
use Rattle.ipx_tables.specs.declared.service.ServiceMetric.{ServiceMetric}
use Rattle.ipx_tables.specs.declared.source.Source.{Source}
use Rattle.ipx_tables.specs.Best.{IsBest}
use Rattle.ipx_tables.specs.Content.{IsTable, Table, after_hear}
use Rattle.ipx_tables.specs.Order.{EqualOnlyIfSame, strict_from_cmp}
use Rattle.ipx_tables.specs.Route.{network_cmp, route_before, route_dead}
use Rattle.ipx_tables.specs.Service.{service_dead, service_key_cmp}
use Rattle.ipx_router.specs.declared.classify.PacketClass.{PacketClass}
use Rattle.ipx_router.specs.declared.classify.PacketClass.TheVariants as classes
use Rattle.ipx_router.specs.declared.forwarding.Forwarding.{Forwarding}
use Rattle.ipx_router.specs.declared.forwarding.Forwarding.TheVariants as outcomes
use Rattle.ipx_router.specs.declared.packets.Recipient.{Recipient}
use Rattle.ipx_router.specs.declared.port.Port.{Port}
use Rattle.ipx_router.specs.declared.port.PortNow.{PortNow}
use Rattle.ipx_router.specs.declared.reason.Reason.TheVariants.{Bad, BadControl}
use Rattle.ipx_router.specs.declared.route.Route.{Route}
use Rattle.ipx_router.specs.RouterView.{RouterView}
use Rattle.ipx_router.specs.OutcomeView.{OutcomeView, Forward, Replies, Heard, Dropped}
use Rattle.ipx_router.specs.Knowledge.{AreTables, HoldsKnown, HoldsRoutes, HoldsServices, Known, Routes, Services, Tables, known_at, tables}
use Rattle.ipx_router.specs.RouterPackets.{AreRoutePackets, AreServicePackets, IsRipPacket, IsSapPacket, SendingView}
use Rattle.ipx_router.specs.Classify.{class_of}
use Rattle.ipx_router.specs.RouteChoice.{IsHeardRoute, IsRouteOrNone, IsRouteTo, direct_route, over_neighbour, over_port}
use Rattle.ipx_router.specs.Forward.{Forwards, IsForwardingAnswer, by_route, forward_header}
use Rattle.ipx_router.specs.AdvertisedEntries.{AreAdvertisedRoutes, IsAdvertisedRoute, IsAdvertisedService, key_of_service, route_key, advertised_route}
use Rattle.ipx_router.specs.Replying.{AreNearest, AreRoutesAsked, AreServicesAsked, AreAdvertisedOf, IsNearest, RepliesRoutes, RepliesServices, asks_all, nearness}
use Rattle.ipx_router.specs.Hearing.{AtEntry, HeardRoutes, HeardServices, IsFullForRoute, IsFullForService, after_route, after_service, route_metric, service_metric, source_of}
use Rattle.ipx_router.specs.Answer.{AnswersByClass, AnswersBytes, AnswersPacket, AnswersRip, AnswersRipMessage, AnswersSap, AnswersSapMessage, HearsRoutes, HearsServices, Receives}
use Rattle.ipx_router.proofs.Rising.{network_total}
use Rattle.ipx_router.proofs.OneList.{list_is_one}
use Rattle.ipx_router.proofs.OnePacket.{OneListOfBytes, bytes_one, cuts_one, own_packet_one}
use Rattle.ipx_router.proofs.OneHearing.{OneCount, no_room}

-- facts of the layouts and tables
pub record Facts : Type 0 where
  pub one_ipx : (p q : PacketView) (bytes s t : List ℕ) → IsIpx p bytes s → IsIpx q bytes t → (p ≡ q) × (s ≡ t)
  pub one_rip : (m n : RipView) (bytes s t : List ℕ) → IsRip m bytes s → IsRip n bytes t → (m ≡ n) × (s ≡ t)
  pub one_sap : (m n : SapView) (bytes s t : List ℕ) → IsSap m bytes s → IsSap n bytes t → (m ≡ n) × (s ≡ t)
  pub ipx_bytes : OneListOfBytes
  pub rip_bytes : (m : RipView) (a b tail : List ℕ) → IsBytes a → IsBytes b → IsRip m a tail → IsRip m b tail → a ≡ b
  pub sap_bytes : (m : SapView) (a b tail : List ℕ) → IsBytes a → IsBytes b → IsSap m a tail → IsSap m b tail → a ≡ b
  pub one_best : (c : Routes) (network : Network) (now : ℕ) (a b : Source × RouteMetric) → IsBest route_before c network now a → IsBest route_before c network now b → a ≡ b
  pub routes_count : OneCount Network RouteMetric network_cmp
  pub services_count : OneCount ServiceKey ServiceMetric service_key_cmp

-- the route to a network is unique
heard_one : Facts → (routes : Routes) (now : ℕ) (network : Network) (r s : Route) → IsHeardRoute routes now network r → IsHeardRoute routes now network s → r ≡ s
heard_one f routes now network r s x y = x.2 ∙ ap over_neighbour (f.one_best routes network now x.0 y.0 x.1 y.1) ∙ sym y.2

RouteBy : Option ℕ → Routes → ℕ → Network → Route → Type 0
RouteBy direct routes now network r = MatchOption direct (IsHeardRoute routes now network r) (λ place. r ≡ over_port place)

route_by_one : Facts → (direct : Option ℕ) (routes : Routes) (now : ℕ) (network : Network) (r s : Route) → RouteBy direct routes now network r → RouteBy direct routes now network s → r ≡ s
unfolding RouteBy
route_by_one f None routes now network r s x y = heard_one f routes now network r s x y
route_by_one f (Some place) routes now network r s x y = x ∙ sym y

route_to_one : Facts → (ports : List Port) (routes : Routes) (now : ℕ) (network : Network) (r s : Route) → IsRouteTo ports routes now network r → IsRouteTo ports routes now network s → r ≡ s
unfolding RouteBy
route_to_one f ports routes now network r s x y = route_by_one f (direct_route ports network) routes now network r s x y

none_or_some : (ports : List Port) (routes : Routes) (now : ℕ) (network : Network) (s : Route) → IsRouteOrNone ports routes now network None → IsRouteTo ports routes now network s → ⊥
none_or_some ports routes now network s x y =
    let heard : IsHeardRoute routes now network s = subst (λ (d : Option ℕ). MatchOption d (IsHeardRoute routes now network s) (λ place. s ≡ over_port place)) x.0 y in
    let best = heard.1 in
    let old = x.1 heard.0.0 heard.0.1 best.moment best.stands in
    let young = best.counts in
    cc

route_or_none_one : Facts → (ports : List Port) (routes : Routes) (now : ℕ) (network : Network) (r s : Option Route) → IsRouteOrNone ports routes now network r → IsRouteOrNone ports routes now network s → r ≡ s
route_or_none_one f ports routes now network None None x y = refl
route_or_none_one f ports routes now network None (Some s) x y = absurd (none_or_some ports routes now network s x y)
route_or_none_one f ports routes now network (Some r) None x y = absurd (none_or_some ports routes now network r y x)
route_or_none_one f ports routes now network (Some r) (Some s) x y = ap Some (route_to_one f ports routes now network r s x y)

fate_one : Facts → (arrived : Port) (d : PacketView) (fate : Forwarding) (a b : OutcomeView) → IsForwardingAnswer arrived d fate a → IsForwardingAnswer arrived d fate b → a ≡ b
fate_one f arrived d (outcomes.Dropped reason) a b x y = x ∙ sym y
fate_one f arrived d (outcomes.Forward port next) a b x y =
    x.1 ∙ ap (Forward port next) (bytes_one f.ipx_bytes (record d { header = forward_header arrived d.header }) x.0 y.0 x.2 y.2) ∙ sym y.1

forwards_one : Facts → (ports : List Port) (routes : Routes) (at : PortNow) (d : PacketView) (a b : OutcomeView) → Forwards ports routes at d a → Forwards ports routes at d b → a ≡ b
forwards_one f ports routes at d a b x y =
    let route = route_or_none_one f ports routes at.now d.header.to.network x.0 y.0 x.1 y.1 in
    let moved = subst (λ (r : Option Route). IsForwardingAnswer at.port d (by_route d.header r) a) route x.2 in
    fate_one f at.port d (by_route d.header y.0) a b moved y.2

-- what is advertised of a network is unique
told_one : Facts → (ports : List Port) (routes : Routes) (at : PortNow) (x y : RipEntry) → x.network ≡ y.network → IsAdvertisedRoute ports routes at x → IsAdvertisedRoute ports routes at y → x ≡ y
told_one f ports routes at x y same is_x is_y =
    let moved = subst (λ (n : Network). IsRouteTo ports routes at.now n is_x.route) same is_x.leads in
    let route = route_to_one f ports routes at.now y.network is_x.route is_y.route moved is_y.leads in
    let entry : advertised_route x.network is_x.route.metric at ≡ advertised_route y.network is_y.route.metric at = λ i. advertised_route (same i) (route i).metric at in
    is_x.is ∙ entry ∙ sym is_y.is

told_of_one : Facts → (ports : List Port) (routes : Routes) (at : PortNow) (asked xs ys : List RipEntry) → AreAdvertisedOf (IsAdvertisedRoute ports routes at) asked xs → AreAdvertisedOf (IsAdvertisedRoute ports routes at) asked ys → xs ≡ ys
told_of_one f ports routes at [] xs ys x y = x ∙ sym y
told_of_one f ports routes at (e ∷ asked) xs ys x y = elim x [
  | inl told ↦ elim y [
    | inl other ↦
        let first = told_one f ports routes at told.0 other.0 (told.4 ∙ sym other.4) told.3 other.3 in
        let rest = told_of_one f ports routes at asked told.1 other.1 told.5 other.5 in
        let both : told.0 ∷ told.1 ≡ other.0 ∷ other.1 = λ i. first i ∷ rest i in
        told.2 ∙ both ∙ sym other.2
    | inr none ↦ absurd (none.0 told.0 told.3 told.4)
  ]
  | inr none ↦ elim y [
    | inl other ↦ absurd (none.0 other.0 other.3 other.4)
    | inr also ↦ told_of_one f ports routes at asked xs ys none.1 also.1
  ]
]

RoutesAsked : Bool → List Port → Routes → PortNow → List RipEntry → List RipEntry → Type 0
RoutesAsked all ports routes at asked entries = MatchBool all (AreAdvertisedRoutes ports routes at entries) (AreAdvertisedOf (IsAdvertisedRoute ports routes at) asked entries)

routes_asked_by : Facts → (all : Bool) (ports : List Port) (routes : Routes) (at : PortNow) (asked xs ys : List RipEntry) → RoutesAsked all ports routes at asked xs → RoutesAsked all ports routes at asked ys → xs ≡ ys
unfolding RoutesAsked
routes_asked_by f true ports routes at asked xs ys x y = list_is_one network_total route_key (IsAdvertisedRoute ports routes at) xs ys x y
routes_asked_by f false ports routes at asked xs ys x y = told_of_one f ports routes at asked xs ys x y

routes_asked_one : Facts → (ports : List Port) (routes : Routes) (at : PortNow) (asked xs ys : List RipEntry) → AreRoutesAsked ports routes at asked xs → AreRoutesAsked ports routes at asked ys → xs ≡ ys
unfolding RoutesAsked
routes_asked_one f ports routes at asked xs ys x y = routes_asked_by f (asks_all asked) ports routes at asked xs ys x y

-- a packet with a message is unique
pub rip_packet_one : Facts → (to : Recipient) (m : RipView) (s t : SendingView) → IsRipPacket to m s → IsRipPacket to m t → s ≡ t
rip_packet_one f to m = own_packet_one f.ipx_bytes to 1 rip_socket (λ (body : List ℕ). IsRip m body []) (λ x y in_x in_y is_x is_y. f.rip_bytes m x y [] in_x in_y is_x is_y)

pub sap_packet_one : Facts → (to : Recipient) (m : SapView) (s t : SendingView) → IsSapPacket to m s → IsSapPacket to m t → s ≡ t
sap_packet_one f to m = own_packet_one f.ipx_bytes to 4 sap_socket (λ (body : List ℕ). IsSap m body []) (λ x y in_x in_y is_x is_y. f.sap_bytes m x y [] in_x in_y is_x is_y)

pub route_packets_one : Facts → (to : Recipient) (entries : List RipEntry) (ss ts : List SendingView) → AreRoutePackets to entries ss → AreRoutePackets to entries ts → ss ≡ ts
route_packets_one f to = cuts_one 50 (λ (part : List RipEntry). IsRipPacket to (rip.Response part)) (λ part. rip_packet_one f to (rip.Response part))

replies_routes_one : Facts → (ports : List Port) (routes : Routes) (at : PortNow) (to : Recipient) (asked : List RipEntry) (ss ts : List SendingView) → RepliesRoutes ports routes at to asked ss → RepliesRoutes ports routes at to asked ts → ss ≡ ts
replies_routes_one f ports routes at to asked ss ts x y =
    let entries = routes_asked_one f ports routes at asked x.entries y.entries x.are y.are in
    let moved = subst (λ (es : List RipEntry). AreRoutePackets to es ss) entries x.packets in
    route_packets_one f to y.entries ss ts moved y.packets

-- the nearest service is unique
near_total : IsTotalOrder nearness
near_total =
    then_total (on_total (λ (e : ServiceEntry). e.hops) nat_cmp_total)
    (then_total (on_total (λ (e : ServiceEntry). e.name) nat_list_cmp_total)
    (then_total
    (then_total (on_total (λ (e : ServiceEntry). e.at.network.0) nat_cmp_total) (then_total (on_total (λ (e : ServiceEntry). e.at.node.0) nat_list_cmp_total) (on_total (λ (e : ServiceEntry). e.at.socket.0) nat_cmp_total)))
    (on_total (λ (e : ServiceEntry). e.kind) nat_cmp_total)))

-- a service from its numbers and bytes
abbrev entry_of : ℕ × (List ℕ × ((ℕ × (List ℕ × ℕ)) × ℕ)) → ServiceEntry
entry_of p = record {
  kind = p.1.1.1;
  name = p.1.0;
  at = record { network = record { 0 = p.1.1.0.0 }; node = record { 0 = p.1.1.0.1.0 }; socket = record { 0 = p.1.1.0.1.1 } };
  hops = p.0;
}

near_exact : EqualOnlyIfSame nearness
near_exact a b h = ap entry_of (exact_pairs nat_cmp _ exact_unsigned
    (exact_pairs (slice_cmp nat_cmp) _ exact_bytes
    (exact_pairs _ nat_cmp (exact_pairs nat_cmp _ exact_unsigned (exact_pairs (slice_cmp nat_cmp) nat_cmp exact_bytes exact_unsigned)) exact_unsigned))
    (a.hops, (a.name, ((a.at.network.0, (a.at.node.0, a.at.socket.0)), a.kind)))
    (b.hops, (b.name, ((b.at.network.0, (b.at.node.0, b.at.socket.0)), b.kind))) h)

nearest_one : (IsAdvertised : ServiceEntry → Type 0) (kind : ℕ) (e x : ServiceEntry) → IsNearest IsAdvertised kind e → IsNearest IsAdvertised kind x → e ≡ x
nearest_one IsAdvertised kind e x is_e is_x = (strict_from_cmp near_total near_exact).total e x (is_x.least e is_e.told is_e.near) (is_e.least x is_x.told is_x.near)

are_nearest_one : (IsAdvertised : ServiceEntry → Type 0) (kind : ℕ) (xs ys : List ServiceEntry) → AreNearest IsAdvertised kind xs → AreNearest IsAdvertised kind ys → xs ≡ ys
are_nearest_one IsAdvertised kind [] [] x y = refl
are_nearest_one IsAdvertised kind [] (e ∷ es) x y =
    let far = x e y.0.told in
    let near = y.0.near in
    cc
are_nearest_one IsAdvertised kind (e ∷ es) [] x y =
    let far = y e x.0.told in
    let near = x.0.near in
    cc
are_nearest_one IsAdvertised kind (e ∷ es) (g ∷ gs) x y =
    let first = nearest_one IsAdvertised kind e g x.0 y.0 in
    let rest : es ≡ gs = x.1 ∙ sym y.1 in
    λ i. first i ∷ rest i

pub key_total : IsTotalOrder service_key_cmp
key_total = then_total (on_total (λ (k : ServiceKey). k.kind) nat_cmp_total) (on_total (λ (k : ServiceKey). k.name) nat_list_cmp_total)

services_asked_one : (services : Services) (at : PortNow) (nearest : Bool) (kind : ℕ) (xs ys : List ServiceEntry) → AreServicesAsked services at nearest kind xs → AreServicesAsked services at nearest kind ys → xs ≡ ys
services_asked_one services at true kind xs ys x y = are_nearest_one (IsAdvertisedService services at) kind xs ys x y
services_asked_one services at false kind xs ys x y = list_is_one key_total key_of_service _ xs ys x y

pub service_packets_one : Facts → (to : Recipient) (nearest : Bool) (entries : List ServiceEntry) (ss ts : List SendingView) → AreServicePackets to nearest entries ss → AreServicePackets to nearest entries ts → ss ≡ ts
service_packets_one f to nearest = cuts_one 7 (λ (part : List ServiceEntry). IsSapPacket to (sap.Response nearest part)) (λ part. sap_packet_one f to (sap.Response nearest part))

replies_services_one : Facts → (services : Services) (at : PortNow) (to : Recipient) (nearest : Bool) (kind : ℕ) (ss ts : List SendingView) → RepliesServices services at to nearest kind ss → RepliesServices services at to nearest kind ts → ss ≡ ts
replies_services_one f services at to nearest kind ss ts x y =
    let entries = services_asked_one services at nearest kind x.entries y.entries x.are y.are in
    let moved = subst (λ (es : List ServiceEntry). AreServicePackets to nearest es ss) entries x.packets in
    service_packets_one f to nearest y.entries ss ts moved y.packets

-- what is learned of a response is determined
module _ (f : Facts) (ports : List Port) (routes : Routes) (source : Source) (now : ℕ) (entries : List RipEntry) where
  -- the entry for which one table is full did not fit in another table that learned more entries
  pub full_route : (n m : ℕ) (new other : Table Network RouteMetric) → HeardRoutes ports source now entries routes n new → AtEntry entries n (IsFullForRoute ports source new) → IsTable network_cmp new
      → HeardRoutes ports source now entries routes m other → n < m → new.capacity ≡ other.capacity → ⊥
  full_route n m new other heard at valid more lt room =
      no_room f.routes_count route_dead now (λ (e : RipEntry). (e.network, source)) route_metric (after_route ports source now) routes entries n m at.entry new other at.there
      (λ c q. ap (λ (b : Bool). (if b then after_hear network_cmp route_dead c (at.entry.network, source) (route_metric at.entry) now else c) q) at.holds.0)
      heard at.holds.1 valid more lt room

  pub full_in_all : (n : ℕ) (new other : Table Network RouteMetric) → HeardRoutes ports source now entries routes n new → AtEntry entries n (IsFullForRoute ports source new) → IsTable network_cmp new
      → HeardRoutes ports source now entries routes (length entries) other → new.capacity ≡ other.capacity → ⊥
  full_in_all n new other heard at valid more room = full_route n (length entries) new other heard at valid more (slice_get_within entries n at.entry at.there) room

  hears_routes_one : (a b : OutcomeView) (new other : Table Network RouteMetric) → HearsRoutes ports routes source now entries a new → HearsRoutes ports routes source now entries b other
      → IsTable network_cmp new → IsTable network_cmp other → new.capacity ≡ other.capacity → a ≡ b
  hears_routes_one (Heard n) (Heard m) new other x y valid_new valid_other room = ap Heard (x.0 ∙ sym y.0)
  hears_routes_one (Heard n) (Dropped r) new other x y valid_new valid_other room = absurd (full_in_all y.1 other new y.2 y.3 valid_other x.1 (sym room))
  hears_routes_one (Heard n) (Forward p t s) new other x y valid_new valid_other room = absurd y
  hears_routes_one (Heard n) (Replies s) new other x y valid_new valid_other room = absurd y
  hears_routes_one (Dropped r) (Heard m) new other x y valid_new valid_other room = absurd (full_in_all x.1 new other x.2 x.3 valid_new y.1 room)
  hears_routes_one (Dropped r) (Dropped s) new other x y valid_new valid_other room = ap Dropped (x.0 ∙ sym y.0)
  hears_routes_one (Dropped r) (Forward p t s) new other x y valid_new valid_other room = absurd y
  hears_routes_one (Dropped r) (Replies s) new other x y valid_new valid_other room = absurd y
  hears_routes_one (Forward p t s) b new other x y valid_new valid_other room = absurd x
  hears_routes_one (Replies s) b new other x y valid_new valid_other room = absurd x

module _ (f : Facts) (services : Services) (source : Source) (now : ℕ) (entries : List ServiceEntry) where
  pub full_service : (n m : ℕ) (new other : Table ServiceKey ServiceMetric) → HeardServices source now entries services n new → AtEntry entries n (IsFullForService source new) → IsTable service_key_cmp new
      → HeardServices source now entries services m other → n < m → new.capacity ≡ other.capacity → ⊥
  full_service n m new other heard at valid more lt room =
      no_room f.services_count service_dead now (λ (e : ServiceEntry). (key_of_service e, source)) service_metric (after_service source now) services entries n m at.entry new other at.there
      (λ c q. refl) heard at.holds valid more lt room

  pub full_for_all : (n : ℕ) (new other : Table ServiceKey ServiceMetric) → HeardServices source now entries services n new → AtEntry entries n (IsFullForService source new) → IsTable service_key_cmp new
      → HeardServices source now entries services (length entries) other → new.capacity ≡ other.capacity → ⊥
  full_for_all n new other heard at valid more room = full_service n (length entries) new other heard at valid more (slice_get_within entries n at.entry at.there) room

  hears_services_one : (a b : OutcomeView) (new other : Table ServiceKey ServiceMetric) → HearsServices services source now entries a new → HearsServices services source now entries b other
      → IsTable service_key_cmp new → IsTable service_key_cmp other → new.capacity ≡ other.capacity → a ≡ b
  hears_services_one (Heard n) (Heard m) new other x y valid_new valid_other room = ap Heard (x.0 ∙ sym y.0)
  hears_services_one (Heard n) (Dropped r) new other x y valid_new valid_other room = absurd (full_for_all y.1 other new y.2 y.3 valid_other x.1 (sym room))
  hears_services_one (Heard n) (Forward p t s) new other x y valid_new valid_other room = absurd y
  hears_services_one (Heard n) (Replies s) new other x y valid_new valid_other room = absurd y
  hears_services_one (Dropped r) (Heard m) new other x y valid_new valid_other room = absurd (full_for_all x.1 new other x.2 x.3 valid_new y.1 room)
  hears_services_one (Dropped r) (Dropped s) new other x y valid_new valid_other room = ap Dropped (x.0 ∙ sym y.0)
  hears_services_one (Dropped r) (Forward p t s) new other x y valid_new valid_other room = absurd y
  hears_services_one (Dropped r) (Replies s) new other x y valid_new valid_other room = absurd y
  hears_services_one (Forward p t s) b new other x y valid_new valid_other room = absurd x
  hears_services_one (Replies s) b new other x y valid_new valid_other room = absurd x

rip_message_one : Facts → (ports : List Port) (routes : Routes) (at : PortNow) (h : IpxHeader) (m : RipView) (a b : OutcomeView) (new other : Table Network RouteMetric)
    → AnswersRipMessage ports routes at h m a new → AnswersRipMessage ports routes at h m b other → IsTable network_cmp new → IsTable network_cmp other → new.capacity ≡ other.capacity → a ≡ b
rip_message_one f ports routes at h (rip.Request asked) a b new other x y valid_new valid_other room =
    x.1 ∙ ap Replies (replies_routes_one f ports routes at _ asked x.0 y.0 x.2 y.2) ∙ sym y.1
rip_message_one f ports routes at h (rip.Response entries) a b new other x y valid_new valid_other room =
    hears_routes_one f ports routes (source_of at h) at.now entries a b new other x y valid_new valid_other room

sap_message_one : Facts → (services : Services) (at : PortNow) (h : IpxHeader) (m : SapView) (a b : OutcomeView) (new other : Table ServiceKey ServiceMetric)
    → AnswersSapMessage services at h m a new → AnswersSapMessage services at h m b other → IsTable service_key_cmp new → IsTable service_key_cmp other → new.capacity ≡ other.capacity → a ≡ b
sap_message_one f services at h (sap.Query nearest kind) a b new other x y valid_new valid_other room =
    x.1 ∙ ap Replies (replies_services_one f services at _ nearest kind x.0 y.0 x.2 y.2) ∙ sym y.1
sap_message_one f services at h (sap.Response nearest entries) a b new other x y valid_new valid_other room =
    hears_services_one f services (source_of at h) at.now entries a b new other x y valid_new valid_other room

-- two facts by cases of one option
pub option_cases : {F : Type 0} (o : Option F) (P Q : Type 0) (R S : F → Type 0) (G : Type 0) → (P → Q → G) → ((e : F) → R e → S e → G) → MatchOption o P R → MatchOption o Q S → G
option_cases None P Q R S G none some x y = none x y
option_cases (Some e) P Q R S G none some x y = some e x y

abbrev pub ReadsRip : List Port → Routes → PortNow → PacketView → OutcomeView → Table Network RouteMetric → Type 0
ReadsRip ports routes at d a new = (m : RipView) × (tail : List ℕ) × IsRip m d.body tail × AnswersRipMessage ports routes at d.header m a new

rip_one : Facts → (ports : List Port) (routes : Routes) (at : PortNow) (d : PacketView) (a b : OutcomeView) (new other : Table Network RouteMetric)
    → AnswersRip ports routes at d a new → AnswersRip ports routes at d b other → IsTable network_cmp new → IsTable network_cmp other → new.capacity ≡ other.capacity → a ≡ b
rip_one f ports routes at d a b new other x y valid_new valid_other room =
    option_cases (rip_fault d.body) (ReadsRip ports routes at d a new) (ReadsRip ports routes at d b other)
    (λ e. (a ≡ Dropped (BadControl e)) × HoldsRoutes new routes) (λ e. (b ≡ Dropped (BadControl e)) × HoldsRoutes other routes) (a ≡ b)
    (λ p q.
    let same = (f.one_rip p.0 q.0 d.body p.1 q.1 p.2 q.2).0 in
    let moved = subst (λ (m : RipView). AnswersRipMessage ports routes at d.header m a new) same p.3 in
    rip_message_one f ports routes at d.header q.0 a b new other moved q.3 valid_new valid_other room)
    (λ e p q. p.0 ∙ sym q.0) x y

abbrev pub ReadsSap : Services → PortNow → PacketView → OutcomeView → Table ServiceKey ServiceMetric → Type 0
ReadsSap services at d a new = (m : SapView) × (tail : List ℕ) × IsSap m d.body tail × AnswersSapMessage services at d.header m a new

sap_one : Facts → (services : Services) (at : PortNow) (d : PacketView) (a b : OutcomeView) (new other : Table ServiceKey ServiceMetric)
    → AnswersSap services at d a new → AnswersSap services at d b other → IsTable service_key_cmp new → IsTable service_key_cmp other → new.capacity ≡ other.capacity → a ≡ b
sap_one f services at d a b new other x y valid_new valid_other room =
    option_cases (sap_fault d.body) (ReadsSap services at d a new) (ReadsSap services at d b other)
    (λ e. (a ≡ Dropped (BadControl e)) × HoldsServices new services) (λ e. (b ≡ Dropped (BadControl e)) × HoldsServices other services) (a ≡ b)
    (λ p q.
    let same = (f.one_sap p.0 q.0 d.body p.1 q.1 p.2 q.2).0 in
    let moved = subst (λ (m : SapView). AnswersSapMessage services at d.header m a new) same p.3 in
    sap_message_one f services at d.header q.0 a b new other moved q.3 valid_new valid_other room)
    (λ e p q. p.0 ∙ sym q.0) x y

-- tables of one size
pub record AreBoth (new other : Tables) : Type 0 where
  pub valid_new : AreTables new
  pub valid_other : AreTables other

class_one : Facts → (k : Known) (at : PortNow) (d : PacketView) (a b : OutcomeView) (new other : Tables) (packet_class : PacketClass) → AreBoth new other → AnswersByClass k at d a new packet_class → AnswersByClass k at d b other packet_class → a ≡ b
class_one f k at d a b new other (classes.Dropped reason) both x y = x.0 ∙ sym y.0
class_one f k at d a b new other classes.Rip both x y =
    rip_one f k.ports k.routes at d a b new.0 other.0 x.0 y.0 both.valid_new.routes both.valid_other.routes (both.valid_new.most_routes ∙ sym both.valid_other.most_routes)
class_one f k at d a b new other classes.Sap both x y =
    sap_one f k.services at d a b new.1 other.1 x.0 y.0 both.valid_new.services both.valid_other.services (both.valid_new.most_services ∙ sym both.valid_other.most_services)
class_one f k at d a b new other classes.Forward both x y = forwards_one f k.ports k.routes at d a b x.0 y.0

packet_one : Facts → (k : Known) (at : PortNow) (bytes : List ℕ) (a b : OutcomeView) (new other : Tables) → AreBoth new other → AnswersPacket k at bytes a new → AnswersPacket k at bytes b other → a ≡ b
packet_one f k at bytes a b new other both x y =
    let same = (f.one_ipx x.0 y.0 bytes x.1 y.1 x.2 y.2).0 in
    let moved = subst (λ (d : PacketView). AnswersByClass k at d a new (class_of at.port d.header)) same x.3 in
    class_one f k at y.0 a b new other (class_of at.port y.0.header) both moved y.3

datagram_one : Facts → (k : Known) (at : PortNow) (bytes : List ℕ) (a b : OutcomeView) (new other : Tables) → AreBoth new other → AnswersBytes k at bytes a new → AnswersBytes k at bytes b other → a ≡ b
datagram_one f k at bytes a b new other both x y =
    option_cases (ipx_fault bytes) (AnswersPacket k at bytes a new) (AnswersPacket k at bytes b other)
    (λ e. (a ≡ Dropped (Bad e)) × HoldsKnown k new) (λ e. (b ≡ Dropped (Bad e)) × HoldsKnown k other) (a ≡ b)
    (packet_one f k at bytes a b new other both) (λ e p q. p.0 ∙ sym q.0) x y

pub answers_one : Facts → (old new other : RouterView) (port : ℕ) (bytes : List ℕ) (now : ℕ) (a b : OutcomeView) → Receives old port bytes now a new → Receives old port bytes now b other → a ≡ b
answers_one f old new other port bytes now a b x y =
    let there = x.answers.1.1 in
    let also = y.answers.1.1 in
    let arrived : x.answers.0 ≡ y.answers.0 = cc in
    let moved = subst (λ (p : Port). AnswersBytes (known_at old now) (record { number = port; port = p; now = now }) bytes a (tables new)) arrived x.answers.2 in
    datagram_one f (known_at old now) (record { number = port; port = y.answers.0; now = now }) bytes a b (tables new) (tables other)
    (record { valid_new = x.valid; valid_other = y.valid }) moved y.answers.2
