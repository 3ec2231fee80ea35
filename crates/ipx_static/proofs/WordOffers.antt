-- What a router does with a static advertisement.
use Rattle.std.proofs.Common.{◌≡◌, ◌≢◌, ◌<◌, ◌≤◌, ◌+◌, ◌-◌, ℕ, Bool, true, false, List, [], ◌∷◌, Contains, length, take, Option, Some, None, MatchOption, refl, sym, ap, ◌∙◌, subst, inl, inr, ◌⊎◌, arith, eqb-true}
use Rattle.std.specs.Prelude.{◌&&◌, nat_eq, nat_le}
use Rattle.std.specs.Cmp.{IsTotalOrder}
use Rattle.std.specs.Cmp.Lexicographic.{pointwise}
use Rattle.std.specs.List.{All}
use Rattle.std.specs.declared.cmp.Ordering.TheVariants.{Equal}
use Rattle.std.proofs.Math.Bool.{or-true}
use Rattle.std.proofs.lemmas.Cmp.{nat_cmp_total, nat_list_cmp_total, on_total, then_total}
use Rattle.std.proofs.lemmas.Bool.{leb-false, leb-true}
use Rattle.std.proofs.lemmas.List.{take_all}
use Rattle.ipx_wire.specs.Assigned.{packet_exchange_type, rip_socket, rip_type, sap_socket}
use Rattle.ipx_wire.specs.declared.address.Network.{Network}
use Rattle.ipx_wire.specs.declared.address.Node.{Node}
use Rattle.ipx_wire.specs.Ipx.{PacketView, IsIpx, ipx_fault}
use Rattle.ipx_control.specs.declared.rip.packet.RipEntry.{RipEntry}
use Rattle.ipx_control.specs.declared.sap.packet.ServiceEntry.{ServiceEntry}
use Rattle.ipx_control.specs.Rip.{RipView, IsRip, rip_fault}
use Rattle.ipx_control.specs.Rip as rip
use Rattle.ipx_control.specs.Sap.{SapView, IsSap, sap_fault}
use Rattle.ipx_control.specs.Sap as sap
use Rattle.ipx_tables.specs.declared.route.RouteMetric.{RouteMetric}
use Rattle.ipx_tables.specs.declared.service.ServiceKey.{ServiceKey}
use Rattle.ipx_tables.specs.declared.service.ServiceMetric.{ServiceMetric}
use Rattle.ipx_tables.specs.declared.source.Source.{Source}
use Rattle.ipx_tables.specs.Content.{Table, after_age, source_cmp}
use Rattle.ipx_tables.specs.Route.{network_cmp, network_exact, route_dead}
use Rattle.ipx_tables.specs.Service.{service_dead, service_key_cmp, service_key_exact}
use Rattle.ipx_router.specs.declared.classify.PacketClass.{PacketClass}
use Rattle.ipx_router.specs.declared.classify.PacketClass.TheVariants as classes
use Rattle.ipx_router.specs.declared.port.Port.{Port}
use Rattle.ipx_router.specs.declared.port.PortNow.{PortNow}
use Rattle.ipx_router.specs.declared.reason.Reason.TheVariants.{Bad, BadControl, TableFull}
use Rattle.ipx_router.specs.Answer.{AnswersByClass, AnswersBytes, AnswersPacket, AnswersRipMessage, AnswersSapMessage, HearsRoutes, HearsServices, Receives}
use Rattle.ipx_router.specs.Classify.{class_of, is_node}
use Rattle.ipx_router.specs.Hearing.{AtEntry, IsFullForRoute, IsFullForService, after_routes, after_services, is_heard, route_metric, service_metric}
use Rattle.ipx_router.specs.Knowledge.{HoldsKnown, HoldsRoutes, HoldsServices, Routes, Services, known_at, routes_in, services_in, tables}
use Rattle.ipx_router.specs.OutcomeView.{OutcomeView, Forward, Replies, Heard, Dropped}
use Rattle.ipx_router.specs.Ports.{IsPort}
use Rattle.ipx_router.specs.RouterPackets.{IsRipPacket, IsSapPacket, SendingView, own_header}
use Rattle.ipx_router.specs.RouterView.{RouterView}
use Rattle.ipx_router.specs.AdvertisedEntries.{key_of_service, route_key}
use Rattle.ipx_static.specs.StaticAdvertisements.{AreStaticAdvertisements, heard_on}
use Rattle.ipx_static.specs.declared.neighbour.StaticNeighbour.{StaticNeighbour}
use Rattle.ipx_static.specs.StaticOffers.{Counts, IsAnotherNode, IsAdvertisedAlone, static_source}
use Rattle.ipx_static.proofs.OneKey.{AgreeWith, Agrees, AllStand, Has, Hears, all_stand_on, front_list, keeps_offer, makes_offer, never_unknown, there_in}
use Rattle.ipx_static.proofs.EachWord.{ReceivesEach, all_make, all_of, none_of}
use Rattle.ipx_static.proofs.RoomForWords.{AsItMay, HasSpace}

bool_cases : (b : Bool) → (b ≡ true) ⊎ (b ≡ false)
bool_cases true = inl refl
bool_cases false = inr refl

some_same : {A : Type 0} (a b : A) → Some a ≡ Some b → a ≡ b
some_same a b h = cc

lists_same : (xs ys : List ℕ) → pointwise nat_eq xs ys ≡ true → xs ≡ ys
lists_same [] [] h = refl
lists_same [] (y ∷ ys) h = cc
lists_same (x ∷ xs) [] h = cc
lists_same (x ∷ xs) (y ∷ ys) h = elim (bool_cases (nat_eq x y)) [
  | inl one ↦
      let rest : pointwise nat_eq xs ys ≡ true = sym (ap (λ b. b && pointwise nat_eq xs ys) one) ∙ h in
      ap (λ z. z ∷ xs) (eqb-true x y one) ∙ ap (λ zs. y ∷ zs) (lists_same xs ys rest)
  | inr other ↦ let never : false ≡ true = sym (ap (λ b. b && pointwise nat_eq xs ys) other) ∙ h in cc
]

not_node : (a b : Node) → a ≢ b → is_node a b ≡ false
not_node a b apart = elim (bool_cases (is_node a b)) [
  | inl same ↦ absurd (apart (ap (λ (bytes : List ℕ). let n : Node = record { 0 = bytes } in n) (lists_same a.0 b.0 same)))
  | inr other ↦ other
]

-- what an option has if it has nothing
of_none : {F : Type 0} (P : Type 0) (Q : F → Type 0) (o : Option F) → o ≡ None → MatchOption o P Q → P
of_none P Q None e h = h
of_none P Q (Some f) e h = cc

pub near_enough : (hops : ℕ) → hops < 16 → nat_le 16 hops ≡ false
near_enough hops less = elim (bool_cases (nat_le 16 hops)) [
  | inl far ↦ absurd (omega (arith, less, leb-true 16 hops far))
  | inr near ↦ near
]

under_16 : (hops : ℕ) → nat_le 16 hops ≡ false → hops < 16
under_16 hops near = omega (arith, leb-false 16 hops near)

-- no bytes are two packets, and a packet has no fault
abbrev pub OneIpx : Type 0
OneIpx = (p q : PacketView) (bytes s t : List ℕ) → IsIpx p bytes s → IsIpx q bytes t → (p ≡ q) × (s ≡ t)

abbrev pub NoIpxFault : Type 0
NoIpxFault = (p : PacketView) (bytes tail : List ℕ) → IsIpx p bytes tail → ipx_fault bytes ≡ None

-- what a table has of a list of entries that is learned: all, or those before one that did not fit
abbrev pub TakesRoutes : Source → ℕ → List Port → Routes → List RipEntry → OutcomeView → Table Network RouteMetric → Type 0
TakesRoutes source now ports routes part a new = HoldsRoutes new (after_routes ports source now routes part)
    ⊎ ((a ≡ Dropped TableFull) × (k : ℕ) × HoldsRoutes new (after_routes ports source now routes (take k part)) × AtEntry part k (IsFullForRoute ports source new))

abbrev pub TakesServices : Source → ℕ → Services → List ServiceEntry → OutcomeView → Table ServiceKey ServiceMetric → Type 0
TakesServices source now services part a new = HoldsServices new (after_services source now services part)
    ⊎ ((a ≡ Dropped TableFull) × (k : ℕ) × HoldsServices new (after_services source now services (take k part)) × AtEntry part k (IsFullForService source new))

module _ (one_ipx : OneIpx) (no_ipx_fault : NoIpxFault) (number : ℕ) (node : Node) (near : Port) (apart : node ≢ near.node) (now : ℕ) where
  rip_is : class_of near (own_header (heard_on number node rip_socket) rip_type rip_socket) ≡ classes.Rip
  rip_is = simp (not_node node near.node apart, or-true) refl

  sap_is : class_of near (own_header (heard_on number node sap_socket) packet_exchange_type sap_socket) ≡ classes.Sap
  sap_is = simp (not_node node near.node apart, or-true) refl

  abbrev source : Source
  source = record { port = number; neighbour = node }

  abbrev at : PortNow
  at = record { number = number; port = near; now = now }

  abbrev packet_of : ℕ → ℕ → List ℕ → PacketView
  packet_of kind socket body = record { header = own_header (heard_on number node socket) kind socket; body = body }

  by_class : (old : RouterView) (kind socket : ℕ) (body bytes : List ℕ) (a : OutcomeView) (new : RouterView) (k : PacketClass)
      → class_of near (own_header (heard_on number node socket) kind socket) ≡ k → IsIpx (packet_of kind socket body) bytes []
      → IsPort old.ports number near → Receives old number bytes now a new → AnswersByClass (known_at old now) at (packet_of kind socket body) a (tables new) k
  by_class old kind socket body bytes a new k packet_class is at_near h =
      let d = packet_of kind socket body in
      let arrived : h.answers.0 ≡ near = some_same h.answers.0 near (sym h.answers.1.1 ∙ at_near.1) in
      let here : AnswersBytes (known_at old now) at bytes a (tables new) = subst (λ (port : Port). AnswersBytes (known_at old now) (record { number = number; port = port; now = now }) bytes a (tables new)) arrived h.answers.2 in
      let read = of_none (AnswersPacket (known_at old now) at bytes a (tables new)) (λ f. (a ≡ Dropped (Bad f)) × HoldsKnown (known_at old now) (tables new)) (ipx_fault bytes) (no_ipx_fault d bytes [] is) here in
      let same : read.0 ≡ d = (one_ipx read.0 d bytes read.1 [] read.2 is).0 in
      subst (λ c. AnswersByClass (known_at old now) at d a (tables new) c) packet_class
      (subst (λ (e : PacketView). AnswersByClass (known_at old now) at e a (tables new) (class_of near e.header)) same read.3)

  -- the first of the entries are learned: all of them, if the table had room
  routes_part : (ports : List Port) (routes : Routes) (part : List RipEntry) (a : OutcomeView) (new : Table Network RouteMetric) → HearsRoutes ports routes source now part a new → TakesRoutes source now ports routes part a new
  routes_part ports routes part (Heard n) new h = inl (λ x. h.1.holds x ∙ ap (λ es. after_routes ports source now routes es x) (take_all (length part) part (omega arith)))
  routes_part ports routes part (Dropped reason) new h = inr (ap Dropped h.0, h.1, h.2.holds, h.3)
  routes_part ports routes part (Forward port next bytes) new h = absurd h
  routes_part ports routes part (Replies sent) new h = absurd h

  services_part : (services : Services) (part : List ServiceEntry) (a : OutcomeView) (new : Table ServiceKey ServiceMetric) → HearsServices services source now part a new → TakesServices source now services part a new
  services_part services part (Heard n) new h = inl (λ x. h.1.holds x ∙ ap (λ es. after_services source now services es x) (take_all (length part) part (omega arith)))
  services_part services part (Dropped reason) new h = inr (ap Dropped h.0, h.1, h.2.holds, h.3)
  services_part services part (Forward port next bytes) new h = absurd h
  services_part services part (Replies sent) new h = absurd h

  hears_rip : ((m n : RipView) (bytes s t : List ℕ) → IsRip m bytes s → IsRip n bytes t → (m ≡ n) × (s ≡ t))
      → ((m : RipView) (bytes tail : List ℕ) → IsRip m bytes tail → rip_fault bytes ≡ None)
      → (old : RouterView) (part : List RipEntry) (s : SendingView) (a : OutcomeView) (new : RouterView) → IsRipPacket (heard_on number node rip_socket) (rip.Response part) s
      → IsPort old.ports number near → Receives old number s.bytes now a new → TakesRoutes source now old.ports (after_age (routes_in old.routes) now) part a new.routes
  hears_rip one_rip no_fault old part s a new is at_near h =
      let own : IsRipPacket (heard_on number node rip_socket) (rip.Response part) s = is in
      let d = packet_of rip_type rip_socket own.body in
      let routes = after_age (routes_in old.routes) now in
      let answers : AnswersByClass (known_at old now) at d a (tables new) classes.Rip = by_class old rip_type rip_socket own.body s.bytes a new classes.Rip rip_is own.packet.packet at_near h in
      let read = of_none ((m : RipView) × (tail : List ℕ) × IsRip m own.body tail × AnswersRipMessage old.ports routes at d.header m a new.routes) (λ f. (a ≡ Dropped (BadControl f)) × HoldsRoutes new.routes routes) (rip_fault own.body) (no_fault (rip.Response part) own.body [] own.says) answers.0 in
      let same : read.0 ≡ rip.Response part = (one_rip read.0 (rip.Response part) own.body read.1 [] read.2 own.says).0 in
      routes_part old.ports routes part a new.routes (subst (λ m. AnswersRipMessage old.ports routes at d.header m a new.routes) same read.3)

  hears_sap : ((m n : SapView) (bytes s t : List ℕ) → IsSap m bytes s → IsSap n bytes t → (m ≡ n) × (s ≡ t))
      → ((m : SapView) (bytes tail : List ℕ) → IsSap m bytes tail → sap_fault bytes ≡ None)
      → (old : RouterView) (part : List ServiceEntry) (s : SendingView) (a : OutcomeView) (new : RouterView) → IsSapPacket (heard_on number node sap_socket) (sap.Response false part) s
      → IsPort old.ports number near → Receives old number s.bytes now a new → TakesServices source now (after_age (services_in old.services) now) part a new.services
  hears_sap one_sap no_fault old part s a new is at_near h =
      let own : IsSapPacket (heard_on number node sap_socket) (sap.Response false part) s = is in
      let d = packet_of packet_exchange_type sap_socket own.body in
      let services = after_age (services_in old.services) now in
      let answers : AnswersByClass (known_at old now) at d a (tables new) classes.Sap = by_class old packet_exchange_type sap_socket own.body s.bytes a new classes.Sap sap_is own.packet.packet at_near h in
      let read = of_none ((m : SapView) × (tail : List ℕ) × IsSap m own.body tail × AnswersSapMessage services at d.header m a new.services) (λ f. (a ≡ Dropped (BadControl f)) × HoldsServices new.services services) (sap_fault own.body) (no_fault (sap.Response false part) own.body [] own.says) answers.0 in
      let same : read.0 ≡ sap.Response false part = (one_sap read.0 (sap.Response false part) own.body read.1 [] read.2 own.says).0 in
      services_part services part a new.services (subst (λ m. AnswersSapMessage services at d.header m a new.services) same read.3)

  -- an advertisement of routes leaves services, apart from old ones, and one of services leaves routes
  rip_leaves : (old : RouterView) (part : List RipEntry) (s : SendingView) (a : OutcomeView) (new : RouterView) → IsRipPacket (heard_on number node rip_socket) (rip.Response part) s
      → IsPort old.ports number near → Receives old number s.bytes now a new
      → (x : ServiceKey × Source) → services_in new.services x ≡ after_age (services_in old.services) now x
  rip_leaves old part s a new is at_near h =
      let own : IsRipPacket (heard_on number node rip_socket) (rip.Response part) s = is in
      let answers : AnswersByClass (known_at old now) at (packet_of rip_type rip_socket own.body) a (tables new) classes.Rip = by_class old rip_type rip_socket own.body s.bytes a new classes.Rip rip_is own.packet.packet at_near h in
      answers.1

  sap_leaves : (old : RouterView) (part : List ServiceEntry) (s : SendingView) (a : OutcomeView) (new : RouterView) → IsSapPacket (heard_on number node sap_socket) (sap.Response false part) s
      → IsPort old.ports number near → Receives old number s.bytes now a new
      → (x : Network × Source) → routes_in new.routes x ≡ after_age (routes_in old.routes) now x
  sap_leaves old part s a new is at_near h =
      let own : IsSapPacket (heard_on number node sap_socket) (sap.Response false part) s = is in
      let answers : AnswersByClass (known_at old now) at (packet_of packet_exchange_type sap_socket own.body) a (tables new) classes.Sap = by_class old packet_exchange_type sap_socket own.body s.bytes a new classes.Sap sap_is own.packet.packet at_near h in
      answers.1

pub network_total : IsTotalOrder network_cmp
network_total = on_total (λ (n : Network). n.0) nat_cmp_total

pub service_key_total : IsTotalOrder service_key_cmp
service_key_total = then_total (on_total (λ (k : ServiceKey). k.kind) nat_cmp_total) (on_total (λ (k : ServiceKey). k.name) nat_list_cmp_total)

abbrev pub Apart : Type 0
Apart = (a b : Source) → source_cmp a b ≡ Equal → a ≡ b

abbrev OneRip : Type 0
OneRip = (m n : RipView) (bytes s t : List ℕ) → IsRip m bytes s → IsRip n bytes t → (m ≡ n) × (s ≡ t)

abbrev NoRipFault : Type 0
NoRipFault = (m : RipView) (bytes tail : List ℕ) → IsRip m bytes tail → rip_fault bytes ≡ None

abbrev OneSap : Type 0
OneSap = (m n : SapView) (bytes s t : List ℕ) → IsSap m bytes s → IsSap n bytes t → (m ≡ n) × (s ≡ t)

abbrev NoSapFault : Type 0
NoSapFault = (m : SapView) (bytes tail : List ℕ) → IsSap m bytes tail → sap_fault bytes ≡ None

-- each service is learned
abbrev pub each_service : ServiceEntry → Bool
each_service e = true

-- the port of a neighbour's advertisement is that of the neighbour
moved : (old new : RouterView) (w : SendingView) (now : ℕ) (a : OutcomeView) (number : ℕ) → w.port ≡ number → 1 ≤ number → Receives old (w.port - 1 + 1) w.bytes now a new → Receives old number w.bytes now a new
moved old new w now a number same there h = subst (λ (k : ℕ). Receives old k w.bytes now a new) (omega (arith, same, there)) h

module _ (one : OneIpx) (no_fault : NoIpxFault) (apart : Apart) (ports : List Port) (now : ℕ) (ns : List StaticNeighbour) (advertisements : List SendingView) (are : AreStaticAdvertisements ns advertisements) (others : All (IsAnotherNode ports) ns)
    (n : StaticNeighbour) (there : Contains ns n) where
  near_port : (m : StaticNeighbour) (other : IsAnotherNode ports m) (old : RouterView) → old.ports ≡ ports → IsPort old.ports m.port other.0
  near_port m other old same = subst (λ (ps : List Port). IsPort ps m.port other.0) (sym same) other.1

  -- an advertisement of routes does this to them, and leaves services, apart from old ones
  module _ (old new : RouterView) (part : List RipEntry) (w : SendingView) (a : OutcomeView) (m : StaticNeighbour) (other : IsAnotherNode ports m) (same : old.ports ≡ ports) (is : IsRipPacket (heard_on m.port m.node rip_socket) (rip.Response part) w)
      (h : Receives old (w.port - 1 + 1) w.bytes now a new) where
    rip_here : Receives old m.port w.bytes now a new
    rip_here =
        let own : IsRipPacket (heard_on m.port m.node rip_socket) (rip.Response part) w = is in
        moved old new w now a m.port own.port other.1.0 h

    takes_routes : OneRip → NoRipFault → TakesRoutes (static_source m) now ports (after_age (routes_in old.routes) now) part a new.routes
    takes_routes one_rip no_rip_fault =
        subst (λ (ps : List Port). TakesRoutes (static_source m) now ps (after_age (routes_in old.routes) now) part a new.routes) same
        (hears_rip one no_fault m.port m.node other.0 other.2 now one_rip no_rip_fault old part w a new is (near_port m other old same) rip_here)

    services_left : (x : ServiceKey × Source) → services_in new.services x ≡ after_age (services_in old.services) now x
    services_left = rip_leaves one no_fault m.port m.node other.0 other.2 now old part w a new is (near_port m other old same) rip_here

  -- and an advertisement of services the other way round
  module _ (old new : RouterView) (part : List ServiceEntry) (w : SendingView) (a : OutcomeView) (m : StaticNeighbour) (other : IsAnotherNode ports m) (same : old.ports ≡ ports) (is : IsSapPacket (heard_on m.port m.node sap_socket) (sap.Response false part) w)
      (h : Receives old (w.port - 1 + 1) w.bytes now a new) where
    sap_here : Receives old m.port w.bytes now a new
    sap_here =
        let own : IsSapPacket (heard_on m.port m.node sap_socket) (sap.Response false part) w = is in
        moved old new w now a m.port own.port other.1.0 h

    takes_services : OneSap → NoSapFault → TakesServices (static_source m) now (after_age (services_in old.services) now) part a new.services
    takes_services one_sap no_sap_fault = hears_sap one no_fault m.port m.node other.0 other.2 now one_sap no_sap_fault old part w a new is (near_port m other old same) sap_here

    routes_left : (x : Network × Source) → routes_in new.routes x ≡ after_age (routes_in old.routes) now x
    routes_left = sap_leaves one no_fault m.port m.node other.0 other.2 now old part w a new is (near_port m other old same) sap_here

  module _ (one_rip : OneRip) (no_rip_fault : NoRipFault) (e : RipEntry) (among : Contains n.routes.items e) (hears : is_heard ports e ≡ true) (near : e.hops < 16) (old new : RouterView) (same_ports : old.ports ≡ ports) where
    abbrev alive_route : route_dead (route_metric e) ≡ false
    alive_route = near_enough e.hops near

    abbrev Has_route : RouterView → Type 0
    Has_route r = Has network_cmp network_total network_exact apart route_dead route_key route_metric (is_heard ports) now e alive_route (static_source n) (routes_in r.routes)

    abbrev Takes_route : Source → List RipEntry → RouterView → RouterView → Type 0
    Takes_route s xs before after = Hears network_cmp network_total network_exact apart route_dead route_key route_metric (is_heard ports) now e alive_route (static_source n) s xs (routes_in before.routes) (routes_in after.routes)

    -- if no table was full, all entries of each response are learned
    pub route_offers : IsAdvertisedAlone route_key route_metric (λ m. m.routes.items) ns n e → ReceivesEach HasSpace now advertisements old new → Has_route new
    route_offers alone heard =
        let Fits : Source → List RipEntry → Type 0 = Agrees network_cmp network_total network_exact apart route_dead route_key route_metric (is_heard ports) now e alive_route (static_source n) in
        all_make e n ports now HasSpace (λ r. Unit {0}) Has_route Fits Takes_route
        (λ s xs before after h fits b. tt)
        (λ s xs before after h fits has. keeps_offer network_cmp network_total network_exact apart route_dead route_key route_metric (is_heard ports) now e alive_route (static_source n) s xs (routes_in before.routes) (routes_in after.routes) h fits has)
        (λ s xs ys less fits mine x m. fits mine x (less x m))
        (λ xs. xs) all_of (λ xs. []) none_of
        (λ m other before after part w a same is room h. elim (takes_routes before after part w a m other same is h one_rip no_rip_fault) [
          | inl all ↦ all
          | inr full ↦ absurd (room full.0)
        ])
        (λ m other before after part w a same is room h. routes_left before after part w a m other same is h)
        (λ other before after part w a same is room h within fits m b. elim (takes_routes before after part w a n other same is h one_rip no_rip_fault) [
          | inl all ↦ makes_offer network_cmp network_total network_exact apart route_dead route_key route_metric (is_heard ports) now e alive_route (static_source n) (static_source n) refl part (routes_in before.routes) (routes_in after.routes) all fits m hears
          | inr full ↦ absurd (room full.0)
        ])
        (λ other before after part w a same is room h within fits m b. absurd (omega (arith, m.1)))
        ns others advertisements old new same_ports are heard (λ m mem. (λ is. alone m mem is, λ is x none. absurd (omega (arith, none.1)))) there (inl among) tt

    -- if all that the neighbour advertises counts, each response of it is learned whole
    pub route_refreshed : ((x : RipEntry) → Contains n.routes.items x → IsAdvertisedAlone route_key route_metric (λ m. m.routes.items) ns n x)
        → ((x : RipEntry) → Contains n.routes.items x → is_heard ports x ≡ true → x.hops < 16 → Counts (route_metric x) now (routes_in old.routes (x.network, static_source n)))
        → ReceivesEach AsItMay now advertisements old new → Has_route new
    route_refreshed alone stand heard =
        let Fits : Source → List RipEntry → Type 0 = AgreeWith network_cmp network_total network_exact apart route_dead route_key route_metric (is_heard ports) now n.routes.items (static_source n) in
        let PresentEnd : RouterView → Type 0 = λ r. AllStand network_cmp network_total network_exact apart route_dead route_key route_metric (is_heard ports) now n.routes.items (static_source n) (routes_in r.routes) in
        let Learns : Source → List RipEntry → RouterView → RouterView → Type 0 = λ s xs before after. (ys : List RipEntry) × ((x : RipEntry) → Contains ys x → Contains xs x) × Takes_route s ys before after in
        all_make e n ports now AsItMay PresentEnd Has_route Fits Learns
        (λ s xs before after l fits all. all_stand_on network_cmp network_total network_exact apart route_dead route_key route_metric (is_heard ports) now n.routes.items (static_source n) s l.0 (routes_in before.routes) (routes_in after.routes) l.2 (λ x m is y k key. fits x m is y (l.1 y k) key) all)
        (λ s xs before after l fits has. keeps_offer network_cmp network_total network_exact apart route_dead route_key route_metric (is_heard ports) now e alive_route (static_source n) s l.0 (routes_in before.routes) (routes_in after.routes) l.2 (λ is y k key. fits e among is y (l.1 y k) key) has)
        (λ s xs ys less fits x m is y k key. fits x m is y (less y k) key)
        (λ xs. xs) all_of (λ xs. []) none_of
        (λ m other before after part w a same is so h. elim (takes_routes before after part w a m other same is h one_rip no_rip_fault) [
          | inl all ↦ (part, λ x k. k, all)
          | inr full ↦ (take full.1 part, λ x k. front_list full.1 part x k, full.2)
        ])
        (λ m other before after part w a same is so h. ([], λ x k. k, routes_left before after part w a m other same is h))
        (λ other before after part w a same is so h within fits m all. elim (takes_routes before after part w a n other same is h one_rip no_rip_fault) [
          | inl whole ↦ makes_offer network_cmp network_total network_exact apart route_dead route_key route_metric (is_heard ports) now e alive_route (static_source n) (static_source n) refl part (routes_in before.routes) (routes_in after.routes) whole (λ is y k key. fits e among is y k key) m hears
          | inr full ↦
              let on = all_stand_on network_cmp network_total network_exact apart route_dead route_key route_metric (is_heard ports) now n.routes.items (static_source n) (static_source n) (take full.1 part) (routes_in before.routes) (routes_in after.routes) full.2 (λ x k is y j key. fits x k is y (front_list full.1 part y j) key) all in
              absurd (never_unknown network_cmp network_total network_exact apart route_dead route_key route_metric (is_heard ports) now n.routes.items (static_source n) (routes_in after.routes) on full.3.entry (within full.3.entry (there_in part full.1 full.3.entry full.3.there)) full.3.holds.0 full.3.holds.1.alive full.3.holds.1.unknown)
        ])
        (λ other before after part w a same is so h within fits m all. absurd (omega (arith, m.1)))
        ns others advertisements old new same_ports are heard (λ m mem. (λ x k is. alone x k m mem is, λ x k is y none key. absurd (omega (arith, none.1)))) there (inl among) (λ x m heard alive. stand x m heard (under_16 x.hops alive))

  module _ (one_sap : OneSap) (no_sap_fault : NoSapFault) (e : ServiceEntry) (among : Contains n.services.items e) (near : e.hops < 16) (old new : RouterView) (same_ports : old.ports ≡ ports) where
    abbrev alive_service : service_dead (service_metric e) ≡ false
    alive_service = near_enough e.hops near

    abbrev Has_service : RouterView → Type 0
    Has_service r = Has service_key_cmp service_key_total service_key_exact apart service_dead key_of_service service_metric each_service now e alive_service (static_source n) (services_in r.services)

    abbrev Takes_service : Source → List ServiceEntry → RouterView → RouterView → Type 0
    Takes_service s xs before after = Hears service_key_cmp service_key_total service_key_exact apart service_dead key_of_service service_metric each_service now e alive_service (static_source n) s xs (services_in before.services) (services_in after.services)

    -- if no table was full, all entries of each response are learned
    pub service_offers : IsAdvertisedAlone key_of_service service_metric (λ m. m.services.items) ns n e → ReceivesEach HasSpace now advertisements old new → Has_service new
    service_offers alone heard =
        let Fits : Source → List ServiceEntry → Type 0 = Agrees service_key_cmp service_key_total service_key_exact apart service_dead key_of_service service_metric each_service now e alive_service (static_source n) in
        all_make e n ports now HasSpace (λ r. Unit {0}) Has_service Fits Takes_service
        (λ s xs before after h fits b. tt)
        (λ s xs before after h fits has. keeps_offer service_key_cmp service_key_total service_key_exact apart service_dead key_of_service service_metric each_service now e alive_service (static_source n) s xs (services_in before.services) (services_in after.services) h fits has)
        (λ s xs ys less fits mine x m. fits mine x (less x m))
        (λ xs. []) none_of (λ xs. xs) all_of
        (λ m other before after part w a same is room h. services_left before after part w a m other same is h)
        (λ m other before after part w a same is room h. elim (takes_services before after part w a m other same is h one_sap no_sap_fault) [
          | inl all ↦ all
          | inr full ↦ absurd (room full.0)
        ])
        (λ other before after part w a same is room h within fits m b. absurd (omega (arith, m.1)))
        (λ other before after part w a same is room h within fits m b. elim (takes_services before after part w a n other same is h one_sap no_sap_fault) [
          | inl all ↦ makes_offer service_key_cmp service_key_total service_key_exact apart service_dead key_of_service service_metric each_service now e alive_service (static_source n) (static_source n) refl part (services_in before.services) (services_in after.services) all fits m refl
          | inr full ↦ absurd (room full.0)
        ])
        ns others advertisements old new same_ports are heard (λ m mem. (λ is x none. absurd (omega (arith, none.1)), λ is. alone m mem is)) there (inr among) tt

    -- if all that the neighbour advertises counts, each response of it is learned whole
    pub service_refreshed : ((x : ServiceEntry) → Contains n.services.items x → IsAdvertisedAlone key_of_service service_metric (λ m. m.services.items) ns n x)
        → ((x : ServiceEntry) → Contains n.services.items x → x.hops < 16 → Counts (service_metric x) now (services_in old.services (key_of_service x, static_source n)))
        → ReceivesEach AsItMay now advertisements old new → Has_service new
    service_refreshed alone stand heard =
        let Fits : Source → List ServiceEntry → Type 0 = AgreeWith service_key_cmp service_key_total service_key_exact apart service_dead key_of_service service_metric each_service now n.services.items (static_source n) in
        let PresentEnd : RouterView → Type 0 = λ r. AllStand service_key_cmp service_key_total service_key_exact apart service_dead key_of_service service_metric each_service now n.services.items (static_source n) (services_in r.services) in
        let Learns : Source → List ServiceEntry → RouterView → RouterView → Type 0 = λ s xs before after. (ys : List ServiceEntry) × ((x : ServiceEntry) → Contains ys x → Contains xs x) × Takes_service s ys before after in
        all_make e n ports now AsItMay PresentEnd Has_service Fits Learns
        (λ s xs before after l fits all. all_stand_on service_key_cmp service_key_total service_key_exact apart service_dead key_of_service service_metric each_service now n.services.items (static_source n) s l.0 (services_in before.services) (services_in after.services) l.2 (λ x m is y k key. fits x m is y (l.1 y k) key) all)
        (λ s xs before after l fits has. keeps_offer service_key_cmp service_key_total service_key_exact apart service_dead key_of_service service_metric each_service now e alive_service (static_source n) s l.0 (services_in before.services) (services_in after.services) l.2 (λ is y k key. fits e among is y (l.1 y k) key) has)
        (λ s xs ys less fits x m is y k key. fits x m is y (less y k) key)
        (λ xs. []) none_of (λ xs. xs) all_of
        (λ m other before after part w a same is so h. ([], λ x k. k, services_left before after part w a m other same is h))
        (λ m other before after part w a same is so h. elim (takes_services before after part w a m other same is h one_sap no_sap_fault) [
          | inl all ↦ (part, λ x k. k, all)
          | inr full ↦ (take full.1 part, λ x k. front_list full.1 part x k, full.2)
        ])
        (λ other before after part w a same is so h within fits m all. absurd (omega (arith, m.1)))
        (λ other before after part w a same is so h within fits m all. elim (takes_services before after part w a n other same is h one_sap no_sap_fault) [
          | inl whole ↦ makes_offer service_key_cmp service_key_total service_key_exact apart service_dead key_of_service service_metric each_service now e alive_service (static_source n) (static_source n) refl part (services_in before.services) (services_in after.services) whole (λ is y k key. fits e among is y k key) m refl
          | inr full ↦
              let on = all_stand_on service_key_cmp service_key_total service_key_exact apart service_dead key_of_service service_metric each_service now n.services.items (static_source n) (static_source n) (take full.1 part) (services_in before.services) (services_in after.services) full.2 (λ x k is y j key. fits x k is y (front_list full.1 part y j) key) all in
              absurd (never_unknown service_key_cmp service_key_total service_key_exact apart service_dead key_of_service service_metric each_service now n.services.items (static_source n) (services_in after.services) on full.3.entry (within full.3.entry (there_in part full.1 full.3.entry full.3.there)) refl full.3.holds.alive full.3.holds.unknown)
        ])
        ns others advertisements old new same_ports are heard (λ m mem. (λ x k is y none key. absurd (omega (arith, none.1)), λ x k is. alone x k m mem is)) there (inr among) (λ x m heard alive. stand x m (under_16 x.hops alive))
