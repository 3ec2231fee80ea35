-- A router that receives entries with 16 hops has nothing left of them.
use Rattle.std.proofs.Common.{◌≡◌, ◌≢◌, ◌⊎◌, ◌==◌, ℕ, zero, suc, Bool, true, false, cond, List, [], ◌∷◌, ◌++◌, length, take, drop, slice_get, map, Option, Some, None, MatchOption, if◌then◌else◌, refl, sym, ap, ◌∙◌, subst, inl, inr, arith, eqb-true, append-nil}
use Rattle.std.specs.Prelude.{Contains, ◌&&◌, nat_eq}
use Rattle.std.specs.Cmp.{IsTotalOrder}
use Rattle.std.specs.Cmp.Lexicographic.{pointwise}
use Rattle.std.specs.Ordering.{is_eq}
use Rattle.std.specs.declared.cmp.Ordering.{Ordering}
use Rattle.std.proofs.Math.Bool.{or-true}
use Rattle.std.proofs.lemmas.Bool.{eq-eqb}
use Rattle.std.proofs.lemmas.Cmp.{nat_cmp_total, nat_list_cmp_total, on_total, then_total, tied_itself}
use Rattle.std.proofs.lemmas.List.{take-append-drop, take_all}
use Rattle.ipx_wire.specs.Assigned.{packet_exchange_type, rip_socket, rip_type, sap_socket}
use Rattle.ipx_wire.specs.declared.address.Network.{Network}
use Rattle.ipx_wire.specs.declared.address.Node.{Node}
use Rattle.ipx_wire.specs.Ipx.{PacketView, IsIpx, ipx_fault}
use Rattle.ipx_control.specs.declared.rip.packet.RipEntry.{RipEntry}
use Rattle.ipx_control.specs.declared.sap.packet.ServiceEntry.{ServiceEntry}
use Rattle.ipx_control.specs.Rip.{RipView, IsRip, rip_fault}
use Rattle.ipx_control.specs.Rip as rip
use Rattle.ipx_control.specs.Sap.{SapView, IsSap, sap_fault}
use Rattle.ipx_control.specs.Sap as sap
use Rattle.ipx_tables.specs.declared.route.RouteMetric.{RouteMetric}
use Rattle.ipx_tables.specs.declared.service.ServiceKey.{ServiceKey}
use Rattle.ipx_tables.specs.declared.service.ServiceMetric.{ServiceMetric}
use Rattle.ipx_tables.specs.declared.source.Source.{Source}
use Rattle.ipx_tables.specs.Content.{Table, after_age, after_hear, is_same, pair_cmp, source_cmp, still}
use Rattle.ipx_tables.specs.Route.{network_cmp, route_dead}
use Rattle.ipx_tables.specs.Service.{service_dead, service_key_cmp}
use Rattle.ipx_router.specs.declared.classify.PacketClass.{PacketClass}
use Rattle.ipx_router.specs.declared.classify.PacketClass.TheVariants as classes
use Rattle.ipx_router.specs.declared.port.Port.{Port}
use Rattle.ipx_router.specs.declared.port.PortNow.{PortNow}
use Rattle.ipx_router.specs.declared.reason.Reason.TheVariants.{Bad, BadControl}
use Rattle.ipx_router.specs.AdvertisedEntries.{key_of_service}
use Rattle.ipx_router.specs.Answer.{AnswersByClass, AnswersBytes, AnswersPacket, AnswersRipMessage, AnswersSapMessage, HearsRoutes, HearsServices, Receives}
use Rattle.ipx_router.specs.Classify.{class_of, is_node}
use Rattle.ipx_router.specs.Hearing.{AtEntry, IsFullForRoute, IsFullForService, after_route, after_routes, after_service, after_services, is_heard, route_metric, service_metric}
use Rattle.ipx_router.specs.Knowledge.{HoldsKnown, HoldsRoutes, HoldsServices, Routes, Services, known_at, routes_in, services_in, tables}
use Rattle.ipx_router.specs.OutcomeView.{OutcomeView, Forward, Replies, Heard, Dropped}
use Rattle.ipx_router.specs.Placing.{advertised_of_other_ports}
use Rattle.ipx_router.specs.Ports.{IsPort}
use Rattle.ipx_router.specs.RouterPackets.{AreRoutePackets, AreServicePackets, IsRipPacket, IsSapPacket, SendingView, all_nodes, own_header}
use Rattle.ipx_router.specs.RouterView.{RouterView}
use Rattle.ipx_farewell.specs.Farewell.{advertised_networks, gone_route, gone_service}
use Rattle.ipx_farewell.specs.FarewellHeard.{FarewellIsHeard, IsForgotten, ReceivesEach}
use Rattle.ipx_farewell.proofs.Members.{here, in_either, later, map_has}

-- the laws of packets on which this depends
pub record PacketLaws : Type 0 where
  pub one_ipx : (p q : PacketView) (bytes s t : List ℕ) → IsIpx p bytes s → IsIpx q bytes t → (p ≡ q) × (s ≡ t)
  pub no_ipx_fault : (p : PacketView) (bytes tail : List ℕ) → IsIpx p bytes tail → ipx_fault bytes ≡ None
  pub one_rip : (m n : RipView) (bytes s t : List ℕ) → IsRip m bytes s → IsRip n bytes t → (m ≡ n) × (s ≡ t)
  pub no_rip_fault : (m : RipView) (bytes tail : List ℕ) → IsRip m bytes tail → rip_fault bytes ≡ None
  pub one_sap : (m n : SapView) (bytes s t : List ℕ) → IsSap m bytes s → IsSap n bytes t → (m ≡ n) × (s ≡ t)
  pub no_sap_fault : (m : SapView) (bytes tail : List ℕ) → IsSap m bytes tail → sap_fault bytes ≡ None

bool_cases : (b : Bool) → (b ≡ true) ⊎ (b ≡ false)
bool_cases true = inl refl
bool_cases false = inr refl

some_same : {A : Type 0} (a b : A) → Some a ≡ Some b → a ≡ b
some_same a b e = cc

lists_same : (xs ys : List ℕ) → pointwise nat_eq xs ys ≡ true → xs ≡ ys
lists_same [] [] h = refl
lists_same [] (y ∷ ys) h = cc
lists_same (x ∷ xs) [] h = cc
lists_same (x ∷ xs) (y ∷ ys) h = elim (bool_cases (nat_eq x y)) [
  | inl one ↦
      let rest : pointwise nat_eq xs ys ≡ true = sym (ap (λ b. b && pointwise nat_eq xs ys) one) ∙ h in
      ap (λ z. z ∷ xs) (eqb-true x y one) ∙ ap (λ zs. y ∷ zs) (lists_same xs ys rest)
  | inr other ↦ let never : false ≡ true = sym (ap (λ b. b && pointwise nat_eq xs ys) other) ∙ h in cc
]

not_node : (a b : Node) → a ≢ b → is_node a b ≡ false
not_node a b apart = elim (bool_cases (is_node a b)) [
  | inl same ↦ absurd (apart (ap (λ (bytes : List ℕ). let n : Node = record { 0 = bytes } in n) (lists_same a.0 b.0 same)))
  | inr other ↦ other
]

-- what an option has if it is `None`
of_none : {F : Type 0} (P : Type 0) (Q : F → Type 0) (o : Option F) → o ≡ None → MatchOption o P Q → P
of_none P Q None e h = h
of_none P Q (Some f) e h = cc

-- ---- entries that are unreachable

module _ {E : Type 0} (dead : E → Bool) where
  abbrev AllDead : List E → Type 0
  AllDead [] = Unit {0}
  AllDead (e ∷ es) = (dead e ≡ true) × AllDead es

  dead_take : (n : ℕ) (es : List E) → AllDead es → AllDead (take n es)
  dead_take zero es all = tt
  dead_take (suc n) [] all = tt
  dead_take (suc n) (e ∷ es) all = (all.0, dead_take n es all.1)

  dead_drop : (n : ℕ) (es : List E) → AllDead es → AllDead (drop n es)
  dead_drop zero es all = all
  dead_drop (suc n) [] all = tt
  dead_drop (suc n) (e ∷ es) all = dead_drop n es all.1

  dead_at : (es : List E) (k : ℕ) (e : E) → AllDead es → slice_get es k ≡ Some e → dead e ≡ true
  dead_at [] k e all at = cc
  dead_at (x ∷ es) zero e all at = ap dead (sym (some_same x e at)) ∙ all.0
  dead_at (x ∷ es) (suc k) e all at = dead_at es k e all.1 at

abbrev route_gone : RipEntry → Bool
route_gone e = route_dead (route_metric e)

abbrev service_gone : ServiceEntry → Bool
service_gone e = service_dead (service_metric e)

routes_gone : (es : List RipEntry) → AllDead route_gone (map gone_route es)
routes_gone [] = tt
routes_gone (e ∷ es) = (refl, routes_gone es)

services_gone : (es : List ServiceEntry) → AllDead service_gone (map gone_service es)
services_gone [] = tt
services_gone (e ∷ es) = (refl, services_gone es)

-- ---- a key and source are the same as themselves

source_total : IsTotalOrder source_cmp
source_total = then_total (on_total (λ (s : Source). s.port) nat_cmp_total) (on_total (λ (s : Source). s.neighbour.0) nat_list_cmp_total)

itself : {K : Type 0} (cmp : K → K → Ordering) → IsTotalOrder cmp → (p : K × Source) → is_same cmp p p ≡ true
itself {K} cmp total p =
    let whole : IsTotalOrder (pair_cmp cmp) = then_total (on_total (λ (p : K × Source). p.0) total) (on_total (λ (p : K × Source). p.1) source_total) in
    ap is_eq (tied_itself whole p)

network_itself : (p : Network × Source) → is_same network_cmp p p ≡ true
network_itself = itself network_cmp (on_total (λ (n : Network). n.0) nat_cmp_total)

key_itself : (p : ServiceKey × Source) → is_same service_key_cmp p p ≡ true
key_itself = itself service_key_cmp (then_total (on_total (λ (k : ServiceKey). k.kind) nat_cmp_total) (on_total (λ (k : ServiceKey). k.name) nat_list_cmp_total))

-- ---- what an unreachable entry leaves

aged_none : {M : Type 0} (now : ℕ) (o : Option (M × ℕ)) → o ≡ None → still now o ≡ None
aged_none now o none = ap (still now) none

dead_word : {V : Type 0} (same dead : Bool) (new old : Option V) → dead ≡ true → old ≡ None → cond same (cond dead None new) old ≡ None
dead_word true true new old is none = refl
dead_word true false new old is none = cc
dead_word false dead new old is none = none

gone_word : {V : Type 0} (same dead : Bool) (new old : Option V) → dead ≡ true → same ≡ true → cond same (cond dead None new) old ≡ None
gone_word true true new old is at = refl
gone_word true false new old is at = cc
gone_word false dead new old is at = cc

module _ (ports : List Port) (source : Source) (now : ℕ) where
  heard_word : (h : Bool) (f g : Routes) (p : Network × Source) → f p ≡ None → g p ≡ None → (if h then f else g) p ≡ None
  heard_word true f g p a b = a
  heard_word false f g p a b = b

  heard_true : (h : Bool) (f g : Routes) (p : Network × Source) → h ≡ true → f p ≡ None → (if h then f else g) p ≡ None
  heard_true true f g p is a = a
  heard_true false f g p is a = cc

  route_stays : (e : RipEntry) (c : Routes) (p : Network × Source) → route_gone e ≡ true → c p ≡ None → after_route ports source now c e p ≡ None
  route_stays e c p gone none =
      heard_word (is_heard ports e) (after_hear network_cmp route_dead c (e.network, source) (route_metric e) now) c p
      (dead_word (is_same network_cmp (e.network, source) p) (route_gone e) (Some (route_metric e, now)) (c p) gone none) none

  routes_stay : (es : List RipEntry) (c : Routes) (p : Network × Source) → AllDead route_gone es → c p ≡ None → after_routes ports source now c es p ≡ None
  routes_stay [] c p all none = none
  routes_stay (e ∷ es) c p all none = routes_stay es (after_route ports source now c e) p all.1 (route_stays e c p all.0 none)

  route_goes : (e : RipEntry) (c : Routes) → route_gone e ≡ true → is_heard ports e ≡ true → after_route ports source now c e (e.network, source) ≡ None
  route_goes e c gone heard =
      heard_true (is_heard ports e) (after_hear network_cmp route_dead c (e.network, source) (route_metric e) now) c (e.network, source) heard
      (gone_word (is_same network_cmp (e.network, source) (e.network, source)) (route_gone e) (Some (route_metric e, now)) (c (e.network, source)) gone (network_itself (e.network, source)))

  routes_go : (es : List RipEntry) (c : Routes) (e : RipEntry) → AllDead route_gone es → Contains es e → is_heard ports e ≡ true → after_routes ports source now c es (e.network, source) ≡ None
  routes_go [] c e all m heard = absurd (omega (arith, m.1))
  routes_go (f ∷ es) c e all (zero, within, at) heard =
      routes_stay es (after_route ports source now c f) (e.network, source) all.1
      (subst (λ (g : RipEntry). after_route ports source now c f (g.network, source) ≡ None) at (route_goes f c all.0 (ap (is_heard ports) at ∙ heard)))
  routes_go (f ∷ es) c e all (suc k, within, at) heard = routes_go es (after_route ports source now c f) e all.1 (k, omega (arith, within), at) heard

module _ (source : Source) (now : ℕ) where
  services_stay : (es : List ServiceEntry) (c : Services) (p : ServiceKey × Source) → AllDead service_gone es → c p ≡ None → after_services source now c es p ≡ None
  services_stay [] c p all none = none
  services_stay (e ∷ es) c p all none =
      services_stay es (after_service source now c e) p all.1
      (dead_word (is_same service_key_cmp (key_of_service e, source) p) (service_gone e) (Some (service_metric e, now)) (c p) all.0 none)

  services_go : (es : List ServiceEntry) (c : Services) (e : ServiceEntry) → AllDead service_gone es → Contains es e → after_services source now c es (key_of_service e, source) ≡ None
  services_go [] c e all m = absurd (omega (arith, m.1))
  services_go (f ∷ es) c e all (zero, within, at) =
      services_stay es (after_service source now c f) (key_of_service e, source) all.1
      (subst (λ (g : ServiceEntry). after_service source now c f (key_of_service g, source) ≡ None) at
      (gone_word (is_same service_key_cmp (key_of_service f, source) (key_of_service f, source)) (service_gone f) (Some (service_metric f, now)) (c (key_of_service f, source)) all.0 (key_itself (key_of_service f, source))))
  services_go (f ∷ es) c e all (suc k, within, at) = services_go es (after_service source now c f) e all.1 (k, omega (arith, within), at)

-- ---- what is left after packets

-- nothing is left of these entries, and what was not there does not come
record Forgets (source : Source) (old new : RouterView) (networks : List RipEntry) (services : List ServiceEntry) : Type 0 where
  pub ports : new.ports ≡ old.ports
  pub routes_go : (e : RipEntry) → Contains networks e → is_heard old.ports e ≡ true → routes_in new.routes (e.network, source) ≡ None
  pub routes_stay : (p : Network × Source) → routes_in old.routes p ≡ None → routes_in new.routes p ≡ None
  pub services_go : (e : ServiceEntry) → Contains services e → services_in new.services (key_of_service e, source) ≡ None
  pub services_stay : (p : ServiceKey × Source) → services_in old.services p ≡ None → services_in new.services p ≡ None

no_member : {X P : Type 0} (x : X) → Contains [] x → P
no_member x m = absurd (omega (arith, m.1))

forgets_nothing : (source : Source) (old new : RouterView) → new ≡ old → Forgets source old new [] []
forgets_nothing source old new is = record {
  ports = ap (λ (v : RouterView). v.ports) is;
  routes_go = λ e m heard. no_member e m;
  routes_stay = λ p none. ap (λ (v : RouterView). routes_in v.routes p) is ∙ none;
  services_go = λ e m. no_member e m;
  services_stay = λ p none. ap (λ (v : RouterView). services_in v.services p) is ∙ none;
}

forgets_both : (source : Source) (old mid new : RouterView) (xs vs : List RipEntry) (ys ws : List ServiceEntry) → Forgets source old mid xs ys → Forgets source mid new vs ws → Forgets source old new (xs ++ vs) (ys ++ ws)
forgets_both source old mid new xs vs ys ws one two = record {
  ports = two.ports ∙ one.ports;
  routes_go = λ e m heard. elim (in_either xs vs e m) [
    | inl first ↦ two.routes_stay (e.network, source) (one.routes_go e first heard)
    | inr second ↦ two.routes_go e second (ap (λ ports. is_heard ports e) one.ports ∙ heard)
  ];
  routes_stay = λ p none. two.routes_stay p (one.routes_stay p none);
  services_go = λ e m. elim (in_either ys ws e m) [
    | inl first ↦ two.services_stay (key_of_service e, source) (one.services_go e first)
    | inr second ↦ two.services_go e second
  ];
  services_stay = λ p none. two.services_stay p (one.services_stay p none);
}

in_two : (port : ℕ) (xs ys : List SendingView) (old new : RouterView) → ReceivesEach port old (xs ++ ys) new → (mid : RouterView) × ReceivesEach port old xs mid × ReceivesEach port mid ys new
in_two port [] ys old new h = (old, refl, h)
in_two port (s ∷ xs) ys old new h =
    let more = in_two port xs ys h.2 new h.4 in
    (more.0, (h.0, h.1, h.2, h.3, more.1), more.2)

module _ (near far : Port) (one_network : far.network ≡ near.network) (two_nodes : far.node ≢ near.node) (q : ℕ) where
  on_network : (far.network.0 == near.network.0) ≡ true
  on_network = eq-eqb far.network.0 near.network.0 (ap (λ (n : Network). n.0) one_network)

  rip_is : class_of near (own_header (all_nodes q far rip_socket) rip_type rip_socket) ≡ classes.Rip
  rip_is = simp (on_network, not_node far.node near.node two_nodes, or-true) refl

  sap_is : class_of near (own_header (all_nodes q far sap_socket) packet_exchange_type sap_socket) ≡ classes.Sap
  sap_is = simp (on_network, not_node far.node near.node two_nodes, or-true) refl

  module _ (laws : PacketLaws) (p : ℕ) where
    abbrev source : Source
    source = record { port = p; neighbour = far.node }

    abbrev at : ℕ → PortNow
    at now = record { number = p; port = near; now = now }

    abbrev packet_of : ℕ → ℕ → List ℕ → PacketView
    packet_of kind socket body = record { header = own_header (all_nodes q far socket) kind socket; body = body }

    by_class : (now : ℕ) (old : RouterView) (kind socket : ℕ) (body bytes : List ℕ) (a : OutcomeView) (new : RouterView) (k : PacketClass)
        → class_of near (own_header (all_nodes q far socket) kind socket) ≡ k → IsIpx (packet_of kind socket body) bytes []
        → IsPort old.ports p near → Receives old p bytes now a new → AnswersByClass (known_at old now) (at now) (packet_of kind socket body) a (tables new) k
    by_class now old kind socket body bytes a new k packet_class is at_near h =
        let d = packet_of kind socket body in
        let arrived : h.answers.0 ≡ near = some_same h.answers.0 near (sym h.answers.1.1 ∙ at_near.1) in
        let here : AnswersBytes (known_at old now) (at now) bytes a (tables new) = subst (λ (port : Port). AnswersBytes (known_at old now) (record { number = p; port = port; now = now }) bytes a (tables new)) arrived h.answers.2 in
        let read = of_none (AnswersPacket (known_at old now) (at now) bytes a (tables new)) (λ f. (a ≡ Dropped (Bad f)) × HoldsKnown (known_at old now) (tables new)) (ipx_fault bytes) (laws.no_ipx_fault d bytes [] is) here in
        let same : read.0 ≡ d = (laws.one_ipx read.0 d bytes read.1 [] read.2 is).0 in
        subst (λ c. AnswersByClass (known_at old now) (at now) d a (tables new) c) packet_class
        (subst (λ (e : PacketView). AnswersByClass (known_at old now) (at now) e a (tables new) (class_of near e.header)) same read.3)

    -- all entries of a response without a way are taken, since the table is never full for them
    hears_part : (now : ℕ) (ports : List Port) (routes : Routes) (part : List RipEntry) (a : OutcomeView) (new : Table Network RouteMetric) → AllDead route_gone part → HearsRoutes ports routes source now part a new
        → (x : Network × Source) → routes_in new x ≡ after_routes ports source now routes part x
    hears_part now ports routes part (Heard n) new all h x = h.1.holds x ∙ ap (λ es. after_routes ports source now routes es x) (take_all (length part) part (omega arith))
    hears_part now ports routes part (Dropped reason) new all h x =
        let full : AtEntry part h.1 (IsFullForRoute ports source new) = h.3 in
        let never : true ≡ false = sym (dead_at route_gone part h.1 full.entry all full.there) ∙ full.holds.1.alive in
        cc
    hears_part now ports routes part (Forward port next bytes) new all h x = absurd h
    hears_part now ports routes part (Replies sent) new all h x = absurd h

    hears_services_part : (now : ℕ) (services : Services) (part : List ServiceEntry) (a : OutcomeView) (new : Table ServiceKey ServiceMetric) → AllDead service_gone part → HearsServices services source now part a new
        → (x : ServiceKey × Source) → services_in new x ≡ after_services source now services part x
    hears_services_part now services part (Heard n) new all h x = h.1.holds x ∙ ap (λ es. after_services source now services es x) (take_all (length part) part (omega arith))
    hears_services_part now services part (Dropped reason) new all h x =
        let full : AtEntry part h.1 (IsFullForService source new) = h.3 in
        let never : true ≡ false = sym (dead_at service_gone part h.1 full.entry all full.there) ∙ full.holds.alive in
        cc
    hears_services_part now services part (Forward port next bytes) new all h x = absurd h
    hears_services_part now services part (Replies sent) new all h x = absurd h

    forgets_rip : (now : ℕ) (old : RouterView) (part : List RipEntry) (s : SendingView) (a : OutcomeView) (new : RouterView) → AllDead route_gone part → IsRipPacket (all_nodes q far rip_socket) (rip.Response part) s
        → IsPort old.ports p near → Receives old p s.bytes now a new → Forgets source old new part []
    forgets_rip now old part s a new all is at_near h =
        let own : IsRipPacket (all_nodes q far rip_socket) (rip.Response part) s = is in
        let d = packet_of rip_type rip_socket own.body in
        let routes = after_age (routes_in old.routes) now in
        let answers : AnswersByClass (known_at old now) (at now) d a (tables new) classes.Rip = by_class now old rip_type rip_socket own.body s.bytes a new classes.Rip rip_is own.packet.packet at_near h in
        let read = of_none ((m : RipView) × (tail : List ℕ) × IsRip m own.body tail × AnswersRipMessage old.ports routes (at now) d.header m a new.routes) (λ f. (a ≡ Dropped (BadControl f)) × HoldsRoutes new.routes routes) (rip_fault own.body) (laws.no_rip_fault (rip.Response part) own.body [] own.says) answers.0 in
        let same : read.0 ≡ rip.Response part = (laws.one_rip read.0 (rip.Response part) own.body read.1 [] read.2 own.says).0 in
        let holds = hears_part now old.ports routes part a new.routes all (subst (λ m. AnswersRipMessage old.ports routes (at now) d.header m a new.routes) same read.3) in
        record {
          ports = h.rest.ports;
          routes_go = λ e m heard. holds (e.network, source) ∙ routes_go old.ports source now part routes e all m heard;
          routes_stay = λ x none. holds x ∙ routes_stay old.ports source now part routes x all (aged_none now (routes_in old.routes x) none);
          services_go = λ e m. no_member e m;
          services_stay = λ x none. answers.1 x ∙ aged_none now (services_in old.services x) none;
        }

    forgets_sap : (now : ℕ) (old : RouterView) (part : List ServiceEntry) (s : SendingView) (a : OutcomeView) (new : RouterView) → AllDead service_gone part → IsSapPacket (all_nodes q far sap_socket) (sap.Response false part) s
        → IsPort old.ports p near → Receives old p s.bytes now a new → Forgets source old new [] part
    forgets_sap now old part s a new all is at_near h =
        let own : IsSapPacket (all_nodes q far sap_socket) (sap.Response false part) s = is in
        let d = packet_of packet_exchange_type sap_socket own.body in
        let services = after_age (services_in old.services) now in
        let answers : AnswersByClass (known_at old now) (at now) d a (tables new) classes.Sap = by_class now old packet_exchange_type sap_socket own.body s.bytes a new classes.Sap sap_is own.packet.packet at_near h in
        let read = of_none ((m : SapView) × (tail : List ℕ) × IsSap m own.body tail × AnswersSapMessage services (at now) d.header m a new.services) (λ f. (a ≡ Dropped (BadControl f)) × HoldsServices new.services services) (sap_fault own.body) (laws.no_sap_fault (sap.Response false part) own.body [] own.says) answers.0 in
        let same : read.0 ≡ sap.Response false part = (laws.one_sap read.0 (sap.Response false part) own.body read.1 [] read.2 own.says).0 in
        let holds = hears_services_part now services part a new.services all (subst (λ m. AnswersSapMessage services (at now) d.header m a new.services) same read.3) in
        record {
          ports = h.rest.ports;
          routes_go = λ e m heard. no_member e m;
          routes_stay = λ x none. answers.1 x ∙ aged_none now (routes_in old.routes x) none;
          services_go = λ e m. holds (key_of_service e, source) ∙ services_go source now part services e all m;
          services_stay = λ x none. holds x ∙ services_stay source now part services x all (aged_none now (services_in old.services x) none);
        }

    port_on : (old next : RouterView) → IsPort old.ports p near → next.ports ≡ old.ports → IsPort next.ports p near
    port_on old next at_near is = subst (λ ports. IsPort ports p near) (sym is) at_near

    forgets_routes : (ss : List SendingView) (es : List RipEntry) (old new : RouterView) → AllDead route_gone es → IsPort old.ports p near → AreRoutePackets (all_nodes q far rip_socket) es ss → ReceivesEach p old ss new → Forgets source old new es []
    forgets_routes [] es old new all at_near none is = subst (λ (xs : List RipEntry). Forgets source old new xs []) (sym none) (forgets_nothing source old new is)
    forgets_routes (s ∷ ss) es old new all at_near cut h =
        let one = forgets_rip h.0 old (take 50 es) s h.1 h.2 (dead_take route_gone 50 es all) cut.1 at_near h.3 in
        subst (λ (xs : List RipEntry). Forgets source old new xs []) (take-append-drop 50 es)
        (forgets_both source old h.2 new (take 50 es) (drop 50 es) [] [] one
        (forgets_routes ss (drop 50 es) h.2 new (dead_drop route_gone 50 es all) (port_on old h.2 at_near one.ports) cut.2 h.4))

    forgets_services : (ss : List SendingView) (es : List ServiceEntry) (old new : RouterView) → AllDead service_gone es → IsPort old.ports p near → AreServicePackets (all_nodes q far sap_socket) false es ss → ReceivesEach p old ss new → Forgets source old new [] es
    forgets_services [] es old new all at_near none is = subst (λ (xs : List ServiceEntry). Forgets source old new [] xs) (sym none) (forgets_nothing source old new is)
    forgets_services (s ∷ ss) es old new all at_near cut h =
        let one = forgets_sap h.0 old (take 7 es) s h.1 h.2 (dead_take service_gone 7 es all) cut.1 at_near h.3 in
        subst (λ (xs : List ServiceEntry). Forgets source old new [] xs) (take-append-drop 7 es)
        (forgets_both source old h.2 new [] [] (take 7 es) (drop 7 es) one
        (forgets_services ss (drop 7 es) h.2 new (dead_drop service_gone 7 es all) (port_on old h.2 at_near one.ports) cut.2 h.4))

    forgets_all : (xs ys : List SendingView) (es : List RipEntry) (fs : List ServiceEntry) (old new : RouterView) → AllDead route_gone es → AllDead service_gone fs → IsPort old.ports p near
        → AreRoutePackets (all_nodes q far rip_socket) es xs → AreServicePackets (all_nodes q far sap_socket) false fs ys → ReceivesEach p old (xs ++ ys) new → Forgets source old new es fs
    forgets_all xs ys es fs old new all all_services at_near of_routes of_services h =
        let two = in_two p xs ys old new h in
        let one = forgets_routes xs es old two.0 all at_near of_routes two.1 in
        subst (λ (zs : List RipEntry). Forgets source old new zs fs) (append-nil es)
        (forgets_both source old two.0 new es [] [] fs one (forgets_services ys fs two.0 new all_services (port_on old two.0 at_near one.ports) of_services two.2))

pub forgotten : PacketLaws → FarewellIsHeard
forgotten laws ports number far heard offered sent near port old new said at_near one_network two_nodes received =
    let source : Source = record { port = port; neighbour = far.node } in
    let networks = advertised_networks ports number far heard in
    let services = advertised_of_other_ports number offered in
    let all = forgets_all near far one_network two_nodes number laws port said.0 said.1 (map gone_route networks) (map gone_service services) old new (routes_gone networks) (services_gone services) at_near said.3 said.4 (subst (λ ss. ReceivesEach port old ss new) said.2 received) in
    record {
      no_route = λ e m hears. all.routes_go (gone_route e) (map_has gone_route networks e m) (ap (λ ports. is_heard ports e) (sym all.ports) ∙ hears);
      no_service = λ e m. all.services_go (gone_service e) (map_has gone_service services e m);
    }
