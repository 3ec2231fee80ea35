-- What one router advertises on a port is what another learns of it.
use Rattle.std.proofs.Common.{◌≡◌, ◌≢◌, ◌==◌, ℕ, zero, suc, ◌+◌, ◌-◌, ◌<◌, Bool, true, false, cond, List, [], ◌∷◌, ◌++◌, length, take, drop, slice_get, Option, Some, None, MatchBool, MatchOption, refl, sym, ap, ◌∙◌, subst, inl, inr, arith, eqb-true, append-nil}
use Rattle.std.specs.Prelude.{◌&&◌, nat_eq}
use Rattle.std.specs.Cmp.Lexicographic.{pointwise}
use Rattle.std.proofs.Math.Bool.{or-true}
use Rattle.std.proofs.lemmas.Bool.{eq-eqb, lt-ltb}
use Rattle.std.proofs.lemmas.List.{take-append-drop, take_all}
use Rattle.std.proofs.lemmas.List.Sums.{fold-append}
use Rattle.std.proofs.lemmas.List.Elements.{filter-append}
use Rattle.ipx_wire.specs.Assigned.{packet_exchange_type, rip_socket, rip_type, sap_socket}
use Rattle.ipx_wire.specs.declared.address.Network.{Network}
use Rattle.ipx_wire.specs.declared.address.Node.{Node}
use Rattle.ipx_wire.specs.Ipx.{PacketView, IsIpx, ipx_fault}
use Rattle.ipx_control.specs.declared.rip.packet.RipEntry.{RipEntry}
use Rattle.ipx_control.specs.declared.sap.packet.ServiceEntry.{ServiceEntry}
use Rattle.ipx_control.specs.Rip.{RipView, IsRip, rip_fault}
use Rattle.ipx_control.specs.Rip as rip
use Rattle.ipx_control.specs.Sap as sap
use Rattle.ipx_tables.specs.declared.route.RouteMetric.{RouteMetric}
use Rattle.ipx_tables.specs.declared.source.Source.{Source}
use Rattle.ipx_tables.specs.Best.{IsBest}
use Rattle.ipx_tables.specs.Content.{Table, after_age, is_same, is_young, still}
use Rattle.ipx_tables.specs.Route.{network_cmp, route_before, route_dead}
use Rattle.ipx_router.specs.declared.classify.PacketClass.{PacketClass}
use Rattle.ipx_router.specs.declared.classify.PacketClass.TheVariants as classes
use Rattle.ipx_router.specs.declared.packets.Recipient.{Recipient}
use Rattle.ipx_router.specs.declared.port.Port.{Port}
use Rattle.ipx_router.specs.declared.port.PortNow.{PortNow}
use Rattle.ipx_router.specs.declared.reason.Reason.TheVariants.{Bad, BadControl, TableFull}
use Rattle.ipx_router.specs.declared.route.Route.{Route}
use Rattle.ipx_router.specs.Answer.{AnswersByClass, AnswersBytes, AnswersPacket, AnswersRipMessage, HearsRoutes, Receives}
use Rattle.ipx_router.specs.Classify.{class_of, is_node}
use Rattle.ipx_router.specs.Hearing.{after_route, after_routes, is_heard, route_metric}
use Rattle.ipx_router.specs.Knowledge.{HoldsKnown, HoldsRoutes, Routes, Services, known_at, routes_in, tables}
use Rattle.ipx_router.specs.OutcomeView.{OutcomeView, Forward, Replies, Heard, Dropped}
use Rattle.ipx_router.specs.RouterPackets.{AreCutOf, AreRoutePackets, AreServicePackets, IsRipPacket, IsSapPacket, SendingView, all_nodes, own_header}
use Rattle.ipx_router.specs.Ports.{IsPort}
use Rattle.ipx_router.specs.RouteChoice.{direct_route}
use Rattle.ipx_router.specs.RouterView.{RouterView}
use Rattle.ipx_router.specs.Advertisements.{AreAdvertisements, AreAdvertised, is_due}
use Rattle.ipx_router.specs.AdvertisedEntries.{IsAdvertisedRoute}
use Rattle.rip_convergence.specs.PacketLaws.{LawsOfPackets}
use Rattle.rip_convergence.specs.LearnedAdvertisements.{ReceivesInTurn, AdvertisementsAreLearned, leaving_by}
use Rattle.rip_convergence.proofs.Hearing.{Word, one_word, step_is, still_is, still_was}
use Rattle.rip_convergence.proofs.RunRoutes.{By}
use Rattle.rip_convergence.proofs.Settling.{bool_cases, some_same}
use Rattle.rip_convergence.proofs.Steps.{receiving}

-- ---- the packets that leave by a port

abbrev ByPort : ℕ → List SendingView → Type 0
ByPort port [] = Unit {0}
ByPort port (s ∷ later) = (s.port ≡ port) × ByPort port later

by_port_both : (port : ℕ) (xs ys : List SendingView) → ByPort port xs → ByPort port ys → ByPort port (xs ++ ys)
by_port_both port [] ys one two = two
by_port_both port (s ∷ xs) ys one two = (one.0, by_port_both port xs ys one.1 two)

cut_by_port : {E : Type 0} (most : ℕ) (IsPacketOf : List E → SendingView → Type 0) (port : ℕ) → ((part : List E) (s : SendingView) → IsPacketOf part s → s.port ≡ port)
    → (entries : List E) (sent : List SendingView) → AreCutOf most IsPacketOf entries sent → ByPort port sent
cut_by_port most IsPacketOf port by entries [] cut = tt
cut_by_port most IsPacketOf port by entries (s ∷ later) cut =
    (by (take most entries) s cut.1, cut_by_port most IsPacketOf port by (drop most entries) later cut.2)

all_leave : (port : ℕ) (sent : List SendingView) → ByPort port sent → leaving_by port sent ≡ sent
all_leave port [] by = refl
all_leave port (s ∷ later) by =
    ap (λ b. cond b (s ∷ leaving_by port later) (leaving_by port later)) (eq-eqb s.port port by.0) ∙ ap (λ t. s ∷ t) (all_leave port later by.1)

none_leave : (other port : ℕ) → other ≢ port → (sent : List SendingView) → ByPort other sent → leaving_by port sent ≡ []
none_leave other port apart [] by = refl
none_leave other port apart (s ∷ later) by = elim (bool_cases (s.port == port)) [
  | inl same ↦ absurd (apart (sym by.0 ∙ eqb-true s.port port same))
  | inr differs ↦ ap (λ b. cond b (s ∷ leaving_by port later) (leaving_by port later)) differs ∙ none_leave other port apart later by.1
]

nothing_there : (far : Port) → None ≡ Some far → ⊥
nothing_there far e = cc

no_further : (number port : ℕ) → port ≡ number + 0 → number ≡ port
no_further number port e = omega (arith, e)

further : (number k port : ℕ) → port ≡ number + suc k → number ≢ port
further number k port e f = omega (arith, e, f)

one_on : (number k port : ℕ) → port ≡ number + suc k → port ≡ number + 1 + k
one_on number k port e = omega (arith, e)

module _ (ports : List Port) (routes : Routes) (services : Services) (now : ℕ) where
  told_by_port : (at : PortNow) (sent : List SendingView) → AreAdvertised ports routes services at sent → ByPort at.number sent
  told_by_port at sent t =
      subst (ByPort at.number) (sym t.are)
      (by_port_both at.number t.route_packets t.service_packets
      (cut_by_port 50 (λ part. IsRipPacket (all_nodes at.number at.port rip_socket) (rip.Response part)) at.number (λ part s is. let own : IsRipPacket (all_nodes at.number at.port rip_socket) (rip.Response part) s = is in own.port) t.advertised_routes t.route_packets t.in_route_packets)
      (cut_by_port 7 (λ part. IsSapPacket (all_nodes at.number at.port sap_socket) (sap.Response false part)) at.number (λ part s is. let own : IsSapPacket (all_nodes at.number at.port sap_socket) (sap.Response false part) s = is in own.port) t.advertised_services t.service_packets t.in_service_packets))

  -- what is advertised on later ports does not leave by an earlier one
  none_later : (number port : ℕ) → port < number → (later : List Port) (sent : List SendingView) → AreAdvertisements ports routes services now number later sent → leaving_by port sent ≡ []
  none_later number port less [] sent t = ap (leaving_by port) t
  none_later number port less (near ∷ later) sent t =
      ap (leaving_by port) t.2 ∙ filter-append (λ s. s.port == port) t.0 t.1
      ∙ ap (λ xs. xs ++ leaving_by port t.1) (none_leave number port (λ e. omega (arith, e, less)) t.0 (told_by_port (record { number = number; port = near; now = now }) t.0 t.3))
      ∙ none_later (number + 1) port (omega (arith, less)) later t.1 t.4

  abbrev IsToldBy : ℕ → Port → List SendingView → Type 0
  IsToldBy number port = AreAdvertised ports routes services (record { number = number; port = port; now = now })

  -- what leaves by a first port is what is advertised on it
  told_first : (number : ℕ) (far : Port) (later : List Port) (sent first rest : List SendingView) → sent ≡ first ++ rest
      → IsToldBy number far first → AreAdvertisements ports routes services now (number + 1) later rest → IsToldBy number far (leaving_by number sent)
  told_first number far later sent first rest is one more =
      subst (IsToldBy number far)
      (sym (ap (leaving_by number) is ∙ filter-append (λ s. s.port == number) first rest
      ∙ ap (λ xs. xs ++ leaving_by number rest) (all_leave number first (told_by_port (record { number = number; port = far; now = now }) first one))
      ∙ ap (λ xs. first ++ xs) (none_later (number + 1) number (omega arith) later rest more)
      ∙ append-nil first)) one

  -- and what leaves by another leaves by one of the rest
  left_later : (number port : ℕ) (near : Port) (sent first rest : List SendingView) → sent ≡ first ++ rest → IsToldBy number near first → number ≢ port → leaving_by port sent ≡ leaving_by port rest
  left_later number port near sent first rest is one apart =
      ap (leaving_by port) is ∙ filter-append (λ s. s.port == port) first rest
      ∙ ap (λ xs. xs ++ leaving_by port rest) (none_leave number port apart first (told_by_port (record { number = number; port = near; now = now }) first one))

  told_here : (number port : ℕ) (near far : Port) (later : List Port) (sent first rest : List SendingView) → sent ≡ first ++ rest
      → IsToldBy number near first → AreAdvertisements ports routes services now (number + 1) later rest → number ≡ port → near ≡ far → IsToldBy port far (leaving_by port sent)
  told_here number port near far later sent first rest is one more same there =
      subst (λ n. IsToldBy n far (leaving_by n sent)) same
      (subst (λ z. IsToldBy number z (leaving_by number sent)) there (told_first number near later sent first rest is one more))

  told_there : (number port : ℕ) (near far : Port) (sent first rest : List SendingView) → sent ≡ first ++ rest → IsToldBy number near first → number ≢ port
      → IsToldBy port far (leaving_by port rest) → IsToldBy port far (leaving_by port sent)
  told_there number port near far sent first rest is one apart there =
      subst (IsToldBy port far) (sym (left_later number port near sent first rest is one apart)) there

  told_on : (later : List Port) (number k port : ℕ) → port ≡ number + k → (far : Port) (sent : List SendingView) → slice_get later k ≡ Some far
      → AreAdvertisements ports routes services now number later sent → IsToldBy port far (leaving_by port sent)
  told_on [] number k port e far sent there t = absurd (nothing_there far there)
  told_on (near ∷ later) number zero port e far sent there t =
      told_here number port near far later sent t.0 t.1 t.2 t.3 t.4 (no_further number port e) (some_same near far there)
  told_on (near ∷ later) number (suc k) port e far sent there t =
      told_there number port near far sent t.0 t.1 t.2 t.3 (λ f. further number k port e f) (told_on later (number + 1) k port (one_on number k port e) far t.1 there t.4)

-- ---- one packet is received

lists_same : (xs ys : List ℕ) → pointwise nat_eq xs ys ≡ true → xs ≡ ys
lists_same [] [] h = refl
lists_same [] (y ∷ ys) h = cc
lists_same (x ∷ xs) [] h = cc
lists_same (x ∷ xs) (y ∷ ys) h = elim (bool_cases (nat_eq x y)) [
  | inl one ↦
      let rest : pointwise nat_eq xs ys ≡ true = sym (ap (λ b. b && pointwise nat_eq xs ys) one) ∙ h in
      ap (λ z. z ∷ xs) (eqb-true x y one) ∙ ap (λ zs. y ∷ zs) (lists_same xs ys rest)
  | inr other ↦ let never : false ≡ true = sym (ap (λ b. b && pointwise nat_eq xs ys) other) ∙ h in cc
]

not_node : (a b : Node) → a ≢ b → is_node a b ≡ false
not_node a b apart = elim (bool_cases (is_node a b)) [
  | inl same ↦ absurd (apart (ap (λ (bytes : List ℕ). let n : Node = record { 0 = bytes } in n) (lists_same a.0 b.0 same)))
  | inr other ↦ other
]

-- what an option has if it is `None`
of_none : {F : Type 0} (P : Type 0) (Q : F → Type 0) (o : Option F) → o ≡ None → MatchOption o P Q → P
of_none P Q None e h = h
of_none P Q (Some f) e h = cc

-- ---- what a table says at a time is still so at that time

young_now : (now : ℕ) → is_young now now ≡ true
young_now now = lt-ltb (now - now) 180000 (omega arith)

still_twice : (now : ℕ) (o : Option Word) → still now (still now o) ≡ still now o
still_twice now None = refl
still_twice now (Some w) = elim (bool_cases (is_young now w.1)) [
  | inl young ↦ ap (still now) (still_is now w young)
  | inr old ↦
      let gone : still now (Some w) ≡ None = ap (λ b. cond b (Some w) None) old in
      ap (still now) gone ∙ sym gone
]

still_word : (now : ℕ) (m : RouteMetric) (h same dead : Bool) (o : Option Word) → still now o ≡ o → still now (one_word h same dead (m, now) o) ≡ one_word h same dead (m, now) o
still_word now m false same dead o is = is
still_word now m true false dead o is = is
still_word now m true true true o is = refl
still_word now m true true false o is = still_is now (m, now) (young_now now)

abbrev IsFresh : ℕ → Routes → Type 0
IsFresh now c = (x : Network × Source) → still now (c x) ≡ c x

fresh_after : (ports : List Port) (source : Source) (now : ℕ) (es : List RipEntry) (c : Routes) → IsFresh now c → IsFresh now (after_routes ports source now c es)
fresh_after ports source now [] c fresh = fresh
fresh_after ports source now (e ∷ es) c fresh =
    fresh_after ports source now es (after_route ports source now c e)
    (λ x. subst (λ o. still now o ≡ o) (sym (step_is ports source now x c e))
    (still_word now (route_metric e) (is_heard ports e) (is_same network_cmp (e.network, source) x) (route_dead (route_metric e)) (c x) (fresh x)))

fresh_by : (old new : RouterView) (port : ℕ) (bytes : List ℕ) (now : ℕ) (a : OutcomeView) → Receives old port bytes now a new → IsFresh now (routes_in new.routes)
fresh_by old new port bytes now a h x =
    let step = receiving old new port bytes now a h in
    subst (λ o. still now o ≡ o) (sym (step.leaves x))
    (fresh_after old.ports step.source now step.taken (after_age (routes_in old.routes) now) (λ y. still_twice now (routes_in old.routes y)) x)

fresh_all : (port now : ℕ) (ss : List SendingView) (old new : RouterView) → ReceivesInTurn port now old ss new → IsFresh now (routes_in old.routes) → IsFresh now (routes_in new.routes)
fresh_all port now [] old new is fresh = subst (λ (v : RouterView). IsFresh now (routes_in v.routes)) (sym is) fresh
fresh_all port now (s ∷ ss) old new h fresh = fresh_all port now ss h.1 new h.4 (fresh_by old h.1 port s.bytes now h.0 h.2)

fresh_some : (port now : ℕ) (ss : List SendingView) (old new : RouterView) → ReceivesInTurn port now old ss new → ss ≢ [] → IsFresh now (routes_in new.routes)
fresh_some port now [] old new is some = absurd (some refl)
fresh_some port now (s ∷ ss) old new h some = fresh_all port now ss h.1 new h.4 (fresh_by old h.1 port s.bytes now h.0 h.2)

-- ---- packets are received

in_two : (port now : ℕ) (xs ys : List SendingView) (old new : RouterView) → ReceivesInTurn port now old (xs ++ ys) new → (mid : RouterView) × ReceivesInTurn port now old xs mid × ReceivesInTurn port now mid ys new
in_two port now [] ys old new h = (old, refl, h)
in_two port now (s ∷ xs) ys old new h =
    let rest = in_two port now xs ys h.1 new h.4 in
    (rest.0, (h.0, h.1, h.2, h.3, rest.1), rest.2)

module _ (near far : Port) (one_network : far.network ≡ near.network) (two_nodes : far.node ≢ near.node) (q : ℕ) where
  on_network : (far.network.0 == near.network.0) ≡ true
  on_network = eq-eqb far.network.0 near.network.0 (ap (λ (n : Network). n.0) one_network)

  rip_is : class_of near (own_header (all_nodes q far rip_socket) rip_type rip_socket) ≡ classes.Rip
  rip_is = simp (on_network, not_node far.node near.node two_nodes, or-true) refl

  sap_is : class_of near (own_header (all_nodes q far sap_socket) packet_exchange_type sap_socket) ≡ classes.Sap
  sap_is = simp (on_network, not_node far.node near.node two_nodes, or-true) refl

  module _ (laws : LawsOfPackets) (p now : ℕ) where
    abbrev source : Source
    source = record { port = p; neighbour = far.node }

    abbrev at : PortNow
    at = record { number = p; port = near; now = now }

    abbrev packet_of : ℕ → ℕ → List ℕ → PacketView
    packet_of kind socket body = record { header = own_header (all_nodes q far socket) kind socket; body = body }

    by_class : (old : RouterView) (kind socket : ℕ) (body bytes : List ℕ) (a : OutcomeView) (new : RouterView) (k : PacketClass)
        → class_of near (own_header (all_nodes q far socket) kind socket) ≡ k → IsIpx (packet_of kind socket body) bytes []
        → IsPort old.ports p near → Receives old p bytes now a new → AnswersByClass (known_at old now) at (packet_of kind socket body) a (tables new) k
    by_class old kind socket body bytes a new k packet_class is at_near h =
        let d = packet_of kind socket body in
        let arrived : h.answers.0 ≡ near = some_same h.answers.0 near (sym h.answers.1.1 ∙ at_near.1) in
        let here : AnswersBytes (known_at old now) at bytes a (tables new) = subst (λ (port : Port). AnswersBytes (known_at old now) (record { number = p; port = port; now = now }) bytes a (tables new)) arrived h.answers.2 in
        let read = of_none (AnswersPacket (known_at old now) at bytes a (tables new)) (λ f. (a ≡ Dropped (Bad f)) × HoldsKnown (known_at old now) (tables new)) (ipx_fault bytes) (laws.no_ipx_fault d bytes [] is) here in
        let same : read.0 ≡ d = (laws.one_ipx read.0 d bytes read.1 [] read.2 is).0 in
        subst (λ c. AnswersByClass (known_at old now) at d a (tables new) c) packet_class
        (subst (λ (e : PacketView). AnswersByClass (known_at old now) at e a (tables new) (class_of near e.header)) same read.3)

    hears_part : (ports : List Port) (routes : Routes) (part : List RipEntry) (a : OutcomeView) (new : Table Network RouteMetric) → (a ≢ Dropped TableFull) → HearsRoutes ports routes source now part a new
        → (x : Network × Source) → routes_in new x ≡ after_routes ports source now routes part x
    hears_part ports routes part (Heard n) new room h x = h.1.holds x ∙ ap (λ es. after_routes ports source now routes es x) (take_all (length part) part (omega arith))
    hears_part ports routes part (Dropped reason) new room h x = absurd (room (ap Dropped h.0))
    hears_part ports routes part (Forward port next bytes) new room h x = absurd h
    hears_part ports routes part (Replies sent) new room h x = absurd h

    hears_rip : (old : RouterView) (part : List RipEntry) (s : SendingView) (a : OutcomeView) (new : RouterView) → IsRipPacket (all_nodes q far rip_socket) (rip.Response part) s
        → IsPort old.ports p near → (a ≢ Dropped TableFull) → Receives old p s.bytes now a new
        → (x : Network × Source) → routes_in new.routes x ≡ after_routes old.ports source now (after_age (routes_in old.routes) now) part x
    hears_rip old part s a new is at_near room h =
        let own : IsRipPacket (all_nodes q far rip_socket) (rip.Response part) s = is in
        let d = packet_of rip_type rip_socket own.body in
        let routes = after_age (routes_in old.routes) now in
        let answers : AnswersByClass (known_at old now) at d a (tables new) classes.Rip = by_class old rip_type rip_socket own.body s.bytes a new classes.Rip rip_is own.packet.packet at_near h in
        let read = of_none ((m : RipView) × (tail : List ℕ) × IsRip m own.body tail × AnswersRipMessage old.ports routes at d.header m a new.routes) (λ f. (a ≡ Dropped (BadControl f)) × HoldsRoutes new.routes routes) (rip_fault own.body) (laws.no_rip_fault (rip.Response part) own.body [] own.says) answers.0 in
        let same : read.0 ≡ rip.Response part = (laws.one_rip read.0 (rip.Response part) own.body read.1 [] read.2 own.says).0 in
        hears_part old.ports routes part a new.routes room (subst (λ m. AnswersRipMessage old.ports routes at d.header m a new.routes) same read.3)

    ages_sap : (old : RouterView) (part : List ServiceEntry) (s : SendingView) (a : OutcomeView) (new : RouterView) → IsSapPacket (all_nodes q far sap_socket) (sap.Response false part) s
        → IsPort old.ports p near → Receives old p s.bytes now a new
        → (x : Network × Source) → routes_in new.routes x ≡ after_age (routes_in old.routes) now x
    ages_sap old part s a new is at_near h =
        let own : IsSapPacket (all_nodes q far sap_socket) (sap.Response false part) s = is in
        let answers : AnswersByClass (known_at old now) at (packet_of packet_exchange_type sap_socket own.body) a (tables new) classes.Sap = by_class old packet_exchange_type sap_socket own.body s.bytes a new classes.Sap sap_is own.packet.packet at_near h in
        answers.1

    abbrev Receiving : RouterView → List SendingView → RouterView → Type 0
    Receiving = ReceivesInTurn p now

    -- what one router knows is what the other knew and these entries
    abbrev Learns : RouterView → List RipEntry → RouterView → Type 0
    Learns old entries new = (new.ports ≡ old.ports) × ((x : Network × Source) → after_age (routes_in new.routes) now x ≡ after_routes old.ports source now (after_age (routes_in old.routes) now) entries x)

    learns_by : (old new : RouterView) (entries : List RipEntry) → new.ports ≡ old.ports → IsFresh now (routes_in new.routes)
        → ((x : Network × Source) → routes_in new.routes x ≡ after_routes old.ports source now (after_age (routes_in old.routes) now) entries x) → Learns old entries new
    learns_by old new entries ports fresh is = (ports, λ x. fresh x ∙ is x)

    after_same : (ports : List Port) (es : List RipEntry) (c b : Routes) → ((x : Network × Source) → c x ≡ b x) → (x : Network × Source) → after_routes ports source now c es x ≡ after_routes ports source now b es x
    after_same ports es c b same x =
        let one : c ≡ b = λ i y. same y i in
        ap (λ (z : Routes). after_routes ports source now z es x) one

    learns_both : (old mid new : RouterView) (xs ys es : List RipEntry) → xs ++ ys ≡ es → Learns old xs mid → Learns mid ys new → Learns old es new
    learns_both old mid new xs ys es is one two = (
      two.0 ∙ one.0,
      λ x. two.1 x ∙ ap (λ ports. after_routes ports source now (after_age (routes_in mid.routes) now) ys x) one.0
          ∙ after_same old.ports ys (after_age (routes_in mid.routes) now) (after_routes old.ports source now (after_age (routes_in old.routes) now) xs) one.1 x
          ∙ sym (ap (λ (c : Routes). c x) (fold-append (after_route old.ports source now) (after_age (routes_in old.routes) now) xs ys))
          ∙ ap (λ zs. after_routes old.ports source now (after_age (routes_in old.routes) now) zs x) is,
    )

    learns_none : (old : RouterView) (es : List RipEntry) → es ≡ [] → (new : RouterView) → new ≡ old → Learns old es new
    learns_none old es none new is =
        subst (λ (v : RouterView). Learns old es v) (sym is)
        (refl, λ x. sym (ap (λ zs. after_routes old.ports source now (after_age (routes_in old.routes) now) zs x) none))

    learns_one : (old next : RouterView) (part : List RipEntry) (s : SendingView) (a : OutcomeView) → IsRipPacket (all_nodes q far rip_socket) (rip.Response part) s
        → IsPort old.ports p near → (a ≢ Dropped TableFull) → Receives old p s.bytes now a next → Learns old part next
    learns_one old next part s a is at_near room h = learns_by old next part h.rest.ports (fresh_by old next p s.bytes now a h) (hears_rip old part s a next is at_near room h)

    port_on : (old next : RouterView) → IsPort old.ports p near → next.ports ≡ old.ports → IsPort next.ports p near
    port_on old next at_near is = subst (λ ports. IsPort ports p near) (sym is) at_near

    learns_rip : (ss : List SendingView) (entries : List RipEntry) (old new : RouterView) → IsPort old.ports p near → AreRoutePackets (all_nodes q far rip_socket) entries ss → Receiving old ss new → Learns old entries new
    learns_rip [] entries old new at_near none is = learns_none old entries none new is
    learns_rip (s ∷ ss) entries old new at_near cut h =
        let one = learns_one old h.1 (take 50 entries) s h.0 cut.1 at_near h.3 h.2 in
        learns_both old h.1 new (take 50 entries) (drop 50 entries) entries (take-append-drop 50 entries) one
        (learns_rip ss (drop 50 entries) h.1 new (port_on old h.1 at_near one.0) cut.2 h.4)

    learns_sap : (ss : List SendingView) (services : List ServiceEntry) (old new : RouterView) → IsPort old.ports p near → AreServicePackets (all_nodes q far sap_socket) false services ss → Receiving old ss new → Learns old [] new
    learns_sap [] services old new at_near none is = learns_none old [] refl new is
    learns_sap (s ∷ ss) services old new at_near cut h =
        let one : Learns old [] h.1 = learns_by old h.1 [] h.2.rest.ports (fresh_by old h.1 p s.bytes now h.0 h.2) (ages_sap old (take 7 services) s h.0 h.1 cut.1 at_near h.2) in
        learns_both old h.1 new [] [] [] refl one
        (learns_sap ss (drop 7 services) h.1 new (port_on old h.1 at_near one.0) cut.2 h.4)

    learns_all : (xs ys : List SendingView) (entries : List RipEntry) (services : List ServiceEntry) (old new : RouterView) → IsPort old.ports p near → AreRoutePackets (all_nodes q far rip_socket) entries xs
        → AreServicePackets (all_nodes q far sap_socket) false services ys → Receiving old (xs ++ ys) new → Learns old entries new
    learns_all xs ys entries services old new at_near of_routes of_services h =
        let two = in_two p now xs ys old new h in
        let one = learns_rip xs entries old two.0 at_near of_routes two.1 in
        learns_both old two.0 new entries [] entries (append-nil entries) one (learns_sap ys services two.0 new (port_on old two.0 at_near one.0) of_services two.2)

none_first : (xs ys : List SendingView) → xs ++ ys ≡ [] → xs ≡ []
none_first [] ys e = refl
none_first (x ∷ xs) ys e = let l : length (x ∷ (xs ++ ys)) ≡ 0 = ap length e in absurd (omega (arith, l))

cut_of_none : (to : Recipient) (entries : List RipEntry) (ss : List SendingView) → ss ≡ [] → AreRoutePackets to entries ss → entries ≡ []
cut_of_none to entries ss none cut = subst (AreRoutePackets to entries) none cut

-- ---- what is known at a time is what is in the table and is young

best_of_aged : (c : Routes) (d : Network) (now : ℕ) (best : Source × RouteMetric) → IsBest route_before (after_age c now) d now best → IsBest route_before c d now best
best_of_aged c d now best is = record {
  moment = is.moment;
  stands = still_was now (c (d, best.0)) (best.1, is.moment) is.stands;
  counts = is.counts;
  least = λ s m t stands young. is.least s m t (ap (still now) stands ∙ still_is now (m, t) young) young;
}

best_when_aged : (c : Routes) (d : Network) (now : ℕ) (best : Source × RouteMetric) → IsBest route_before c d now best → IsBest route_before (after_age c now) d now best
best_when_aged c d now best is = record {
  moment = is.moment;
  stands = ap (still now) is.stands ∙ still_is now (best.1, is.moment) is.counts;
  counts = is.counts;
  least = λ s m t stands young. is.least s m t (still_was now (c (d, s)) (m, t) stands) young;
}

route_moved : (c b : Routes) (now : ℕ) (d : Network) (a : Route) → ((best : Source × RouteMetric) → IsBest route_before c d now best → IsBest route_before b d now best) → (o : Option ℕ) → By c now d a o → By b now d a o
route_moved c b now d a moved None h = (h.0, moved h.0 h.1, h.2)
route_moved c b now d a moved (Some place) h = h

told_moved : (ports : List Port) (c b : Routes) (at : PortNow) (e : RipEntry) → ((best : Source × RouteMetric) → IsBest route_before c e.network at.now best → IsBest route_before b e.network at.now best) → IsAdvertisedRoute ports c at e → IsAdvertisedRoute ports b at e
told_moved ports c b at e moved told = record {
  route = told.route;
  leads = route_moved c b at.now e.network told.route moved (direct_route ports e.network) told.leads;
  elsewhere = told.elsewhere;
  is = told.is;
}

of_true : (P Q : Type 0) (b : Bool) → b ≡ true → MatchBool b P Q → P
of_true P Q true e h = h
of_true P Q false e h = cc

pub heard : LawsOfPackets → AdvertisementsAreLearned
heard laws net s q r p meet teller old new now sent told theirs ours apart due tells received =
    let known = known_at teller now in
    let at : PortNow = record { number = q; port = meet.far; now = now } in
    let source : Source = record { port = p; neighbour = meet.far.node } in
    let tellings = (of_true (AreAdvertisements teller.ports known.routes known.services now 1 teller.ports sent × (told ≡ Some now)) ((sent ≡ []) × (told ≡ teller.advertised_at)) (is_due teller.advertised_at now) due tells).0 in
    let there : slice_get teller.ports (q - 1) ≡ Some meet.far = ap (λ ports. slice_get ports (q - 1)) theirs ∙ meet.at_far.1 in
    let t = told_on teller.ports known.routes known.services now teller.ports 1 (q - 1) q (omega (arith, meet.at_far.0)) meet.far sent there tellings in
    let at_near : IsPort old.ports p meet.near = subst (λ ports. IsPort ports p meet.near) (sym ours) meet.at_near in
    let packets = leaving_by q sent in
    let learns = learns_all meet.near meet.far meet.one_network apart q laws p now t.route_packets t.service_packets t.advertised_routes t.advertised_services old new at_near t.in_route_packets t.in_service_packets (subst (λ ss. ReceivesInTurn p now old ss new) t.are received) in (
      t.advertised_routes,
      record {
        none = λ none. (cut_of_none (all_nodes q meet.far rip_socket) t.advertised_routes t.route_packets (none_first t.route_packets t.service_packets (sym t.are ∙ none)) t.in_route_packets, subst (λ ss. ReceivesInTurn p now old ss new) none received);
        some = λ some x. sym (fresh_some p now packets old new received some x) ∙ learns.1 x;
      },
      λ e. (
        λ there. subst (λ ports. IsAdvertisedRoute ports (routes_in teller.routes) at e) theirs (told_moved teller.ports known.routes (routes_in teller.routes) at e (λ best. best_of_aged (routes_in teller.routes) e.network now best) ((t.of_routes.stands e).0 there)),
        λ told. (t.of_routes.stands e).1 (told_moved teller.ports (routes_in teller.routes) known.routes at e (λ best. best_when_aged (routes_in teller.routes) e.network now best) (subst (λ ports. IsAdvertisedRoute ports (routes_in teller.routes) at e) (sym theirs) told)),
      ),
    )
