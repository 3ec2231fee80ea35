-- A static advertisement changes what a router has learned, and makes it send nothing.
use Rattle.std.proofs.Common.{◌≡◌, ℕ, Bool, true, false, cond, List, [], ◌∷◌, ◌++◌, take, drop, sym, inl, inr, subst}
use Rattle.std.specs.Prelude.{MatchOption}
use Rattle.ipx_wire.specs.declared.address.Network.{Network}
use Rattle.ipx_wire.specs.declared.address.Node.{Node}
use Rattle.ipx_wire.specs.Assigned.{packet_exchange_type, rip_socket, rip_type, sap_socket}
use Rattle.ipx_wire.specs.Ipx.{IsIpx, PacketView, ipx_fault}
use Rattle.ipx_control.specs.declared.rip.packet.RipEntry.{RipEntry}
use Rattle.ipx_control.specs.declared.sap.packet.ServiceEntry.{ServiceEntry}
use Rattle.ipx_control.specs.Rip.{IsRip, RipView, rip_fault}
use Rattle.ipx_control.specs.Rip as rip
use Rattle.ipx_control.specs.Sap.{IsSap, SapView, sap_fault}
use Rattle.ipx_control.specs.Sap as sap
use Rattle.ipx_tables.specs.declared.route.RouteMetric.{RouteMetric}
use Rattle.ipx_tables.specs.declared.service.ServiceKey.{ServiceKey}
use Rattle.ipx_tables.specs.declared.service.ServiceMetric.{ServiceMetric}
use Rattle.ipx_tables.specs.declared.source.Source.{Source}
use Rattle.ipx_tables.specs.Content.{Table}
use Rattle.ipx_router.specs.declared.classify.PacketClass.TheVariants as classes
use Rattle.ipx_router.specs.declared.port.Port.{Port}
use Rattle.ipx_router.specs.declared.port.PortNow.{PortNow}
use Rattle.ipx_router.specs.declared.reason.Reason.{Reason}
use Rattle.ipx_router.specs.declared.reason.Reason.TheVariants.{Bad, BadControl, NotOurs}
use Rattle.ipx_router.specs.Answer.{AnswersByClass, AnswersPacket, AnswersRip, AnswersRipMessage, AnswersSap, AnswersSapMessage, HearsRoutes, HearsServices, Receives}
use Rattle.ipx_router.specs.Classify.{class_of, is_from_neighbour}
use Rattle.ipx_router.specs.Knowledge.{HoldsKnown, HoldsRoutes, HoldsServices, Known, Routes, Services, Tables, known_at, tables}
use Rattle.ipx_router.specs.OutcomeView.{Dropped, Forward, Heard, OutcomeView, Replies}
use Rattle.ipx_router.specs.RouterPackets.{AreCutOf, IsRipPacket, IsSapPacket, SendingView, own_header}
use Rattle.ipx_router.specs.RouterView.{RouterView}
use Rattle.ipx_static.specs.declared.neighbour.StaticNeighbour.{StaticNeighbour}
use Rattle.theory_processes.specs.Lives.{SendsNone}
use Rattle.ipx_static.specs.StaticAdvertisements.{AreAdvertisementsOf, AreStaticAdvertisements, heard_on}
use Rattle.theory_processes.proofs.Sending.{match_option}

abbrev pub OneIpx : Type 0
OneIpx = (p q : PacketView) (bytes s t : List ℕ) → IsIpx p bytes s → IsIpx q bytes t → (p ≡ q) × (s ≡ t)

abbrev pub OneRip : Type 0
OneRip = (m n : RipView) (bytes s t : List ℕ) → IsRip m bytes s → IsRip n bytes t → (m ≡ n) × (s ≡ t)

abbrev pub OneSap : Type 0
OneSap = (m n : SapView) (bytes s t : List ℕ) → IsSap m bytes s → IsSap n bytes t → (m ≡ n) × (s ≡ t)

-- this packet gets no other, at whatever port and time it is received
abbrev pub IsQuiet : SendingView → Type 0
IsQuiet s = (old new : RouterView) (number now : ℕ) (a : OutcomeView) → Receives old number s.bytes now a new → SendsNone a

abbrev pub AllQuiet : List SendingView → Type 0
AllQuiet [] = Unit {0}
AllQuiet (s ∷ ss) = IsQuiet s × AllQuiet ss

quiet_more : (xs ys : List SendingView) → AllQuiet xs → AllQuiet ys → AllQuiet (xs ++ ys)
quiet_more [] ys one two = two
quiet_more (x ∷ xs) ys one two = (one.0, quiet_more xs ys one.1 two)

dropped : (a : OutcomeView) (reason : Reason) → a ≡ Dropped reason → SendsNone a
dropped a reason is = subst SendsNone (sym is) tt

routes_none : (ports : List Port) (routes : Routes) (source : Source) (now : ℕ) (entries : List RipEntry) (a : OutcomeView) (new : Table Network RouteMetric) → HearsRoutes ports routes source now entries a new → SendsNone a
routes_none ports routes source now entries (Forward port next out) new h = absurd h
routes_none ports routes source now entries (Replies sent) new h = absurd h
routes_none ports routes source now entries (Heard n) new h = tt
routes_none ports routes source now entries (Dropped reason) new h = tt

services_none : (services : Services) (source : Source) (now : ℕ) (entries : List ServiceEntry) (a : OutcomeView) (new : Table ServiceKey ServiceMetric) → HearsServices services source now entries a new → SendsNone a
services_none services source now entries (Forward port next out) new h = absurd h
services_none services source now entries (Replies sent) new h = absurd h
services_none services source now entries (Heard n) new h = tt
services_none services source now entries (Dropped reason) new h = tt

module _ (one_ipx : OneIpx) (one_rip : OneRip) (one_sap : OneSap) where
  module _ (k : Known) (at : PortNow) (d : PacketView) (a : OutcomeView) (new : Tables) where
    rip_answer : (part : List RipEntry) → IsRip (rip.Response part) d.body [] → AnswersRip k.ports k.routes at d a new.0 → SendsNone a
    rip_answer part says r = elim (match_option ((m : RipView) × (tail : List ℕ) × IsRip m d.body tail × AnswersRipMessage k.ports k.routes at d.header m a new.0) (λ f. (a ≡ Dropped (BadControl f)) × HoldsRoutes new.0 k.routes) (rip_fault d.body) r) [
      | inl message ↦
          let same : message.0 ≡ rip.Response part = (one_rip message.0 (rip.Response part) d.body message.1 [] message.2 says).0 in
          routes_none k.ports k.routes _ _ part a new.0 (subst (λ m. AnswersRipMessage k.ports k.routes at d.header m a new.0) same message.3)
      | inr fault ↦ dropped a (BadControl fault.0) fault.1.0
    ]

    sap_answer : (part : List ServiceEntry) → IsSap (sap.Response false part) d.body [] → AnswersSap k.services at d a new.1 → SendsNone a
    sap_answer part says r = elim (match_option ((m : SapView) × (tail : List ℕ) × IsSap m d.body tail × AnswersSapMessage k.services at d.header m a new.1) (λ f. (a ≡ Dropped (BadControl f)) × HoldsServices new.1 k.services) (sap_fault d.body) r) [
      | inl message ↦
          let same : message.0 ≡ sap.Response false part = (one_sap message.0 (sap.Response false part) d.body message.1 [] message.2 says).0 in
          services_none k.services _ _ part a new.1 (subst (λ m. AnswersSapMessage k.services at d.header m a new.1) same message.3)
      | inr fault ↦ dropped a (BadControl fault.0) fault.1.0
    ]

    rip_class : (part : List RipEntry) → IsRip (rip.Response part) d.body [] → (b : Bool) → AnswersByClass k at d a new (cond b classes.Rip (classes.Dropped NotOurs)) → SendsNone a
    rip_class part says true r = rip_answer part says r.0
    rip_class part says false r = dropped a NotOurs r.0

    sap_class : (part : List ServiceEntry) → IsSap (sap.Response false part) d.body [] → (b : Bool) → AnswersByClass k at d a new (cond b classes.Sap (classes.Dropped NotOurs)) → SendsNone a
    sap_class part says true r = sap_answer part says r.0
    sap_class part says false r = dropped a NotOurs r.0

  -- bytes that are one packet are answered as that packet
  known : (k : Known) (at : PortNow) (bytes : List ℕ) (a : OutcomeView) (new : Tables) (d : PacketView) → IsIpx d bytes []
      → (AnswersByClass k at d a new (class_of at.port d.header) → SendsNone a)
      → MatchOption (ipx_fault bytes) (AnswersPacket k at bytes a new) (λ f. (a ≡ Dropped (Bad f)) × HoldsKnown k new) → SendsNone a
  known k at bytes a new d is none r = elim (match_option (AnswersPacket k at bytes a new) (λ f. (a ≡ Dropped (Bad f)) × HoldsKnown k new) (ipx_fault bytes) r) [
    | inl packet ↦
        let same : packet.0 ≡ d = (one_ipx packet.0 d bytes packet.1 [] packet.2 is).0 in
        none (subst (λ (e : PacketView). AnswersByClass k at e a new (class_of at.port e.header)) same packet.3)
    | inr fault ↦ dropped a (Bad fault.0) fault.1.0
  ]

  rip_quiet : (number : ℕ) (node : Node) (part : List RipEntry) (s : SendingView) → IsRipPacket (heard_on number node rip_socket) (rip.Response part) s → IsQuiet s
  rip_quiet number node part s own old new port now a r =
      let at : PortNow = record { number = port; port = r.answers.0; now = now } in
      let d : PacketView = record { header = own_header (heard_on number node rip_socket) rip_type rip_socket; body = own.body } in
      known (known_at old now) at s.bytes a (tables new) d own.packet.packet
      (λ c. rip_class (known_at old now) at d a (tables new) part own.says (is_from_neighbour at.port d.header) c) r.answers.2

  sap_quiet : (number : ℕ) (node : Node) (part : List ServiceEntry) (s : SendingView) → IsSapPacket (heard_on number node sap_socket) (sap.Response false part) s → IsQuiet s
  sap_quiet number node part s own old new port now a r =
      let at : PortNow = record { number = port; port = r.answers.0; now = now } in
      let d : PacketView = record { header = own_header (heard_on number node sap_socket) packet_exchange_type sap_socket; body = own.body } in
      known (known_at old now) at s.bytes a (tables new) d own.packet.packet
      (λ c. sap_class (known_at old now) at d a (tables new) part own.says (is_from_neighbour at.port d.header) c) r.answers.2

  cut_quiet : {E : Type 0} (most : ℕ) (P : List E → SendingView → Type 0) → ((part : List E) (s : SendingView) → P part s → IsQuiet s) → (entries : List E) (sent : List SendingView) → AreCutOf most P entries sent → AllQuiet sent
  cut_quiet most P each entries [] are = tt
  cut_quiet most P each entries (s ∷ ss) are = (each (take most entries) s are.1, cut_quiet most P each (drop most entries) ss are.2)

  neighbour_quiet : (n : StaticNeighbour) (sent : List SendingView) → AreAdvertisementsOf n sent → AllQuiet sent
  neighbour_quiet n sent are =
      subst AllQuiet (sym are.2) (quiet_more are.0 are.1
      (cut_quiet 50 (λ part. IsRipPacket (heard_on n.port n.node rip_socket) (rip.Response part)) (λ part s is. rip_quiet n.port n.node part s is) n.routes.items are.0 are.3)
      (cut_quiet 7 (λ part. IsSapPacket (heard_on n.port n.node sap_socket) (sap.Response false part)) (λ part s is. sap_quiet n.port n.node part s is) n.services.items are.1 are.4))

  pub statics_quiet : (ns : List StaticNeighbour) (sent : List SendingView) → AreStaticAdvertisements ns sent → AllQuiet sent
  statics_quiet [] sent are = subst AllQuiet (sym are) tt
  statics_quiet (n ∷ ns) sent are = subst AllQuiet (sym are.2) (quiet_more are.0 are.1 (neighbour_quiet n are.0 are.3) (statics_quiet ns are.1 are.4))
