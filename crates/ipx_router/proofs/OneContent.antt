-- What a router holds after its answer is determined.
use Rattle.std.proofs.Common.{◌≡◌, ℕ, List, inl, inr, sym, ◌∙◌, subst, arith}
use Rattle.std.proofs.lemmas.Bool.{cases_lt}
use Rattle.ipx_wire.specs.declared.address.Network.{Network}
use Rattle.ipx_wire.specs.declared.ipx.packet.IpxHeader.{IpxHeader}
use Rattle.ipx_wire.specs.Ipx.{PacketView, ipx_fault}
use Rattle.ipx_control.specs.declared.rip.packet.RipEntry.{RipEntry}
use Rattle.ipx_control.specs.declared.sap.packet.ServiceEntry.{ServiceEntry}
use Rattle.ipx_control.specs.Rip.{RipView, rip_fault}
use Rattle.ipx_control.specs.Rip as rip
use Rattle.ipx_control.specs.Sap.{SapView, sap_fault}
use Rattle.ipx_control.specs.Sap as sap
use Rattle.ipx_tables.specs.declared.route.RouteMetric.{RouteMetric}
use Rattle.ipx_tables.specs.declared.service.ServiceKey.{ServiceKey}
use Rattle.ipx_tables.specs.declared.service.ServiceMetric.{ServiceMetric}
use Rattle.ipx_tables.specs.declared.source.Source.{Source}
use Rattle.ipx_tables.specs.Content.{IsTable, Table}
use Rattle.ipx_tables.specs.Route.{network_cmp}
use Rattle.ipx_tables.specs.Service.{service_key_cmp}
use Rattle.ipx_router.specs.declared.classify.PacketClass.{PacketClass}
use Rattle.ipx_router.specs.declared.classify.PacketClass.TheVariants as classes
use Rattle.ipx_router.specs.declared.port.Port.{Port}
use Rattle.ipx_router.specs.declared.port.PortNow.{PortNow}
use Rattle.ipx_router.specs.declared.reason.Reason.TheVariants.{Bad, BadControl}
use Rattle.ipx_router.specs.RouterView.{RouterView}
use Rattle.ipx_router.specs.OutcomeView.{OutcomeView, Forward, Replies, Heard, Dropped}
use Rattle.ipx_router.specs.Knowledge.{HoldsKnown, HoldsRoutes, HoldsServices, Known, Routes, Services, Tables, known_at, routes_in, services_in, tables}
use Rattle.ipx_router.specs.Classify.{class_of}
use Rattle.ipx_router.specs.Hearing.{HeardRoutes, HeardServices, source_of}
use Rattle.ipx_router.specs.Answer.{AnswersByClass, AnswersBytes, AnswersPacket, AnswersRip, AnswersRipMessage, AnswersSap, AnswersSapMessage, HearsRoutes, HearsServices, Receives}
use Rattle.ipx_router.proofs.OneAnswer.{AreBoth, Facts, ReadsRip, ReadsSap, full_for_all, full_in_all, full_route, full_service, option_cases}

-- tables that hold the same routes, and the same services
abbrev SameRoutes : Table Network RouteMetric → Table Network RouteMetric → Type 0
SameRoutes new other = HoldsRoutes new (routes_in other)

abbrev SameServices : Table ServiceKey ServiceMetric → Table ServiceKey ServiceMetric → Type 0
SameServices new other = HoldsServices new (services_in other)

abbrev Same : Tables → Tables → Type 0
Same new other = SameRoutes new.0 other.0 × SameServices new.1 other.1

same_routes : (routes : Routes) (new other : Table Network RouteMetric) → HoldsRoutes new routes → HoldsRoutes other routes → SameRoutes new other
same_routes routes new other x y p = x p ∙ sym (y p)

same_services : (services : Services) (new other : Table ServiceKey ServiceMetric) → HoldsServices new services → HoldsServices other services → SameServices new other
same_services services new other x y p = x p ∙ sym (y p)

pub same_known : (k : Known) (new other : Tables) → HoldsKnown k new → HoldsKnown k other → Same new other
same_known k new other x y = (same_routes k.routes new.0 other.0 x.routes y.routes, same_services k.services new.1 other.1 x.services y.services)

module _ (f : Facts) (ports : List Port) (routes : Routes) (source : Source) (now : ℕ) (entries : List RipEntry) where
  heard_same_routes : (n m : ℕ) (new other : Table Network RouteMetric) → n ≡ m → HeardRoutes ports source now entries routes n new → HeardRoutes ports source now entries routes m other → SameRoutes new other
  heard_same_routes n m new other same x y p =
      let moved = subst (λ (k : ℕ). HeardRoutes ports source now entries routes k new) same x in
      moved.holds p ∙ sym (y.holds p)

  hears_same_routes : (a b : OutcomeView) (new other : Table Network RouteMetric) → HearsRoutes ports routes source now entries a new → HearsRoutes ports routes source now entries b other
      → IsTable network_cmp new → IsTable network_cmp other → new.capacity ≡ other.capacity → SameRoutes new other
  hears_same_routes (Heard n) (Heard m) new other x y valid_new valid_other room = λ p. x.1.holds p ∙ sym (y.1.holds p)
  hears_same_routes (Heard n) (Dropped r) new other x y valid_new valid_other room = absurd (full_in_all f ports routes source now entries y.1 other new y.2 y.3 valid_other x.1 (sym room))
  hears_same_routes (Heard n) (Forward p t s) new other x y valid_new valid_other room = absurd y
  hears_same_routes (Heard n) (Replies s) new other x y valid_new valid_other room = absurd y
  hears_same_routes (Dropped r) (Heard m) new other x y valid_new valid_other room = absurd (full_in_all f ports routes source now entries x.1 new other x.2 x.3 valid_new y.1 room)
  hears_same_routes (Dropped r) (Dropped s) new other x y valid_new valid_other room = elim (cases_lt x.1 y.1) [
    | inl before ↦ absurd (full_route f ports routes source now entries x.1 y.1 new other x.2 x.3 valid_new y.2 before room)
    | inr not_before ↦ elim (cases_lt y.1 x.1) [
      | inl behind ↦ absurd (full_route f ports routes source now entries y.1 x.1 other new y.2 y.3 valid_other x.2 behind (sym room))
      | inr not_behind ↦ heard_same_routes x.1 y.1 new other (omega arith) x.2 y.2
    ]
  ]
  hears_same_routes (Dropped r) (Forward p t s) new other x y valid_new valid_other room = absurd y
  hears_same_routes (Dropped r) (Replies s) new other x y valid_new valid_other room = absurd y
  hears_same_routes (Forward p t s) b new other x y valid_new valid_other room = absurd x
  hears_same_routes (Replies s) b new other x y valid_new valid_other room = absurd x

module _ (f : Facts) (services : Services) (source : Source) (now : ℕ) (entries : List ServiceEntry) where
  heard_same_services : (n m : ℕ) (new other : Table ServiceKey ServiceMetric) → n ≡ m → HeardServices source now entries services n new → HeardServices source now entries services m other → SameServices new other
  heard_same_services n m new other same x y p =
      let moved = subst (λ (k : ℕ). HeardServices source now entries services k new) same x in
      moved.holds p ∙ sym (y.holds p)

  hears_same_services : (a b : OutcomeView) (new other : Table ServiceKey ServiceMetric) → HearsServices services source now entries a new → HearsServices services source now entries b other
      → IsTable service_key_cmp new → IsTable service_key_cmp other → new.capacity ≡ other.capacity → SameServices new other
  hears_same_services (Heard n) (Heard m) new other x y valid_new valid_other room = λ p. x.1.holds p ∙ sym (y.1.holds p)
  hears_same_services (Heard n) (Dropped r) new other x y valid_new valid_other room = absurd (full_for_all f services source now entries y.1 other new y.2 y.3 valid_other x.1 (sym room))
  hears_same_services (Heard n) (Forward p t s) new other x y valid_new valid_other room = absurd y
  hears_same_services (Heard n) (Replies s) new other x y valid_new valid_other room = absurd y
  hears_same_services (Dropped r) (Heard m) new other x y valid_new valid_other room = absurd (full_for_all f services source now entries x.1 new other x.2 x.3 valid_new y.1 room)
  hears_same_services (Dropped r) (Dropped s) new other x y valid_new valid_other room = elim (cases_lt x.1 y.1) [
    | inl before ↦ absurd (full_service f services source now entries x.1 y.1 new other x.2 x.3 valid_new y.2 before room)
    | inr not_before ↦ elim (cases_lt y.1 x.1) [
      | inl behind ↦ absurd (full_service f services source now entries y.1 x.1 other new y.2 y.3 valid_other x.2 behind (sym room))
      | inr not_behind ↦ heard_same_services x.1 y.1 new other (omega arith) x.2 y.2
    ]
  ]
  hears_same_services (Dropped r) (Forward p t s) new other x y valid_new valid_other room = absurd y
  hears_same_services (Dropped r) (Replies s) new other x y valid_new valid_other room = absurd y
  hears_same_services (Forward p t s) b new other x y valid_new valid_other room = absurd x
  hears_same_services (Replies s) b new other x y valid_new valid_other room = absurd x

rip_message_same : Facts → (ports : List Port) (routes : Routes) (at : PortNow) (h : IpxHeader) (m : RipView) (a b : OutcomeView) (new other : Table Network RouteMetric)
    → AnswersRipMessage ports routes at h m a new → AnswersRipMessage ports routes at h m b other → IsTable network_cmp new → IsTable network_cmp other → new.capacity ≡ other.capacity → SameRoutes new other
rip_message_same f ports routes at h (rip.Request asked) a b new other x y valid_new valid_other room = same_routes routes new other x.3 y.3
rip_message_same f ports routes at h (rip.Response entries) a b new other x y valid_new valid_other room =
    hears_same_routes f ports routes (source_of at h) at.now entries a b new other x y valid_new valid_other room

sap_message_same : Facts → (services : Services) (at : PortNow) (h : IpxHeader) (m : SapView) (a b : OutcomeView) (new other : Table ServiceKey ServiceMetric)
    → AnswersSapMessage services at h m a new → AnswersSapMessage services at h m b other → IsTable service_key_cmp new → IsTable service_key_cmp other → new.capacity ≡ other.capacity → SameServices new other
sap_message_same f services at h (sap.Query nearest kind) a b new other x y valid_new valid_other room = same_services services new other x.3 y.3
sap_message_same f services at h (sap.Response nearest entries) a b new other x y valid_new valid_other room =
    hears_same_services f services (source_of at h) at.now entries a b new other x y valid_new valid_other room

rip_same : Facts → (ports : List Port) (routes : Routes) (at : PortNow) (d : PacketView) (a b : OutcomeView) (new other : Table Network RouteMetric)
    → AnswersRip ports routes at d a new → AnswersRip ports routes at d b other → IsTable network_cmp new → IsTable network_cmp other → new.capacity ≡ other.capacity → SameRoutes new other
rip_same f ports routes at d a b new other x y valid_new valid_other room =
    option_cases (rip_fault d.body) (ReadsRip ports routes at d a new) (ReadsRip ports routes at d b other)
    (λ e. (a ≡ Dropped (BadControl e)) × HoldsRoutes new routes) (λ e. (b ≡ Dropped (BadControl e)) × HoldsRoutes other routes) (SameRoutes new other)
    (λ p q.
    let same = (f.one_rip p.0 q.0 d.body p.1 q.1 p.2 q.2).0 in
    let moved = subst (λ (m : RipView). AnswersRipMessage ports routes at d.header m a new) same p.3 in
    rip_message_same f ports routes at d.header q.0 a b new other moved q.3 valid_new valid_other room)
    (λ e p q. same_routes routes new other p.1 q.1) x y

sap_same : Facts → (services : Services) (at : PortNow) (d : PacketView) (a b : OutcomeView) (new other : Table ServiceKey ServiceMetric)
    → AnswersSap services at d a new → AnswersSap services at d b other → IsTable service_key_cmp new → IsTable service_key_cmp other → new.capacity ≡ other.capacity → SameServices new other
sap_same f services at d a b new other x y valid_new valid_other room =
    option_cases (sap_fault d.body) (ReadsSap services at d a new) (ReadsSap services at d b other)
    (λ e. (a ≡ Dropped (BadControl e)) × HoldsServices new services) (λ e. (b ≡ Dropped (BadControl e)) × HoldsServices other services) (SameServices new other)
    (λ p q.
    let same = (f.one_sap p.0 q.0 d.body p.1 q.1 p.2 q.2).0 in
    let moved = subst (λ (m : SapView). AnswersSapMessage services at d.header m a new) same p.3 in
    sap_message_same f services at d.header q.0 a b new other moved q.3 valid_new valid_other room)
    (λ e p q. same_services services new other p.1 q.1) x y

class_same : Facts → (k : Known) (at : PortNow) (d : PacketView) (a b : OutcomeView) (new other : Tables) (packet_class : PacketClass) → AreBoth new other → AnswersByClass k at d a new packet_class → AnswersByClass k at d b other packet_class → Same new other
class_same f k at d a b new other (classes.Dropped reason) both x y = same_known k new other x.1 y.1
class_same f k at d a b new other classes.Rip both x y =
    (rip_same f k.ports k.routes at d a b new.0 other.0 x.0 y.0 both.valid_new.routes both.valid_other.routes (both.valid_new.most_routes ∙ sym both.valid_other.most_routes), same_services k.services new.1 other.1 x.1 y.1)
class_same f k at d a b new other classes.Sap both x y =
    (same_routes k.routes new.0 other.0 x.1 y.1, sap_same f k.services at d a b new.1 other.1 x.0 y.0 both.valid_new.services both.valid_other.services (both.valid_new.most_services ∙ sym both.valid_other.most_services))
class_same f k at d a b new other classes.Forward both x y = same_known k new other x.1 y.1

packet_same : Facts → (k : Known) (at : PortNow) (bytes : List ℕ) (a b : OutcomeView) (new other : Tables) → AreBoth new other → AnswersPacket k at bytes a new → AnswersPacket k at bytes b other → Same new other
packet_same f k at bytes a b new other both x y =
    let same = (f.one_ipx x.0 y.0 bytes x.1 y.1 x.2 y.2).0 in
    let moved = subst (λ (d : PacketView). AnswersByClass k at d a new (class_of at.port d.header)) same x.3 in
    class_same f k at y.0 a b new other (class_of at.port y.0.header) both moved y.3

datagram_same : Facts → (k : Known) (at : PortNow) (bytes : List ℕ) (a b : OutcomeView) (new other : Tables) → AreBoth new other → AnswersBytes k at bytes a new → AnswersBytes k at bytes b other → Same new other
datagram_same f k at bytes a b new other both x y =
    option_cases (ipx_fault bytes) (AnswersPacket k at bytes a new) (AnswersPacket k at bytes b other)
    (λ e. (a ≡ Dropped (Bad e)) × HoldsKnown k new) (λ e. (b ≡ Dropped (Bad e)) × HoldsKnown k other) (Same new other)
    (packet_same f k at bytes a b new other both) (λ e p q. same_known k new other p.1 q.1) x y

pub holds_same : Facts → (old new other : RouterView) (port : ℕ) (bytes : List ℕ) (now : ℕ) (a b : OutcomeView) → Receives old port bytes now a new → Receives old port bytes now b other
    → HoldsRoutes new.routes (routes_in other.routes) × HoldsServices new.services (services_in other.services)
holds_same f old new other port bytes now a b x y =
    let there = x.answers.1.1 in
    let also = y.answers.1.1 in
    let arrived : x.answers.0 ≡ y.answers.0 = cc in
    let moved = subst (λ (p : Port). AnswersBytes (known_at old now) (record { number = port; port = p; now = now }) bytes a (tables new)) arrived x.answers.2 in
    datagram_same f (known_at old now) (record { number = port; port = y.answers.0; now = now }) bytes a b (tables new) (tables other)
    (record { valid_new = x.valid; valid_other = y.valid }) moved y.answers.2
