-- What a router answers to the bytes that come in on a port, and what it knows after that. The entry point is
-- `Receives`, at the end.
use Rattle.std.specs.Prelude.{◌≡◌, ℕ, List, length, MatchOption, count_by}
use Rattle.ipx_wire.specs.declared.address.Network.{Network}
use Rattle.ipx_wire.specs.declared.ipx.packet.IpxHeader.{IpxHeader}
use Rattle.ipx_wire.specs.Ipx.{PacketView, IsIpx, ipx_fault}
use Rattle.ipx_control.specs.declared.rip.packet.RipEntry.{RipEntry}
use Rattle.ipx_control.specs.declared.sap.packet.ServiceEntry.{ServiceEntry}
use Rattle.ipx_control.specs.Rip.{RipView, IsRip, rip_fault}
use Rattle.ipx_control.specs.Rip as rip
use Rattle.ipx_control.specs.Sap.{SapView, IsSap, sap_fault}
use Rattle.ipx_control.specs.Sap as sap
use Rattle.ipx_tables.specs.declared.route.RouteMetric.{RouteMetric}
use Rattle.ipx_tables.specs.declared.service.ServiceKey.{ServiceKey}
use Rattle.ipx_tables.specs.declared.service.ServiceMetric.{ServiceMetric}
use Rattle.ipx_tables.specs.declared.source.Source.{Source}
use Rattle.ipx_tables.specs.Content.{Table}
use Rattle.ipx_router.specs.declared.classify.PacketClass.{PacketClass}
use Rattle.ipx_router.specs.declared.classify.PacketClass.TheVariants as classes
use Rattle.ipx_router.specs.declared.port.Port.{Port}
use Rattle.ipx_router.specs.declared.port.PortNow.{PortNow}
use Rattle.ipx_router.specs.declared.reason.Reason.TheVariants.{Bad, BadControl, TableFull}
use Rattle.ipx_router.specs.RouterView.{RouterView}
use Rattle.ipx_router.specs.OutcomeView.{OutcomeView, Forward, Replies, Heard, Dropped}
use Rattle.ipx_router.specs.Knowledge.{AreTables, HoldsKnown, HoldsRoutes, HoldsServices, KeepsAllButOffers, Known, Routes, Services, Tables, known_at, tables}
use Rattle.ipx_router.specs.Ports.{IsPort}
use Rattle.ipx_router.specs.RouterPackets.{SendingView, recipient_at}
use Rattle.ipx_router.specs.Classify.{class_of}
use Rattle.ipx_router.specs.Forward.{Forwards}
use Rattle.ipx_router.specs.Replying.{RepliesRoutes, RepliesServices}
use Rattle.ipx_router.specs.Hearing.{AtEntry, HeardRoutes, HeardServices, IsFullForRoute, IsFullForService, is_heard, source_of}

-- all entries of a response were handled, or those before the first for which the table was full
abbrev pub HearsRoutes : List Port → Routes → Source → ℕ → List RipEntry → OutcomeView
    → Table Network RouteMetric → Type 0
HearsRoutes ports routes source now entries (Heard n) new = (n ≡ count_by (is_heard ports) entries)
    × HeardRoutes ports source now entries routes (length entries) new
HearsRoutes ports routes source now entries (Dropped reason) new = (reason ≡ TableFull)
    × (n : ℕ) × HeardRoutes ports source now entries routes n new
    × AtEntry entries n (IsFullForRoute ports source new)
HearsRoutes ports routes source now entries (Forward port next bytes) new = ⊥
HearsRoutes ports routes source now entries (Replies sent) new = ⊥

abbrev pub HearsServices : Services → Source → ℕ → List ServiceEntry → OutcomeView
    → Table ServiceKey ServiceMetric → Type 0
HearsServices services source now entries (Heard n) new = (n ≡ length entries)
    × HeardServices source now entries services (length entries) new
HearsServices services source now entries (Dropped reason) new = (reason ≡ TableFull)
    × (n : ℕ) × HeardServices source now entries services n new
    × AtEntry entries n (IsFullForService source new)
HearsServices services source now entries (Forward port next bytes) new = ⊥
HearsServices services source now entries (Replies sent) new = ⊥

abbrev pub AnswersRipMessage : List Port → Routes → PortNow → IpxHeader → RipView
    → OutcomeView → Table Network RouteMetric → Type 0
AnswersRipMessage ports routes at h (rip.Request asked) a new =
    (sent : List SendingView) × (a ≡ Replies sent)
    × RepliesRoutes ports routes at (recipient_at at h) asked sent × HoldsRoutes new routes
AnswersRipMessage ports routes at h (rip.Response entries) a new =
    HearsRoutes ports routes (source_of at h) at.now entries a new

abbrev pub AnswersSapMessage : Services → PortNow → IpxHeader → SapView → OutcomeView
    → Table ServiceKey ServiceMetric → Type 0
AnswersSapMessage services at h (sap.Query nearest kind) a new =
    (sent : List SendingView) × (a ≡ Replies sent)
    × RepliesServices services at (recipient_at at h) nearest kind sent × HoldsServices new services
AnswersSapMessage services at h (sap.Response nearest entries) a new =
    HearsServices services (source_of at h) at.now entries a new

-- a body that is no RIP packet is dropped
abbrev pub AnswersRip : List Port → Routes → PortNow → PacketView → OutcomeView
    → Table Network RouteMetric → Type 0
AnswersRip ports routes at d a new = MatchOption (rip_fault d.body)
    ((m : RipView) × (tail : List ℕ) × IsRip m d.body tail
    × AnswersRipMessage ports routes at d.header m a new)
    (λ f. (a ≡ Dropped (BadControl f)) × HoldsRoutes new routes)

abbrev pub AnswersSap : Services → PortNow → PacketView → OutcomeView
    → Table ServiceKey ServiceMetric → Type 0
AnswersSap services at d a new = MatchOption (sap_fault d.body)
    ((m : SapView) × (tail : List ℕ) × IsSap m d.body tail
    × AnswersSapMessage services at d.header m a new)
    (λ f. (a ≡ Dropped (BadControl f)) × HoldsServices new services)

-- by what the packet is to the router
abbrev pub AnswersByClass : Known → PortNow → PacketView → OutcomeView → Tables → PacketClass → Type 0
AnswersByClass k at d a new (classes.Dropped reason) = (a ≡ Dropped reason) × HoldsKnown k new
AnswersByClass k at d a new classes.Rip =
    AnswersRip k.ports k.routes at d a new.0 × HoldsServices new.1 k.services
AnswersByClass k at d a new classes.Sap =
    AnswersSap k.services at d a new.1 × HoldsRoutes new.0 k.routes
AnswersByClass k at d a new classes.Forward =
    Forwards k.ports k.routes at d a × HoldsKnown k new

abbrev pub AnswersPacket : Known → PortNow → List ℕ → OutcomeView → Tables → Type 0
AnswersPacket k at bytes a new = (d : PacketView) × (tail : List ℕ) × IsIpx d bytes tail
    × AnswersByClass k at d a new (class_of at.port d.header)

-- bytes that are no packet are dropped
abbrev pub AnswersBytes : Known → PortNow → List ℕ → OutcomeView → Tables → Type 0
AnswersBytes k at bytes a new = MatchOption (ipx_fault bytes)
    (AnswersPacket k at bytes a new)
    (λ f. (a ≡ Dropped (Bad f)) × HoldsKnown k new)

-- what a router answers to bytes that come in on its port of this number at a time, and the offers that it
-- holds after that
abbrev pub RouterAnswers : RouterView → ℕ → List ℕ → ℕ → OutcomeView → RouterView → Type 0
RouterAnswers old port bytes now a new = (arrived : Port) × IsPort old.ports port arrived
    × AnswersBytes (known_at old now) (record { number = port; port = arrived; now = now })
    bytes a (tables new)

-- what a router does with bytes that come in: its answer, and its new state. All bytes that the answer sends
-- are numbers under 256.
pub record Receives (old : RouterView) (port : ℕ) (bytes : List ℕ) (now : ℕ) (a : OutcomeView)
    (new : RouterView) : Type 0 where
  pub answers : RouterAnswers old port bytes now a new
  pub rest : KeepsAllButOffers old new
  pub told : new.advertised_at ≡ old.advertised_at
  pub valid : AreTables (tables new)
