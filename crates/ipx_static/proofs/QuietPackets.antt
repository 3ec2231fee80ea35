-- A packet that does not mention an offer leaves that offer, if it is young.
use Rattle.std.proofs.Common.{◌≡◌, ℕ, Bool, List, length, take, Option, Some, None, MatchOption, refl}
use Rattle.ipx_wire.specs.Ipx.{PacketView, IsIpx, ipx_fault}
use Rattle.ipx_control.specs.declared.rip.packet.RipEntry.{RipEntry}
use Rattle.ipx_control.specs.declared.sap.packet.ServiceEntry.{ServiceEntry}
use Rattle.ipx_control.specs.Rip.{RipView, IsRip, rip_fault}
use Rattle.ipx_control.specs.Rip as rip
use Rattle.ipx_control.specs.Sap.{SapView, IsSap, sap_fault}
use Rattle.ipx_control.specs.Sap as sap
use Rattle.ipx_tables.specs.Content.{after_age}
use Rattle.ipx_router.specs.declared.classify.PacketClass.{PacketClass}
use Rattle.ipx_router.specs.declared.classify.PacketClass.TheVariants as classes
use Rattle.ipx_router.specs.declared.port.Port.{Port}
use Rattle.ipx_router.specs.declared.port.PortNow.{PortNow}
use Rattle.ipx_router.specs.declared.reason.Reason.TheVariants.{Bad, BadControl}
use Rattle.ipx_router.specs.Answer.{AnswersBytes, AnswersByClass, AnswersPacket, AnswersRip, AnswersRipMessage, AnswersSap, AnswersSapMessage}
use Rattle.ipx_router.specs.Classify.{class_of}
use Rattle.ipx_router.specs.Hearing.{after_routes, after_services, source_of}
use Rattle.ipx_router.specs.Knowledge.{HoldsKnown, HoldsRoutes, HoldsServices, known_at, routes_in, services_in, tables}
use Rattle.ipx_router.specs.OutcomeView.{OutcomeView, Forward, Replies, Heard, Dropped}
use Rattle.ipx_router.specs.RouterView.{RouterView}

module _ (old new : RouterView) (port : ℕ) (bytes : List ℕ) (now : ℕ) (arrived : Port) (P : Type 0) where
  abbrev at : PortNow
  at = record { number = port; port = arrived; now = now }

  -- what is shown for each case of what bytes are
  abbrev Each : Type 0
  Each = (d : PacketView) (tail : List ℕ) → IsIpx d bytes tail → (a : OutcomeView) (k : PacketClass) → class_of arrived d.header ≡ k → AnswersByClass (known_at old now) at d a (tables new) k → P

  by_bytes : (HoldsKnown (known_at old now) (tables new) → P) → Each → (a : OutcomeView) → AnswersBytes (known_at old now) at bytes a (tables new) → P
  by_bytes none each a h = go (ipx_fault bytes) h
    where
      go : (o : Option _) → MatchOption o (AnswersPacket (known_at old now) at bytes a (tables new)) (λ f. (a ≡ Dropped (Bad f)) × HoldsKnown (known_at old now) (tables new)) → P
      go None h = each h.0 h.1 h.2 a (class_of arrived h.0.header) refl h.3
      go (Some f) h = none h.1

  module _ (none : HoldsRoutes new.routes (after_age (routes_in old.routes) now) → P)
      (some : (d : PacketView) (tail : List ℕ) → IsIpx d bytes tail → class_of arrived d.header ≡ classes.Rip → (entries : List RipEntry) (rest : List ℕ) → IsRip (rip.Response entries) d.body rest → (k : ℕ)
      → ((p : _) → routes_in new.routes p ≡ after_routes old.ports (source_of at d.header) now (after_age (routes_in old.routes) now) (take k entries) p) → P) where
    rip_message : (d : PacketView) (tail : List ℕ) → IsIpx d bytes tail → class_of arrived d.header ≡ classes.Rip → (a : OutcomeView) (m : RipView) (rest : List ℕ) → IsRip m d.body rest
        → AnswersRipMessage old.ports (after_age (routes_in old.routes) now) at d.header m a new.routes → P
    rip_message d tail ipx class a (rip.Request asked) rest is h = none h.3
    rip_message d tail ipx class (Heard n) (rip.Response entries) rest is h = some d tail ipx class entries rest is (length entries) h.1.holds
    rip_message d tail ipx class (Dropped reason) (rip.Response entries) rest is h = some d tail ipx class entries rest is h.1 h.2.holds
    rip_message d tail ipx class (Forward p n b) (rip.Response entries) rest is h = absurd h
    rip_message d tail ipx class (Replies sent) (rip.Response entries) rest is h = absurd h

    rip_body : (d : PacketView) (tail : List ℕ) → IsIpx d bytes tail → class_of arrived d.header ≡ classes.Rip → (a : OutcomeView) → AnswersRip old.ports (after_age (routes_in old.routes) now) at d a new.routes → P
    rip_body d tail ipx class a h = go (rip_fault d.body) h
      where
        go : (o : Option _) → MatchOption o ((m : RipView) × (rest : List ℕ) × IsRip m d.body rest × AnswersRipMessage old.ports (after_age (routes_in old.routes) now) at d.header m a new.routes) (λ f. (a ≡ Dropped (BadControl f)) × HoldsRoutes new.routes (after_age (routes_in old.routes) now)) → P
        go None h = rip_message d tail ipx class a h.0 h.1 h.2 h.3
        go (Some f) h = none h.1

    of_routes : Each
    of_routes d tail ipx a (classes.Dropped reason) class h = none h.1.routes
    of_routes d tail ipx a classes.Rip class h = rip_body d tail ipx class a h.0
    of_routes d tail ipx a classes.Sap class h = none h.1
    of_routes d tail ipx a classes.Forward class h = none h.1.routes

    pub routes_by : (a : OutcomeView) → AnswersBytes (known_at old now) at bytes a (tables new) → P
    routes_by a h = by_bytes (λ known. none known.routes) of_routes a h

  module _ (none : HoldsServices new.services (after_age (services_in old.services) now) → P)
      (some : (d : PacketView) (tail : List ℕ) → IsIpx d bytes tail → class_of arrived d.header ≡ classes.Sap → (nearest : Bool) (entries : List ServiceEntry) (rest : List ℕ) → IsSap (sap.Response nearest entries) d.body rest → (k : ℕ)
      → ((p : _) → services_in new.services p ≡ after_services (source_of at d.header) now (after_age (services_in old.services) now) (take k entries) p) → P) where
    sap_message : (d : PacketView) (tail : List ℕ) → IsIpx d bytes tail → class_of arrived d.header ≡ classes.Sap → (a : OutcomeView) (m : SapView) (rest : List ℕ) → IsSap m d.body rest
        → AnswersSapMessage (after_age (services_in old.services) now) at d.header m a new.services → P
    sap_message d tail ipx class a (sap.Query nearest kind) rest is h = none h.3
    sap_message d tail ipx class (Heard n) (sap.Response nearest entries) rest is h = some d tail ipx class nearest entries rest is (length entries) h.1.holds
    sap_message d tail ipx class (Dropped reason) (sap.Response nearest entries) rest is h = some d tail ipx class nearest entries rest is h.1 h.2.holds
    sap_message d tail ipx class (Forward p n b) (sap.Response nearest entries) rest is h = absurd h
    sap_message d tail ipx class (Replies sent) (sap.Response nearest entries) rest is h = absurd h

    sap_body : (d : PacketView) (tail : List ℕ) → IsIpx d bytes tail → class_of arrived d.header ≡ classes.Sap → (a : OutcomeView) → AnswersSap (after_age (services_in old.services) now) at d a new.services → P
    sap_body d tail ipx class a h = go (sap_fault d.body) h
      where
        go : (o : Option _) → MatchOption o ((m : SapView) × (rest : List ℕ) × IsSap m d.body rest × AnswersSapMessage (after_age (services_in old.services) now) at d.header m a new.services) (λ f. (a ≡ Dropped (BadControl f)) × HoldsServices new.services (after_age (services_in old.services) now)) → P
        go None h = sap_message d tail ipx class a h.0 h.1 h.2 h.3
        go (Some f) h = none h.1

    of_services : Each
    of_services d tail ipx a (classes.Dropped reason) class h = none h.1.services
    of_services d tail ipx a classes.Rip class h = none h.1
    of_services d tail ipx a classes.Sap class h = sap_body d tail ipx class a h.0
    of_services d tail ipx a classes.Forward class h = none h.1.services

    pub services_by : (a : OutcomeView) → AnswersBytes (known_at old now) at bytes a (tables new) → P
    services_by a h = by_bytes (λ known. none known.services) of_services a h
