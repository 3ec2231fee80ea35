-- Receiving is a step.
use Rattle.std.proofs.Common.{◌≡◌, ℕ, List, [], length, take, Option, Some, None, MatchOption, refl, inl, inr}
use Rattle.ipx_wire.specs.Ipx.{PacketView, IsIpx, ipx_fault}
use Rattle.ipx_control.specs.Rip.{RipView, IsRip, rip_fault}
use Rattle.ipx_control.specs.Rip as rip
use Rattle.ipx_tables.specs.Content.{after_age}
use Rattle.ipx_router.specs.declared.classify.PacketClass.{PacketClass}
use Rattle.ipx_router.specs.declared.classify.PacketClass.TheVariants as classes
use Rattle.ipx_router.specs.declared.port.Port.{Port}
use Rattle.ipx_router.specs.declared.port.PortNow.{PortNow}
use Rattle.ipx_router.specs.declared.reason.Reason.TheVariants.{Bad, BadControl}
use Rattle.ipx_router.specs.Answer.{AnswersBytes, AnswersByClass, AnswersPacket, AnswersRip, AnswersRipMessage}
use Rattle.ipx_router.specs.Classify.{class_of}
use Rattle.ipx_router.specs.Hearing.{source_of}
use Rattle.ipx_router.specs.Knowledge.{HoldsKnown, HoldsRoutes, known_at, routes_in, tables}
use Rattle.ipx_router.specs.OutcomeView.{OutcomeView, Forward, Replies, Heard, Dropped}
use Rattle.ipx_router.specs.RouterView.{RouterView}
use Rattle.rip_convergence.specs.ReceiveSteps.{IsRunStep, ReceivingIsAStep}

module _ (old new : RouterView) (port : ℕ) (bytes : List ℕ) (now : ℕ) (arrived : Port) where
  abbrev at : PortNow
  at = record { number = port; port = arrived; now = now }

  nothing : HoldsRoutes new.routes (after_age (routes_in old.routes) now) → IsRunStep old port bytes now new
  nothing h = record { source = record { port = port; neighbour = arrived.node }; taken = []; leaves = h; are = inl refl }

  by_message : (d : PacketView) (tail : List ℕ) → IsIpx d bytes tail → (a : OutcomeView) (m : RipView) (rest : List ℕ) → IsRip m d.body rest
      → AnswersRipMessage old.ports (after_age (routes_in old.routes) now) at d.header m a new.routes → IsRunStep old port bytes now new
  by_message d tail ipx a (rip.Request asked) rest is h = nothing h.3
  by_message d tail ipx (Heard n) (rip.Response entries) rest is h = record {
    source = source_of at d.header;
    taken = take (length entries) entries;
    leaves = h.1.holds;
    are = inr (record { packet = d; padding = tail; is_packet = ipx; entries = entries; rest = rest; is_response = is; count = length entries; first = refl; came_by = refl });
  }
  by_message d tail ipx (Dropped reason) (rip.Response entries) rest is h = record {
    source = source_of at d.header;
    taken = take h.1 entries;
    leaves = h.2.holds;
    are = inr (record { packet = d; padding = tail; is_packet = ipx; entries = entries; rest = rest; is_response = is; count = h.1; first = refl; came_by = refl });
  }
  by_message d tail ipx (Forward p n b) (rip.Response entries) rest is h = absurd h
  by_message d tail ipx (Replies sent) (rip.Response entries) rest is h = absurd h

  by_rip : (d : PacketView) (tail : List ℕ) → IsIpx d bytes tail → (a : OutcomeView) → AnswersRip old.ports (after_age (routes_in old.routes) now) at d a new.routes → IsRunStep old port bytes now new
  by_rip d tail ipx a h = go (rip_fault d.body) h
    where
      go : (o : Option _) → MatchOption o ((m : RipView) × (rest : List ℕ) × IsRip m d.body rest × AnswersRipMessage old.ports (after_age (routes_in old.routes) now) at d.header m a new.routes) (λ f. (a ≡ Dropped (BadControl f)) × HoldsRoutes new.routes (after_age (routes_in old.routes) now)) → IsRunStep old port bytes now new
      go None h = by_message d tail ipx a h.0 h.1 h.2 h.3
      go (Some f) h = nothing h.1

  by_class : (d : PacketView) (tail : List ℕ) → IsIpx d bytes tail → (a : OutcomeView) (k : PacketClass) → AnswersByClass (known_at old now) at d a (tables new) k → IsRunStep old port bytes now new
  by_class d tail ipx a (classes.Dropped reason) h = nothing h.1.routes
  by_class d tail ipx a classes.Rip h = by_rip d tail ipx a h.0
  by_class d tail ipx a classes.Sap h = nothing h.1
  by_class d tail ipx a classes.Forward h = nothing h.1.routes

  by_bytes : (a : OutcomeView) → AnswersBytes (known_at old now) at bytes a (tables new) → IsRunStep old port bytes now new
  by_bytes a h = go (ipx_fault bytes) h
    where
      go : (o : Option _) → MatchOption o (AnswersPacket (known_at old now) at bytes a (tables new)) (λ f. (a ≡ Dropped (Bad f)) × HoldsKnown (known_at old now) (tables new)) → IsRunStep old port bytes now new
      go None h = by_class h.0 h.1 h.2 a (class_of arrived h.0.header) h.3
      go (Some f) h = nothing h.1.routes

pub receiving : ReceivingIsAStep
receiving old new port bytes now a h = by_bytes old new port bytes now h.answers.0 a h.answers.2
