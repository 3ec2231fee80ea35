-- What a host does between two turns, as calls.
use Rattle.std.proofs.Common.{◌≡◌, ◌≢◌, ◌<◌, ℕ, List, [], ◌∷◌, Option, Some, None, inl, inr, refl, ap, arith}
use Rattle.spx_link.specs.Offer.{refusal}
use Rattle.spx_link.specs.Limits.{end_stream}
use Rattle.spx_messages.specs.EndpointView.{EndpointView, Held, held_at}
use Rattle.ipx_host.specs.Feeding.{HandsIn as QueuesMessage, HandsOn, QueuesEnd}
use Rattle.ipx_host.specs.Sessions.{Asks, LetsLinkGo}
use Rattle.ipx_host.specs.declared.sessions.Session.{Session}
use Rattle.theory_processes.specs.HostCalls.{Closes, DoesHostCall, HandsIn, HandsInAt, Releases}
use Rattle.theory_processes.specs.Loops.{HostRuns}
use Rattle.theory_processes.specs.BetweenTurns.{DoesOrFails, hands_on, message_of}

low : 0 < end_stream
low = omega arith

queues : (old new : EndpointView) (id : ℕ) (bytes : List ℕ) → QueuesMessage old new id bytes → HandsInAt old id (message_of bytes) new
queues old new id bytes q = record {
  stream = low;
  short = q.short;
  queues = record { becomes = record { held = q.held; holds = q.before; changes = q.after }; live = ap refusal q.live };
}

pub hands : (old new : EndpointView) (id : ℕ) (bytes : List ℕ) → HandsOn old new id bytes → HostRuns (hands_on id bytes) old new
hands old new id [] h = h
hands old new id (b ∷ bs) h = (new, queues old new id (b ∷ bs) h, refl)

pub closes : (old new : EndpointView) (id : ℕ) → QueuesEnd old new id → DoesHostCall (Closes id) old new
closes old new id q = record { becomes = record { held = q.held; holds = q.before; changes = q.after }; live = ap refusal q.live }

pub probes : (now : ℕ) (old new : EndpointView) (c c' : Session) → Asks now old new c c' → DoesOrFails (HandsIn c.id (message_of [])) old new
probes now old new c c' a = elim a [
  | inl asked ↦ inl (record {
    stream = low;
    short = omega arith;
    queues = record { becomes = record { held = asked.0; holds = asked.1; changes = asked.3 }; live = ap refusal asked.2 };
  })
  | inr refused ↦ inr refused.0
]

some_there : (o : Option Held) → o ≢ None → (h : Held) × (o ≡ Some h)
some_there None there = absurd (there refl)
some_there (Some h) there = (h, refl)

pub releases : (old new : EndpointView) (id : ℕ) → LetsLinkGo old new id → DoesOrFails (Releases id) old new
releases old new id l = elim l.goes [
  | inl gone ↦ let there : (h : Held) × (held_at old id ≡ Some h) = some_there (held_at old id) gone.0 in inl (record { held = there.0; holds = there.1; releases = gone.1 })
  | inr none ↦ inr none.1
]
