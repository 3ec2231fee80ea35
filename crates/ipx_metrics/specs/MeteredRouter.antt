-- A router as a core that counts at each of its ports, and keeps what it dropped last. Defined by this
-- project.
use Rattle.std.specs.Prelude.{◌≡◌, ℕ, Bool, List, length, Option, Some, None}
use Rattle.ipx_router.specs.RouterView.{RouterView}
use Rattle.ipx_carrier.specs.PriorityRouterCore.{PriorityQueues, PriorityCoreView, PriorityHearOutOfMemory, PriorityGives, PriorityHears, PriorityNextOutOfMemory}
use Rattle.ipx_carrier.specs.Turns.{Given}
use Rattle.ipx_carrier.specs.declared.outcome_counters.OutcomeCounters.{OutcomeCounters}
use Rattle.ipx_metrics.specs.LastDrops.{AreNoted}
use Rattle.ipx_metrics.specs.PortCounts.{changed_at, with_heard_there, with_sent_there}
use Rattle.ipx_metrics.specs.declared.last_drops.LastDrops.{LastDrops}
use Rattle.ipx_metrics.specs.declared.port_counts.PortCounts.{PortCounts}

-- a router as a core, with its counts at each port and what it dropped last
pub record CountedView : Type 0 where
  pub router : RouterView
  pub queues : PriorityQueues
  pub started : Bool
  pub dropped : ℕ
  pub outcomes : OutcomeCounters
  pub port_counters : List PortCounts
  pub last : LastDrops

-- without these counts and drops
abbrev pub without_counts : CountedView → PriorityCoreView
without_counts c = record {
  router = c.router;
  queues = c.queues;
  started = c.started;
  dropped = c.dropped;
  outcomes = c.outcomes;
}

-- what the router counted is counted at that port, and at no other; if it dropped the bytes, they are what it
-- dropped last
pub record IsCountedHeard (old : CountedView) (port : ℕ) (bytes : List ℕ) (new : CountedView) : Type 0 where
  pub port_counters :
      new.port_counters ≡ changed_at old.port_counters port (with_heard_there old.outcomes new.outcomes (length bytes))
  pub last : AreNoted old.outcomes new.outcomes port bytes old.last new.last

-- it hears as the router does
abbrev pub CountsHeard : CountedView → ℕ → List ℕ → ℕ → CountedView → Type 0
CountsHeard old port bytes now new = PriorityHears (without_counts old) port bytes now (without_counts new)
    × IsCountedHeard old port bytes new

-- it runs out of memory as it hears; what came is counted
abbrev pub CountsMissed : CountedView → ℕ → List ℕ → ℕ → CountedView → Type 0
CountsMissed old port bytes now new = PriorityHearOutOfMemory (without_counts old) port bytes now (without_counts new)
    × IsCountedHeard old port bytes new

-- a packet that is given is counted at its port, and at no other
abbrev pub with_given : Option Given → List PortCounts → List PortCounts
with_given None ports = ports
with_given (Some g) ports = changed_at ports g.port (with_sent_there (length g.bytes))

-- it gives what the router gives
abbrev pub CountsAsItGives : CountedView → ℕ → Option Given → CountedView → Type 0
CountsAsItGives old now given new = PriorityGives (without_counts old) now given (without_counts new)
    × (new.port_counters ≡ with_given given old.port_counters) × (new.last ≡ old.last)

-- it runs out of memory as it is asked, and nothing is counted
abbrev pub CountsWithheld : CountedView → ℕ → CountedView → Type 0
CountsWithheld old now new = PriorityNextOutOfMemory (without_counts old) now (without_counts new)
    × (new.port_counters ≡ old.port_counters) × (new.last ≡ old.last)
