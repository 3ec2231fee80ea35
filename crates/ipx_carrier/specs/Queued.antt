-- Definitions for private functions: putting packets into a queue.
use Rattle.std.specs.Prelude.{◌≡◌, ℕ, ◌+◌, Bool, List, ◌++◌, length, nat_le, MatchBool}
use Rattle.ipx_router.specs.OutcomeView.{OutcomeView, Forward, Replies, Heard, Dropped}
use Rattle.ipx_router.specs.RouterView.{RouterView}
use Rattle.ipx_router.specs.RouterPackets.{SendingView}
use Rattle.ipx_carrier.specs.Counting.{counted}
use Rattle.ipx_carrier.specs.RouterQueues.{AreFirst, AreGivable, TellsNow, max_queued, one_forwarded}

-- all packets go after those that waited; or none does, and they are counted
abbrev pub Puts : List SendingView → List SendingView → ℕ → List SendingView → ℕ → Type 0
Puts sent queue dropped queue_after dropped_after =
    MatchBool (nat_le (length queue + length sent) max_queued)
    ((queue_after ≡ queue ++ sent) × (dropped_after ≡ dropped))
    ((queue_after ≡ queue) × (dropped_after ≡ counted (dropped + length sent)))

-- a router's answer was put into the queue
abbrev pub PutsAnswer : OutcomeView → List SendingView → ℕ → List SendingView → ℕ → Type 0
PutsAnswer (Forward port next bytes) queue dropped queue_after dropped_after =
    Puts (one_forwarded port next bytes) queue dropped queue_after dropped_after
PutsAnswer (Replies sent) queue dropped queue_after dropped_after =
    Puts sent queue dropped queue_after dropped_after
PutsAnswer (Heard n) queue dropped queue_after dropped_after =
    (queue_after ≡ queue) × (dropped_after ≡ dropped)
PutsAnswer (Dropped reason) queue dropped queue_after dropped_after =
    (queue_after ≡ queue) × (dropped_after ≡ dropped)

-- the packets of a router's start were put into the queue, unless they were before
abbrev pub PutsStart : RouterView → Bool → List SendingView → ℕ → List SendingView → ℕ → Type 0
PutsStart router started queue dropped queue_after dropped_after = (sent : List SendingView)
    × AreFirst started router sent
    × Puts sent queue dropped queue_after dropped_after
    × AreGivable (length router.ports) sent

-- a router's advertisements were put into the queue
abbrev pub PutsAdvertised : RouterView → ℕ → RouterView → List SendingView → ℕ → List SendingView → ℕ
    → Type 0
PutsAdvertised old now new queue dropped queue_after dropped_after = (sent : List SendingView)
    × TellsNow old now sent new × Puts sent queue dropped queue_after dropped_after
    × AreGivable (length old.ports) sent
