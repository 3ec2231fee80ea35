-- Definitions for private functions: putting packets into one of two queues.
use Rattle.std.specs.Prelude.{◌≡◌, ℕ, List, length}
use Rattle.ipx_router.specs.declared.outcome.Reply.{Reply}
use Rattle.ipx_router.specs.RouterView.{RouterView}
use Rattle.ipx_router.specs.OutcomeView.{OutcomeView, Forward, Replies, Heard, Dropped}
use Rattle.ipx_router.specs.RouterPackets.{SendingView, sendings}
use Rattle.ipx_carrier.specs.PriorityRouterCore.{PriorityQueues, after_advertisement, dropped_by_advertisement}
use Rattle.ipx_carrier.specs.Queued.{Puts}
use Rattle.ipx_carrier.specs.RouterQueues.{AreGivable, TellsNow, one_forwarded}

-- the two queues of packets, apart from their places in memory
abbrev pub priority_queues : List Reply → List Reply → ℕ → PriorityQueues
priority_queues forwarded own originated_run =
    record { forwarded = sendings forwarded; own = sendings own; originated_run = originated_run }

-- a router's answer was put into its queue, and the other queue stays
abbrev pub PutsByPriority : OutcomeView → List SendingView → List SendingView → ℕ
    → List SendingView → List SendingView → ℕ → Type 0
PutsByPriority (Forward port next bytes) forwarded own dropped forwarded_after own_after dropped_after =
    Puts (one_forwarded port next bytes) forwarded dropped forwarded_after dropped_after
    × (own_after ≡ own)
PutsByPriority (Replies sent) forwarded own dropped forwarded_after own_after dropped_after =
    Puts sent own dropped own_after dropped_after × (forwarded_after ≡ forwarded)
PutsByPriority (Heard n) forwarded own dropped forwarded_after own_after dropped_after =
    (forwarded_after ≡ forwarded) × (own_after ≡ own) × (dropped_after ≡ dropped)
PutsByPriority (Dropped reason) forwarded own dropped forwarded_after own_after dropped_after =
    (forwarded_after ≡ forwarded) × (own_after ≡ own) × (dropped_after ≡ dropped)

-- an advertisement was put into the queue of the router's own packets
abbrev pub PutsToldPackets : List SendingView → List SendingView → ℕ → List SendingView → ℕ → Type 0
PutsToldPackets told own dropped own_after dropped_after = (own_after ≡ after_advertisement own told)
    × (dropped_after ≡ dropped_by_advertisement own told dropped)

-- what a router advertises now was put into that queue
abbrev pub PutsAdvertisement : RouterView → ℕ → RouterView → List SendingView → ℕ → List SendingView → ℕ → Type 0
PutsAdvertisement old now new own dropped own_after dropped_after = (told : List SendingView)
    × TellsNow old now told new × PutsToldPackets told own dropped own_after dropped_after
    × AreGivable (length old.ports) told
