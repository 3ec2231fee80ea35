-- A router as a core that gives forwarded packets before its own. Each of the two has a queue of at most
-- 16,384. Which packets leave is defined by this project. The entry points are `PriorityHears` and
-- `PriorityGives`, and `PriorityHearOutOfMemory` and `PriorityNextOutOfMemory` for out of memory.
use Rattle.std.specs.Prelude.{◌≡◌, ◌<◌, ◌≤◌, ◌⊎◌, ℕ, ◌+◌, ◌-◌, Bool, true, false, List, [], ◌∷◌, ◌++◌, length, map, nat_le, nat_lt, take, drop, Option, Some, None, option_map, if◌then◌else◌}
use Rattle.ipx_router.specs.RouterView.{RouterView}
use Rattle.ipx_router.specs.RouterPackets.{SendingView}
use Rattle.ipx_router.specs.OutcomeView.{OutcomeView, Forward, Replies, Heard, Dropped}
use Rattle.ipx_router.specs.Answer.{Receives}
use Rattle.ipx_router.specs.Knowledge.{HoldsKnown, KeepsAllButOffers, known_in, tables}
use Rattle.ipx_carrier.specs.declared.outcome_counters.OutcomeCounters.{OutcomeCounters}
use Rattle.ipx_carrier.specs.Counting.{counted}
use Rattle.ipx_carrier.specs.OutcomeCounters.{outcome_counted}
use Rattle.ipx_carrier.specs.RouterQueues.{AreFirst, IsNotAdvertised, IsSpaceFor, ReceivesInVain, TellsNow, dropped_if_full, given_of, max_queued, one_forwarded, put_after}
use Rattle.ipx_carrier.specs.Turns.{Given, GivesEach}

-- the packets to send, in order
pub record PriorityQueues : Type 0 where
  -- forwarded packets
  pub forwarded : List SendingView
  -- the router's own packets: answers, packets of its start, and advertisements
  pub own : List SendingView
  -- how many of its own were given in a row
  pub originated_run : ℕ

abbrev pub nothing_waits : PriorityQueues
nothing_waits = record { forwarded = []; own = []; originated_run = 0 }

pub record PriorityCoreView : Type 0 where
  pub router : RouterView
  pub queues : PriorityQueues
  -- whether the router was asked for the packets of its start
  pub started : Bool
  -- how many packets were dropped because their queue was full
  pub dropped : ℕ
  -- what became of the datagrams received
  pub outcomes : OutcomeCounters

-- how many of its own leave in a row at most
abbrev pub max_originated_run : ℕ
max_originated_run = 8

-- if more of its own wait than this, fewer leave in a row after a forwarded packet
abbrev pub few_waiting : ℕ
few_waiting = 64

-- how many then leave in a row
abbrev pub least_in_a_row : ℕ
least_in_a_row = 2

-- packets go into the queue of forwarded packets, or into that of the router's own; if they don't fit they
-- are all dropped and counted
abbrev pub put_forwarded : List SendingView → PriorityCoreView → PriorityCoreView
put_forwarded sent core = record core {
  queues = record core.queues { forwarded = put_after core.queues.forwarded sent };
  dropped = dropped_if_full core.queues.forwarded sent core.dropped;
}

abbrev pub put_own : List SendingView → PriorityCoreView → PriorityCoreView
put_own sent core = record core {
  queues = record core.queues { own = put_after core.queues.own sent };
  dropped = dropped_if_full core.queues.own sent core.dropped;
}

-- what waits after an advertisement: it goes after the packets that waited. If there is no room for all of them,
-- it takes the place of those that waited. One that has no room even alone is dropped itself
abbrev pub after_advertisement : List SendingView → List SendingView → List SendingView
after_advertisement queue [] = queue
after_advertisement queue (s ∷ told) =
    if nat_le (length queue + length (s ∷ told)) max_queued then queue ++ s ∷ told
    else if nat_le (length (s ∷ told)) max_queued then s ∷ told
    else queue

-- the packets that are dropped then are counted
abbrev pub dropped_by_advertisement : List SendingView → List SendingView → ℕ → ℕ
dropped_by_advertisement queue [] dropped = dropped
dropped_by_advertisement queue (s ∷ told) dropped =
    if nat_le (length queue + length (s ∷ told)) max_queued then dropped
    else if nat_le (length (s ∷ told)) max_queued then counted (dropped + length queue)
    else counted (dropped + length (s ∷ told))

-- the packets of an advertisement go into the queue of the router's own
abbrev pub put_advertisement : List SendingView → PriorityCoreView → PriorityCoreView
put_advertisement told core = record core {
  queues = record core.queues { own = after_advertisement core.queues.own told };
  dropped = dropped_by_advertisement core.queues.own told core.dropped;
}

-- the packets of a router's answer go into their queue
abbrev pub put_by_priority : OutcomeView → PriorityCoreView → PriorityCoreView
put_by_priority (Forward port next bytes) core = put_forwarded (one_forwarded port next bytes) core
put_by_priority (Replies sent) core = put_own sent core
put_by_priority (Heard n) core = core
put_by_priority (Dropped reason) core = core

-- the router's port numbers are one more than the device's
abbrev pub PriorityHears : PriorityCoreView → ℕ → List ℕ → ℕ → PriorityCoreView → Type 0
PriorityHears old port bytes now new = (a : OutcomeView) × (router : RouterView)
    × Receives old.router (port + 1) bytes now a router
    × (new ≡ put_by_priority a (record old { router = router; outcomes = outcome_counted a old.outcomes }))

-- how many of its own count as having left in a row once a forwarded packet leaves. If more than
-- `few_waiting` wait, as many as leave only `least_in_a_row` to go; otherwise none
abbrev pub run_after_forward : List SendingView → ℕ
run_after_forward own = if nat_lt few_waiting (length own) then max_originated_run - least_in_a_row else 0

-- which packet leaves next, and what waits then. It is the first forwarded packet. If there is none, it is
-- the first of the router's own, unless the most in a row have left. Otherwise none leaves, and another row
-- begins
abbrev pub Dequeues : PriorityQueues → Option SendingView → PriorityQueues → Type 0
Dequeues old (Some s) new = ((old.forwarded ≡ s ∷ new.forwarded)
    × (new ≡ record old { forwarded = new.forwarded; originated_run = run_after_forward old.own }))
    ⊎ ((old.forwarded ≡ []) × (old.own ≡ s ∷ new.own) × (old.originated_run < max_originated_run)
    × (new ≡ record old { own = new.own; originated_run = old.originated_run + 1 }))
Dequeues old None new = (old.forwarded ≡ []) × ((old.own ≡ []) ⊎ (max_originated_run ≤ old.originated_run))
    × (new ≡ record old { originated_run = 0 })

-- the packet that leaves is given
abbrev pub GivesNext : PriorityQueues → Option Given → PriorityQueues → Type 0
GivesNext old given new = (leaving : Option SendingView) × Dequeues old leaving new
    × (given ≡ option_map given_of leaving)

-- the next packet leaves, and nothing else changes
abbrev pub TakesByPriority : PriorityCoreView → Option Given → PriorityCoreView → Type 0
TakesByPriority core given new =
    GivesNext core.queues given new.queues × (new ≡ record core { queues = new.queues })

-- the packets of the start go after its own, and then the advertisements
abbrev pub PriorityStartsAndTells : PriorityCoreView → ℕ → PriorityCoreView → Type 0
PriorityStartsAndTells old now new = (first told : List SendingView) × (router : RouterView)
    × AreFirst old.started old.router first × TellsNow old.router now told router
    × (new ≡ put_advertisement told (put_own first (record old { router = router; started = true })))

-- whatever waits, an advertisement is queued whole, if it is at most as long as the queue
abbrev pub AdvertisementsAreQueued : Type 0
AdvertisementsAreQueued = (old new : PriorityCoreView) (now : ℕ) (s : PriorityStartsAndTells old now new)
    → length s.1 ≤ max_queued → (before : List SendingView) × (new.queues.own ≡ before ++ s.1)

-- then the next packet leaves
abbrev pub PriorityGives : PriorityCoreView → ℕ → Option Given → PriorityCoreView → Type 0
PriorityGives old now given new =
    (ready : PriorityCoreView) × PriorityStartsAndTells old now ready × TakesByPriority ready given new

-- the packets of an answer fit into their queue
abbrev pub IsSpaceByPriority : List SendingView → List SendingView → OutcomeView → Type 0
IsSpaceByPriority forwarded own (Forward port next bytes) =
    IsSpaceFor forwarded (one_forwarded port next bytes)
IsSpaceByPriority forwarded own (Replies sent) = IsSpaceFor own sent
IsSpaceByPriority forwarded own (Heard n) = ⊥
IsSpaceByPriority forwarded own (Dropped reason) = ⊥

-- the router runs out of memory, or a queue does for the router's answer, which is lost
abbrev pub PriorityHearOutOfMemory : PriorityCoreView → ℕ → List ℕ → ℕ → PriorityCoreView → Type 0
PriorityHearOutOfMemory old port bytes now new = (router : RouterView)
    × (((new ≡ record old { router = router })
    × ReceivesInVain old.router (port + 1) bytes now router)
    ⊎ ((a : OutcomeView) × (new ≡ record old { router = router; outcomes = outcome_counted a old.outcomes })
    × Receives old.router (port + 1) bytes now a router
    × IsSpaceByPriority old.queues.forwarded old.queues.own a))

-- memory runs out for the packets of the start, which are lost: the router is asked for them only once
abbrev pub PriorityStartsInVain : PriorityCoreView → PriorityCoreView → Type 0
PriorityStartsInVain old new = (old.started ≡ false) × (new ≡ record old { started = true })

-- memory runs out for the packets of the start; or these are queued, and memory runs out for the
-- advertisements
abbrev pub PriorityNextOutOfMemory : PriorityCoreView → ℕ → PriorityCoreView → Type 0
PriorityNextOutOfMemory old now new = PriorityStartsInVain old new
    ⊎ ((first : List SendingView) × (router : RouterView) × AreFirst old.started old.router first
    × (new ≡ put_own first (record old { router = router; started = true }))
    × IsNotAdvertised old.router now new.queues.own router)

-- how many of its own may leave once no forwarded packet waits any more
abbrev pub max_of_own : List SendingView → List SendingView → ℕ → ℕ
max_of_own [] own originated_run = max_originated_run - originated_run
max_of_own (s ∷ forwarded) own originated_run = max_originated_run - run_after_forward own

-- all forwarded packets leave, in order, then this many of its own; the others still wait
abbrev pub LeaveInOrder : PriorityQueues → List Given → PriorityQueues → Type 0
LeaveInOrder old packets new = (packets ≡ map given_of
    (old.forwarded ++ take (max_of_own old.forwarded old.own old.originated_run) old.own))
    × (new ≡ record nothing_waits
    { own = drop (max_of_own old.forwarded old.own old.originated_run) old.own })

-- a router holds the same entries; in which order its tables list them may differ
abbrev pub HoldsTheSame : RouterView → RouterView → Type 0
HoldsTheSame old new = HoldsKnown (known_in old.ports old.routes old.services) (tables new)
    × KeepsAllButOffers old new × (new.advertised_at ≡ old.advertised_at)

-- a core's router holds the same, and otherwise only the core's queues change
abbrev pub KeepsAllButQueues : PriorityCoreView → PriorityCoreView → Type 0
KeepsAllButQueues old new = HoldsTheSame old.router new.router
    × (new ≡ record old { router = new.router; queues = new.queues })

-- a router is asked until it gives none. Its forwarded packets leave first, then its own as they are once it
-- has started and advertised. All else is as it was then
abbrev pub ForwardedLeaveFirst : Type 0
ForwardedLeaveFirst = (now : ℕ) (packets : List Given) (old last new : PriorityCoreView)
    → GivesEach PriorityGives now packets old last → PriorityGives last now None new
    → (ready : PriorityCoreView) × PriorityStartsAndTells old now ready × LeaveInOrder ready.queues packets new.queues
    × KeepsAllButQueues ready new
