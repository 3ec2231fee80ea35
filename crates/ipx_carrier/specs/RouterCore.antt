-- A router as a core: it receives datagrams and gives packets through one queue of at most 16,384, first in,
-- first out. The entry points are `RouterHears` and `RouterGives`, and `HearOutOfMemory` and `NextOutOfMemory` for out of
-- memory.
use Rattle.std.specs.Prelude.{◌≡◌, ◌⊎◌, ℕ, ◌+◌, Bool, true, false, List, [], ◌∷◌, Option, Some, None, option_map}
use Rattle.ipx_router.specs.RouterView.{RouterView}
use Rattle.ipx_router.specs.RouterPackets.{SendingView}
use Rattle.ipx_router.specs.OutcomeView.{OutcomeView, Forward, Replies, Heard, Dropped}
use Rattle.ipx_router.specs.Answer.{Receives}
use Rattle.ipx_carrier.specs.declared.outcome_counters.OutcomeCounters.{OutcomeCounters}
use Rattle.ipx_carrier.specs.OutcomeCounters.{outcome_counted}
use Rattle.ipx_carrier.specs.RouterQueues.{AreFirst, IsNotAdvertised, IsSpaceFor, ReceivesInVain, TellsNow, dropped_if_full, given_of, one_forwarded, put_after}
use Rattle.ipx_carrier.specs.Turns.{Given}

pub record CoreView : Type 0 where
  pub router : RouterView
  -- the packets to send, in order
  pub queue : List SendingView
  -- whether the router was asked for the packets of its start
  pub started : Bool
  -- how many packets were dropped because the queue was full
  pub dropped : ℕ
  -- what became of the datagrams received
  pub outcomes : OutcomeCounters

-- packets go into the queue; if they don't fit they are all dropped and counted
abbrev pub put : List SendingView → CoreView → CoreView
put sent core = record core {
  queue = put_after core.queue sent;
  dropped = dropped_if_full core.queue sent core.dropped;
}

-- the packets of a router's answer go into the queue
abbrev pub put_answer : OutcomeView → CoreView → CoreView
put_answer (Forward port next bytes) core = put (one_forwarded port next bytes) core
put_answer (Replies sent) core = put sent core
put_answer (Heard n) core = core
put_answer (Dropped reason) core = core

-- the router's port numbers are one more than the device's
abbrev pub RouterHears : CoreView → ℕ → List ℕ → ℕ → CoreView → Type 0
RouterHears old port bytes now new = (a : OutcomeView) × (router : RouterView)
    × Receives old.router (port + 1) bytes now a router
    × (new ≡ put_answer a (record old { router = router; outcomes = outcome_counted a old.outcomes }))

-- the first packet of a queue leaves it. None leaves exactly if the queue is empty
abbrev pub Leaves : List SendingView → Option SendingView → List SendingView → Type 0
Leaves old (Some s) new = old ≡ s ∷ new
Leaves old None new = (old ≡ []) × (new ≡ [])

-- the packet that leaves is given
abbrev pub GivesFront : List SendingView → Option Given → List SendingView → Type 0
GivesFront old given new = (leaving : Option SendingView) × Leaves old leaving new
    × (given ≡ option_map given_of leaving)

-- the first packet leaves, and nothing else changes
abbrev pub TakesFirst : CoreView → Option Given → CoreView → Type 0
TakesFirst core given new =
    GivesFront core.queue given new.queue × (new ≡ record core { queue = new.queue })

-- the packets of the start go into the queue, and then the advertisements
abbrev pub StartsAndTells : CoreView → ℕ → CoreView → Type 0
StartsAndTells old now new = (first told : List SendingView) × (router : RouterView)
    × AreFirst old.started old.router first × TellsNow old.router now told router
    × (new ≡ put told (put first (record old { router = router; started = true })))

-- then the first packet leaves
abbrev pub RouterGives : CoreView → ℕ → Option Given → CoreView → Type 0
RouterGives old now given new =
    (ready : CoreView) × StartsAndTells old now ready × TakesFirst ready given new

-- the packets of an answer fit into the queue
abbrev pub IsSpaceForAnswer : List SendingView → OutcomeView → Type 0
IsSpaceForAnswer queue (Forward port next bytes) = IsSpaceFor queue (one_forwarded port next bytes)
IsSpaceForAnswer queue (Replies sent) = IsSpaceFor queue sent
IsSpaceForAnswer queue (Heard n) = ⊥
IsSpaceForAnswer queue (Dropped reason) = ⊥

-- the router runs out of memory, or the queue does for the router's answer, which is lost
abbrev pub HearOutOfMemory : CoreView → ℕ → List ℕ → ℕ → CoreView → Type 0
HearOutOfMemory old port bytes now new = (router : RouterView)
    × (((new ≡ record old { router = router })
    × ReceivesInVain old.router (port + 1) bytes now router)
    ⊎ ((a : OutcomeView) × (new ≡ record old { router = router; outcomes = outcome_counted a old.outcomes })
    × Receives old.router (port + 1) bytes now a router × IsSpaceForAnswer old.queue a))

-- memory runs out for the packets of the start, which are lost: the router is asked for them only once
abbrev pub StartsInVain : CoreView → CoreView → Type 0
StartsInVain old new = (old.started ≡ false) × (new ≡ record old { started = true })

-- memory runs out for the packets of the start; or these are queued, and memory runs out for the
-- advertisements
abbrev pub NextOutOfMemory : CoreView → ℕ → CoreView → Type 0
NextOutOfMemory old now new = StartsInVain old new
    ⊎ ((first : List SendingView) × (router : RouterView) × AreFirst old.started old.router first
    × (new ≡ put first (record old { router = router; started = true }))
    × IsNotAdvertised old.router now new.queue router)
