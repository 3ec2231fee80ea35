-- Which events may run out of memory, by the state before them: those that make an entry or a parcel, or make
-- a router's table grow. The entry point is `EventNeedsMemory`.
use Rattle.std.specs.Prelude.{ℕ, ◌≡◌, ◌⊎◌, ◌<◌, ◌+◌, ◌++◌, true, false, List, length, Option, None, Some, Result, Ok, Err, slice_get}
use Rattle.ipx_wire.specs.declared.address.Node.{Node}
use Rattle.ipx_wire.specs.declared.memory.OutOfMemory.{OutOfMemory}
use Rattle.spx_link.specs.Offer.{first_of}
use Rattle.spx_messages.specs.Message.{message_view}
use Rattle.spx_messages.specs.Arrives.{IsAcceptable}
use Rattle.spx_messages.specs.EndpointView.{Held}
use Rattle.spx_messages.specs.Taking.{take_end}
use Rattle.spx_messages.specs.declared.arrived.Arrived.{Arrived}
use Rattle.ipx_router.specs.Answer.{Receives}
use Rattle.ipx_router.specs.OutcomeView.{OutcomeView}
use Rattle.ipx_router.specs.OutcomeView as Outcomes
use Rattle.ipx_router.specs.Knowledge.{known_at}
use Rattle.ipx_router.specs.RouterPackets.{SendingView}
use Rattle.ipx_router.specs.RouterView.{RouterView}
use Rattle.ipx_router.specs.Advertisements.{HasToTell, is_due}
use Rattle.ipx_router.specs.OutOfMemoryCases.{RunsOutOfMemory}
use Rattle.spx_theory.specs.Note.{Note}
use Rattle.spx_theory.specs.HostSteps.{arrival_notes, unit_notes, whole_notes}
use Rattle.spx_theory.specs.World.{ParcelView, HostState}
use Rattle.ipx_net_hosts.specs.Hosts.{DeliveredAt, HostsView, PolledAt}
use Rattle.ipx_net_hosts.specs.Refusing.{close_fault, dial_fault, send_fault}
use Rattle.ipx_net.specs.StepResultView.{step_result_view}
use Rattle.ipx_net.specs.HostEvents.{held_under}
use Rattle.ipx_net.specs.NetView.{NetNow}
use Rattle.ipx_net.specs.RouterMembers.{IsPolled}
use Rattle.ipx_net.specs.declared.event.Event.{Event}
use Rattle.ipx_net.specs.declared.event.Event.TheVariants as Events
use Rattle.ipx_net.specs.declared.event.Member.{Member}
use Rattle.ipx_net.specs.declared.event.Member.TheVariants as Members
use Rattle.ipx_net.specs.declared.step_result.StepResult.{StepResult}
use Rattle.ipx_net.specs.declared.place.Place.{Place}
use Rattle.ipx_net.specs.declared.place.Place.TheVariants as Places
use Rattle.ipx_net.specs.declared.routers.RouterNow.{RouterNow}

-- the entries of a take from an end: the unit that was held, and the message that it completed
abbrev pub taken_notes : Held → ℕ → List Note
taken_notes h who =
    unit_notes (take_end h).0 (first_of h.link.held) who ++ whole_notes (take_end h).0 who

-- a take with entries; a take of nothing has none
abbrev pub TakeIsLogged : Option Held → ℕ → Type 0
TakeIsLogged None who = ⊥
TakeIsLogged (Some h) who = 0 < length (taken_notes h who)

-- a datagram that arrives at a host makes a link there, or a link reads it
abbrev pub ArrivalIsLogged : HostsView → ℕ → ℕ → List ℕ → ℕ → Type 0
ArrivalIsLogged v host parcel bytes now = (r : Arrived) × (new : HostsView)
    × (d : DeliveredAt v host bytes now r new)
    × (0 < length (arrival_notes r d.after (length v.ends) parcel))

abbrev pub HostNeedsMemory : HostsView → ℕ → ℕ → List ℕ → ℕ → Type 0
HostNeedsMemory v host parcel bytes now =
    ((s : HostState) × (slice_get v.stations host ≡ Some s) × IsAcceptable s.endpoint bytes)
    ⊎ ArrivalIsLogged v host parcel bytes now

-- a router forwards or replies
abbrev pub IsSent : OutcomeView → Type 0
IsSent (Outcomes.Forward port next bytes) = Unit {0}
IsSent (Outcomes.Replies sent) = Unit {0}
IsSent (Outcomes.Heard n) = ⊥
IsSent (Outcomes.Dropped reason) = ⊥

-- a router needs memory for bytes that arrive at its port, or memory is needed for a parcel that it sends
abbrev pub RouterNeedsMemory : List RouterNow → ℕ → ℕ → List ℕ → ℕ → Type 0
RouterNeedsMemory routers router port bytes now = (before : RouterNow)
    × (slice_get routers router ≡ Some before) × (after : RouterView)
    × (RunsOutOfMemory before.router port bytes now after
    ⊎ ((o : OutcomeView) × Receives before.router port bytes now o after × IsSent o))

-- a host that is polled gives a packet
abbrev pub PollIsSent : HostsView → ℕ → ℕ → Type 0
PollIsSent v host now = (r : Node × ℕ) × (room written : List ℕ) × (new : HostsView)
    × PolledAt v host now (Some r) room written new

-- a router that is polled needs memory for what it asks as it starts, or if an advertisement is due and it
-- has something to advertise. Or memory is needed for the packets that it gives
abbrev pub RouterPollNeedsMemory : RouterNow → ℕ → Type 0
RouterPollNeedsMemory before now = (before.started ≡ false)
    ⊎ ((is_due before.router.advertised_at now ≡ true) × HasToTell (known_at before.router now) now)
    ⊎ ((after : RouterNow) × (sent : List SendingView) × IsPolled before after now sent
    × (0 < length sent))

abbrev pub PollNeedsMemory : NetNow → Member → Type 0
PollNeedsMemory n (Members.Host host) =
    PollIsSent (record { stations = n.world.hosts; ends = n.world.ends }) host n.world.moment
PollNeedsMemory n (Members.Router router) = (before : RouterNow)
    × (slice_get n.routers router ≡ Some before) × RouterPollNeedsMemory before n.world.moment

abbrev pub DeliveryNeedsMemory : NetNow → ℕ → List ℕ → Place → Type 0
DeliveryNeedsMemory n parcel bytes (Places.Host host) =
    HostNeedsMemory (record { stations = n.world.hosts; ends = n.world.ends }) host parcel bytes
    n.world.moment
DeliveryNeedsMemory n parcel bytes (Places.Port router port) =
    RouterNeedsMemory n.routers router port bytes n.world.moment

-- an event may run out of memory if it is a call that no end refuses, a take with entries, or a poll that
-- gives a packet. So may a delivery that makes an entry or a parcel or a router's table grow, and each
-- release and packet from outside. A clock tick needs none, nor do a window and a request to retransmit
abbrev pub EventNeedsMemory : NetNow → Event → Type 0
EventNeedsMemory n (Events.Dial host socket to buffers) =
    dial_fault (slice_get n.world.hosts host) ≡ None
EventNeedsMemory n (Events.Send who message) =
    send_fault (held_under n.world who) (message_view message) ≡ None
EventNeedsMemory n (Events.Take who) = TakeIsLogged (held_under n.world who) who
EventNeedsMemory n (Events.Close who) = close_fault (held_under n.world who) ≡ None
EventNeedsMemory n (Events.Pace who window manual) = ⊥
EventNeedsMemory n (Events.Again who place) = ⊥
EventNeedsMemory n (Events.Release who) = Unit {0}
EventNeedsMemory n (Events.Tick now) = ⊥
EventNeedsMemory n (Events.Poll member) = PollNeedsMemory n member
EventNeedsMemory n (Events.Deliver parcel place) = (letter : ParcelView)
    × (slice_get n.world.parcels parcel ≡ Some letter)
    × DeliveryNeedsMemory n parcel letter.bytes place
EventNeedsMemory n (Events.Inject segment next bytes) = Unit {0}

-- ---- definitions for the private functions

-- an event made something, or memory was refused while it did
abbrev pub IsMade : Result StepResult OutOfMemory → Type 0
IsMade (Ok g) = 0 < length (step_result_view g).parcels + length (step_result_view g).notes
IsMade (Err e) = Unit {0}
