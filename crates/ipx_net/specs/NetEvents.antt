-- What each event does to a network, and its answer.
use Rattle.std.specs.Prelude.{ℕ, ◌≡◌, ◌<◌, ◌≤◌, List, [], ◌∷◌, None, length}
use Rattle.spx_link.specs.Limits.{most_units}
use Rattle.spx_messages.specs.Message.{message_view}
use Rattle.spx_theory.specs.EndCalls.{InjectsInto, Ticks}
use Rattle.spx_theory.specs.World.{EndNow, World}
use Rattle.ipx_net_hosts.specs.Hosts.{FollowsMarks, marks_of}
use Rattle.ipx_net.specs.AnswerView.{AnswerView, Done, Parcels}
use Rattle.ipx_wire.specs.declared.address.Network.{Network}
use Rattle.ipx_wire.specs.declared.address.Node.{Node}
use Rattle.spx_theory.specs.Note as Notes
use Rattle.ipx_net.specs.StepResultView.{StepResultView}
use Rattle.ipx_net.specs.HostEvents.{AskingAgain, Closing, DeliveringToHost, Dialling, Pacing, PollingHost, Releasing, Sending, TakingFrom}
use Rattle.ipx_net.specs.NetView.{NetNow}
use Rattle.ipx_net.specs.RouterEvents.{DeliveringToRouter, PollingRouter}
use Rattle.ipx_net.specs.declared.event.Event.{Event}
use Rattle.ipx_net.specs.declared.event.Event.TheVariants as Events
use Rattle.ipx_net.specs.declared.event.Member.{Member}
use Rattle.ipx_net.specs.declared.event.Member.TheVariants as Members
use Rattle.ipx_net.specs.declared.place.Place.{Place}
use Rattle.ipx_net.specs.declared.place.Place.TheVariants as Places

-- the routers are unchanged
abbrev pub RoutersUnchanged : (AnswerView → World → World → Type 0)
    → AnswerView → NetNow → NetNow → Type 0
RoutersUnchanged P a old new = P a old.world new.world × (new.routers ≡ old.routers)

abbrev pub PollsOf : Member → AnswerView → NetNow → NetNow → Type 0
PollsOf (Members.Host host) = RoutersUnchanged (PollingHost host)
PollsOf (Members.Router router) = PollingRouter router

abbrev pub DeliversTo : ℕ → Place → AnswerView → NetNow → NetNow → Type 0
DeliversTo parcel (Places.Host host) = RoutersUnchanged (DeliveringToHost parcel host)
DeliversTo parcel (Places.Port router port) = DeliveringToRouter parcel router port

abbrev pub Happens : Event → AnswerView → NetNow → NetNow → Type 0
Happens (Events.Dial host socket to buffers) = RoutersUnchanged (Dialling host socket to buffers)
Happens (Events.Send who message) = RoutersUnchanged (Sending who (message_view message))
Happens (Events.Take who) = RoutersUnchanged (TakingFrom who)
Happens (Events.Close who) = RoutersUnchanged (Closing who)
Happens (Events.Pace who window manual) = RoutersUnchanged (Pacing who window manual)
Happens (Events.Again who place) = RoutersUnchanged (AskingAgain who place)
Happens (Events.Release who) = RoutersUnchanged (Releasing who)
Happens (Events.Tick now) = RoutersUnchanged (λ a old new. (a ≡ Done) × Ticks old now new)
Happens (Events.Poll member) = PollsOf member
Happens (Events.Deliver parcel place) = DeliversTo parcel place
Happens (Events.Inject segment next bytes) = RoutersUnchanged (λ a old new.
    (a ≡ Parcels (length old.parcels ∷ [])) × InjectsInto old segment next bytes.items new)

-- where an event ran out of memory, each end is there, and of each is known whether a message of it
-- grew too long. Only a dial and a delivery to a host may have made one end more
abbrev pub LeavesMarks : Event → List EndNow → List EndNow → Type 0
LeavesMarks (Events.Dial host socket to buffers) old new =
    FollowsMarks (marks_of old) (marks_of new)
LeavesMarks (Events.Deliver parcel (Places.Host host)) old new =
    FollowsMarks (marks_of old) (marks_of new)
LeavesMarks event old new = marks_of new ≡ marks_of old

-- what the caller must pass: buffers in range
abbrev pub IsOwed : Event → Type 0
IsOwed (Events.Dial host socket to buffers) = (0 < buffers) × (buffers ≤ most_units)
IsOwed (Events.Send who message) = Unit {0}
IsOwed (Events.Take who) = Unit {0}
IsOwed (Events.Close who) = Unit {0}
IsOwed (Events.Pace who window manual) = Unit {0}
IsOwed (Events.Again who place) = Unit {0}
IsOwed (Events.Release who) = Unit {0}
IsOwed (Events.Tick now) = Unit {0}
IsOwed (Events.Poll member) = Unit {0}
IsOwed (Events.Deliver parcel place) = Unit {0}
IsOwed (Events.Inject segment next bytes) = Unit {0}

-- what a packet from outside adds to the log
abbrev pub injected : Network → Node → List ℕ → ℕ → StepResultView
injected segment next bytes first =
    record {
      parcels = record { segment = segment; next = next; bytes = bytes; sent_by = None } ∷ [];
      notes = Notes.Injected first ∷ [];
      answer = Parcels (first ∷ []);
    }
