-- What events at hosts do to a world, with their answers.
use Rattle.std.specs.Prelude.{ℕ, Bool, ◌≡◌, ◌⊎◌, ◌≤◌, List, [], ◌∷◌, length, Option, Some, None, Ok, Err, slice_get}
use Rattle.ipx_wire.specs.Assigned.{spx_max_packet_size}
use Rattle.ipx_wire.specs.declared.address.Address.{Address}
use Rattle.ipx_wire.specs.declared.address.Node.{Node}
use Rattle.ipx_wire.specs.declared.address.Socket.{Socket}
use Rattle.spx_messages.specs.declared.arrived.Arrived.{Arrived}
use Rattle.spx_messages.specs.declared.arrived.Arrived.TheVariants as Arriveds
use Rattle.spx_messages.specs.declared.fault.EndFault.{EndFault}
use Rattle.spx_messages.specs.EndpointView.{Held}
use Rattle.spx_messages.specs.OneValue.{IsBufferStill}
use Rattle.spx_messages.specs.Taking.{TakenView, overlong}
use Rattle.spx_messages.specs.Message.{MessageView}
use Rattle.ipx_net_hosts.specs.Hosts.{DeliveredAt, HostsView}
use Rattle.ipx_net_hosts.specs.Refusing.{CloseIsRefused, DialIsRefused, PushesTo, SendIsRefused, close_fault, dial_fault, end_held, send_fault, want}
use Rattle.spx_theory.specs.EndCalls.{AsksAgainOf, Closes, DialsFrom, PacesOf, RefusesAt, ReleasesOf, SendsTo}
use Rattle.spx_theory.specs.HostSteps.{Delivers, PollsHost, TakesOf, arrival_notes}
use Rattle.spx_theory.specs.World.{EndNow, HostState, World, end_at}
use Rattle.ipx_net.specs.AnswerView.{AnswerView, ArrivedAt, Done, End, Parcels, Refused, Taken}
use Rattle.ipx_net.specs.StepResultView.{StepResultView}

-- the call of a host was refused, and the world is unchanged
abbrev pub RefusedAt : ℕ → EndFault → AnswerView → World → World → Type 0
RefusedAt host f a old new = (a ≡ Refused f) × RefusesAt old host new

-- the call of the host of an end was refused, and the world is unchanged
abbrev pub RefusedOf : ℕ → EndFault → AnswerView → World → World → Type 0
RefusedOf who f a old new = (end' : EndNow) × (slice_get old.ends who ≡ Some end')
    × RefusedAt end'.host f a old new

-- what the link of an end holds, by the end's number
abbrev pub held_under : World → ℕ → Option Held
held_under w who = end_held w.hosts w.ends who

-- it was done, if there is no fault; or the call was refused, with its fault or since memory ran out
abbrev pub IsDoneOrRefused : (World → World → Type 0) → (World → Option EndFault)
    → (World → EndFault → Type 0) → ℕ → AnswerView → World → World → Type 0
IsDoneOrRefused P fault IsRefused who a old new =
    ((a ≡ Done) × (fault old ≡ None) × P old new)
    ⊎ ((f : EndFault) × IsRefused old f × RefusedOf who f a old new)

abbrev pub Dialling : ℕ → Socket → Address → ℕ → AnswerView → World → World → Type 0
Dialling host socket to buffers a old new =
    ((a ≡ End (length old.ends)) × (dial_fault (slice_get old.hosts host) ≡ None)
    × (id : ℕ) × DialsFrom old host socket to buffers id new)
    ⊎ ((f : EndFault) × DialIsRefused (slice_get old.hosts host) f × RefusedAt host f a old new)

abbrev pub Sending : ℕ → MessageView → AnswerView → World → World → Type 0
Sending who m = IsDoneOrRefused (λ old new. SendsTo old who m new) (λ w. send_fault (held_under w who) m)
    (λ w. SendIsRefused (held_under w who) m) who

abbrev pub Closing : ℕ → AnswerView → World → World → Type 0
Closing who = IsDoneOrRefused (λ old new. Closes old who new) (λ w. close_fault (held_under w who))
    (λ w. CloseIsRefused (held_under w who)) who

-- the link of an end that is not released gets a window, or is asked to retransmit at an index: neither is
-- refused
abbrev pub Pacing : ℕ → ℕ → Bool → AnswerView → World → World → Type 0
Pacing who window manual a old new = (a ≡ Done) × PacesOf old who window manual new

abbrev pub AskingAgain : ℕ → ℕ → AnswerView → World → World → Type 0
AskingAgain who place a old new = (a ≡ Done) × AsksAgainOf old who place new

-- an end is released, and is not refused
abbrev pub Releasing : ℕ → AnswerView → World → World → Type 0
Releasing who a old new = (a ≡ Done) × ReleasesOf old who new

-- a unit was taken; or the message grew too long; or memory ran out for the message of the unit, and nothing
-- changed
abbrev pub TakingFrom : ℕ → AnswerView → World → World → Type 0
TakingFrom who a old new =
    ((t : TakenView) × (a ≡ Taken t) × TakesOf old who (Ok t) new)
    ⊎ ((a ≡ Refused overlong) × TakesOf old who (Err overlong) new)
    ⊎ (PushesTo (held_under old who) × RefusedOf who want a old new)

-- the number of the parcel that a poll made, if it made one
abbrev pub made_by : Option (Node × ℕ) → ℕ → List ℕ
made_by None first = []
made_by (Some r) first = first ∷ []

-- it writes into a room that is large enough, and as long after it: so one packet is given
abbrev pub PollingHost : ℕ → AnswerView → World → World → Type 0
PollingHost host a old new = (result : Option (Node × ℕ)) × (p : PollsHost old host result new)
    × (a ≡ Parcels (made_by result (length old.parcels)))
    × (spx_max_packet_size ≤ length p.room) × IsBufferStill p.room p.written

-- the end that a datagram was for: the one that it made, or the end of the link that it is for
abbrev pub end_for : Arrived → HostState → ℕ → Option ℕ
end_for (Arriveds.Bad f) s count = None
end_for Arriveds.NotOurs s count = None
end_for (Arriveds.BadSpx f) s count = None
end_for Arriveds.NoListener s count = None
end_for Arriveds.NoRoom s count = None
end_for Arriveds.Stranger s count = None
end_for (Arriveds.Accepted id) s count = Some count
end_for (Arriveds.Link id r) s count = end_at s.here id

-- the answer to a delivery to a host: what the host did with the datagram, and the end that it was for. The
-- host is that after the delivery, and `count` is the number of ends before it
abbrev pub arrival_answer : Arrived → HostState → ℕ → AnswerView
arrival_answer r s count = ArrivedAt (end_for r s count) r

abbrev pub DeliveringToHost : ℕ → ℕ → AnswerView → World → World → Type 0
DeliveringToHost parcel host a old new = (r : Arrived) × (d : Delivers old parcel host r new)
    × (a ≡ arrival_answer r d.after (length old.ends))

-- the same of the hosts alone, with what it adds to the log
pub record DeliversSo (old : HostsView) (host parcel : ℕ) (bytes : List ℕ) (now : ℕ)
    (g : StepResultView) (new : HostsView) : Type 0 where
  pub answer : Arrived
  pub delivered : DeliveredAt old host bytes now answer new
  pub parcels : g.parcels ≡ []
  pub notes : g.notes ≡ arrival_notes answer delivered.after (length old.ends) parcel
  pub answers : g.answer ≡ arrival_answer answer delivered.after (length old.ends)
