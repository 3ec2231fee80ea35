-- How a sending host paces its connection: what its link may do at the next poll. Nothing here is from a
-- public standard.
use Rattle.std.specs.Prelude.{◌≡◌, ◌≢◌, ◌<◌, ◌↔◌, ◌⊎◌, ◌&&◌, ℕ, Bool, List, [], IfSome, IsTrue, Option, Some, None, option_map, true, false, unwrap_or}
use Rattle.ipx_wire.specs.Ipx.{BeginsWith, PacketView}
use Rattle.ipx_wire.specs.Spx.{IsSpx}
use Rattle.ipx_wire.specs.declared.spx.packet.SpxHeader.{SpxHeader}
use Rattle.ipx_carrier.specs.HostCore.{HostGives}
use Rattle.ipx_carrier.specs.Turns.{Given}
use Rattle.spx_link.specs.LinkView.{LinkView, is_working, numbers_of}
use Rattle.spx_link.specs.Offer.{again_link, pace_link}
use Rattle.spx_link.specs.declared.numbers.Numbers.{Numbers}
use Rattle.spx_link.specs.declared.outgoing.Sent.{Sent}
use Rattle.spx_link.specs.declared.received.Received.{Received}
use Rattle.spx_link.specs.declared.received.Received.TheVariants.{Joined, Stranger}
use Rattle.spx_messages.specs.Arrives.{Arrives}
use Rattle.spx_messages.specs.Changes.{ChangesEnd, ReleasesEnd}
use Rattle.spx_messages.specs.EndpointView.{EndpointView, Held, held_at}
use Rattle.spx_messages.specs.declared.arrived.Arrived.{Arrived}
use Rattle.spx_messages.specs.declared.arrived.Arrived.TheVariants.{Link}
use Rattle.spx_congestion.specs.Giving.{gave_of}
use Rattle.spx_congestion.specs.Hearing.{Hears}
use Rattle.spx_congestion.specs.Pacing.{PacerView, Tends, credit_after, given_by, has_given_up, wakes_at, holds_back, plan_of, with_outstanding}
use Rattle.spx_congestion.specs.declared.plan.Plan.{Plan}
use Rattle.ipx_host.specs.Noting.{is_untold}
use Rattle.ipx_host.specs.declared.paced_host_core.PacedHostCore.{PacedHostCore}
use Rattle.ipx_host.specs.declared.pacing.Paced.{Paced}

-- a link that is to send the unit at this place again, if a place is given
abbrev pub asked_again_at : Option ℕ → LinkView → LinkView
asked_again_at None l = l
asked_again_at (Some place) l = again_link l place

-- a manual link as a plan sets it: how many units may be outstanding, and which one is sent again
abbrev pub planned : Plan → LinkView → LinkView
planned plan l = asked_again_at plan.again (pace_link l plan.window true)

-- a plan at this time of a pacer for its link. The pacer counts as many outstanding units as the link has, and
-- has done what was due by then
pub record IsPlanOf (plan : Plan) (old : PacerView) (now : ℕ) (new : PacerView) (l : LinkView) : Type 0 where
  pub tends : Tends old l.out now new
  pub counts : new.out ≡ l.out
  pub value : plan ≡ plan_of new

-- a link that sends units is given up if its pacer has given up, after ten timeouts in a row
abbrev pub is_given_up : PacerView → LinkView → Bool
is_given_up pacer l = is_working l.state && has_given_up pacer

-- a link that is given up is released, and any other is set as planned. Nothing else changes
abbrev pub FollowsPlan : Bool → ℕ → Plan → Held → EndpointView → EndpointView → Type 0
FollowsPlan true id plan held old new = ReleasesEnd old new id
FollowsPlan false id plan held old new = ChangesEnd old new id (record held { link = planned plan held.link })

-- the link of an id, if it is there, is set as its pacer plans now, or is released if it is given up
abbrev pub PlansLink : ℕ → ℕ → PacerView → PacerView → Option Held → EndpointView → EndpointView → Type 0
PlansLink id now pacer pacer' None old new = (pacer' ≡ pacer) × (new ≡ old)
PlansLink id now pacer pacer' (Some held) old new = (plan : Plan) × IsPlanOf plan pacer now pacer' held.link
    × FollowsPlan (is_given_up pacer' held.link) id plan held old new
    × (new.said ≡ old.said) × (new.heard ≡ old.heard)

-- the same for the paced connection. If there is none, nothing changes
abbrev pub Plans : Option Paced → ℕ → Option Paced → EndpointView → EndpointView → Type 0
Plans None now after old new = (after ≡ None) × (new ≡ old)
Plans (Some paced) now after old new = (pacer : PacerView) × (after ≡ Some (record paced { pacer = pacer }))
    × PlansLink paced.id now paced.pacer pacer (held_at old paced.id) old new

-- this is the datastream type of the SPX packet that the bytes begin with, if they begin with one
abbrev pub IsStreamIn : List ℕ → ℕ → Type 0
IsStreamIn bytes stream =
    (p : PacketView) (h : SpxHeader) (body : List ℕ) → BeginsWith bytes p → IsSpx h body p.body → stream ≡ h.stream

-- a link gave a packet now, and has this many outstanding units after it. Its pacer has counted them, and what
-- was given, by its datastream type. It has less credit if the packet carried a unit
pub record CountsGiven (what : Sent) (bytes : List ℕ) (out now : ℕ) (old new : PacerView) : Type 0 where
  pub stream : ℕ
  pub reads : IsStreamIn bytes stream
  pub value : new ≡ given_by (with_outstanding old out now) (gave_of what stream) now
  pub counts : new.out ≡ out
  pub credit : new.credit ≡ credit_after old.credit (gave_of what stream)

-- after a poll now, which gave these bytes, the pacer of the link of an id is updated with what that link gave,
-- and with nothing else
abbrev pub NotesGiven : ℕ → Option (ℕ × Sent) → List ℕ → Option Held → ℕ → PacerView → PacerView → Type 0
NotesGiven id None bytes held now pacer pacer' = pacer' ≡ pacer
NotesGiven id (Some given) bytes None now pacer pacer' = pacer' ≡ pacer
NotesGiven id (Some given) bytes (Some held) now pacer pacer' =
    (given.0 ≡ id → CountsGiven given.1 bytes held.link.out now pacer pacer')
    × ((given.0 ≡ id → ⊥) → pacer' ≡ pacer)

-- the same for the paced connection, if there is one
abbrev pub NotesPoll : Option Paced → EndpointView → List ℕ → ℕ → Option Paced → Type 0
NotesPoll None e bytes now after = after ≡ None
NotesPoll (Some paced) e bytes now after = (pacer : PacerView)
    × (after ≡ Some (record paced { pacer = pacer }))
    × NotesGiven paced.id e.said bytes (held_at e paced.id) now paced.pacer pacer

-- the link of an id read a datagram as one of its peer
abbrev pub LinkReads : ℕ → Arrived → Type 0
LinkReads id arrived = (received : Received) × (arrived ≡ Link id received) × (received ≢ Stranger)

-- a link read a packet now with this result, which changed its numbers from those before, and its pacer was
-- told so, once, and whether it was the reply to the request
abbrev pub IsToldOf : Received → PacerView → Numbers → Numbers → ℕ → PacerView → Type 0
IsToldOf received old before after now new =
    (joined : Bool) × (IsTrue joined ↔ (received ≡ Joined)) × Hears old before after joined now new

-- after the link of an id read a datagram now, its pacer counts as many outstanding units as the link has, and
-- was told once how the link's numbers changed, if the link is there. If it was not there before, they changed
-- nothing. If the link did not read the datagram, the pacer is unchanged
pub record NotesHeard (id : ℕ) (arrived : Arrived) (before : Option Numbers) (now : ℕ) (pacer pacer' : PacerView)
    (there : Option Held) : Type 0 where
  pub counts : LinkReads id arrived → IfSome there (λ h. pacer'.out ≡ h.link.out)
  pub hears : (received : Received) → arrived ≡ Link id received → received ≢ Stranger
      → IfSome there (λ h. IsToldOf received pacer (unwrap_or before (numbers_of h.link)) (numbers_of h.link) now pacer')
  pub stays : (LinkReads id arrived → ⊥) → pacer' ≡ pacer

-- the same for the paced connection, if there is one
abbrev pub NotesDatagram : Option Paced → Arrived → Option Numbers → ℕ → EndpointView → Option Paced → Type 0
NotesDatagram None arrived before now e after = after ≡ None
NotesDatagram (Some paced) arrived before now e after = (pacer : PacerView)
    × (after ≡ Some (record paced { pacer = pacer }))
    × NotesHeard paced.id arrived before now paced.pacer pacer (held_at e paced.id)

-- the numbers of the link of the paced connection, if there is one
abbrev pub paced_numbers : Option Paced → EndpointView → Option Numbers
paced_numbers None e = None
paced_numbers (Some paced) e = option_map (λ h. numbers_of h.link) (held_at e paced.id)

-- an endpoint returns a result for a datagram, and the pacer is updated with how it changed the link's numbers
abbrev pub NotesAnswer : EndpointView → List ℕ → ℕ → EndpointView → Option Paced → Option Paced → Type 0
NotesAnswer old bytes now new paced after =
    (answer : Arrived) × Arrives old bytes now answer new
    × NotesDatagram paced answer (paced_numbers paced old) now new after

-- the time at which the plan for the paced connection, if there is one, may change
abbrev pub paced_due : Option Paced → ℕ → Option ℕ
paced_due None now = None
paced_due (Some paced) now = wakes_at paced.pacer now

-- there is a paced connection whose pacer holds something back
abbrev pub HoldsBack : Option Paced → Type 0
HoldsBack None = ⊥
HoldsBack (Some paced) = IsTrue (holds_back paced.pacer)

-- there is a paced connection that waits: units of it are outstanding, or its pacer holds some back
abbrev pub IsAwake : Option Paced → Type 0
IsAwake None = ⊥
IsAwake (Some paced) = (0 < paced.pacer.out) ⊎ IsTrue (holds_back paced.pacer)

-- the bytes of the packet that is given, if one is
abbrev pub bytes_given : Option Given → List ℕ
bytes_given None = []
bytes_given (Some given) = given.bytes

-- the core of a host is asked for a packet. The paced connection, if there is one, follows its plan. Then the
-- endpoint is polled and gives a packet or none, and the pacer is updated
pub record GivesAsPlanned (old : PacedHostCore) (now : ℕ) (given : Option Given) (new : PacedHostCore) : Type 0 where
  pub ready : EndpointView
  pub paced : Option Paced
  pub plans : Plans old.paced now paced old.endpoint ready
  pub gives : HostGives ready now given new.endpoint
  pub notes : NotesPoll paced new.endpoint (bytes_given given) now new.paced
  pub core : new ≡ record old { endpoint = new.endpoint; moment = now; paced = new.paced }

-- no packet is given until the host has noted an accepted connection. So a connection for which there is no
-- slot gets no reply. After that, packets are given as planned
abbrev pub GivesOnceTold : PacedHostCore → ℕ → Option Given → PacedHostCore → Type 0
GivesOnceTold old now given new =
    ((is_untold old.came ≡ true) × (given ≡ None) × (new ≡ record old { moment = now }))
    ⊎ ((is_untold old.came ≡ false) × GivesAsPlanned old now given new)
