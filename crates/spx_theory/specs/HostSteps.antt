-- What three events do to a world, exactly.
use Rattle.std.specs.Prelude.{ℕ, ◌≡◌, true, false, List, [], ◌∷◌, ◌++◌, length, take, set, Option, Some, None, Result, Ok, Err, slice_get}
use Rattle.ipx_wire.specs.declared.address.Node.{Node}
use Rattle.spx_link.specs.declared.unit.Unit.{Unit}
use Rattle.spx_link.specs.declared.outgoing.Sent.{Sent}
use Rattle.spx_link.specs.declared.received.Received.{Received}
use Rattle.spx_link.specs.Offer.{first_of}
use Rattle.spx_theory.specs.Note.{Note}
use Rattle.spx_theory.specs.PacketsOnWay.{note_of, notes_of}
use Rattle.spx_messages.specs.Changes.{ChangesEnd}
use Rattle.spx_messages.specs.EndpointView.{Held, held_at}
use Rattle.spx_messages.specs.declared.arrived.Arrived.{Arrived}
use Rattle.spx_messages.specs.Arrives.{Arrives}
use Rattle.spx_messages.specs.Polls.{Polls}
use Rattle.spx_messages.specs.declared.fault.EndFault.{EndFault}
use Rattle.spx_messages.specs.Taking.{TakenView, take_end, Nothing, Part, Whole, PeerEnd}
use Rattle.spx_theory.specs.World.{World, HostState, EndNow, ParcelView, AtHost, end_at}
use Rattle.spx_theory.specs.Note as Notes
use Rattle.spx_messages.specs.declared.arrived.Arrived.TheVariants as Arriveds

-- ---- a parcel is delivered to a host

abbrev pub buffers_of : Option Held → ℕ
buffers_of None = 0
buffers_of (Some h) = h.link.buffers

abbrev pub read_notes : Option ℕ → Received → ℕ → List Note
read_notes None r parcel = []
read_notes (Some who) r parcel = notes_of r who parcel

-- only a packet that a link read makes an entry, and not a repeated request
abbrev pub heard_notes : List (ℕ × ℕ) → Option ℕ → Received → ℕ → List Note
heard_notes here None r parcel = []
heard_notes here (Some id) r parcel = read_notes (end_at here id) r parcel

-- the entries of an answer, with the host after it and the number of ends before it
abbrev pub arrival_notes : Arrived → HostState → ℕ → ℕ → List Note
arrival_notes (Arriveds.Bad f) s count parcel = []
arrival_notes Arriveds.NotOurs s count parcel = []
arrival_notes (Arriveds.BadSpx f) s count parcel = []
arrival_notes Arriveds.NoListener s count parcel = []
arrival_notes Arriveds.NoRoom s count parcel = []
arrival_notes Arriveds.Stranger s count parcel = []
arrival_notes (Arriveds.Accepted id) s count parcel =
    Notes.Accepted count parcel (buffers_of (held_at s.endpoint id)) ∷ Notes.Got count parcel ∷ []
arrival_notes (Arriveds.Link id r) s count parcel = heard_notes s.here s.endpoint.heard r parcel

-- the ends after it, and the host's ids for them
abbrev pub ends_after : Arrived → ℕ → List EndNow → List EndNow
ends_after (Arriveds.Bad f) host ends = ends
ends_after Arriveds.NotOurs host ends = ends
ends_after (Arriveds.BadSpx f) host ends = ends
ends_after Arriveds.NoListener host ends = ends
ends_after Arriveds.NoRoom host ends = ends
ends_after Arriveds.Stranger host ends = ends
ends_after (Arriveds.Accepted id) host ends =
    ends ++ record { host = host; id = id; released = false; overlong = false } ∷ []
ends_after (Arriveds.Link id r) host ends = ends

abbrev pub here_after : Arrived → ℕ → List (ℕ × ℕ) → List (ℕ × ℕ)
here_after (Arriveds.Bad f) count here = here
here_after Arriveds.NotOurs count here = here
here_after (Arriveds.BadSpx f) count here = here
here_after Arriveds.NoListener count here = here
here_after Arriveds.NoRoom count here = here
here_after Arriveds.Stranger count here = here
here_after (Arriveds.Accepted id) count here = here ++ (id, count) ∷ []
here_after (Arriveds.Link id r) count here = here

pub record Delivers (old : World) (parcel host : ℕ) (answer : Arrived) (new : World) : Type 0 where
  pub letter : ParcelView
  pub comes : slice_get old.parcels parcel ≡ Some letter
  pub before : HostState
  pub there : slice_get old.hosts host ≡ Some before
  pub segment : letter.segment ≡ before.endpoint.network
  pub after : HostState
  pub arrives : Arrives before.endpoint letter.bytes old.moment answer after.endpoint
  pub here : after.here ≡ here_after answer (length old.ends) before.here
  pub hosts : new.hosts ≡ set old.hosts host after
  pub ends : new.ends ≡ ends_after answer host old.ends
  pub parcels : new.parcels ≡ old.parcels
  pub log : new.log ≡ old.log ++ arrival_notes answer after (length old.ends) parcel
  pub moment : new.moment ≡ old.moment

-- ---- a host is polled

abbrev pub given_notes : Option ℕ → Sent → ℕ → List Note
given_notes None what parcel = []
given_notes (Some who) what parcel = note_of what who parcel ∷ []

abbrev pub sending_notes : List (ℕ × ℕ) → Option (ℕ × Sent) → ℕ → List Note
sending_notes here None parcel = []
sending_notes here (Some s) parcel = given_notes (end_at here s.0) s.1 parcel

abbrev pub sent_letters : Option (Node × ℕ) → HostState → ℕ → List ℕ → List ParcelView
sent_letters None s host written = []
sent_letters (Some r) s host written =
    record {
      segment = s.endpoint.network;
      next = r.0;
      bytes = take r.1 written;
      sent_by = Some (AtHost host);
    } ∷ []

pub record PollsHost (old : World) (host : ℕ) (result : Option (Node × ℕ))
    (new : World) : Type 0 where
  pub before : HostState
  pub there : slice_get old.hosts host ≡ Some before
  pub after : HostState
  pub room : List ℕ
  pub written : List ℕ
  pub polls : Polls before.endpoint old.moment result room written after.endpoint
  pub here : after.here ≡ before.here
  pub hosts : new.hosts ≡ set old.hosts host after
  pub ends : new.ends ≡ old.ends
  pub parcels : new.parcels ≡ old.parcels ++ sent_letters result before host written
  pub log : new.log ≡ old.log ++ sending_notes before.here after.endpoint.said (length old.parcels)
  pub moment : new.moment ≡ old.moment

-- ---- a unit is taken from an end

abbrev pub whole_notes : Result TakenView EndFault → ℕ → List Note
whole_notes (Ok Nothing) who = []
whole_notes (Ok Part) who = []
whole_notes (Ok (Whole m)) who = Notes.HandsOut who m ∷ []
whole_notes (Ok PeerEnd) who = []
whole_notes (Err f) who = []

-- a take that is refused makes no entry, even if the message grew too long
abbrev pub unit_notes : Result TakenView EndFault → Option Unit → ℕ → List Note
unit_notes (Ok t) None who = []
unit_notes (Ok t) (Some u) who = Notes.TakesUnit who u ∷ []
unit_notes (Err f) u who = []

-- if there is enough memory, a take is refused only for this
abbrev pub marked_over : Result TakenView EndFault → EndNow → EndNow
marked_over (Ok t) e = e
marked_over (Err f) e = record e { overlong = true }

pub record TakesOf (old : World) (who : ℕ) (answer : Result TakenView EndFault)
    (new : World) : Type 0 where
  pub end' : EndNow
  pub at : slice_get old.ends who ≡ Some end'
  pub stands : end'.released ≡ false
  pub before : HostState
  pub there : slice_get old.hosts end'.host ≡ Some before
  pub after : HostState
  pub held : Held
  pub holds : held_at before.endpoint end'.id ≡ Some held
  pub answers : answer ≡ (take_end held).0
  pub changes : ChangesEnd before.endpoint after.endpoint end'.id (take_end held).1
  pub here : after.here ≡ before.here
  pub hosts : new.hosts ≡ set old.hosts end'.host after
  pub ends : new.ends ≡ set old.ends who (marked_over answer end')
  pub parcels : new.parcels ≡ old.parcels
  pub log : new.log
      ≡ old.log ++ unit_notes answer (first_of held.link.held) who ++ whole_notes answer who
  pub moment : new.moment ≡ old.moment
