-- What the calls on ends do to a world, exactly, if they are not refused.
use Rattle.std.specs.Prelude.{ℕ, ◌≡◌, ◌≢◌, ◌<◌, ◌≤◌, Bool, true, false, List, [], ◌∷◌, ◌++◌, length, set, Some, None, slice_get}
use Rattle.ipx_wire.specs.declared.address.Network.{Network}
use Rattle.ipx_wire.specs.declared.address.Node.{Node}
use Rattle.ipx_wire.specs.declared.address.Socket.{Socket}
use Rattle.ipx_wire.specs.declared.address.Address.{Address}
use Rattle.spx_link.specs.Limits.{end_stream, most_units, most_links}
use Rattle.spx_link.specs.LinkView.{LinkView}
use Rattle.spx_link.specs.Links.{count_of, IsNextFree}
use Rattle.spx_link.specs.Offer.{refusal, offer_link, end_link, pace_link, again_link, dialed}
use Rattle.spx_messages.specs.Message.{MessageView}
use Rattle.spx_messages.specs.Cut.{cut_of}
use Rattle.spx_theory.specs.Note.{Note}
use Rattle.spx_messages.specs.Changes.{AddsEnd, ChangesEnd, ReleasesEnd, SameBut}
use Rattle.spx_messages.specs.EndpointView.{Held, held_at}
use Rattle.spx_theory.specs.World.{World, HostState, EndNow, end_at}
use Rattle.spx_theory.specs.Note as Notes

pub record DialsFrom (old : World) (host : ℕ) (socket : Socket) (to : Address) (buffers id : ℕ)
    (new : World) : Type 0 where
  -- owed by the caller
  pub range : (0 < buffers) × (buffers ≤ most_units)
  pub before : HostState
  pub there : slice_get old.hosts host ≡ Some before
  pub after : HostState
  pub room : count_of before.endpoint.links ≢ most_links
  pub free : IsNextFree before.endpoint.links id
  pub adds : AddsEnd before.endpoint after.endpoint id (dialed id socket to buffers old.moment)
  pub here : after.here ≡ before.here ++ (id, length old.ends) ∷ []
  pub hosts : new.hosts ≡ set old.hosts host after
  pub ends : new.ends
      ≡ old.ends ++ record { host = host; id = id; released = false; overlong = false } ∷ []
  pub parcels : new.parcels ≡ old.parcels
  pub log : new.log ≡ old.log ++ Notes.Opened (length old.ends) host buffers ∷ []
  pub moment : new.moment ≡ old.moment

-- the link of an end changes, with this entry
pub record ChangesLink (old : World) (who : ℕ) (f : LinkView → LinkView) (note : Note)
    (new : World) : Type 0 where
  pub end' : EndNow
  pub at : slice_get old.ends who ≡ Some end'
  pub stands : end'.released ≡ false
  pub before : HostState
  pub there : slice_get old.hosts end'.host ≡ Some before
  pub after : HostState
  pub held : Held
  pub holds : held_at before.endpoint end'.id ≡ Some held
  pub live : refusal held.link.state ≡ None
  pub changes : ChangesEnd before.endpoint after.endpoint end'.id
      (record held { link = f held.link })
  pub here : after.here ≡ before.here
  pub hosts : new.hosts ≡ set old.hosts end'.host after
  pub ends : new.ends ≡ old.ends
  pub parcels : new.parcels ≡ old.parcels
  pub log : new.log ≡ old.log ++ note ∷ []
  pub moment : new.moment ≡ old.moment

pub record SendsTo (old : World) (who : ℕ) (m : MessageView) (new : World) : Type 0 where
  pub stream : m.stream < end_stream
  pub short : length m.body ≤ 65535
  pub changes : ChangesLink old who (λ l. offer_link l (cut_of m)) (Notes.HandsIn who m) new

abbrev pub Closes : World → ℕ → World → Type 0
Closes old who new = ChangesLink old who end_link (Notes.AsksEnd who) new

-- the link of an end changes, whatever its state, without an entry
pub record ChangesQuietly (old : World) (who : ℕ) (f : LinkView → LinkView)
    (new : World) : Type 0 where
  pub end' : EndNow
  pub at : slice_get old.ends who ≡ Some end'
  pub stands : end'.released ≡ false
  pub before : HostState
  pub there : slice_get old.hosts end'.host ≡ Some before
  pub after : HostState
  pub held : Held
  pub holds : held_at before.endpoint end'.id ≡ Some held
  pub changes : ChangesEnd before.endpoint after.endpoint end'.id
      (record held { link = f held.link })
  pub here : after.here ≡ before.here
  pub hosts : new.hosts ≡ set old.hosts end'.host after
  pub ends : new.ends ≡ old.ends
  pub parcels : new.parcels ≡ old.parcels
  pub log : new.log ≡ old.log
  pub moment : new.moment ≡ old.moment

abbrev pub PacesOf : World → ℕ → ℕ → Bool → World → Type 0
PacesOf old who window manual new = ChangesQuietly old who (λ l. pace_link l window manual) new

abbrev pub AsksAgainOf : World → ℕ → ℕ → World → Type 0
AsksAgainOf old who place new = ChangesQuietly old who (λ l. again_link l place) new

pub record ReleasesOf (old : World) (who : ℕ) (new : World) : Type 0 where
  pub end' : EndNow
  pub at : slice_get old.ends who ≡ Some end'
  pub stands : end'.released ≡ false
  pub before : HostState
  pub there : slice_get old.hosts end'.host ≡ Some before
  pub after : HostState
  pub releases : ReleasesEnd before.endpoint after.endpoint end'.id
  pub forgotten : end_at after.here end'.id ≡ None
  pub known : (q : ℕ) → q ≢ end'.id → end_at after.here q ≡ end_at before.here q
  pub hosts : new.hosts ≡ set old.hosts end'.host after
  pub ends : new.ends ≡ set old.ends who (record end' { released = true })
  pub parcels : new.parcels ≡ old.parcels
  pub log : new.log ≡ old.log ++ Notes.Released who ∷ []
  pub moment : new.moment ≡ old.moment

-- a call on a host, or on an end of it, is refused: nothing changes
pub record RefusesAt (old : World) (host : ℕ) (new : World) : Type 0 where
  pub before : HostState
  pub there : slice_get old.hosts host ≡ Some before
  pub after : HostState
  pub same : SameBut before.endpoint after.endpoint
  pub said : after.endpoint.said ≡ before.endpoint.said
  pub heard : after.endpoint.heard ≡ before.endpoint.heard
  pub here : after.here ≡ before.here
  pub hosts : new.hosts ≡ set old.hosts host after
  pub ends : new.ends ≡ old.ends
  pub parcels : new.parcels ≡ old.parcels
  pub log : new.log ≡ old.log
  pub moment : new.moment ≡ old.moment

pub record InjectsInto (old : World) (segment : Network) (next : Node) (bytes : List ℕ)
    (new : World) : Type 0 where
  pub hosts : new.hosts ≡ old.hosts
  pub ends : new.ends ≡ old.ends
  pub parcels : new.parcels ≡ old.parcels ++ record {
    segment = segment;
    next = next;
    bytes = bytes;
    sent_by = None;
  } ∷ []
  pub log : new.log ≡ old.log ++ Notes.Injected (length old.parcels) ∷ []
  pub moment : new.moment ≡ old.moment

pub record Ticks (old : World) (now : ℕ) (new : World) : Type 0 where
  pub hosts : new.hosts ≡ old.hosts
  pub ends : new.ends ≡ old.ends
  pub parcels : new.parcels ≡ old.parcels
  pub log : new.log ≡ old.log
  pub moment : new.moment ≡ now
