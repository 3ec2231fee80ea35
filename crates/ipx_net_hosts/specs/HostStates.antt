-- What the calls on one host do to it.
use Rattle.std.specs.Prelude.{ℕ, ◌≡◌, ◌≢◌, ◌++◌, ◌∷◌, [], List, Option, Some, None}
use Rattle.ipx_wire.specs.declared.address.Address.{Address}
use Rattle.ipx_wire.specs.declared.address.Socket.{Socket}
use Rattle.spx_link.specs.Limits.{most_links}
use Rattle.spx_link.specs.Links.{IsNextFree, count_of}
use Rattle.spx_link.specs.Offer.{dialed}
use Rattle.spx_link.specs.declared.outgoing.Sent.{Sent}
use Rattle.spx_messages.specs.Changes.{AddsEnd, ChangesEnd, ReleasesEnd, SameBut}
use Rattle.spx_messages.specs.EndpointView.{Held}
use Rattle.spx_theory.specs.World.{HostState, end_at}
use Rattle.ipx_net_hosts.specs.declared.refusal.Refusal.{Refusal}
use Rattle.ipx_net_hosts.specs.declared.refusal.Refusal.TheVariants as Refusals

-- nothing changes
pub record StaysAt (old new : HostState) : Type 0 where
  pub same : SameBut old.endpoint new.endpoint
  pub said : new.endpoint.said ≡ old.endpoint.said
  pub heard : new.endpoint.heard ≡ old.endpoint.heard
  pub here : new.here ≡ old.here

-- an end that refuses stays as it is. If the host itself is out of memory, nothing is promised
abbrev pub RefusalKeeps : Refusal → HostState → HostState → Type 0
RefusalKeeps (Refusals.ByEnd f) old new = StaysAt old new
RefusalKeeps Refusals.OutOfMemory old new = Unit {0}

-- a link is dialled, and becomes the end with this number
pub record DialsAt (old : HostState) (who : ℕ) (socket : Socket) (to : Address)
    (buffers now id : ℕ) (new : HostState) : Type 0 where
  pub room : count_of old.endpoint.links ≢ most_links
  pub free : IsNextFree old.endpoint.links id
  pub adds : AddsEnd old.endpoint new.endpoint id (dialed id socket to buffers now)
  pub here : new.here ≡ old.here ++ (id, who) ∷ []

-- what is held under an id is replaced by this
pub record ChangesAt (old : HostState) (id : ℕ) (after : Held) (new : HostState) : Type 0 where
  pub changes : ChangesEnd old.endpoint new.endpoint id after
  pub here : new.here ≡ old.here

-- an id is released
pub record ReleasesAt (old : HostState) (id : ℕ) (new : HostState) : Type 0 where
  pub releases : ReleasesEnd old.endpoint new.endpoint id
  pub forgotten : end_at new.here id ≡ None
  pub known : (q : ℕ) → q ≢ id → end_at new.here q ≡ end_at old.here q

-- which end gave the last packet, and what kind of packet it was
abbrev pub given_as : Option ℕ → Sent → Option (ℕ × Sent)
given_as None what = None
given_as (Some who) what = Some (who, what)

abbrev pub speaker : List (ℕ × ℕ) → Option (ℕ × Sent) → Option (ℕ × Sent)
speaker here None = None
speaker here (Some s) = given_as (end_at here s.0) s.1

-- the end whose link read the last datagram
abbrev pub reader_of : List (ℕ × ℕ) → Option ℕ → Option ℕ
reader_of here None = None
reader_of here (Some id) = end_at here id
