-- What a network in memory holds, its scene, and its invariants.
use Rattle.std.specs.Prelude.{ℕ, ◌≡◌, ◌<◌, ◌≤◌, ◌==◌, Bool, false, List, [], ◌∷◌, map, Option, Some, None, slice_get, if◌then◌else◌}
use Rattle.ipx_wire.specs.declared.address.Network.{Network}
use Rattle.ipx_wire.specs.declared.address.Node.{Node}
use Rattle.ipx_wire.specs.declared.address.Socket.{Socket}
use Rattle.spx_link.specs.Limits.{most_units}
use Rattle.spx_theory.specs.Note.{Note}
use Rattle.spx_theory.specs.Scene.{Scene, PresentEnd}
use Rattle.spx_messages.specs.WrittenPackets.{Home}
use Rattle.spx_messages.specs.EndpointView.{Held, EndpointView, held_at, buffers_at}
use Rattle.spx_messages.specs.Polls.{home_of}

-- a host: its endpoint, and the end of each of its ids
pub record HostState : Type 0 where
  pub endpoint : EndpointView
  pub here : List (ℕ × ℕ)

-- an end by its host and id. An id may be given again after its end is released
pub record EndNow : Type 0 where
  pub host : ℕ
  pub id : ℕ
  pub released : Bool
  pub overlong : Bool

-- the sender of a packet: a host, or a router's port
pub data Place : Type 0 where
  AtHost : (host : ℕ) → Place
  AtPort : (router port : ℕ) → Place

-- a parcel without the place of its bytes in memory: the network that it was sent on, and its next node
pub record ParcelView : Type 0 where
  pub segment : Network
  pub next : Node
  pub bytes : List ℕ
  pub sent_by : Option Place

pub record World : Type 0 where
  pub hosts : List HostState
  pub ends : List EndNow
  pub parcels : List ParcelView
  pub log : List Note
  pub moment : ℕ

abbrev pub end_at : List (ℕ × ℕ) → ℕ → Option ℕ
end_at [] id = None
end_at (x ∷ xs) id = if x.0 == id then Some x.1 else end_at xs id

-- ---- the scene

abbrev pub held_in : Option HostState → ℕ → Option Held
held_in None id = None
held_in (Some s) id = held_at s.endpoint id

-- what an end has: nothing after it is released
abbrev pub held_of : List HostState → EndNow → Option Held
held_of hosts e = if e.released then None else held_in (slice_get hosts e.host) e.id

abbrev pub present_with : EndNow → Option Held → PresentEnd
present_with e None = record { host = e.host; own = e.id; link = None; rest = None; overlong = e.overlong }
present_with e (Some h) =
    record { host = e.host; own = e.id; link = Some h.link; rest = h.rest; overlong = e.overlong }

abbrev pub present_of : List HostState → EndNow → PresentEnd
present_of hosts e = present_with e (held_of hosts e)

abbrev pub home_at : HostState → Home
home_at s = home_of s.endpoint

abbrev pub bytes_of : ParcelView → List ℕ
bytes_of p = p.bytes

abbrev pub segment_of : ParcelView → Network
segment_of p = p.segment

abbrev pub scene_of : World → Scene
scene_of w =
    record {
      homes = map home_at w.hosts;
      ends = map (present_of w.hosts) w.ends;
      parcels = map bytes_of w.parcels;
      segments = map segment_of w.parcels;
      log = w.log;
    }

-- ---- invariants

-- an end that is not released: its host knows it by its id, and holds a link with that id
pub record IsPresentAt (hosts : List HostState) (who : ℕ) (e : EndNow) : Type 0 where
  pub station : HostState
  pub there : slice_get hosts e.host ≡ Some station
  pub known : end_at station.here e.id ≡ Some who
  pub held : Held
  pub live : held_at station.endpoint e.id ≡ Some held

-- the end of an id of a host
pub record IsEndOf (ends : List EndNow) (host id who : ℕ) : Type 0 where
  pub end' : EndNow
  pub at : slice_get ends who ≡ Some end'
  pub host_is : end'.host ≡ host
  pub id_is : end'.id ≡ id
  pub stands : end'.released ≡ false

-- of one host: each of its ids is that of one of its own ends, and each of its links has an end
pub record IsHostInOrder (ends : List EndNow) (host : ℕ) (s : HostState) : Type 0 where
  pub names : (id who : ℕ) → end_at s.here id ≡ Some who → IsEndOf ends host id who
  pub named : (id : ℕ) (h : Held) → held_at s.endpoint id ≡ Some h
      → (who : ℕ) × (end_at s.here id ≡ Some who)
  pub range : (socket : Socket) (buffers : ℕ) → buffers_at s.endpoint socket ≡ Some buffers
      → (0 < buffers) × (buffers ≤ most_units)

pub record InOrder (w : World) : Type 0 where
  pub ends : (who : ℕ) (e : EndNow) → slice_get w.ends who ≡ Some e → e.released ≡ false
      → IsPresentAt w.hosts who e
  pub hosts : (k : ℕ) (s : HostState) → slice_get w.hosts k ≡ Some s → IsHostInOrder w.ends k s
