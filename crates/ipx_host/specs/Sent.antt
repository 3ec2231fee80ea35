-- What `ipx send` has done when it ends well. The entry point is `SendsWholeInput`. Nothing here is from a
-- public standard.
use Rattle.std.specs.Prelude.{◌≡◌, ◌≢◌, ◌<◌, ◌≤◌, ℕ, false, List, [], ◌∷◌, Option, Some, None}
use Rattle.std.specs.Io.KnownBytes.{IsAtEnd}
use Rattle.ipx_carrier.specs.Mapping.{node_at}
use Rattle.ipx_carrier.specs.Turns.{Peers, Turn}
use Rattle.ipx_config.specs.declared.host.HostConfig.{HostConfig}
use Rattle.ipx_wire.specs.declared.address.Address.{Address}
use Rattle.ipx_wire.specs.declared.address.Socket.{Socket}
use Rattle.spx_link.specs.Links.{count_of}
use Rattle.spx_link.specs.Offer.{dialed}
use Rattle.spx_messages.specs.EndpointView.{buffers_at, held_at}
use Rattle.spx_congestion.specs.Pacing.{made_pacer}
use Rattle.ipx_host.specs.Books.{IsUnused}
use Rattle.ipx_config.specs.Destinations.{is_nowhere}
use Rattle.ipx_host.specs.SendRounds.{SendState, Transfers}
use Rattle.ipx_host.specs.SendSteps.{noted}
use Rattle.ipx_host.specs.Transfer.{IsWholeAt}

-- a file gives a connection 1 to 8,192 buffers
abbrev pub HasBuffers : HostConfig → Type 0
HasBuffers file = (0 < file.buffers) × (file.buffers ≤ 8192)

-- a host as its file describes it, which listens at no socket. Its one link requests a connection to an
-- address, and is paced. Its id is the one assigned last, and neither 0 nor FFFF. The link has the buffers
-- that the file says. Nothing was noted of it yet, and nothing is read or counted
pub record IsDialing {K : Type 0} (file : HostConfig) (to : Address) (p : SendState K) (peers : Peers)
    (id : ℕ) : Type 0 where
  pub network : p.core.endpoint.network ≡ file.network
  pub node : p.core.endpoint.node ≡ node_at file.address
  pub router : p.core.endpoint.router ≡ node_at file.router
  pub among : peers ≡ (file.router ∷ []) ∷ []
  pub link : held_at p.core.endpoint id
      ≡ Some (record { link = dialed id file.socket to file.buffers 0; rest = None })
  pub range : (0 < id) × (id < 65535)
  pub last : p.core.endpoint.links.last ≡ id
  pub count : count_of p.core.endpoint.links ≡ 1
  pub alone : (q : ℕ) → q ≢ id → held_at p.core.endpoint q ≡ None
  pub no_listener : (s : Socket) → buffers_at p.core.endpoint s ≡ None
  pub paced : p.core.paced ≡ Some (record { id = id; pacer = made_pacer })
  pub unseen : p.noted ≡ noted false None
  pub unread : p.read ≡ false
  pub unended : p.closed ≡ false
  pub unused : IsUnused p.acked_bytes

-- such a host has run a transfer to an address that can be reached. The transfer ended well, and its reader
-- has nothing left of what it had. Its link is there, the end is queued, and everything that was queued on
-- the link is acknowledged
pub record SendsInput {K : Type 0} (file : HostConfig) (to : Address) (known left : Option (List ℕ))
    (drives : K → Turn → K → Type 0) : Type 0 where
  pub goes : is_nowhere file to ≡ false
  pub id : ℕ
  pub peers : Peers
  pub start : SendState K
  pub last : SendState K
  pub dials : IsDialing file to start peers id
  pub begins : start.known ≡ known
  pub transfers : Transfers start last drives peers id
  pub ends : last.known ≡ left
  pub all : IsAtEnd left
  pub whole : IsWholeAt last.core.endpoint id

-- the same, and the file gives its connection 1 to 8,192 buffers
pub record SendsWholeInput {K : Type 0} (file : HostConfig) (to : Address) (known left : Option (List ℕ))
    (drives : K → Turn → K → Type 0) : Type 0 where
  pub buffers : HasBuffers file
  pub sends : SendsInput file to known left drives
