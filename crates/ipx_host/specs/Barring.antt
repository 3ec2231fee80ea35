-- Which requests for a connection a host rejects, and what its core reads. Nothing here is from a public
-- standard.
use Rattle.std.specs.Prelude.{◌≡◌, ◌⊎◌, ℕ, List, false, None}
use Rattle.ipx_wire.specs.Connection.{IsConnectionPacket}
use Rattle.ipx_wire.specs.Ipx.{PacketView}
use Rattle.ipx_wire.specs.declared.address.Address.{Address}
use Rattle.ipx_wire.specs.declared.spx.packet.SpxHeader.{SpxHeader}
use Rattle.spx_messages.specs.WrittenPackets.{IsRequestFor}
use Rattle.ipx_carrier.specs.Counting.{raised}
use Rattle.ipx_carrier.specs.HostCore.{HearOutOfMemory}
use Rattle.ipx_config.specs.AllowedPeers.{may_ask, named_in}
use Rattle.ipx_host.specs.Noting.{HearsAndNotes}
use Rattle.ipx_host.specs.Paced.{NotesAnswer}
use Rattle.ipx_host.specs.declared.paced_host_core.PacedHostCore.{PacedHostCore}

-- these bytes request a connection, from this address
pub record IsAskedBy (bytes : List ℕ) (a : Address) : Type 0 where
  pub packet : PacketView
  pub header : SpxHeader
  pub body : List ℕ
  pub is : IsConnectionPacket packet header body bytes
  pub request : IsRequestFor header
  pub from : packet.header.from ≡ a

-- these bytes request a connection, and their source address may not connect
abbrev pub IsBarred : PacedHostCore → List ℕ → Type 0
IsBarred core bytes = (a : Address) × IsAskedBy bytes a
    × (may_ask (named_in core.from) core.network a ≡ false)

-- how the core of a host reads a datagram. A request from one who may not connect is counted, and the
-- endpoint is unchanged. Anything else is read by the endpoint and noted, and the pacer is updated
abbrev pub HearsAllowed : PacedHostCore → List ℕ → ℕ → PacedHostCore → Type 0
HearsAllowed old bytes now new =
    ((IsBarred old bytes → ⊥) × HearsAndNotes old.endpoint bytes now new.endpoint new.came
    × NotesAnswer old.endpoint bytes now new.endpoint old.paced new.paced
    × (new ≡ record old { endpoint = new.endpoint; came = new.came; paced = new.paced; moment = now }))
    ⊎ (IsBarred old bytes
    × (new ≡ record old { came = None; rejected = raised old.rejected; moment = now }))

-- how the core of a host loses a datagram as it runs out of memory: as its endpoint does. It is no request from
-- one who may not connect, since none of those needs memory
abbrev pub HearAllowedOutOfMemory : PacedHostCore → List ℕ → ℕ → PacedHostCore → Type 0
HearAllowedOutOfMemory old bytes now new =
    (IsBarred old bytes → ⊥) × HearOutOfMemory old.endpoint bytes new.endpoint
    × (new ≡ record old { endpoint = new.endpoint; moment = now })
