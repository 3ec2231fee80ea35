-- What the lines of a script do to its hosts and to its ends. Defined by this project.
use Rattle.std.specs.Prelude.{◌≡◌, ◌⊎◌, ℕ, ◌+◌, ◌<◌, ◌%◌, zero, suc, List, [], ◌∷◌, ◌++◌, Option, Some, None, Result, Ok, Err, option_map, slice_get, slice_set}
use Rattle.ipx_wire.specs.declared.address.Address.{Address}
use Rattle.ipx_wire.specs.declared.address.Socket.{Socket}
use Rattle.spx_link.specs.LinkView.{numbers_of}
use Rattle.spx_link.specs.Links.{IsNextFree}
use Rattle.spx_link.specs.declared.state.State.{State}
use Rattle.spx_link.specs.Offer.{dialed, end_link, offer_link}
use Rattle.spx_messages.specs.Cut.{cut_of}
use Rattle.spx_messages.specs.Message.{MessageView}
use Rattle.spx_messages.specs.Changes.{AddsEnd, ChangesEnd, SameBut}
use Rattle.spx_messages.specs.EndpointView.{EndpointView, Held, held_at}
use Rattle.ipx_carrier.specs.Counting.{raised}
use Rattle.ipx_carrier.specs.declared.host_core.HostCore.{HostCore}
use Rattle.ipx_sim_udp.specs.declared.runner.Runner.{Runner}
use Rattle.ipx_sim_udp.specs.declared.layout_binding.End.{End}
use Rattle.ipx_sim_udp.specs.declared.layout_binding.UdpNet.{UdpNet}
use Rattle.ipx_sim_udp.specs.declared.stop.UdpScriptFault.{UdpScriptFault}
use Rattle.ipx_sim_udp.specs.declared.stop.UdpScriptFault.TheVariants as Stops

-- ---- what an endpoint does

-- it asks for a connection, whose link has this id
abbrev pub Dials : Socket → Address → ℕ → ℕ → ℕ → EndpointView → EndpointView → Type 0
Dials socket to buffers now id old new =
    IsNextFree old.links id × AddsEnd old new id (dialed id socket to buffers now)

-- a message is split, and its units are queued on the link with an id
abbrev pub Sends : ℕ → MessageView → EndpointView → EndpointView → Type 0
Sends id message old new = (h : Held) × (held_at old id ≡ Some h)
    × ChangesEnd old new id (record h { link = offer_link h.link (cut_of message) })

-- the end of the link with an id is asked for
abbrev pub ClosesEnd : ℕ → EndpointView → EndpointView → Type 0
ClosesEnd id old new = (h : Held) × (held_at old id ≡ Some h)
    × ChangesEnd old new id (record h { link = end_link h.link })

-- ---- what becomes of the hosts

-- the endpoint of a host does that: its sockets, peers and clock stay, and so does each other host
abbrev pub AtHost : (EndpointView → EndpointView → Type 0) → ℕ → List (Runner HostCore) → List (Runner HostCore) → Type 0
AtHost DoesNamed host old new = (runner : Runner HostCore) × (after : EndpointView)
    × (slice_get old host ≡ Some runner) × DoesNamed runner.core.endpoint after
    × (new ≡ slice_set old host (record runner { core = record runner.core { endpoint = after } }))

-- the host of an end does that
abbrev pub AtEnd : (ℕ → EndpointView → EndpointView → Type 0) → ℕ → UdpNet → UdpNet → Type 0
AtEnd DoesNamed who old new = (end' : End) × (slice_get old.ends.items who ≡ Some end')
    × AtHost (DoesNamed end'.id) end'.host old.hosts.items new.hosts.items

-- no end has this number, or its host does not exist
abbrev pub IsNoEnd : UdpNet → ℕ → Type 0
IsNoEnd s who = (slice_get s.ends.items who ≡ None)
    ⊎ ((end' : End) × (slice_get s.ends.items who ≡ Some end')
    × (slice_get s.hosts.items end'.host ≡ None))

-- routers, the order of the turns, the time and the count of unmapped packets stay
pub record KeepsOtherParts (old new : UdpNet) : Type 0 where
  pub routers : new.routers ≡ old.routers
  pub order : new.order ≡ old.order
  pub moment : new.moment ≡ old.moment
  pub unmapped : new.unmapped ≡ old.unmapped

-- ---- lines

-- a new end: no message went in or out of it
abbrev pub new_udp_end : ℕ → ℕ → End
new_udp_end host id = record { host = host; id = id; given = 0; out = 0 }

-- `dial`: the host asks for a connection, whose end comes after the others. If the host refuses, or does not
-- exist, no end is made
abbrev pub DialsFromHost : ℕ → Socket → Address → ℕ → UdpNet → UdpNet → Result (Unit {0}) UdpScriptFault → Type 0
DialsFromHost host socket to buffers old new (Ok x) = (id : ℕ)
    × AtHost (Dials socket to buffers old.moment id) host old.hosts.items new.hosts.items
    × (new.ends.items ≡ old.ends.items ++ new_udp_end host id ∷ [])
DialsFromHost host socket to buffers old new (Err (Stops.Refused f)) =
    AtHost SameBut host old.hosts.items new.hosts.items × (new.ends.items ≡ old.ends.items)
DialsFromHost host socket to buffers old new (Err Stops.Bad) =
    (slice_get old.hosts.items host ≡ None) × (new.hosts.items ≡ old.hosts.items) × (new.ends.items ≡ old.ends.items)
DialsFromHost host socket to buffers old new (Err Stops.Memory) = (id : ℕ)
    × AtHost (Dials socket to buffers old.moment id) host old.hosts.items new.hosts.items
    × (new.ends.items ≡ old.ends.items)
DialsFromHost host socket to buffers old new (Err Stops.NoSuchEnd) = ⊥
DialsFromHost host socket to buffers old new (Err Stops.Device) = ⊥
DialsFromHost host socket to buffers old new (Err Stops.Write) = ⊥

-- `send`: a message is queued at an end, and counted. If the end refuses, or does not exist, it is not
abbrev pub SendsAt : ℕ → MessageView → UdpNet → UdpNet → Result (Unit {0}) UdpScriptFault → Type 0
SendsAt who message old new (Ok x) = (end' : End) × (slice_get old.ends.items who ≡ Some end')
    × AtHost (Sends end'.id message) end'.host old.hosts.items new.hosts.items
    × (new.ends.items ≡ slice_set old.ends.items who (record end' { given = raised end'.given }))
SendsAt who message old new (Err (Stops.Refused f)) =
    AtEnd (λ id. SameBut) who old new × (new.ends.items ≡ old.ends.items)
SendsAt who message old new (Err Stops.NoSuchEnd) =
    (new.hosts.items ≡ old.hosts.items) × (new.ends.items ≡ old.ends.items)
SendsAt who message old new (Err Stops.Bad) = ⊥
SendsAt who message old new (Err Stops.Memory) = ⊥
SendsAt who message old new (Err Stops.Device) = ⊥
SendsAt who message old new (Err Stops.Write) = ⊥

-- `close`: an end is asked to end its connection
abbrev pub ClosesAt : ℕ → UdpNet → UdpNet → Result (Unit {0}) UdpScriptFault → Type 0
ClosesAt who old new (Ok x) = AtEnd ClosesEnd who old new × (new.ends.items ≡ old.ends.items)
ClosesAt who old new (Err (Stops.Refused f)) =
    AtEnd (λ id. SameBut) who old new × (new.ends.items ≡ old.ends.items)
ClosesAt who old new (Err Stops.NoSuchEnd) = IsNoEnd old who
    × (new.hosts.items ≡ old.hosts.items) × (new.ends.items ≡ old.ends.items)
ClosesAt who old new (Err Stops.Bad) = ⊥
ClosesAt who old new (Err Stops.Memory) = ⊥
ClosesAt who old new (Err Stops.Device) = ⊥
ClosesAt who old new (Err Stops.Write) = ⊥

-- ---- messages of one byte

abbrev pub of_byte : ℕ → MessageView
of_byte byte = record { stream = 0; body = byte ∷ [] }

-- one is queued at an end, or memory for it was refused and nothing happened
abbrev pub SendsByte : ℕ → ℕ → UdpNet → UdpNet → Result (Unit {0}) UdpScriptFault → Type 0
SendsByte who byte old new result = SendsAt who (of_byte byte) old new result
    ⊎ ((result ≡ Err Stops.Memory) × (new ≡ old))

-- this many are queued at an end one after another; the k-th from 0 is k modulo 256
abbrev pub FillsUdpEnd : ℕ → ℕ → UdpNet → UdpNet → Type 0
FillsUdpEnd who zero old new = new ≡ old
FillsUdpEnd who (suc k) old new = (mid : UdpNet) × FillsUdpEnd who k old mid
    × SendsAt who (of_byte (k % 256)) mid new (Ok tt)

-- `fill`: all of them, or those before the first that was refused
abbrev pub FillsAt : ℕ → ℕ → UdpNet → UdpNet → Result (Unit {0}) UdpScriptFault → Type 0
FillsAt who count old new (Ok x) = FillsUdpEnd who count old new
FillsAt who count old new (Err stop) = (k : ℕ) × (mid : UdpNet) × (k < count)
    × FillsUdpEnd who k old mid × SendsByte who (k % 256) mid new (Err stop)

-- ---- what is printed of an end

-- what its host holds under its id
abbrev pub held_by_runner : Option (Runner HostCore) → ℕ → Option Held
held_by_runner None id = None
held_by_runner (Some r) id = held_at r.core.endpoint id

abbrev pub held_of_end : UdpNet → End → Option Held
held_of_end s end' = held_by_runner (slice_get s.hosts.items end'.host) end'.id

-- the state of its link, if it has one
abbrev pub link_state_of : UdpNet → End → Option State
link_state_of s end' = option_map (λ h. h.link.state) (held_of_end s end')

-- its next number, 0 if it has no link
abbrev pub next_of : Option Held → ℕ
next_of None = 0
next_of (Some h) = (numbers_of h.link).next

abbrev pub next_at : UdpNet → End → ℕ
next_at s end' = next_of (held_of_end s end')
