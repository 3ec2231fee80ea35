-- Which packets fail a source check of a router, and how they are counted. Defined by this project.
use Rattle.std.specs.Prelude.{◌≡◌, ◌==◌, ◌&&◌, ◌||◌, ◌%◌, ℕ, Bool, true, false, not, List, Some, None, replicate, slice_get, slice_index}
use Rattle.ipx_wire.specs.Assigned.{local_network}
use Rattle.ipx_wire.specs.Ipx.{BeginsWith, PacketView}
use Rattle.ipx_wire.specs.declared.address.Node.{Node}
use Rattle.ipx_wire.specs.declared.ipx.packet.IpxHeader.{IpxHeader}
use Rattle.ipx_router.specs.declared.classify.PacketClass.{PacketClass}
use Rattle.ipx_router.specs.declared.classify.PacketClass.TheVariants as classes
use Rattle.ipx_router.specs.declared.port.Port.{Port}
use Rattle.ipx_router.specs.Classify.{class_of, is_node}
use Rattle.ipx_carrier.specs.Counting.{raised}
use Rattle.ipx_source_checks.specs.declared.drops.SourceDropCount.{SourceDropCount}
use Rattle.ipx_source_checks.specs.declared.drops.SourceDrops.{SourceDrops}
use Rattle.ipx_source_checks.specs.declared.failed_check.CheckedPort.{CheckedPort}
use Rattle.ipx_source_checks.specs.declared.failed_check.FailedCheck.{FailedCheck}
use Rattle.ipx_source_checks.specs.declared.failed_check.SourceFault.{SourceFault}
use Rattle.ipx_source_checks.specs.declared.failed_check.SourceFault.TheVariants.{ForwardedControl, GroupSource, LoopedSource}

-- a packet is RIP or SAP for the router itself
abbrev pub is_control : PacketClass → Bool
is_control classes.Rip = true
is_control classes.Sap = true
is_control classes.Forward = false
is_control (classes.Dropped reason) = false

-- RIP or SAP for the router with this port, which another router forwarded. Each router that forwards a
-- packet adds a hop, and a neighbour sends its own packets with none
abbrev pub is_forwarded_control : Port → IpxHeader → Bool
is_forwarded_control at h = not (h.hops == 0) && is_control (class_of at h)

-- a node is a group of stations, whose address has the bit that is sent first, or zero: no station has either
abbrev pub is_group_or_zero : Node → Bool
is_group_or_zero node =
    (slice_index node.0 0 % 2 == 1) || is_node node (record { 0 = replicate 6 0 })

-- RIP or SAP for the router, which was not forwarded and came to an Ethernet port from such a node
abbrev pub is_group_source : CheckedPort → IpxHeader → Bool
is_group_source at h =
    at.ethernet && (h.hops == 0) && is_group_or_zero h.from.node && is_control (class_of at.port h)

-- a packet for a network other than the port's, which claims to come from that same network: a node of it
-- needs no router to send there
abbrev pub is_looped_source : Port → IpxHeader → Bool
is_looped_source at h = not (h.to.network.0 == local_network) && not (h.to.network.0 == at.network.0)
    && (h.from.network.0 == h.to.network.0)

-- a packet that came to a port fails a check
abbrev pub FailsCheck : CheckedPort → IpxHeader → SourceFault → Type 0
FailsCheck at h ForwardedControl = is_forwarded_control at.port h ≡ true
FailsCheck at h GroupSource = is_group_source at h ≡ true
FailsCheck at h LoopedSource = is_looped_source at.port h ≡ true

-- bytes that came to this port, which has this number, are a packet that fails a check; the network is the port's
abbrev pub FailsCheckAt : CheckedPort → ℕ → List ℕ → FailedCheck → Type 0
FailsCheckAt at port bytes f = (p : PacketView) × BeginsWith bytes p × FailsCheck at p.header f.fault
    × (f.packet ≡ record { port = port; to = Some p.header.to; from = Some p.header.from })
    × (f.network ≡ at.port.network)

-- the same for bytes that came to the port with this number, which exists
abbrev pub FailsAt : List CheckedPort → ℕ → List ℕ → FailedCheck → Type 0
FailsAt ports port bytes f = (at : CheckedPort) × (slice_get ports port ≡ Some at) × FailsCheckAt at port bytes f

-- nothing was dropped, by one check and by all
abbrev pub no_drops : SourceDropCount
no_drops = record { count = 0; last = None; network = None }

abbrev pub nothing_dropped_yet : SourceDrops
nothing_dropped_yet =
    record { forwarded_control = no_drops; group_source = no_drops; looped_source = no_drops }

-- one more was dropped, and it is the last
abbrev pub with_one_more_drop : FailedCheck → SourceDropCount → SourceDropCount
with_one_more_drop f d = record { count = raised d.count; last = Some f.packet; network = Some f.network }

-- it is counted by its check alone
abbrev pub with_drop_by : SourceFault → FailedCheck → SourceDrops → SourceDrops
with_drop_by ForwardedControl f d =
    record d { forwarded_control = with_one_more_drop f d.forwarded_control }
with_drop_by GroupSource f d = record d { group_source = with_one_more_drop f d.group_source }
with_drop_by LoopedSource f d = record d { looped_source = with_one_more_drop f d.looped_source }

abbrev pub one_more_failed : FailedCheck → SourceDrops → SourceDrops
one_more_failed f = with_drop_by f.fault f
