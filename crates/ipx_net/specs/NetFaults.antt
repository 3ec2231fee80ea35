-- The faults that are found before an event does anything. Defined by this project.
use Rattle.std.specs.Prelude.{ℕ, Bool, ◌==◌, if◌then◌else◌, nat_lt, nat_le, length, Option, Some, None, slice_get, option_map}
use Rattle.ipx_wire.specs.declared.address.Network.{Network}
use Rattle.spx_theory.specs.World.{ParcelView, HostState}
use Rattle.ipx_net_hosts.specs.Hosts.{is_present_now}
use Rattle.ipx_net.specs.NetView.{NetNow, NetView}
use Rattle.ipx_net.specs.RouterMembers.{port_at}
use Rattle.ipx_net.specs.declared.event.Event.{Event}
use Rattle.ipx_net.specs.declared.event.Event.TheVariants as Events
use Rattle.ipx_net.specs.declared.event.Member.{Member}
use Rattle.ipx_net.specs.declared.event.Member.TheVariants as Members
use Rattle.ipx_net.specs.declared.fault.NetFault.{NetFault}
use Rattle.ipx_net.specs.declared.fault.NetFault.TheVariants.{Full, NoSuchEnd, NoSuchParcel, NotOnSegment, Spent}
use Rattle.ipx_net.specs.declared.place.Place.{Place}
use Rattle.ipx_net.specs.declared.place.Place.TheVariants as Places
use Rattle.ipx_net.specs.declared.routers.RouterNow.{RouterNow}

-- the network of a host, and of a router's port
abbrev pub network_of_host : Option HostState → Option Network
network_of_host s = option_map (λ x. x.endpoint.network) s

abbrev pub network_of_port : Option RouterNow → ℕ → Option Network
network_of_port None port = None
network_of_port (Some r) port = option_map (λ p. p.network) (port_at r.router.ports port)

abbrev pub network_at : NetNow → Place → Option Network
network_at n (Places.Host host) = network_of_host (slice_get n.world.hosts host)
network_at n (Places.Port router port) = network_of_port (slice_get n.routers router) port

-- no such end, or a released one
abbrev pub end_fault : Bool → Option NetFault
end_fault b = if b then None else Some NoSuchEnd

abbrev pub member_fault : Bool → Option NetFault
member_fault b = if b then None else Some NotOnSegment

-- the place is on another network than the parcel, or does not exist
abbrev pub segment_fault : Network → Option Network → Option NetFault
segment_fault segment None = Some NotOnSegment
segment_fault segment (Some network) = member_fault (network.0 == segment.0)

abbrev pub place_fault : Option ParcelView → Option Network → Option NetFault
place_fault None network = Some NoSuchParcel
place_fault (Some p) network = segment_fault p.segment network

abbrev pub poll_fault : NetNow → Member → Option NetFault
poll_fault n (Members.Host host) = member_fault (nat_lt host (length n.world.hosts))
poll_fault n (Members.Router router) = member_fault (nat_lt router (length n.routers))

abbrev pub is_present_at : NetNow → ℕ → Bool
is_present_at n who = is_present_now (slice_get n.world.ends who)

abbrev pub fault_before : NetNow → Event → Option NetFault
fault_before n (Events.Dial host socket to buffers) =
    member_fault (nat_lt host (length n.world.hosts))
fault_before n (Events.Send who message) = end_fault (is_present_at n who)
fault_before n (Events.Take who) = end_fault (is_present_at n who)
fault_before n (Events.Close who) = end_fault (is_present_at n who)
fault_before n (Events.Pace who window manual) = end_fault (is_present_at n who)
fault_before n (Events.Again who place) = end_fault (is_present_at n who)
fault_before n (Events.Release who) = end_fault (is_present_at n who)
fault_before n (Events.Tick now) = None
fault_before n (Events.Poll member) = poll_fault n member
fault_before n (Events.Deliver parcel place) =
    place_fault (slice_get n.world.parcels parcel) (network_at n place)
fault_before n (Events.Inject segment next bytes) = None

abbrev pub most_entries : ℕ
most_entries = 1000000

-- the first of all: memory was refused before, the log is full, the event names something that does not exist
abbrev pub first_fault : NetView → Event → Option NetFault
first_fault v e =
    if v.spent then Some Spent
    else if nat_le most_entries (length v.now.world.log) then Some Full
    else fault_before v.now e
