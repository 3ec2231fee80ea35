-- How a packet for another network is handled: by its route it is forwarded or dropped (Novell IPX Router
-- Specification, forwarding).
use Rattle.std.specs.Prelude.{◌≡◌, ℕ, ◌+◌, List, Option, Some, None, nat_le, ◌==◌, if◌then◌else◌, unwrap_or}
use Rattle.ipx_wire.specs.declared.ipx.packet.IpxHeader.{IpxHeader}
use Rattle.ipx_wire.specs.Assigned.{local_network}
use Rattle.ipx_wire.specs.Ipx.{PacketView}
use Rattle.ipx_router.specs.declared.port.Port.{Port}
use Rattle.ipx_router.specs.declared.port.PortNow.{PortNow}
use Rattle.ipx_router.specs.declared.reason.Reason.TheVariants.{NoRoute, HopLimit}
use Rattle.ipx_router.specs.declared.forwarding.Forwarding.{Forwarding}
use Rattle.ipx_router.specs.declared.forwarding.Forwarding.TheVariants as outcomes
use Rattle.ipx_router.specs.declared.route.Route.{Route}
use Rattle.ipx_router.specs.Knowledge.{Routes}
use Rattle.ipx_router.specs.RouteChoice.{IsRouteOrNone}
use Rattle.ipx_router.specs.RouterPackets.{AreBytesOf}
use Rattle.ipx_router.specs.OutcomeView.{OutcomeView, Forward, Dropped}

-- a packet that fifteen routers have forwarded is dropped; the next node is the neighbour or, on a port's own
-- network, the destination
abbrev pub by_route : IpxHeader → Option Route → Forwarding
by_route h None = outcomes.Dropped (NoRoute h.to.network)
by_route h (Some route) =
    if nat_le 15 h.hops then outcomes.Dropped HopLimit
    else outcomes.Forward route.port (unwrap_or route.neighbour h.to.node)

-- the header of a packet that is forwarded: one hop more, and its source network filled in
abbrev pub forward_header : Port → IpxHeader → IpxHeader
forward_header arrived h = record h {
  hops = h.hops + 1;
  from = record h.from {
    network = if h.from.network.0 == local_network then arrived.network else h.from.network;
  };
}

-- a packet as it is forwarded
abbrev pub forward_packet : Port → PacketView → PacketView
forward_packet arrived d = record d { header = forward_header arrived d.header }

-- the bytes are the packet as it is forwarded, with nothing after it
abbrev pub IsForwarded : Port → PacketView → List ℕ → Type 0
IsForwarded arrived d = AreBytesOf (forward_packet arrived d)

-- the answer that follows from the forwarding decision
abbrev pub IsForwardingAnswer : Port → PacketView → Forwarding → OutcomeView → Type 0
IsForwardingAnswer arrived d (outcomes.Dropped reason) a = a ≡ Dropped reason
IsForwardingAnswer arrived d (outcomes.Forward port next) a =
    (bytes : List ℕ) × (a ≡ Forward port next bytes) × IsForwarded arrived d bytes

-- a packet for another network is answered by its route
abbrev pub Forwards : List Port → Routes → PortNow → PacketView → OutcomeView → Type 0
Forwards ports routes at d a = (route : Option Route)
    × IsRouteOrNone ports routes at.now d.header.to.network route
    × IsForwardingAnswer at.port d (by_route d.header route) a

-- a fact about the port by which a packet is forwarded, if it is
abbrev pub IfForward : Forwarding → (ℕ → Type 0) → Type 0
IfForward (outcomes.Forward port next) Fact = Fact port
IfForward (outcomes.Dropped reason) Fact = Unit {0}
