-- What a joined server learns of packets of the other router's core. Defined by this project.
use Rattle.std.specs.Prelude.{◌≡◌, ℕ, true, Some, Ok}
use Rattle.std.specs.declared.net.socket_addr.SocketAddrV4.{SocketAddrV4}
use Rattle.ipx_wire.specs.Ipx.{PacketView}
use Rattle.ipx_wire.specs.declared.address.Node.{Node}
use Rattle.ipxnet_server.specs.declared.recipients.Recipients.{Recipients}
use Rattle.ipxnet_server.specs.ServerHears.{ServerView, is_joined_taker, server_gives, server_hearing, server_hears}
use Rattle.ipxnet_server.specs.PeerServers.{is_joined_place}

-- a packet of the core that a server sends to a joined router changes nothing of what the server there, which
-- has the same network, knows of the clients of joined routers
abbrev pub NoGivenPacketShowsAClient : Type 0
NoGivenPacketShowsAClient =
    (here there : ServerView) (node : Node) (p : PacketView) (size now : ℕ) (takers : Recipients)
    (from to : SocketAddrV4) → there.port.network ≡ here.port.network
    → server_gives here node (Some p.header) size ≡ Ok takers → is_joined_taker takers to ≡ true
    → is_joined_place from there.routers ≡ true
    → (server_hearing (server_hears there from p size now) from now there).far ≡ there.far
