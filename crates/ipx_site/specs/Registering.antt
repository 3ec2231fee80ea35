-- From which IP addresses clients may register at ipxnet ports. Defined by this project.
use Rattle.std.specs.Prelude.{◌≡◌, ℕ, List, [], ◌∷◌, ◌++◌, Option, Some, None, map}
use Rattle.std.specs.Net.Addr.{ipv4_octets}
use Rattle.std.specs.Net.Socket.{v4_ip}
use Rattle.std.specs.declared.net.socket_addr.SocketAddrV4.{SocketAddrV4}
use Rattle.ip_prefixes.specs.Prefixes.{one_address}
use Rattle.ip_prefixes.specs.declared.prefix.Prefix.{Prefix as IpPrefix}
use Rattle.ipx_config.specs.declared.ipxnet_port.IpxnetPortConfig.{IpxnetPortConfig}
use Rattle.ipx_config.specs.declared.ipxnet_port.Peer.{Peer}
use Rattle.ipx_config.specs.declared.ipxnet_port.Peer.TheVariants.{Host, Prefix}
use Rattle.ipx_config.specs.declared.site.Accept.TheVariants.{Any, Peers}

-- single IP addresses follow prefixes
abbrev pub AddsAddresses : List IpPrefix → List IpPrefix → Type 0
AddsAddresses old new = (ips : List (List ℕ)) × (new ≡ old ++ map one_address ips)

-- the prefixes of a peer: itself, or for a name single IP addresses. The system said that these are of that host, and
-- nothing says which
abbrev pub AreOfPeer : Peer → List IpPrefix → Type 0
AreOfPeer (Prefix p) ps = ps ≡ p ∷ []
AreOfPeer (Host name) ps = (ips : List (List ℕ)) × (ps ≡ map one_address ips)

-- those of peers, in order
abbrev pub AreOfPeers : List Peer → List IpPrefix → Type 0
AreOfPeers [] ps = ps ≡ []
AreOfPeers (peer ∷ peers) ps = (first rest : List IpPrefix) × (ps ≡ first ++ rest) × AreOfPeer peer first
    × AreOfPeers peers rest

-- the prefix of the IP address of a joined router alone
abbrev pub joined_prefix : SocketAddrV4 → IpPrefix
joined_prefix r = one_address (ipv4_octets (v4_ip r))

-- clients may register from the prefixes of the peers and the IP addresses of joined routers; None means from all
abbrev pub MayRegister : IpxnetPortConfig → Option (List IpPrefix) → Type 0
MayRegister p None = p.accept ≡ Any
MayRegister p (Some prefixes) = (p.accept ≡ Peers) × ((named : List IpPrefix)
    × AreOfPeers p.peers.items named × (prefixes ≡ named ++ map joined_prefix p.join.items))

-- port by port
abbrev pub MayRegisterAt : List IpxnetPortConfig → List (Option (List IpPrefix)) → Type 0
MayRegisterAt [] lists = lists ≡ []
MayRegisterAt (p ∷ ps) lists = (first : Option (List IpPrefix)) × (rest : List (Option (List IpPrefix)))
    × (lists ≡ first ∷ rest) × MayRegister p first × MayRegisterAt ps rest
