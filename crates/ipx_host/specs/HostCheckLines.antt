-- The lines that the program prints when a host starts to listen, and when the file of a host is checked.
-- Nothing here is from a public standard.
use Rattle.std.specs.Prelude.{Vec, ℕ, ◌==◌, List, [], ◌∷◌, ◌++◌, Option, Some, None, codes, if◌then◌else◌, length, nat_eq}
use Rattle.std.specs.Global.{Global}
use Rattle.std.specs.Cmp.Lexicographic.{pointwise}
use Rattle.std.specs.Fmt.{decimal}
use Rattle.std.specs.Int.{w16, w32, to_be_bytes}
use Rattle.hex.specs.Hex.{encode_lower}
use Rattle.ipx_carrier.specs.Mapping.{node_at}
use Rattle.ipx_config.specs.Checked.{dotted_text, each_after, others_text, peer_remark, reached_text}
use Rattle.ipx_config.specs.declared.allowed_peer.AllowedPeer.{AllowedPeer}
use Rattle.ipx_config.specs.declared.host.HostConfig.{HostConfig}

-- where a host listens: its socket in 4 hex digits, its network in 8 and its node in 12
abbrev pub listen_address_text : HostConfig → List ℕ
listen_address_text h =
    codes "socket " ++ (encode_lower (to_be_bytes w16 h.socket.0)
    ++ (codes " network " ++ (encode_lower (to_be_bytes w32 h.network.0)
    ++ (codes " node " ++ encode_lower (node_at h.address).0))))

-- when it starts, the line also has its UDP address, and says whether it accepts everybody
abbrev pub listener_text : HostConfig → List ℕ
listener_text h =
    listen_address_text h ++ (codes " udp " ++ (reached_text h.address h.udp_port ++ others_text h.accept))

-- the remark that is printed if the router of the host is its own address
abbrev pub router_remark : HostConfig → List ℕ
router_remark h =
    if pointwise nat_eq h.router h.address then codes "the router is the local address\n" else []

-- the remarks that are printed if the host's own address is among its peers, or if a peer is listed twice
abbrev pub peers_remarks : HostConfig → List ℕ
peers_remarks h = each_after (peer_remark [] h.address) [] h.peers.items

-- how many IP addresses a list has, after the words that say which list it is; empty for an empty list
abbrev pub list_count_text : List ℕ → List (List ℕ) → List ℕ
list_count_text which ips = if length ips == 0 then [] else which ++ decimal (length ips)

-- how many entries the list of those who may connect has, if the file has that list; otherwise everybody may
abbrev pub allow_text : Option (Vec AllowedPeer Global) → List ℕ
allow_text None = []
allow_text (Some allowed) = codes ", allow " ++ decimal (length allowed.items)

-- the remark that is printed if that list is there and has no entry
abbrev pub nobody_remark : Option (Vec AllowedPeer Global) → List ℕ
nobody_remark None = []
nobody_remark (Some allowed) =
    if length allowed.items == 0 then codes "allow is empty: nobody can connect\n" else []

-- the line about the file itself
abbrev pub host_line : List ℕ → HostConfig → List ℕ
host_line path h =
    path ++ (codes ": router " ++ (dotted_text h.router ++ (codes ", buffers "
    ++ (decimal h.buffers ++ (list_count_text (codes ", peers ") h.peers.items
    ++ (list_count_text (codes ", routers ") h.routers.items ++ (allow_text h.from ++ 10 ∷ [])))))))

-- everything that is printed about the file of a host
abbrev pub host_lines : List ℕ → HostConfig → List ℕ
host_lines path h =
    listener_text h
    ++ (10 ∷ (router_remark h ++ (peers_remarks h ++ (nobody_remark h.from ++ host_line path h))))
