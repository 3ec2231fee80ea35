-- Nodes and IP addresses (RFC 1234, Tunneling IPX Traffic through IP Networks): a node is two zero bytes and
-- the four bytes of its IP address. Also the UDP port of IPX.
use Rattle.std.specs.Prelude.{ℕ, List, ◌∷◌, drop, slice_index, Option, Some, None, ◌&&◌, ◌==◌, if◌then◌else◌}
use Rattle.ipx_wire.specs.declared.address.Node.{Node}

-- the node of an IP address
abbrev pub node_at : List ℕ → Node
node_at ip = record { 0 = 0 ∷ 0 ∷ ip }

-- the IP address of a node, if it has one
abbrev pub ip_at : Node → Option (List ℕ)
ip_at node =
    if slice_index node.0 0 == 0 && slice_index node.0 1 == 0 then Some (drop 2 node.0) else None

-- the UDP port if none is given
abbrev pub usual_port : ℕ
usual_port = 213
