-- The addresses to which the host of a file sends. Nothing here is from a public standard.
use Rattle.std.specs.Prelude.{ℕ, List, [], ◌∷◌, ◌==◌, ◌||◌, ◌&&◌, Bool, true, false, Option, None, Some, nat_le, if◌then◌else◌}
use Rattle.ipx_carrier.specs.Mapping.{ip_at}
use Rattle.ipx_config.specs.declared.host.HostConfig.{HostConfig}
use Rattle.ipx_wire.specs.Assigned.{local_network}
use Rattle.ipx_wire.specs.declared.address.Address.{Address}

-- the address that a host sends to: network 0 is replaced by its own
abbrev pub peer_address_of : HostConfig → Address → Address
peer_address_of file to =
    if to.network.0 == local_network then record to { network = file.network } else to

-- a node of the host's own network is reached without a router. Network 0 is its own network too
abbrev pub is_on_own_network : HostConfig → Address → Bool
is_on_own_network file to =
    (to.network.0 == file.network.0) || (to.network.0 == local_network)

-- no machine can have this IP address. Its first number is 0 (this network), or 224 and more (multicast,
-- reserved and broadcast)
abbrev pub is_of_no_machine : List ℕ → Bool
is_of_no_machine [] = false
is_of_no_machine (first ∷ rest) = (first == 0) || nat_le 224 first

-- no machine has an IP address of this node: it names none, or one that no machine can have
abbrev pub is_of_nobody : Option (List ℕ) → Bool
is_of_nobody None = true
is_of_nobody (Some ip) = is_of_no_machine ip

-- a node on the host's own network can't be reached if no machine can have its IP address
abbrev pub is_nowhere : HostConfig → Address → Bool
is_nowhere file to = is_on_own_network file to && is_of_nobody (ip_at to.node)

-- the IP address that a host dials for a node on its own network
abbrev pub dialed_ip : HostConfig → Address → Option (List ℕ)
dialed_ip file to = if is_on_own_network file to then ip_at to.node else None
