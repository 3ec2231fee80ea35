-- The targets of the host of an operator that pings, and the senders that it accepts, by its file. Defined by
-- this project.
use Rattle.std.specs.Prelude.{ℕ, List, [], ◌∷◌, Option, Some, None, if◌then◌else◌}
use Rattle.ipx_wire.specs.declared.address.Address.{Address}
use Rattle.ipx_carrier.specs.Device.{Access}
use Rattle.ipx_carrier.specs.Mapping.{ip_at}
use Rattle.ipx_config.specs.declared.host.HostConfig.{HostConfig}
use Rattle.ipx_query_cmd.specs.QueryTargets.{asked_ips}
use Rattle.ipx_config.specs.Destinations.{is_on_own_network}

-- the IP address of a node, if it has one
abbrev pub ips_of_node : Option (List ℕ) → List (List ℕ)
ips_of_node None = []
ips_of_node (Some ip) = ip ∷ []

-- where requests are sent first: to the listener's node on the host's own network, and otherwise to the
-- router of the file
abbrev pub ping_way : HostConfig → Address → List (List ℕ)
ping_way file to =
    if is_on_own_network file to then ips_of_node (ip_at to.node) else file.router ∷ []

-- which senders may bring an answer: that node, or any router that the file names
abbrev pub ping_carriers : HostConfig → Address → List (List ℕ)
ping_carriers file to =
    if is_on_own_network file to then ips_of_node (ip_at to.node) else asked_ips file

-- it sends to the former, and accepts the latter; only the routers of the file forward packets to it
abbrev pub guarded_pinger : HostConfig → Address → Access
guarded_pinger file to = record {
  network = file.network;
  sends = Some (ping_way file to);
  hears = Some (ping_carriers file to);
  routers = Some (asked_ips file);
}
