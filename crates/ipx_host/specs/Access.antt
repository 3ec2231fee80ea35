-- The senders and destinations that a host accepts, and which routers may forward packets to it, by its file.
-- Nothing here is from a public standard.
use Rattle.std.specs.Prelude.{ℕ, List, [], ◌∷◌, ◌++◌, Option, Some, None}
use Rattle.ipx_carrier.specs.Device.{Access}
use Rattle.ipx_config.specs.SitePorts.{heard_at_port}
use Rattle.ipx_config.specs.declared.host.HostConfig.{HostConfig}

-- a list followed by the dialed IP address, if there is one
abbrev pub with_dialed : List (List ℕ) → Option (List ℕ) → List (List ℕ)
with_dialed ips None = ips
with_dialed ips (Some ip) = ips ++ ip ∷ []

-- the IP addresses known to a host: its peers, its router, and the node that it dials
abbrev pub known_ips : HostConfig → Option (List ℕ) → List (List ℕ)
known_ips file dials = with_dialed (file.peers.items ++ file.router ∷ []) dials

-- a host receives from these addresses and sends to them, or accepts everybody. Only its router and the
-- routers of its file forward packets to it
abbrev pub guarded_host : HostConfig → Option (List ℕ) → Access
guarded_host file dials = record {
  network = file.network;
  sends = heard_at_port file.accept (known_ips file dials);
  hears = heard_at_port file.accept (known_ips file dials);
  routers = Some (file.routers.items ++ file.router ∷ []);
}
