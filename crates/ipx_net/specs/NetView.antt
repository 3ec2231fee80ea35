-- A network in contracts: hosts, ends, parcels, log, time and routers, and whether it gave up.
use Rattle.std.specs.Prelude.{ℕ, Bool, List}
use Rattle.spx_theory.specs.Note.{Note}
use Rattle.spx_theory.specs.World.{ParcelView, World}
use Rattle.ipx_net_hosts.specs.Hosts.{HostsView, world_of}
use Rattle.ipx_net.specs.declared.routers.RouterNow.{RouterNow}

pub record NetNow : Type 0 where
  pub world : World
  pub routers : List RouterNow

-- after memory was refused, no further step is taken
pub record NetView : Type 0 where
  pub now : NetNow
  pub spent : Bool

abbrev pub net_of : HostsView → List RouterNow → List ParcelView → List Note → ℕ → NetNow
net_of hosts routers parcels log moment =
    record { world = world_of hosts parcels log moment; routers = routers }
