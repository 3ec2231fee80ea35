use Rattle.std.proofs.Common.{subst}
use Rattle.ipx_net.specs.Theorems.{Theorems}
use Rattle.ipx_net.proofs.net.Net.parcels.Goals as goal

pub returns-clause-theorems : goal.returns-clause-theorems
returns-clause-theorems c = subst Theorems c.self.view_is c.holds.ensures
