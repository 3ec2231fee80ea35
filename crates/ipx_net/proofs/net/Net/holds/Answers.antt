use Rattle.std.proofs.Common.{subst}
use Rattle.ipx_net.specs.Theorems.{Theorems}
use Rattle.ipx_net.proofs.net.Net.holds.Goals as goal

pub returns : goal.returns
returns c = subst Theorems c.self.view_is c.holds.ensures
