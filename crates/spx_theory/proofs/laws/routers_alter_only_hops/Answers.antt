use Rattle.spx_theory.proofs.Carrying.{routers_alter_only_hops}
use Rattle.spx_theory.proofs.laws.routers_alter_only_hops.Goals as goal

pub returns : goal.returns
returns c = λ s reached. routers_alter_only_hops c.laws_below.ensures s reached
