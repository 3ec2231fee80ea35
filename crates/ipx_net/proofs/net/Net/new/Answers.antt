use Rattle.std.proofs.Common.{List, subst, sym}
use Rattle.ipx_net.specs.Ends.{TellsEnds}
use Rattle.ipx_net.specs.declared.endinfo.EndInfo.{EndInfo}
use Rattle.ipx_net.proofs.NetTells.{tells_new}
use Rattle.ipx_net.proofs.net.Net.new.Goals as goal

pub invariant_of-result : goal.invariant_of-result
invariant_of-result c =
    subst (λ (t : List EndInfo). TellsEnds c.in-Ok.course t) (sym c.new-in-Ok.ensures) (tells_new c.in-Ok.course c.in-Ok.ensures.new.log c.in-Ok.ensures.new.ends)
