use Rattle.std.proofs.Common.{◌↔◌, subst}
use Rattle.std.specs.Prelude.{IsTrue}
use Rattle.spx_theory.specs.Peers.{IsFresh}
use Rattle.ipx_net.specs.NetView.{NetView}
use Rattle.ipx_net.proofs.net_state.NetState.fresh.Goals as goal

pub returns : goal.returns
returns c =
    subst (λ (v : NetView). IsTrue c.fresh.result ↔ IsFresh v.now.world.log) c.self.view_is c.fresh.ensures
