use Rattle.std.proofs.Common.{◌↔◌, subst}
use Rattle.std.specs.Prelude.{IsTrue}
use Rattle.spx_theory.specs.LogPremises.{ReadsRecent}
use Rattle.ipx_net.specs.NetView.{NetView}
use Rattle.ipx_net.specs.Theorems.{Theorems}
use Rattle.ipx_net.proofs.net.Net.fresh.Goals as goal

pub returns-clause-fresh : goal.returns-clause-fresh
returns-clause-fresh c =
    let read = c.holds.ensures.premises.recent in
    subst (λ (v : NetView). IsTrue c.fresh.result ↔ ReadsRecent v.now.world.log) c.self.view_is
    (λ is. read.1 (c.fresh.ensures.0 is), λ recent. c.fresh.ensures.1 (read.0 recent))

pub returns-clause-theorems : goal.returns-clause-theorems
returns-clause-theorems c = subst Theorems c.self.view_is c.holds.ensures
