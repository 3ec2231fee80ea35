use Rattle.std.proofs.Common.{◌↔◌, subst}
use Rattle.std.specs.Prelude.{IsTrue}
use Rattle.spx_theory.specs.LogPremises.{IsEnd, LogPremises}
use Rattle.spx_theory.specs.World.{World, scene_of}
use Rattle.ipx_net.specs.Begins.{Begins}
use Rattle.ipx_net.specs.NetView.{NetView}
use Rattle.ipx_net.specs.Theorems.{Theorems}
use Rattle.ipx_net.proofs.Beginning.{begins_said, each_begins}
use Rattle.ipx_net.proofs.net.Net.begins.Goals as goal

pub returns-clause-begins : goal.returns-clause-begins
returns-clause-begins c =
    subst (λ (v : NetView). IsTrue c.begins.result ↔ Begins v.now.world.log c.args.end) c.self.view_is
    (begins_said (IsTrue c.begins.result) (scene_of c.self.inside.course.now.world) c.holds.ensures.peers c.args.end c.begins.ensures)

pub returns-clause-headline : goal.returns-clause-headline
returns-clause-headline c =
    let w : World = c.self.inside.course.now.world in
    subst (λ (v : NetView). LogPremises v.now.world.log → IsEnd v.now.world.log c.args.end → IsTrue c.begins.result) c.self.view_is
    (λ premises made. (begins_said (IsTrue c.begins.result) (scene_of w) c.holds.ensures.peers c.args.end c.begins.ensures).1 (each_begins (scene_of w) c.args.end c.holds.ensures.headline premises made))

pub returns-clause-theorems : goal.returns-clause-theorems
returns-clause-theorems c = subst Theorems c.self.view_is c.holds.ensures
