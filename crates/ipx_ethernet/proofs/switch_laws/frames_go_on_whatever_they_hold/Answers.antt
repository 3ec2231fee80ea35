use Rattle.ipx_ethernet.proofs.Alike.{switch_alike, way_passing_alike}
use Rattle.ipx_ethernet.proofs.switch_laws.frames_go_on_whatever_they_hold.Goals as goal

pub returns-clause-ends : goal.returns-clause-ends
returns-clause-ends c = way_passing_alike

pub returns-clause-switch : goal.returns-clause-switch
returns-clause-switch c = switch_alike
