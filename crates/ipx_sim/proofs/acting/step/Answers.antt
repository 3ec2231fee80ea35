use Rattle.ipx_sim.proofs.Steps.{stepped}
use Rattle.ipx_sim.proofs.acting.step.Goals as goal

pub returns : goal.returns
returns c =
    let did = c.step.ensures in
    stepped c.step.result c.args.event c.args.net.now c.step.new.self did.ok did.sound did.going did.fault did.memory did.log did.parcels
