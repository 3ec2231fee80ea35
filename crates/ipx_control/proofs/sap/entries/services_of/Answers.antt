use Rattle.ipx_control.proofs.SapPackets.{services_are}
use Rattle.ipx_control.proofs.sap.entries.services_of.Goals as goal

pub returns : goal.returns
returns c = services_are c.args.bytes.now
