use Rattle.ipx_control.proofs.SapPackets.{same_sap}
use Rattle.ipx_control.proofs.sap.laws.bytes_are_one_sap.Goals as goal

pub returns : goal.returns
returns c = same_sap c.field_laws.ensures
