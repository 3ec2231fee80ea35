use Rattle.ipx_control.proofs.SapPackets.{sap_more}
use Rattle.ipx_control.proofs.sap.laws.sap_before_any_tail.Goals as goal

pub returns : goal.returns
returns c = sap_more c.field_laws.ensures
