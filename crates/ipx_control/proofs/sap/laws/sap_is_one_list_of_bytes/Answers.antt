use Rattle.ipx_control.proofs.SapPackets.{sap_alike}
use Rattle.ipx_control.proofs.sap.laws.sap_is_one_list_of_bytes.Goals as goal

pub returns : goal.returns
returns c = sap_alike c.field_laws.ensures
