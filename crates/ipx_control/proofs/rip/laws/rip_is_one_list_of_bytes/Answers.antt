use Rattle.ipx_control.proofs.RipPackets.{rip_alike}
use Rattle.ipx_control.proofs.rip.laws.rip_is_one_list_of_bytes.Goals as goal

pub returns : goal.returns
returns c = rip_alike c.field_laws.ensures
