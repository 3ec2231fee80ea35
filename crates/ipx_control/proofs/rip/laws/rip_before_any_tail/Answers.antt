use Rattle.ipx_control.proofs.RipPackets.{rip_more}
use Rattle.ipx_control.proofs.rip.laws.rip_before_any_tail.Goals as goal

pub returns : goal.returns
returns c = rip_more c.field_laws.ensures
