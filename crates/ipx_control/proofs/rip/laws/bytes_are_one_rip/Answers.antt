use Rattle.ipx_control.proofs.RipPackets.{same_rip}
use Rattle.ipx_control.proofs.rip.laws.bytes_are_one_rip.Goals as goal

pub returns : goal.returns
returns c = same_rip
