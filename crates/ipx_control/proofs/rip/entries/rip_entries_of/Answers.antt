use Rattle.ipx_control.proofs.RipPackets.{rip_entries_are}
use Rattle.ipx_control.proofs.rip.entries.rip_entries_of.Goals as goal

pub returns : goal.returns
returns c = rip_entries_are c.args.bytes.now
