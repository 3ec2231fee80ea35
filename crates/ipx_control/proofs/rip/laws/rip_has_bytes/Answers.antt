use Rattle.std.proofs.Common.{◌++◌}
use Rattle.std.specs.List.{flat_map}
use Rattle.byteorder.specs.Endian.{big_bytes}
use Rattle.ipx_control.specs.Rip.{rip_entries, rip_entry_bytes, rip_operation}
use Rattle.ipx_control.proofs.ByteLists.{IsBytes-rip}
use Rattle.ipx_control.proofs.RipPackets.{rip_read}
use Rattle.ipx_control.proofs.rip.laws.rip_has_bytes.Goals as goal

pub returns : goal.returns
returns c = λ m r. (big_bytes 2 (rip_operation m) ++ flat_map rip_entry_bytes (rip_entries m), λ tail short. rip_read m tail r short, IsBytes-rip c.field_laws.ensures m)
