use Rattle.ipx_farewell.proofs.packets.packet_bytes.Goals as goal

pub returns : goal.returns
returns c = record { packet = c.in_ok-bytes.ensures; in_range = rw c.deref.ensures.value at c.are_bytes.ensures }
