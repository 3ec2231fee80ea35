use Rattle.ipx_wire.proofs.Spelled.{packet_alike}
use Rattle.ipx_wire.proofs.ipx.laws.packet_is_one_list_of_bytes.Goals as goal

pub returns : goal.returns
returns c = packet_alike
