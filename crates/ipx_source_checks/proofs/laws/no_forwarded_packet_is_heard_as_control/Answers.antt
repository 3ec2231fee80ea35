use Rattle.ipx_source_checks.proofs.ForwardedPackets.{not_heard}
use Rattle.ipx_source_checks.proofs.laws.no_forwarded_packet_is_heard_as_control.Goals as goal

pub returns : goal.returns
returns g c = not_heard c.bytes_are_one_packet.ensures g.C.Core.hears
