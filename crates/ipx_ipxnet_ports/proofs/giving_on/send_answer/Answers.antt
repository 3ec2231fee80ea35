use Rattle.std.proofs.Common.{refl}
use Rattle.ipx_ipxnet_ports.specs.PlaceTraffic.{place_datagram}
use Rattle.ipx_ipxnet_ports.proofs.Handing.{hands_one}
use Rattle.ipx_ipxnet_ports.proofs.giving_on.send_answer.Goals as goal

pub returns-in-Some-clause-gone : goal.returns-in-Some-clause-gone
returns-in-Some-clause-gone g c =
    rw c.in-Some.is (hands_one c.send.result (place_datagram c.args.port c.in-Some.answer c.args.place) _ _ _ _ c.send.ensures.sent c.send.ensures.refused c.send.ensures.failures)

pub returns-in-Some-clause-sends : goal.returns-in-Some-clause-sends
returns-in-Some-clause-sends g c = rw c.in-Some.is (c.send.new.self, c.send.ensures.sends, refl)
