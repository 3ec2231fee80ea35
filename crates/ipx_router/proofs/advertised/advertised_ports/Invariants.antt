use Rattle.ipx_router.specs.Placing.{AreAdvertisedPorts}
use Rattle.ipx_router.proofs.advertised.advertised_ports.Given as goal

abbrev pub invariant-loop-port : goal.invariant-loop-port
invariant-loop-port l = AreAdvertisedPorts l.ports l.at l.port-index l.told.items
