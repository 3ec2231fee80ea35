use Rattle.ipx_sim_udp.specs.UdpCalls.{FillsUdpEnd, KeepsOtherParts}
use Rattle.ipx_sim_udp.proofs.layout_binding.UdpNet.fill.Given as goal

abbrev pub invariant-loop-k : goal.invariant-loop-k
invariant-loop-k l = FillsUdpEnd l.who l.k l.fn.self l.self × KeepsOtherParts l.fn.self l.self
