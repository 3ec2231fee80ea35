use Rattle.std.proofs.Common.{◌≡◌, ◌≤◌, [], List, ℕ, map, take}
use Rattle.ipx_carrier.specs.Device.{Datagram, Passes}
use Rattle.ipx_carrier.specs.DriverTurns.{SendsEach}
use Rattle.ipx_carrier.specs.Readiness.{MarksStay}
use Rattle.ipx_carrier.proofs.rfc1234_ports.send_to_each.Given as goal

abbrev pub invariant-loop-to : goal.invariant-loop-to
invariant-loop-to g l =
    let f : List ℕ → Datagram = λ to. record { port = l.port; to = to; bytes = l.bytes } in
    record {
      sent : Passes (g.D.Datagrams.traffic l.fn.datagrams) (g.D.Datagrams.traffic l.datagrams) [] (map f (take l.to-index l.peers));
      sends : SendsEach g.D.Datagrams.sends (map f (take l.to-index l.peers)) l.fn.datagrams l.datagrams;
      waiting : g.D.Datagrams.waiting l.datagrams ≡ g.D.Datagrams.waiting l.fn.datagrams;
      failures : g.D.Datagrams.failed l.datagrams ≡ g.D.Datagrams.failed l.fn.datagrams;
      ports : g.D.Datagrams.port_count l.datagrams ≡ g.D.Datagrams.port_count l.fn.datagrams;
      access : g.D.Datagrams.access l.datagrams ≡ g.D.Datagrams.access l.fn.datagrams;
      filtered : g.D.Datagrams.filtered l.fn.datagrams ≤ g.D.Datagrams.filtered l.datagrams;
      marks : MarksStay (g.D.Datagrams.marked l.fn.datagrams) (g.D.Datagrams.marked l.datagrams);
    }
