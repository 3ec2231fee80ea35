use Rattle.std.proofs.Common.{◌∙◌, ◌++◌, All, ap, arith, length, min, subst, sym, true}
use Rattle.ipx_ethernet_ports.specs.EthernetAddresses.{remote_counts}
use Rattle.ipx_site.specs.RouterPorts.{fits}
use Rattle.ipx_site.proofs.Marked.{set_first, set_second, set_third}
use Rattle.ipx_site.proofs.ready_ports.mark_port.Goals as goal

pub invariant_of-ports-in-None : goal.invariant_of-ports-in-None
invariant_of-ports-in-None c =
    let p = c.args.ports.now in
    record {
      fit = subst (λ w. All (fits (length p.datagrams.device.device.sockets.items)
          (min (length w.switches.items) (length (remote_counts w.sockets.ethernet.items)))
          (min (length p.servers.servers.items) (length p.servers.sockets.sockets.items))) p.port_indices.items) (sym c.set_ready-in-None.ensures) p.fit;
    }

pub returns-in_default-clause-marks : goal.returns-in_default-clause-marks
returns-in_default-clause-marks c =
    let p = c.args.ports.now in
    ap (λ d. d.device.marks ++ (p.ethernet.sockets.marks ++ p.servers.sockets.marks)) c.set_ready.ensures
    ∙ set_first p.datagrams.device.device.marks p.ethernet.sockets.marks p.servers.sockets.marks c.args.number true (grind arith)

pub returns-in-Some-checked_sub-clause-marks : goal.returns-in-Some-checked_sub-clause-marks
returns-in-Some-checked_sub-clause-marks c =
    let p = c.args.ports.now in
    ap (λ d. p.datagrams.device.device.marks ++ (p.ethernet.sockets.marks ++ d.sockets.marks)) c.set_ready-in-Some-checked_sub.ensures
    ∙ set_third p.datagrams.device.device.marks p.ethernet.sockets.marks p.servers.sockets.marks c.args.number c.in-Some.behind c.in-Some-checked_sub.last true
    (grind arith) (grind arith) (grind arith) (grind arith)

pub returns-in-None-clause-marks : goal.returns-in-None-clause-marks
returns-in-None-clause-marks c =
    let p = c.args.ports.now in
    ap (λ d. p.datagrams.device.device.marks ++ (d.sockets.marks ++ p.servers.sockets.marks)) c.set_ready-in-None.ensures
    ∙ set_second p.datagrams.device.device.marks p.ethernet.sockets.marks p.servers.sockets.marks c.args.number c.in-Some.behind true
    (grind arith) (grind arith) (grind arith)
