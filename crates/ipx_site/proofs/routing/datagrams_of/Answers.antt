use Rattle.std.proofs.Common.{◌∙◌, ap, length, sym, true}
use Rattle.std.proofs.lemmas.Simd.{splat_is_map}
use Rattle.ipx_config.specs.PortLists.{datagram_ports}
use Rattle.ipx_site.proofs.Ports.{same_length}
use Rattle.ipx_site.proofs.routing.datagrams_of.Goals as goal

pub returns-clause-marks : goal.returns-clause-marks
returns-clause-marks g c =
    let sockets = c.in_ok-sockets.sockets in
    let ports = datagram_ports c.args.ports.now in
    let as_many = same_length (λ s. s.udp_port) (λ p. p.udp_port) sockets.sockets.items ports c.in_ok-sockets.ensures.ports in
    ap (λ d. d.device.marks) c.new-2.ensures.device ∙ ap (λ d. d.marks) c.new.ensures.device
    ∙ c.in_ok-sockets.ensures.marks ∙ splat_is_map ports (length sockets.sockets.items) true (sym as_many)
