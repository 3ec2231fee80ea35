use Rattle.std.proofs.Common.{◌∙◌, refl, sym}
use Rattle.ipx_carrier.specs.Turns.{peers_of}
use Rattle.ipx_carrier.proofs.Sends.{broadcast_fails, one_fails, one_unsent}
use Rattle.ipx_carrier.proofs.rfc1234_ports.Rfc1234PortsPortDriver.send.Goals as goal

pub returns-in_err-send-clause-refused : goal.returns-in_err-send-clause-refused
returns-in_err-send-clause-refused g c =
    one_unsent c.from_residual-in_err-send.result (peers_of c.args.self.now.peers.now) (record { port = c.args.port; node = c.args.node; bytes = c.args.packet.now }) c.in-Ok.to _ _ (sym c.eq.ensures ∙ c.if-eq.false) c.in-Ok.ensures.found c.in_err-send.ensures.refused

pub returns-in_err-send-clause-fails_to_send : goal.returns-in_err-send-clause-fails_to_send
returns-in_err-send-clause-fails_to_send g c =
    one_fails g.D.Datagrams.sends g.D.Datagrams.fails_to_send c.from_residual-in_err-send.result (peers_of c.args.self.now.peers.now) (record { port = c.args.port; node = c.args.node; bytes = c.args.packet.now }) c.in-Ok.to _ _ refl (sym c.eq.ensures ∙ c.if-eq.false) c.in-Ok.ensures.found c.in_err-send.ensures.fails_to_send

pub returns-in_err-send_to_each-clause-fails_to_send : goal.returns-in_err-send_to_each-clause-fails_to_send
returns-in_err-send_to_each-clause-fails_to_send g c =
    broadcast_fails g.D.Datagrams.sends g.D.Datagrams.fails_to_send c.from_residual.result (peers_of c.args.self.now.peers.now) (record { port = c.args.port; node = c.args.node; bytes = c.args.packet.now }) c.peers_at-peers.result.now _ _ refl (sym c.eq.ensures ∙ c.if-eq.true) c.peers_at-peers.ensures c.in_err-send_to_each.ensures.fails
