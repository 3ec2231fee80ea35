use Rattle.std.proofs.Common.{◌≡◌, Some, inl, inr, rules, subst, sym}
use Rattle.ipx_wire.specs.Ipx.{packet_view}
use Rattle.ipx_inspect.specs.Decoded.{IsContents, Protocol, body_fault, contents_view}
use Rattle.ipx_inspect.proofs.Protocols.{protocol_of_other}
use Rattle.ipx_inspect.proofs.decoded.read_datagram.Goals as goal

pub returns-in-Ok-contents_at : goal.returns-in-Ok-contents_at
returns-in-Ok-contents_at c =
    let packet = c.in-Ok.packet in
    let found = c.in-Ok.ensures.found in
    let other = protocol_of_other packet.header c.if-packet-eq-SPX.false in
    let holds = λ (p : Protocol). IsContents p packet.body.now (contents_view c.in-Ok-contents_at.contents) in
    (found.0, found.1, subst holds (sym other) c.in-Ok-contents_at.ensures.found)

pub returns-in-Err-contents_at : goal.returns-in-Err-contents_at
returns-in-Err-contents_at c =
    let packet = c.in-Ok.packet in
    let found = c.in-Ok.ensures.found in
    let other = protocol_of_other packet.header c.if-packet-eq-SPX.false in
    let refuses = λ (p : Protocol). body_fault p packet.body.now ≡ Some c.in-Err-contents_at.fault in
    elim c.in-Err-contents_at.ensures.fault [
      | inl none ↦ search rules
      | inr fault ↦ (packet_view packet, found.0, found.1, subst refuses (sym other) fault)
    ]
