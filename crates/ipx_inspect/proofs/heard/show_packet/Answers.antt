use Rattle.std.proofs.Common.{◌≡◌, ◌∙◌, arith}
use Rattle.hex.specs.Hex.{IsBytes, encode_lower}
use Rattle.ipx_inspect.proofs.Shown.{packet_left, packet_written}
use Rattle.ipx_inspect.proofs.heard.show_packet.Goals as goal

pub returns-clause-written : goal.returns-clause-written
returns-clause-written g c =
    let text : c.deref.result.now ≡ encode_lower c.args.packet.now = c.deref.ensures ∙ c.in-Ok.ensures in
    let fits : IsBytes c.args.packet.now = λ i. let f = c.type_inv.packet i in omega arith in
    packet_written c.do_show.result c.args.packet.now c.deref.result.now (g.W.Write.contents c.args.writer.now) (g.W.Write.contents c.do_show.new.writer) fits text c.do_show.ensures.written

pub returns-clause-left : goal.returns-clause-left
returns-clause-left g c =
    let text : c.deref.result.now ≡ encode_lower c.args.packet.now = c.deref.ensures ∙ c.in-Ok.ensures in
    let fits : IsBytes c.args.packet.now = λ i. let f = c.type_inv.packet i in omega arith in
    packet_left c.do_show.result c.args.packet.now c.deref.result.now (g.W.Write.contents c.args.writer.now) (g.W.Write.contents c.do_show.new.writer) fits text c.do_show.ensures.left
