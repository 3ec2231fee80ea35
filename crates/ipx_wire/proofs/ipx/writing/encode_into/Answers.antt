use Rattle.std.proofs.Common.{sym, ◌∙◌, append-nil, subst, [], List, ℕ}
use Rattle.ipx_wire.specs.Ipx.{IsIpx, ipx_bytes, packet_view}
use Rattle.ipx_wire.proofs.Parts.{written-front, written-behind}
use Rattle.ipx_wire.proofs.RoundTrip.{ipx_read}
use Rattle.ipx_wire.proofs.ipx.writing.encode_into.Goals as goal

pub returns-clause-written : goal.returns-clause-written
returns-clause-written c =
    let p = packet_view c.args.packet.now in
    let front = written-front _ _ _ _ c.put_packet.ensures.written in
    subst (λ (t : List ℕ). IsIpx p t []) (append-nil (ipx_bytes p) ∙ sym front) (ipx_read p [] c.put_packet.ensures.range)

pub returns-clause-rest : goal.returns-clause-rest
returns-clause-rest c = written-behind _ _ _ _ c.put_packet.ensures.written
