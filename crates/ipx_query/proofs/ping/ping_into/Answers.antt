use Rattle.std.proofs.Common.{List, ℕ, [], refl, subst, take, true}
use Rattle.ipx_wire.specs.declared.spx.packet.SpxHeader.{SpxHeader}
use Rattle.ipx_wire.specs.Assigned.{spx_type}
use Rattle.ipx_wire.specs.Ipx.{PacketView}
use Rattle.ipx_wire.specs.Spx.{IsSpx}
use Rattle.spx_link.specs.Limits.{no_id}
use Rattle.spx_link.specs.Poll.{plain}
use Rattle.spx_link.specs.declared.outgoing.Sent.TheVariants.{Request}
use Rattle.ipx_query.specs.PingRequests.{ping_link}
use Rattle.ipx_query.proofs.ping.ping_into.Goals as goal

pub returns-clause-ping : goal.returns-clause-ping
returns-clause-ping c =
    let body : List ℕ = take c.encode_spx_into-length.result c.encode_spx_into-length.new.out in
    let packet : PacketView = record { header = record { hops = 0; kind = spx_type; to = c.args.to; from = c.args.own }; body = body } in
    record {
      request = plain (ping_link c.args.own c.args.to c.args.id) Request true 0 no_id;
      gives = refl;
      is = record {
        packet = packet;
        is = c.encode_into-count.ensures.written;
        kind = refl;
        hops = refl;
        to = refl;
        from = refl;
        spx = subst (λ (h : SpxHeader). IsSpx h [] body) c.request_of.ensures c.encode_spx_into-length.ensures.written;
      };
      clear = c.encode_spx_into-length.ensures.clear;
      in_range = c.are_bytes.ensures;
    }
