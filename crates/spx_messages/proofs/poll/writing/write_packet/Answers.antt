use Rattle.std.proofs.Common.{◌≡◌, drop, arith, subst, sym}
use Rattle.spx_link.specs.Poll.{outgoing_view}
use Rattle.spx_messages.proofs.Written.{behind, between}
use Rattle.spx_messages.proofs.poll.writing.write_packet.Goals as goal

pub returns-clause-written : goal.returns-clause-written
returns-clause-written c =
    between c.args.from c.args.to (outgoing_view c.args.packet.now) c.encode_spx_into-count.result c.args.room.now c.encode_spx_into-count.new.out _ (omega arith) c.encode_spx_into-count.ensures.written c.encode_spx_into-count.ensures.clear c.encapsulate.ensures.written

pub returns-clause-behind : goal.returns-clause-behind
returns-clause-behind c =
    let room = c.args.room.now in
    subst (λ n. drop n c.encapsulate.new.out ≡ drop n room) (sym c.encapsulate.ensures.count) (behind c.encode_spx_into-count.result room c.encode_spx_into-count.new.out c.encapsulate.new.out (omega arith) c.encode_spx_into-count.ensures.rest c.encapsulate.ensures.rest)
