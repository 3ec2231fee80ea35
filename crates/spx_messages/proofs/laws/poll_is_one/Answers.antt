use Rattle.spx_messages.proofs.OnePoll.{ByteLaws, one_poll}
use Rattle.spx_messages.proofs.laws.poll_is_one.Goals as goal

pub returns : goal.returns
returns c =
    let laws : ByteLaws = record {
      ipx = c.packet_is_one_list_of_bytes.ensures;
      spx = c.spx_packet_is_one_list_of_bytes.ensures.whole;
    } in
    one_poll laws
