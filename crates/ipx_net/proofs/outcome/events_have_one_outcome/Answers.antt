use Rattle.ipx_net.proofs.MemberOutcomes.{MemberLaws, events_have_one_outcome}
use Rattle.ipx_net.proofs.outcome.events_have_one_outcome.Goals as goal

pub returns : goal.returns
returns c =
    let laws : MemberLaws = record {
      answer = c.datagram_does_one_thing.ensures.answer;
      same = c.datagram_does_one_thing.ensures.same;
      heard = c.datagram_does_one_thing.ensures.heard;
      outcome = c.answer_is_one.ensures;
      offers = c.offers_are_one.ensures;
      poll = c.poll_is_one.ensures;
      telling = c.advertisements_are_determined.ensures.packets;
      holding = c.advertisements_are_determined.ensures.holds;
      start = c.start_is_one.ensures;
    } in
    events_have_one_outcome laws
