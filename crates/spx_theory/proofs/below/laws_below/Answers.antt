use Rattle.spx_theory.proofs.below.laws_below.Goals as goal

pub returns : goal.returns
returns c =
    record {
      one_packet = c.bytes_are_one_packet.ensures;
      one_spx = c.bytes_are_one_spx_packet.ensures;
      sequence = c.connection_packet_has_its_sequence.ensures;
      start = c.soundness.ensures.start;
      step = c.soundness.ensures.step;
      gets = c.soundness.ensures.gets;
      grows_one = c.growth.ensures.one;
      grows_two = c.growth.ensures.two;
      steps = c.calls_are_steps.ensures;
      states = c.states_go_on.ensures;
      queues = c.links_send_their_queue.ensures;
      names = c.calls_keep_names.ensures;
      lasting = c.calls_keep_what_lasts.ensures;
      close = c.confirmed_links_are_done.ensures;
      allowances = c.packets_allow_what_was_taken.ensures;
    }
