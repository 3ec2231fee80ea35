use Rattle.std.proofs.Common.{subst}
use Rattle.ipx_net.specs.NetView.{NetView, net_of}
use Rattle.ipx_net.specs.Theorems.{Theorems}
use Rattle.ipx_net.proofs.Holding.{SceneLaws, theorems}
use Rattle.ipx_net.proofs.net_state.NetState.holds.Goals as goal

pub returns : goal.returns
returns c =
    let n = c.self.inside in
    let laws : SceneLaws = record {
      carried = c.routers_alter_only_hops.ensures;
      sent = c.units_are_sent_in_order.ensures;
      headline = c.headline_of_log.ensures;
      made_once = c.made_once.ensures;
      origins = c.origins_are_read.ensures;
      peers = c.peers_are_read.ensures;
      between = c.between_is_read.ensures;
      premises = c.premises_are_read.ensures;
      in_step = c.peers_are_in_step.ensures;
      alone = c.peerless_reads_nothing.ensures;
      addresses = c.addresses_tell_peers.ensures;
      machine = c.pairs_take_steps.ensures;
      end_taken = c.end_taken_is_whole.ensures;
      numbers = c.numbers_are_in_order.ensures;
      cuts = c.units_are_cuts.ensures;
      told = c.ends_are_summarized.ensures;
      entries = c.entries_tell_ends.ensures;
      joined = c.hands_out_what_it_took.ensures.handed;
      left = c.hands_out_what_it_took.ensures.left;
      absent = c.hands_out_what_it_took.ensures.absent;
      confirmed = c.confirmed_is_read.ensures;
      acknowledged = c.acknowledged_end_is_read.ensures;
      sends = c.links_send_in_order.ensures;
      not_stuck = c.no_state_is_stuck.ensures;
      not_stuck_both_ways = c.no_pair_is_stuck.ensures;
      not_stuck_by_addresses = c.nothing_is_stuck_by_addresses.ensures;
    } in
    let v : NetView = record { now = net_of n.hosts n.routers.items n.indexed_log.parcels n.indexed_log.log n.moment; spent = n.spent } in
    subst Theorems c.self.view_is (theorems laws v c.self.invariant)
