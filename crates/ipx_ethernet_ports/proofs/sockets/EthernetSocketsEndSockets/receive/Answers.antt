use Rattle.std.proofs.Common.{ap, slice_set, ◌∙◌}
use Rattle.ipx_ethernet_ports.proofs.Arrivals.{of_failing, of_frame, of_none, of_nothing, of_unknown}
use Rattle.ipx_ethernet_ports.proofs.Staying.{asks_there, counts_stay}
use Rattle.ipx_ethernet_ports.proofs.sockets.EthernetSocketsEndSockets.receive.Goals as goal

pub returns-in-Frame-clause-marked : goal.returns-in-Frame-clause-marked
returns-in-Frame-clause-marked c = λ marked.
    let w = c.index_mut.result.now in
    let (got, buffer, after, own, tries, is, makes) = c.in-Frame.ensures.asks in
    let of = of_frame c.args.port w.tunnel w.remotes c.args.self.now.marks c.args.self.now.unknown_senders c.args.self.now.last_unknown c.args.self.now.filtered buffer c.receive.new.room got c.in-Frame.came makes in
    asks_there _ c.args.self.now.ethernet.items c.args.port w c.index_mut.ensures.value (got, buffer, after, own, tries, ap (slice_set c.args.self.now.ethernet.items c.args.port) is, of.0, of.1, of.2, of.3, of.4)

pub returns-in-Frame-clause-ends : goal.returns-in-Frame-clause-ends
returns-in-Frame-clause-ends c =
    counts_stay c.args.self.now.ethernet.items c.args.port c.index_mut.result.now c.receive.new.self c.index_mut.ensures.value c.receive.ensures.count

pub returns-in-NoFrame-clause-marked : goal.returns-in-NoFrame-clause-marked
returns-in-NoFrame-clause-marked c = λ marked.
    let w = c.index_mut.result.now in
    let (got, buffer, after, own, tries, is, makes) = c.in-NoFrame.ensures.asks in
    let of = of_none c.args.port w.tunnel w.remotes c.args.self.now.marks c.args.self.now.unknown_senders c.args.self.now.last_unknown c.args.self.now.filtered buffer c.receive.new.room got c.saturating_increment.new.count makes c.saturating_increment.ensures.counted in
    asks_there _ c.args.self.now.ethernet.items c.args.port w c.index_mut.ensures.value (got, buffer, after, own, tries, ap (slice_set c.args.self.now.ethernet.items c.args.port) is, of.0, of.1, of.2, of.3, of.4)

pub returns-in-NoFrame-clause-ends : goal.returns-in-NoFrame-clause-ends
returns-in-NoFrame-clause-ends c =
    counts_stay c.args.self.now.ethernet.items c.args.port c.index_mut.result.now c.receive.new.self c.index_mut.ensures.value c.receive.ensures.count

pub returns-in-Unknown-clause-marked : goal.returns-in-Unknown-clause-marked
returns-in-Unknown-clause-marked c = λ marked.
    let w = c.index_mut.result.now in
    let (got, buffer, after, own, tries, is, makes) = c.in-Unknown.ensures.asks in
    let of = of_unknown c.args.port w.tunnel w.remotes c.args.self.now.marks c.args.self.now.unknown_senders c.args.self.now.last_unknown c.args.self.now.filtered buffer c.receive.new.room got c.in-Unknown.from c.saturating_increment-in-Unknown-2.new.count c.saturating_increment-in-Unknown.new.count makes c.saturating_increment-in-Unknown-2.ensures.counted c.saturating_increment-in-Unknown.ensures.counted in
    asks_there _ c.args.self.now.ethernet.items c.args.port w c.index_mut.ensures.value (got, buffer, after, own, tries, ap (slice_set c.args.self.now.ethernet.items c.args.port) is, of.0, of.1, of.2, c.place_of_sender-self.ensures ∙ of.3, of.4)

pub returns-in-Unknown-clause-ends : goal.returns-in-Unknown-clause-ends
returns-in-Unknown-clause-ends c =
    counts_stay c.args.self.now.ethernet.items c.args.port c.index_mut.result.now c.receive.new.self c.index_mut.ensures.value c.receive.ensures.count

pub returns-in-Nothing-clause-marked : goal.returns-in-Nothing-clause-marked
returns-in-Nothing-clause-marked c = λ marked.
    let w = c.index_mut.result.now in
    let (got, buffer, after, own, tries, is, makes) = c.in-Nothing.ensures.asks in
    let of = of_nothing c.args.port w.tunnel w.remotes c.args.self.now.marks c.args.self.now.unknown_senders c.args.self.now.last_unknown c.args.self.now.filtered buffer c.receive.new.room got c.clear_ready.new.self makes c.clear_ready.ensures.cleared in
    asks_there _ c.args.self.now.ethernet.items c.args.port w c.index_mut.ensures.value (got, buffer, after, own, tries, ap (slice_set c.args.self.now.ethernet.items c.args.port) is, of.0, of.1, of.2, of.3, of.4)

pub returns-in-Nothing-clause-ends : goal.returns-in-Nothing-clause-ends
returns-in-Nothing-clause-ends c =
    counts_stay c.args.self.now.ethernet.items c.args.port c.index_mut.result.now c.receive.new.self c.index_mut.ensures.value c.receive.ensures.count

pub returns-in-Failed-clause-marked : goal.returns-in-Failed-clause-marked
returns-in-Failed-clause-marked c = λ marked.
    let w = c.index_mut.result.now in
    let (got, buffer, after, own, tries, is, makes) = c.in-Failed.ensures.asks in
    let of = of_failing c.args.port w.tunnel w.remotes c.args.self.now.marks c.args.self.now.unknown_senders c.args.self.now.last_unknown c.args.self.now.filtered buffer c.receive.new.room got makes in
    asks_there _ c.args.self.now.ethernet.items c.args.port w c.index_mut.ensures.value (got, buffer, after, own, tries, ap (slice_set c.args.self.now.ethernet.items c.args.port) is, of.0, of.1, of.2, of.3, of.4)

pub returns-in-Failed-clause-ends : goal.returns-in-Failed-clause-ends
returns-in-Failed-clause-ends c =
    counts_stay c.args.self.now.ethernet.items c.args.port c.index_mut.result.now c.receive.new.self c.index_mut.ensures.value c.receive.ensures.count
