use Rattle.std.proofs.Common.{inl, inr, refl, rules, ap, sym, ◌∙◌}
use Rattle.ipx_ethernet_ports.specs.EthernetAddresses.{remote_count}
use Rattle.ipx_ethernet_ports.proofs.Staying.{counts_none, counts_stay, counts_there, failed, knows_none, not_failed, refuses_there, sends_there}
use Rattle.ipx_ethernet_ports.proofs.sockets.EthernetSocketsEndSockets.send.Goals as goal

pub returns-in_default-clause-to : goal.returns-in_default-clause-to
returns-in_default-clause-to c =
    inr (knows_none c.args.self.now.ethernet.items c.args.port c.args.end c.index.result.now c.index.ensures (sym c.place.ensures ∙ c.in_default.is))

pub returns-in_default-clause-sends : goal.returns-in_default-clause-sends
returns-in_default-clause-sends c = (
  inr (inr (
    refl,
    refl,
    knows_none c.args.self.now.ethernet.items c.args.port c.args.end c.index.result.now c.index.ensures (sym c.place.ensures ∙ c.in_default.is),
  )),
  refl,
  refl,
  refl,
  refl,
  refl,
)

pub returns-in_default-clause-sent : goal.returns-in_default-clause-sent
returns-in_default-clause-sent c =
    counts_none c.args.self.now.ethernet.items c.args.port c.args.end c.index.result.now c.index.ensures c.args.self.now.sent (sym c.place.ensures ∙ c.in_default.is)

pub returns-then-is_err-clause-nowhere : goal.returns-then-is_err-clause-nowhere
returns-then-is_err-clause-nowhere c =
    refuses_there c.args.self.now.ethernet.items c.args.port c.args.end c.args.bytes.now c.index.result.now c.index_mut.result.now c.send.new.self c.in-Some.to c.index.ensures (sym c.place.ensures ∙ c.in-Some.is) c.index_mut.ensures.value
    (failed c.send.result (search rules) c.send.ensures.refused)

pub returns-then-is_err-clause-ends : goal.returns-then-is_err-clause-ends
returns-then-is_err-clause-ends c =
    counts_stay c.args.self.now.ethernet.items c.args.port c.index_mut.result.now c.send.new.self c.index_mut.ensures.value (ap (λ r. remote_count r) c.send.ensures.remotes)

pub returns-then-is_err-clause-sends : goal.returns-then-is_err-clause-sends
returns-then-is_err-clause-sends c = (
  inr (inl (
    refl,
    search rules,
    refuses_there c.args.self.now.ethernet.items c.args.port c.args.end c.args.bytes.now c.index.result.now c.index_mut.result.now c.send.new.self c.in-Some.to c.index.ensures (sym c.place.ensures ∙ c.in-Some.is) c.index_mut.ensures.value
        (failed c.send.result (search rules) c.send.ensures.refused),
  )),
  refl,
  refl,
  refl,
  refl,
  refl,
)

pub returns-clause-sends : goal.returns-clause-sends
returns-clause-sends c = (
  inl (
    search rules,
    refl,
    sends_there c.args.self.now.ethernet.items c.args.port c.args.end c.args.bytes.now c.index.result.now c.index_mut.result.now c.send.new.self c.in-Some.to c.index.ensures (sym c.place.ensures ∙ c.in-Some.is) c.index_mut.ensures.value
        (not_failed c.send.result (search rules) c.send.ensures.sent),
  ),
  refl,
  refl,
  refl,
  refl,
  refl,
)

pub returns-clause-to : goal.returns-clause-to
returns-clause-to c =
    inl (sends_there c.args.self.now.ethernet.items c.args.port c.args.end c.args.bytes.now c.index.result.now c.index_mut.result.now c.send.new.self c.in-Some.to c.index.ensures (sym c.place.ensures ∙ c.in-Some.is) c.index_mut.ensures.value
    (not_failed c.send.result (search rules) c.send.ensures.sent))

pub returns-clause-sent : goal.returns-clause-sent
returns-clause-sent c =
    counts_there c.args.self.now.ethernet.items c.args.port c.args.end c.index.result.now c.index.ensures c.in-Some.to c.args.self.now.sent c.saturating_increment-2.new.count (sym c.place.ensures ∙ c.in-Some.is) c.saturating_increment-2.ensures.counted

pub returns-clause-ends : goal.returns-clause-ends
returns-clause-ends c =
    counts_stay c.args.self.now.ethernet.items c.args.port c.index_mut.result.now c.send.new.self c.index_mut.ensures.value (ap (λ r. remote_count r) c.send.ensures.remotes)
