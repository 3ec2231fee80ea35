use Rattle.std.proofs.Common.{◌≡◌, ◌∙◌, ◌<◌, ap, arith, length, subst, sym}
use Rattle.std.specs.Result.{OnErr, OnOk}
use Rattle.std.specs.Vec.{with_items}
use Rattle.std.proofs.lemmas.List.{with_items_is}
use Rattle.ipx_carrier.specs.PriorityRouterCore.{PriorityHearOutOfMemory, PriorityHears}
use Rattle.ipx_metrics.specs.MeteredRouter.{CountedView, CountsHeard, CountsMissed, IsCountedHeard}
use Rattle.ipx_metrics.specs.PortCounts.{outcomes_over}
use Rattle.ipx_metrics.proofs.Counted.{counted_of, err_with, fell_by, heard_counted, ok_with}
use Rattle.ipx_metrics.proofs.Sums.{AreFew, still_sums}
use Rattle.ipx_metrics.proofs.metered_router.MeteredRouterCore.hear.Goals as goal

pub invariant_of-self : goal.invariant_of-self
invariant_of-self c =
    let i = c.self.inside in
    let k' = c.hear-heard.new.self in
    let ports' = c.hear_at.new.ports in
    let len : length ports' ≡ i.ports.len = omega (arith, c.hear_at.auto.ports, c.deref_mut.ensures.len) in
    let is : (with_items i.ports ports').items ≡ ports' = with_items_is i.ports ports' len in
    let count = heard_counted i.core k' i.ports.items c.deref_mut.result.now ports' (with_items i.ports ports').items i.last c.note.new.self c.args.port c.args.bytes.now c.outcomes-before.result c.outcomes-after.result
    c.outcomes-before.ensures c.outcomes-after.ensures c.deref_mut.ensures.value c.hear_at.ensures is c.note.ensures in
    let before : AreFew c.outcomes-before.result = record { forwarded = omega arith; answered = omega arith; heard = omega arith; bad = omega arith; propagated = omega arith; not_ours = omega arith; no_route = omega arith; hop_limit = omega arith; bad_control = omega arith; table_full = omega arith } in
    let after : AreFew c.outcomes-after.result = record { forwarded = omega arith; answered = omega arith; heard = omega arith; bad = omega arith; propagated = omega arith; not_ours = omega arith; no_route = omega arith; hop_limit = omega arith; bad_control = omega arith; table_full = omega arith } in
    let fell = fell_by c.hear-heard.result i.core k' c.args.port c.args.bytes.now c.args.now (subst AreFew c.outcomes-before.ensures before) c.hear-heard.ensures.heard c.hear-heard.ensures.refused in
    let there : c.args.port < length i.ports.items = omega (arith, c.requires, ap (λ (v : CountedView). length v.router.ports) c.self.view_is, c.self.invariant.0) in
    let sums = still_sums i.ports.items c.args.port (length c.args.bytes.now) i.core.outcomes k'.outcomes there c.self.invariant.1 fell (subst AreFew c.outcomes-after.ensures after) in
    (omega (arith, ap length is, c.hear_at.auto.ports, ap length c.deref_mut.ensures.value, c.self.invariant.0, c.hear-heard.ensures.ports), sums ∙ ap outcomes_over (sym count.port_counters))

pub returns-clause-heard : goal.returns-clause-heard
returns-clause-heard c =
    let i = c.self.inside in
    let k' = c.hear-heard.new.self in
    let ports' = c.hear_at.new.ports in
    let len : length ports' ≡ i.ports.len = omega (arith, c.hear_at.auto.ports, c.deref_mut.ensures.len) in
    let seen = counted_of i.core i.ports.items i.last in
    let new = counted_of k' (with_items i.ports ports').items c.note.new.self in
    let count : IsCountedHeard seen c.args.port c.args.bytes.now new = heard_counted i.core k' i.ports.items c.deref_mut.result.now ports' (with_items i.ports ports').items i.last c.note.new.self c.args.port c.args.bytes.now c.outcomes-before.result c.outcomes-after.result
    c.outcomes-before.ensures c.outcomes-after.ensures c.deref_mut.ensures.value c.hear_at.ensures (with_items_is i.ports ports' len) c.note.ensures in
    subst (λ (v : CountedView). OnOk c.hear-heard.result (CountsHeard v c.args.port c.args.bytes.now c.args.now new)) c.self.view_is
    (ok_with c.hear-heard.result (PriorityHears i.core c.args.port c.args.bytes.now c.args.now k') (IsCountedHeard seen c.args.port c.args.bytes.now new) count c.hear-heard.ensures.heard)

pub returns-clause-refused : goal.returns-clause-refused
returns-clause-refused c =
    let i = c.self.inside in
    let k' = c.hear-heard.new.self in
    let ports' = c.hear_at.new.ports in
    let len : length ports' ≡ i.ports.len = omega (arith, c.hear_at.auto.ports, c.deref_mut.ensures.len) in
    let seen = counted_of i.core i.ports.items i.last in
    let new = counted_of k' (with_items i.ports ports').items c.note.new.self in
    let count : IsCountedHeard seen c.args.port c.args.bytes.now new = heard_counted i.core k' i.ports.items c.deref_mut.result.now ports' (with_items i.ports ports').items i.last c.note.new.self c.args.port c.args.bytes.now c.outcomes-before.result c.outcomes-after.result
    c.outcomes-before.ensures c.outcomes-after.ensures c.deref_mut.ensures.value c.hear_at.ensures (with_items_is i.ports ports' len) c.note.ensures in
    subst (λ (v : CountedView). OnErr c.hear-heard.result (CountsMissed v c.args.port c.args.bytes.now c.args.now new)) c.self.view_is
    (err_with c.hear-heard.result (PriorityHearOutOfMemory i.core c.args.port c.args.bytes.now c.args.now k') (IsCountedHeard seen c.args.port c.args.bytes.now new) count c.hear-heard.ensures.refused)
