use Rattle.std.proofs.Common.{◌≡◌, ◌∙◌, ap, arith, inl, inr, length, refl, subst, sym}
use Rattle.std.specs.Result.{OnErr, OnOk}
use Rattle.std.proofs.lemmas.Result.{err_from_is_err_and, on_err_weaker, on_ok_weaker}
use Rattle.ipx_router.specs.RouterPackets.{sendings}
use Rattle.ipx_router.specs.OutcomeView.{router_outcome}
use Rattle.ipx_carrier.specs.RouterQueues.{AreGivable}
use Rattle.ipx_carrier.specs.PriorityRouterCore.{PriorityCoreView, PriorityHears, IsSpaceByPriority, PriorityHearOutOfMemory, put_by_priority}
use Rattle.ipx_carrier.specs.PriorityQueued.{PutsByPriority, priority_queues}
use Rattle.ipx_carrier.proofs.Givable.{IsGivableAnswer, answer_is_givable}
use Rattle.ipx_carrier.proofs.PriorityPutting.{core_of, kept_by_result, put_by_priority_is, same_queues}
use Rattle.ipx_carrier.proofs.Queueing.{IsKept, err_both}
use Rattle.ipx_carrier.proofs.priority_router_core.PriorityRouterCoreCore.hear.Goals as goal

pub invariant_of-self-2 : goal.invariant_of-self-2
invariant_of-self-2 c =
    let i = c.self.inside in
    let a = router_outcome c.in_ok-outcome.outcome in
    let put = c.put_outcome.new in
    let n = length i.router.ports in
    let same : length c.receive.new.self.ports ≡ n = ap length c.in_ok-outcome.ensures.rest.ports in
    let sent : IsGivableAnswer n a = answer_is_givable n i.router _ _ a c.in_ok-outcome.ensures.there c.in_ok-outcome.ensures.own c.in_ok-outcome.ensures.one_hop_on in
    let forwarded : IsKept n i.forwarded.items = record { few = c.self.invariant.1; givable = c.self.invariant.3 } in
    let own : IsKept n i.own.items = record { few = c.self.invariant.2; givable = c.self.invariant.4 } in
    let after = kept_by_result c.put_outcome.result n a i.forwarded.items put.forwarded.items i.own.items put.own.items i.dropped put.dropped forwarded own sent c.put_outcome.ensures.put c.put_outcome.ensures.refused in (
      omega (arith, same, c.self.invariant.0),
      after.0.few,
      after.1.few,
      subst (λ n. AreGivable n (sendings put.forwarded.items)) (sym same) after.0.givable,
      subst (λ n. AreGivable n (sendings put.own.items)) (sym same) after.1.givable,
    )

pub returns-clause-heard : goal.returns-clause-heard
returns-clause-heard c =
    let i = c.self.inside in
    let a = router_outcome c.in_ok-outcome.outcome in
    let put = c.put_outcome.new in
    let w = sendings i.forwarded.items in
    let w' = sendings put.forwarded.items in
    let q = sendings i.own.items in
    let q' = sendings put.own.items in
    let before = priority_queues i.forwarded.items i.own.items i.originated_run in
    let seen : PriorityCoreView = core_of i.outcomes i.router before i.started i.dropped in
    let after : PriorityCoreView = core_of c.count.new.self c.receive.new.self (priority_queues put.forwarded.items put.own.items i.originated_run) i.started put.dropped in
    let outcome_counted_is = ap (λ f. put_by_priority a (core_of f c.receive.new.self before i.started i.dropped)) c.count.ensures in
    let heard : OnOk c.put_outcome.result (PriorityHears seen c.args.port c.args.bytes.now c.args.now after) =
    on_ok_weaker c.put_outcome.result (λ (p : PutsByPriority a w q i.dropped w' q' put.dropped). (a, c.receive.new.self, c.in_ok-outcome.ensures.answer, put_by_priority_is c.count.new.self a w w' q q' i.originated_run i.dropped put.dropped c.receive.new.self i.started p ∙ outcome_counted_is)) c.put_outcome.ensures.put in
    subst (λ (v : PriorityCoreView). OnOk c.put_outcome.result (PriorityHears v c.args.port c.args.bytes.now c.args.now after)) c.self.view_is heard

pub returns-in_err-outcome-clause-refused : goal.returns-in_err-outcome-clause-refused
returns-in_err-outcome-clause-refused c =
    let p = err_from_is_err_and c.from_residual.result c.from_residual.ensures.1 in
    let i = c.self.inside in
    let before = priority_queues i.forwarded.items i.own.items i.originated_run in
    let e = c.in_err-outcome.ensures in
    let after : PriorityCoreView = core_of i.outcomes c.receive.new.self before i.started i.dropped in
    let missed : PriorityHearOutOfMemory (core_of i.outcomes i.router before i.started i.dropped) c.args.port c.args.bytes.now c.args.now after =
    (c.receive.new.self, inl (refl, (e.refused, e.rest, e.told))) in
    rw p.1
    (subst (λ (v : PriorityCoreView). PriorityHearOutOfMemory v c.args.port c.args.bytes.now c.args.now after) c.self.view_is missed)

pub returns-clause-refused : goal.returns-clause-refused
returns-clause-refused c =
    let i = c.self.inside in
    let a = router_outcome c.in_ok-outcome.outcome in
    let put = c.put_outcome.new in
    let w = i.forwarded.items in
    let w' = put.forwarded.items in
    let q = i.own.items in
    let q' = put.own.items in
    let before = priority_queues w q i.originated_run in
    let seen : PriorityCoreView = core_of i.outcomes i.router before i.started i.dropped in
    let after : PriorityCoreView = core_of c.count.new.self c.receive.new.self (priority_queues w' q' i.originated_run) i.started put.dropped in
    let outcome_counted_is = ap (λ f. core_of f c.receive.new.self before i.started i.dropped) c.count.ensures in
    let missed : OnErr c.put_outcome.result (PriorityHearOutOfMemory seen c.args.port c.args.bytes.now c.args.now after) =
    on_err_weaker c.put_outcome.result (λ (p : ((w' ≡ w) × (q' ≡ q) × (put.dropped ≡ i.dropped)) × IsSpaceByPriority (sendings w) (sendings q) a). (c.receive.new.self, inr (a, same_queues c.count.new.self c.receive.new.self w w' q q' i.originated_run i.started i.dropped put.dropped p.0 ∙ outcome_counted_is, c.in_ok-outcome.ensures.answer, p.1)))
    (err_both c.put_outcome.result _ _ c.put_outcome.ensures.refused c.put_outcome.ensures.lost) in
    subst (λ (v : PriorityCoreView). OnErr c.put_outcome.result (PriorityHearOutOfMemory v c.args.port c.args.bytes.now c.args.now after)) c.self.view_is missed
