use Rattle.std.proofs.Common.{◌≡◌, ◌∙◌, ap, arith, inl, inr, length, refl, subst, sym}
use Rattle.std.specs.Result.{OnErr, OnOk}
use Rattle.std.proofs.lemmas.Result.{err_from_is_err_and, on_err_weaker, on_ok_weaker}
use Rattle.ipx_router.specs.RouterPackets.{sendings}
use Rattle.ipx_router.specs.OutcomeView.{router_outcome}
use Rattle.ipx_carrier.specs.Queued.{PutsAnswer}
use Rattle.ipx_carrier.specs.RouterCore.{CoreView, IsSpaceForAnswer, HearOutOfMemory, RouterHears, put_answer}
use Rattle.ipx_carrier.specs.RouterQueues.{AreGivable}
use Rattle.ipx_carrier.proofs.Givable.{IsGivableAnswer, answer_is_givable}
use Rattle.ipx_carrier.proofs.Putting.{core_of, kept_by_result, put_answer_is, same_core}
use Rattle.ipx_carrier.proofs.Queueing.{IsKept, err_both}
use Rattle.ipx_carrier.proofs.router_core.RouterCoreCore.hear.Goals as goal

pub invariant_of-self-2 : goal.invariant_of-self-2
invariant_of-self-2 c =
    let i = c.self.inside in
    let a = router_outcome c.in_ok-outcome.outcome in
    let put = c.put_outcome.new in
    let n = length i.router.ports in
    let same : length c.receive.new.self.ports ≡ n = ap length c.in_ok-outcome.ensures.rest.ports in
    let sent : IsGivableAnswer n a = answer_is_givable n i.router _ _ a c.in_ok-outcome.ensures.there c.in_ok-outcome.ensures.own c.in_ok-outcome.ensures.one_hop_on in
    let kept : IsKept n i.queue.items = record { few = c.self.invariant.1; givable = c.self.invariant.2 } in
    let after = kept_by_result c.put_outcome.result n a i.queue.items put.queue.items i.dropped put.dropped kept sent c.put_outcome.ensures.put c.put_outcome.ensures.refused in
    (omega (arith, same, c.self.invariant.0), after.few, subst (λ n. AreGivable n (sendings put.queue.items)) (sym same) after.givable)

pub returns-clause-heard : goal.returns-clause-heard
returns-clause-heard c =
    let i = c.self.inside in
    let a = router_outcome c.in_ok-outcome.outcome in
    let put = c.put_outcome.new in
    let q = sendings i.queue.items in
    let q' = sendings put.queue.items in
    let seen : CoreView = core_of i.outcomes i.router q i.started i.dropped in
    let after : CoreView = core_of c.count.new.self c.receive.new.self q' i.started put.dropped in
    let outcome_counted_is = ap (λ f. put_answer a (core_of f c.receive.new.self q i.started i.dropped)) c.count.ensures in
    let heard : OnOk c.put_outcome.result (RouterHears seen c.args.port c.args.bytes.now c.args.now after) =
    on_ok_weaker c.put_outcome.result (λ (p : PutsAnswer a q i.dropped q' put.dropped). (a, c.receive.new.self, c.in_ok-outcome.ensures.answer, put_answer_is c.count.new.self a q q' i.dropped put.dropped c.receive.new.self i.started p ∙ outcome_counted_is)) c.put_outcome.ensures.put in
    subst (λ (v : CoreView). OnOk c.put_outcome.result (RouterHears v c.args.port c.args.bytes.now c.args.now after)) c.self.view_is heard

pub returns-in_err-outcome-clause-refused : goal.returns-in_err-outcome-clause-refused
returns-in_err-outcome-clause-refused c =
    let p = err_from_is_err_and c.from_residual.result c.from_residual.ensures.1 in
    let i = c.self.inside in
    let q = sendings i.queue.items in
    let e = c.in_err-outcome.ensures in
    let after : CoreView = core_of i.outcomes c.receive.new.self q i.started i.dropped in
    let missed : HearOutOfMemory (core_of i.outcomes i.router q i.started i.dropped) c.args.port c.args.bytes.now c.args.now after =
    (c.receive.new.self, inl (refl, (e.refused, e.rest, e.told))) in
    rw p.1
    (subst (λ (v : CoreView). HearOutOfMemory v c.args.port c.args.bytes.now c.args.now after) c.self.view_is missed)

pub returns-clause-refused : goal.returns-clause-refused
returns-clause-refused c =
    let i = c.self.inside in
    let a = router_outcome c.in_ok-outcome.outcome in
    let put = c.put_outcome.new in
    let q = i.queue.items in
    let q' = put.queue.items in
    let seen : CoreView = core_of i.outcomes i.router (sendings q) i.started i.dropped in
    let after : CoreView = core_of c.count.new.self c.receive.new.self (sendings q') i.started put.dropped in
    let outcome_counted_is = ap (λ f. core_of f c.receive.new.self (sendings q) i.started i.dropped) c.count.ensures in
    let missed : OnErr c.put_outcome.result (HearOutOfMemory seen c.args.port c.args.bytes.now c.args.now after) =
    on_err_weaker c.put_outcome.result (λ (p : ((q' ≡ q) × (put.dropped ≡ i.dropped)) × IsSpaceForAnswer (sendings q) a). (c.receive.new.self, inr (a, same_core c.count.new.self c.receive.new.self q q' i.started i.started i.dropped put.dropped p.0 refl ∙ outcome_counted_is, c.in_ok-outcome.ensures.answer, p.1)))
    (err_both c.put_outcome.result _ _ c.put_outcome.ensures.refused c.put_outcome.ensures.lost) in
    subst (λ (v : CoreView). OnErr c.put_outcome.result (HearOutOfMemory v c.args.port c.args.bytes.now c.args.now after)) c.self.view_is missed
