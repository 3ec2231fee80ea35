use Rattle.std.proofs.Common.{◌≡◌, ◌<◌, ap, arith, inl, true, length, subst, sym, List}
use Rattle.std.specs.Option.{IfSome}
use Rattle.std.proofs.lemmas.Result.{err_from_is_err_and}
use Rattle.ipx_router.specs.declared.outcome.Reply.{Reply}
use Rattle.ipx_router.specs.RouterPackets.{sendings}
use Rattle.ipx_carrier.specs.RouterQueues.{AreGivable}
use Rattle.ipx_carrier.specs.PriorityRouterCore.{PriorityCoreView, PriorityGives, PriorityNextOutOfMemory}
use Rattle.ipx_carrier.specs.PriorityQueued.{priority_queues}
use Rattle.ipx_carrier.specs.GivenPackets.{given_in}
use Rattle.ipx_carrier.proofs.PriorityPutting.{core_of, kept_given, next_gives, next_withholds, same_core}
use Rattle.ipx_carrier.proofs.Advertising.{kept_next}
use Rattle.ipx_carrier.proofs.Queueing.{IsKept, kept_by_put}
use Rattle.ipx_carrier.proofs.priority_router_core.PriorityRouterCoreCore.next.Goals as goal

pub dequeue-requires-clause-givable : goal.dequeue-requires-clause-givable
dequeue-requires-clause-givable c =
    let i = c.self.inside in
    let kept = kept_next i.router c.enqueue_advertisements.new.router i.own.items c.enqueue_start.new.queue.items c.enqueue_advertisements.new.own.items i.started i.dropped c.enqueue_start.new.dropped c.enqueue_advertisements.new.dropped c.args.now (record { few = c.self.invariant.2; givable = c.self.invariant.4 }) c.in_ok-enqueue_start.ensures.put c.in_ok-enqueue_advertisements.ensures.put in
    (length i.router.ports, c.self.invariant.3, kept.givable)

pub invariant_of-self-2 : goal.invariant_of-self-2
invariant_of-self-2 c =
    let i = c.self.inside in
    let n = length i.router.ports in
    let kept = kept_next i.router c.enqueue_advertisements.new.router i.own.items c.enqueue_start.new.queue.items c.enqueue_advertisements.new.own.items i.started i.dropped c.enqueue_start.new.dropped c.enqueue_advertisements.new.dropped c.args.now (record { few = c.self.invariant.2; givable = c.self.invariant.4 }) c.in_ok-enqueue_start.ensures.put c.in_ok-enqueue_advertisements.ensures.put in
    let forwarded : IsKept n i.forwarded.items = record { few = c.self.invariant.1; givable = c.self.invariant.3 } in
    let same : length c.enqueue_advertisements.new.router.ports ≡ n = ap length c.in_ok-enqueue_advertisements.ensures.ports in
    let new = c.dequeue.new in
    let after = kept_given n i.forwarded.items new.forwarded.items c.enqueue_advertisements.new.own.items new.own.items i.originated_run new.originated_run (given_in new.room c.dequeue.result) forwarded kept c.dequeue.ensures.given in (
      omega (arith, same, c.self.invariant.0),
      after.0.few,
      after.1.few,
      subst (λ n. AreGivable n (sendings new.forwarded.items)) (sym same) after.0.givable,
      subst (λ n. AreGivable n (sendings new.own.items)) (sym same) after.1.givable,
    )

pub returns-clause-given : goal.returns-clause-given
returns-clause-given c =
    let i = c.self.inside in
    let new = c.dequeue.new in
    let given = given_in new.room c.dequeue.result in
    let after : PriorityCoreView = core_of i.outcomes c.enqueue_advertisements.new.router (priority_queues new.forwarded.items new.own.items new.originated_run) c.enqueue_start.new.started c.enqueue_advertisements.new.dropped in
    subst (λ (v : PriorityCoreView). PriorityGives v c.args.now given after) c.self.view_is
    (next_gives i.outcomes i.router c.enqueue_advertisements.new.router i.forwarded.items new.forwarded.items i.own.items c.enqueue_start.new.queue.items c.enqueue_advertisements.new.own.items new.own.items i.originated_run new.originated_run i.started c.enqueue_start.new.started i.dropped c.enqueue_start.new.dropped c.enqueue_advertisements.new.dropped c.args.now given c.in_ok-enqueue_start.ensures.put c.in_ok-enqueue_advertisements.ensures.put c.in_ok-enqueue_start.ensures.started c.dequeue.ensures.given)

pub returns-clause-there : goal.returns-clause-there
returns-clause-there c =
    let i = c.self.inside in
    let kept = kept_next i.router c.enqueue_advertisements.new.router i.own.items c.enqueue_start.new.queue.items c.enqueue_advertisements.new.own.items i.started i.dropped c.enqueue_start.new.dropped c.enqueue_advertisements.new.dropped c.args.now (record { few = c.self.invariant.2; givable = c.self.invariant.4 }) c.in_ok-enqueue_start.ensures.put c.in_ok-enqueue_advertisements.ensures.put in
    let there = c.dequeue.ensures.there (length i.router.ports) c.self.invariant.3 kept.givable in
    subst (λ (v : PriorityCoreView). IfSome c.dequeue.result (λ g. g.0 < length v.router.ports)) c.self.view_is there

pub returns-in_err-enqueue_start-clause-refused : goal.returns-in_err-enqueue_start-clause-refused
returns-in_err-enqueue_start-clause-refused c =
    let p = err_from_is_err_and c.from_residual.result c.from_residual.ensures.1 in
    let i = c.self.inside in
    let e = c.in_err-enqueue_start.ensures in
    let new = c.enqueue_start.new in
    let w = i.forwarded.items in
    let after : PriorityCoreView = core_of i.outcomes i.router (priority_queues w new.queue.items i.originated_run) new.started new.dropped in
    let withheld : PriorityNextOutOfMemory (core_of i.outcomes i.router (priority_queues w i.own.items i.originated_run) i.started i.dropped) c.args.now after =
    inl (e.once, same_core i.outcomes i.router w i.own.items new.queue.items i.originated_run true new.started i.dropped new.dropped e.refused e.started) in
    rw p.1 (subst (λ (v : PriorityCoreView). PriorityNextOutOfMemory v c.args.now after) c.self.view_is withheld)

pub invariant_of-self-in_err-enqueue_advertisements : goal.invariant_of-self-in_err-enqueue_advertisements
invariant_of-self-in_err-enqueue_advertisements c =
    let i = c.self.inside in
    let n = length i.router.ports in
    let e = c.in_err-enqueue_advertisements.ensures in
    let h = c.in_ok-enqueue_start.ensures.put in
    let begun : IsKept n c.enqueue_start.new.queue.items = kept_by_put n h.0 i.own.items c.enqueue_start.new.queue.items i.dropped c.enqueue_start.new.dropped (record { few = c.self.invariant.2; givable = c.self.invariant.4 }) h.3 h.2 in
    let same : length c.enqueue_advertisements.new.router.ports ≡ n = ap length e.ports in (
      omega (arith, same, c.self.invariant.0),
      c.self.invariant.1,
      omega (arith, begun.few, ap length e.refused.0),
      subst (λ n. AreGivable n (sendings i.forwarded.items)) (sym same) c.self.invariant.3,
      subst (λ n. AreGivable n (sendings c.enqueue_advertisements.new.own.items)) (sym same) (subst (λ (xs : List Reply). AreGivable n (sendings xs)) (sym e.refused.0) begun.givable),
    )

pub returns-in_err-enqueue_advertisements-clause-refused : goal.returns-in_err-enqueue_advertisements-clause-refused
returns-in_err-enqueue_advertisements-clause-refused c =
    let p = err_from_is_err_and c.from_residual-in_err-enqueue_advertisements.result c.from_residual-in_err-enqueue_advertisements.ensures.1 in
    let i = c.self.inside in
    let e = c.in_err-enqueue_advertisements.ensures in
    let s = c.enqueue_start.new in
    let t = c.enqueue_advertisements.new in
    let w = i.forwarded.items in
    let after : PriorityCoreView = core_of i.outcomes t.router (priority_queues w t.own.items i.originated_run) s.started t.dropped in
    let withheld : PriorityNextOutOfMemory (core_of i.outcomes i.router (priority_queues w i.own.items i.originated_run) i.started i.dropped) c.args.now after =
    next_withholds i.outcomes i.router t.router w i.own.items s.queue.items t.own.items i.originated_run i.started s.started i.dropped s.dropped t.dropped c.args.now c.in_ok-enqueue_start.ensures.put c.in_ok-enqueue_start.ensures.started e.refused e.lost in
    rw p.1 (subst (λ (v : PriorityCoreView). PriorityNextOutOfMemory v c.args.now after) c.self.view_is withheld)
