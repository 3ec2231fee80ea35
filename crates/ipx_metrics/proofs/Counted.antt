use Rattle.std.proofs.Common.{◌≡◌, ◌∙◌, ◌≤◌, ℕ, List, length, Option, Some, None, Result, Ok, Err, ap, arith, inl, inr, refl, subst, sym}
use Rattle.std.specs.Option.{IfSome}
use Rattle.std.specs.Result.{OnErr, OnOk}
use Rattle.std.proofs.lemmas.List.{length-take-le}
use Rattle.ipx_router.specs.OutcomeView.{OutcomeView, Forward, Replies, Heard, Dropped}
use Rattle.ipx_carrier.specs.OutcomeCounters.{outcome_counted}
use Rattle.ipx_carrier.specs.PriorityRouterCore.{PriorityCoreView, PriorityHearOutOfMemory, PriorityGives, PriorityHears, PriorityNextOutOfMemory, put_by_priority}
use Rattle.ipx_carrier.specs.Turns.{Given}
use Rattle.ipx_carrier.specs.declared.outcome_counters.OutcomeCounters.{OutcomeCounters}
use Rattle.ipx_wire.specs.declared.address.Node.{Node}
use Rattle.ipx_carrier.specs.GivenPackets.{given_in}
use Rattle.ipx_metrics.specs.MeteredRouter.{CountedView, CountsAsItGives, IsCountedHeard, with_given}
use Rattle.ipx_metrics.specs.LastDrops.{AreNoted}
use Rattle.ipx_metrics.specs.PortCounts.{changed_at, with_heard_there, with_sent_there}
use Rattle.ipx_metrics.specs.declared.last_drops.LastDrops.{LastDrops}
use Rattle.ipx_metrics.specs.declared.port_counts.PortCounts.{PortCounts}
use Rattle.ipx_metrics.proofs.Sums.{AreFew, NoneFell, none_fell}

abbrev pub counted_of : PriorityCoreView → List PortCounts → LastDrops → CountedView
counted_of k ports last = record {
  router = k.router;
  queues = k.queues;
  started = k.started;
  dropped = k.dropped;
  outcomes = k.outcomes;
  port_counters = ports;
  last = last;
}

pub ok_with : {T E : Type 0} (r : Result T E) (P Q : Type 0) → Q → OnOk r P → OnOk r (P × Q)
ok_with (Ok x) P Q q p = (p, q)
ok_with (Err e) P Q q p = tt

pub err_with : {T E : Type 0} (r : Result T E) (P Q : Type 0) → Q → OnErr r P → OnErr r (P × Q)
err_with (Ok x) P Q q p = tt
err_with (Err e) P Q q p = (p, q)

-- what a port counts of what came, and what was dropped last
pub heard_counted : (k k' : PriorityCoreView) (ports lent ports' items' : List PortCounts) (last last' : LastDrops) (port : ℕ) (bytes : List ℕ) (before after : OutcomeCounters)
    → before ≡ k.outcomes → after ≡ k'.outcomes → lent ≡ ports → ports' ≡ changed_at lent port (with_heard_there before after (length bytes)) → items' ≡ ports'
    → AreNoted before after port bytes last last' → IsCountedHeard (counted_of k ports last) port bytes (counted_of k' items' last')
heard_counted k k' ports lent ports' items' last last' port bytes before after b a l e i n = record {
  port_counters = i ∙ e ∙ ap (λ it. changed_at it port (with_heard_there before after (length bytes))) l
      ∙ ap (λ f. changed_at ports port (with_heard_there f after (length bytes))) b ∙ ap (λ f. changed_at ports port (with_heard_there k.outcomes f (length bytes))) a;
  last = subst (λ f. AreNoted f k'.outcomes port bytes last last') b (subst (λ f. AreNoted before f port bytes last last') a n);
}

-- what an answer puts into a queue leaves the counts
answer_outcomes : (a : OutcomeView) (k : PriorityCoreView) → (put_by_priority a k).outcomes ≡ k.outcomes
answer_outcomes (Forward port next bytes) k = refl
answer_outcomes (Replies sent) k = refl
answer_outcomes (Heard n) k = refl
answer_outcomes (Dropped reason) k = refl

same_outcomes : (f : OutcomeCounters) → NoneFell f f
same_outcomes f = record {
  forwarded = omega arith;
  answered = omega arith;
  heard = omega arith;
  bad = omega arith;
  propagated = omega arith;
  not_ours = omega arith;
  no_route = omega arith;
  hop_limit = omega arith;
  bad_control = omega arith;
  table_full = omega arith;
}

heard_fell : (k k' : PriorityCoreView) (port : ℕ) (bytes : List ℕ) (now : ℕ) → AreFew k.outcomes → PriorityHears k port bytes now k' → NoneFell k.outcomes k'.outcomes
heard_fell k k' port bytes now few h =
    let is = ap (λ (v : PriorityCoreView). v.outcomes) h.3 ∙ answer_outcomes h.0 (record k { router = h.1; outcomes = outcome_counted h.0 k.outcomes }) in
    subst (NoneFell k.outcomes) (sym is) (none_fell h.0 k.outcomes few)

missed_fell : (k k' : PriorityCoreView) (port : ℕ) (bytes : List ℕ) (now : ℕ) → AreFew k.outcomes → PriorityHearOutOfMemory k port bytes now k' → NoneFell k.outcomes k'.outcomes
missed_fell k k' port bytes now few (router, inl x) = subst (NoneFell k.outcomes) (sym (ap (λ (v : PriorityCoreView). v.outcomes) x.0)) (same_outcomes k.outcomes)
missed_fell k k' port bytes now few (router, inr y) = subst (NoneFell k.outcomes) (sym (ap (λ (v : PriorityCoreView). v.outcomes) y.1)) (none_fell y.0 k.outcomes few)

-- no count of a router falls as it hears
pub fell_by : {T E : Type 0} (r : Result T E) (k k' : PriorityCoreView) (port : ℕ) (bytes : List ℕ) (now : ℕ) → AreFew k.outcomes → OnOk r (PriorityHears k port bytes now k') → OnErr r (PriorityHearOutOfMemory k port bytes now k') → NoneFell k.outcomes k'.outcomes
fell_by (Ok x) k k' port bytes now few p q = heard_fell k k' port bytes now few p
fell_by (Err e) k k' port bytes now few p q = missed_fell k k' port bytes now few q

-- nor does any change as it gives
pub given_same : (k k' : PriorityCoreView) (now : ℕ) (given : Option Given) → PriorityGives k now given k' → k'.outcomes ≡ k.outcomes
given_same k k' now given h = ap (λ (v : PriorityCoreView). v.outcomes) h.2.1 ∙ ap (λ (v : PriorityCoreView). v.outcomes) h.1.5

pub withheld_same : (k k' : PriorityCoreView) (now : ℕ) → PriorityNextOutOfMemory k now k' → k'.outcomes ≡ k.outcomes
withheld_same k k' now (inl h) = ap (λ (v : PriorityCoreView). v.outcomes) h.1
withheld_same k k' now (inr h) = ap (λ (v : PriorityCoreView). v.outcomes) h.3

pub some_is : {X : Type 0} (o : Option X) (x : X) (P : X → Type 0) → o ≡ Some x → IfSome o P → P x
some_is o x P e h = subst (λ it. IfSome it P) e h

-- a packet that is given is counted at its port
pub given_counted : (k k' : PriorityCoreView) (ports lent ports' items' : List PortCounts) (last : LastDrops) (now : ℕ) (room : List ℕ) (given : Option (ℕ × Node × ℕ)) (port count : ℕ) (node : Node)
    → given ≡ Some (port, node, count) → count ≤ length room → PriorityGives k now (given_in room given) k' → lent ≡ ports → ports' ≡ changed_at lent port (with_sent_there count) → items' ≡ ports'
    → CountsAsItGives (counted_of k ports last) now (given_in room given) (counted_of k' items' last)
given_counted k k' ports lent ports' items' last now room given port count node is few h l e i = (
  h,
  i ∙ e ∙ ap (λ it. changed_at it port (with_sent_there count)) l ∙ ap (λ n. changed_at ports port (with_sent_there n)) (sym (length-take-le count room few))
      ∙ ap (λ g. with_given (given_in room g) ports) (sym is),
  refl,
)

-- and if none is given, nothing is counted
pub none_counted : (k k' : PriorityCoreView) (ports : List PortCounts) (last : LastDrops) (now : ℕ) (room : List ℕ) (given : Option (ℕ × Node × ℕ)) → given ≡ None
    → PriorityGives k now (given_in room given) k' → CountsAsItGives (counted_of k ports last) now (given_in room given) (counted_of k' ports last)
none_counted k k' ports last now room given is h = (h, ap (λ g. with_given (given_in room g) ports) (sym is), refl)
