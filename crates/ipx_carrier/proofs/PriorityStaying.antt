-- What stays of a router as a core while its packets leave.
use Rattle.std.proofs.Common.{◌≡◌, ◌≤◌, ◌<◌, ◌⊎◌, ℕ, ◌+◌, ◌-◌, ◌^◌, Bool, true, false, cond, List, [], ◌++◌, length, min, Option, Some, None, refl, sym, ap, ◌∙◌, subst, inl, inr, arith, nat_le, length-append, MatchBool}
use Rattle.std.proofs.lemmas.List.{append-nil}
use borrow.Author.Tests.{leb-true}
use Rattle.ipx_tables.specs.Content.{is_young, still}
use Rattle.ipx_router.specs.declared.port.Port.{Port}
use Rattle.ipx_router.specs.Knowledge.{Known, known_at, routes_in, services_in}
use Rattle.ipx_router.specs.RouterPackets.{SendingView}
use Rattle.ipx_router.specs.RouterView.{RouterView}
use Rattle.ipx_router.specs.Starting.{AreStarts}
use Rattle.ipx_router.specs.Advertisements.{AreAdvertisements, is_due}
use Rattle.ipx_carrier.specs.RouterQueues.{TellsNow, dropped_if_full, max_queued, put_after}
use Rattle.ipx_carrier.specs.PriorityRouterCore.{PriorityQueues, PriorityCoreView, HoldsTheSame, KeepsAllButQueues, Dequeues, PriorityStartsAndTells, after_advertisement, dropped_by_advertisement}
use Rattle.ipx_carrier.proofs.Advertising.{counted_after}

-- ---- what is advertised, and when

-- none is due at the time of an advertisement that was just sent
told_by : (k : Known) (last told : Option ℕ) (now : ℕ) (sent : List SendingView) (due : Bool) → is_due last now ≡ due
    → MatchBool due (AreAdvertisements k.ports k.routes k.services now 1 k.ports sent × (told ≡ Some now)) ((sent ≡ []) × (told ≡ last)) → is_due told now ≡ false
told_by k last told now sent true e h =
    let same : now - now ≡ 0 = omega arith in
    ap (λ o. is_due o now) h.1 ∙ ap (λ n. nat_le 60000 n) same
told_by k last told now sent false e h = ap (λ o. is_due o now) h.1 ∙ e

none_told : (k : Known) (last told : Option ℕ) (now : ℕ) (sent : List SendingView) (due : Bool) → due ≡ false
    → MatchBool due (AreAdvertisements k.ports k.routes k.services now 1 k.ports sent × (told ≡ Some now)) ((sent ≡ []) × (told ≡ last)) → (sent ≡ []) × (told ≡ last)
none_told k last told now sent true e h = absurd (cc)
none_told k last told now sent false e h = h

-- after an advertisement none is due at that time
pub not_due : (old new : RouterView) (now : ℕ) (sent : List SendingView) → TellsNow old now sent new → is_due new.advertised_at now ≡ false
not_due old new now sent h = told_by (known_at old now) old.advertised_at new.advertised_at now sent (is_due old.advertised_at now) refl h.0

pub tells_nothing : (old new : RouterView) (now : ℕ) (sent : List SendingView) → is_due old.advertised_at now ≡ false → TellsNow old now sent new → (sent ≡ []) × (new.advertised_at ≡ old.advertised_at)
tells_nothing old new now sent late h = none_told (known_at old now) old.advertised_at new.advertised_at now sent (is_due old.advertised_at now) late h.0

none_first : (ports : List Port) (started : Bool) (sent : List SendingView) → started ≡ true → MatchBool started (sent ≡ []) (AreStarts 1 ports sent) → sent ≡ []
none_first ports true sent e h = h
none_first ports false sent e h = absurd (cc)

-- ---- what a router holds

still_by : {M : Type 0} (now : ℕ) (v : M × ℕ) (young : Bool) → is_young now v.1 ≡ young → still now (cond young (Some v) None) ≡ cond young (Some v) None
still_by now v true e = ap (λ b. cond b (Some v) None) e
still_by now v false e = refl

still_twice : {M : Type 0} (now : ℕ) (o : Option (M × ℕ)) → still now (still now o) ≡ still now o
still_twice now None = refl
still_twice now (Some v) = still_by now v (is_young now v.1) refl

still_same : {M : Type 0} (now : ℕ) (first second third : Option (M × ℕ)) → second ≡ still now first → third ≡ still now second → third ≡ second
still_same now first second third e k = k ∙ ap (still now) e ∙ still_twice now first ∙ sym e

-- asked again at the same time, it holds what it held
told_again : (old mid new : RouterView) (now : ℕ) (first second : List SendingView) → TellsNow old now first mid → TellsNow mid now second new → HoldsTheSame mid new
told_again old mid new now first second h k = (
  record {
    routes = λ p. still_same now (routes_in old.routes p) (routes_in mid.routes p) (routes_in new.routes p) (h.1.routes p) (k.1.routes p);
    services = λ p. still_same now (services_in old.services p) (services_in mid.services p) (services_in new.services p) (h.1.services p) (k.1.services p);
  },
  k.2,
  (tells_nothing mid new now second (not_due old mid now first h) k).1,
)

holds_on : (a b c : RouterView) → HoldsTheSame a b → HoldsTheSame b c → HoldsTheSame a c
holds_on a b c h k = (
  record { routes = λ p. k.0.routes p ∙ h.0.routes p; services = λ p. k.0.services p ∙ h.0.services p },
  record { ports = k.1.ports ∙ h.1.ports; most_routes = k.1.most_routes ∙ h.1.most_routes; most_services = k.1.most_services ∙ h.1.most_services },
  k.2 ∙ h.2,
)

-- ---- what a queue counts

put_nothing_by : (b : Bool) (q : List SendingView) → cond b (q ++ []) q ≡ q
put_nothing_by true q = append-nil q
put_nothing_by false q = refl

put_nothing : (q : List SendingView) → put_after q [] ≡ q
put_nothing q = put_nothing_by (nat_le (length q + 0) max_queued) q

-- a queue is within its limit, or what it dropped was counted
abbrev IsCounted : List SendingView → ℕ → Type 0
IsCounted q d = (length q ≤ max_queued) ⊎ (d < 2 ^ 64)

counted_by : (b : Bool) (q sent : List SendingView) (d : ℕ) → b ≡ nat_le (length q + length sent) max_queued → IsCounted (cond b (q ++ sent) q) (cond b d (min (d + length sent) (2 ^ 64 - 1)))
counted_by true q sent d e =
    let room : length q + length sent ≤ max_queued = leb-true _ _ (sym e) in
    inl (omega (arith, length-append q sent))
counted_by false q sent d e = inr (grind (arith))

is_counted : (q sent : List SendingView) (d : ℕ) → IsCounted (put_after q sent) (dropped_if_full q sent d)
is_counted q sent d = counted_by (nat_le (length q + length sent) max_queued) q sent d refl

counted_fewer : (q q' : List SendingView) (d : ℕ) → length q' ≤ length q → IsCounted q d → IsCounted q' d
counted_fewer q q' d fewer (inl few) = inl (omega (arith, few, fewer))
counted_fewer q q' d fewer (inr less) = inr less

drops_nothing_by : (b : Bool) (q : List SendingView) (d : ℕ) → b ≡ nat_le (length q + 0) max_queued → IsCounted q d → cond b d (min (d + 0) (2 ^ 64 - 1)) ≡ d
drops_nothing_by true q d e h = refl
drops_nothing_by false q d e (inl few) = absurd (grind (arith))
drops_nothing_by false q d e (inr less) = grind (arith)

drops_nothing : (q : List SendingView) (d : ℕ) → IsCounted q d → dropped_if_full q [] d ≡ d
drops_nothing q d h = drops_nothing_by (nat_le (length q + 0) max_queued) q d refl h

-- ---- a core that started and advertised is asked again

-- its own are no more than they were
pub no_more_own : (s : SendingView) (old new : PriorityQueues) → Dequeues old (Some s) new → length new.own ≤ length old.own
no_more_own s old new (inl h) = omega (arith, ap (λ (q : PriorityQueues). length q.own) h.1)
no_more_own s old new (inr h) = omega (arith, ap length h.1)

-- nothing is put after its own
puts_nothing : (now : ℕ) (old ready mid again : PriorityCoreView) → (h : PriorityStartsAndTells old now ready) → mid ≡ record ready { queues = mid.queues } → (g : PriorityStartsAndTells mid now again) → (g.0 ≡ []) × (g.1 ≡ [])
puts_nothing now old ready mid again h m g =
    let router : mid.router ≡ h.2 = ap (λ (c : PriorityCoreView). c.router) m ∙ ap (λ (c : PriorityCoreView). c.router) h.5 in
    let started : mid.started ≡ true = ap (λ (c : PriorityCoreView). c.started) m ∙ ap (λ (c : PriorityCoreView). c.started) h.5 in
    let late : is_due mid.router.advertised_at now ≡ false = ap (λ (v : RouterView). is_due v.advertised_at now) router ∙ not_due old.router h.2 now h.1 h.4 in
    (none_first mid.router.ports mid.started g.0 started g.3, (tells_nothing mid.router g.2 now g.1 late g.4).0)

-- so its queues stay
pub ready_once : (now : ℕ) (old ready mid again : PriorityCoreView) → PriorityStartsAndTells old now ready → mid ≡ record ready { queues = mid.queues } → PriorityStartsAndTells mid now again → again.queues ≡ mid.queues
ready_once now old ready mid again h m g =
    let none = puts_nothing now old ready mid again h m g in
    let own : after_advertisement (put_after mid.queues.own g.0) g.1 ≡ mid.queues.own =
    ap (λ (xs : List SendingView). after_advertisement (put_after mid.queues.own xs) g.1) none.0
    ∙ ap (λ (xs : List SendingView). after_advertisement (put_after mid.queues.own []) xs) none.1
    ∙ put_nothing mid.queues.own in
    ap (λ (c : PriorityCoreView). c.queues) g.5 ∙ ap (λ (xs : List SendingView). record mid.queues { own = xs }) own

-- what was dropped stays
dropped_once : (now : ℕ) (old ready mid again : PriorityCoreView) → PriorityStartsAndTells old now ready → mid ≡ record ready { queues = mid.queues } → PriorityStartsAndTells mid now again → length mid.queues.own ≤ length ready.queues.own → again.dropped ≡ mid.dropped
dropped_once now old ready mid again h m g fewer =
    let none = puts_nothing now old ready mid again h m g in
    let q = mid.queues.own in
    let before : IsCounted ready.queues.own ready.dropped =
    subst (λ (c : PriorityCoreView). IsCounted c.queues.own c.dropped) (sym h.5) (counted_after (put_after old.queues.own h.0) h.1 (dropped_if_full old.queues.own h.0 old.dropped) (is_counted old.queues.own h.0 old.dropped)) in
    let here : IsCounted q ready.dropped = counted_fewer ready.queues.own q ready.dropped fewer before in
    let counted : IsCounted q mid.dropped = subst (IsCounted q) (sym (ap (λ (c : PriorityCoreView). c.dropped) m)) here in
    let d = mid.dropped in
    ap (λ (c : PriorityCoreView). c.dropped) g.5
    ∙ ap (λ (xs : List SendingView). dropped_by_advertisement (put_after q xs) g.1 (dropped_if_full q xs d)) none.0
    ∙ ap (λ (xs : List SendingView). dropped_by_advertisement (put_after q []) xs (dropped_if_full q [] d)) none.1
    ∙ drops_nothing q d counted

rest_same : (old new : PriorityCoreView) → new.started ≡ old.started → new.dropped ≡ old.dropped → new.outcomes ≡ old.outcomes → new ≡ record old { router = new.router; queues = new.queues }
rest_same old new s d f =
    ap (λ s. record new { started = s }) s ∙ ap (λ d. record new { started = old.started; dropped = d }) d
    ∙ ap (λ f. record new { started = old.started; dropped = old.dropped; outcomes = f }) f

-- and all else does
pub all_once : (now : ℕ) (old ready mid again : PriorityCoreView) → PriorityStartsAndTells old now ready → mid ≡ record ready { queues = mid.queues } → PriorityStartsAndTells mid now again → length mid.queues.own ≤ length ready.queues.own → KeepsAllButQueues ready again
all_once now old ready mid again h m g fewer =
    let ready_is : ready.router ≡ h.2 = ap (λ (c : PriorityCoreView). c.router) h.5 in
    let mid_is : mid.router ≡ h.2 = ap (λ (c : PriorityCoreView). c.router) m ∙ ready_is in
    let again_is : again.router ≡ g.2 = ap (λ (c : PriorityCoreView). c.router) g.5 in
    let tells : TellsNow h.2 now g.1 g.2 = subst (λ (v : RouterView). TellsNow v now g.1 g.2) mid_is g.4 in
    let held : HoldsTheSame h.2 g.2 = told_again old.router h.2 g.2 now h.1 g.1 h.4 tells in
    let router : HoldsTheSame ready.router again.router = subst (λ (v : RouterView). HoldsTheSame v again.router) (sym ready_is) (subst (HoldsTheSame h.2) (sym again_is) held) in
    let started : again.started ≡ ready.started = ap (λ (c : PriorityCoreView). c.started) g.5 ∙ sym (ap (λ (c : PriorityCoreView). c.started) h.5) in
    let dropped : again.dropped ≡ ready.dropped = dropped_once now old ready mid again h m g fewer ∙ ap (λ (c : PriorityCoreView). c.dropped) m in
    let outcomes : again.outcomes ≡ ready.outcomes = ap (λ (c : PriorityCoreView). c.outcomes) g.5 ∙ ap (λ (c : PriorityCoreView). c.outcomes) m in
    (router, rest_same ready again started dropped outcomes)

pub keeps_on : (a b c : PriorityCoreView) → KeepsAllButQueues a b → KeepsAllButQueues b c → KeepsAllButQueues a c
keeps_on a b c h k = (
  holds_on a.router b.router c.router h.0 k.0,
  rest_same a c
      (ap (λ (x : PriorityCoreView). x.started) k.1 ∙ ap (λ (x : PriorityCoreView). x.started) h.1)
      (ap (λ (x : PriorityCoreView). x.dropped) k.1 ∙ ap (λ (x : PriorityCoreView). x.dropped) h.1)
      (ap (λ (x : PriorityCoreView). x.outcomes) k.1 ∙ ap (λ (x : PriorityCoreView). x.outcomes) h.1),
)

-- if only the queues change, all else stays
pub keeps_rest : (old new : PriorityCoreView) → new ≡ record old { queues = new.queues } → KeepsAllButQueues old new
keeps_rest old new e =
    let router : new.router ≡ old.router = ap (λ (c : PriorityCoreView). c.router) e in
    let same : HoldsTheSame old.router old.router =
    (record { routes = λ p. refl; services = λ p. refl }, record { ports = refl; most_routes = refl; most_services = refl }, refl) in (
      subst (HoldsTheSame old.router) (sym router) same,
      rest_same old new (ap (λ (c : PriorityCoreView). c.started) e) (ap (λ (c : PriorityCoreView). c.dropped) e) (ap (λ (c : PriorityCoreView). c.outcomes) e),
    )
