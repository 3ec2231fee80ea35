-- The two queues of a router as a core.
use Rattle.std.proofs.Common.{◌≡◌, ℕ, Bool, true, List, Option, Some, None, sym, ap, ◌∙◌, subst, Result, Ok, Err, inl, inr}
use Rattle.std.specs.Result.{OnErr, OnOk}
use Rattle.ipx_router.specs.OutcomeView.{OutcomeView, Forward, Replies, Heard, Dropped}
use Rattle.ipx_router.specs.RouterView.{RouterView}
use Rattle.ipx_router.specs.declared.outcome.Reply.{Reply}
use Rattle.ipx_router.specs.RouterPackets.{SendingView, sendings}
use Rattle.ipx_carrier.specs.declared.outcome_counters.OutcomeCounters.{OutcomeCounters}
use Rattle.ipx_carrier.specs.Turns.{Given}
use Rattle.ipx_carrier.specs.RouterQueues.{AreGivable, CanBeSent, IsNotAdvertised, one_forwarded, put_after}
use Rattle.ipx_carrier.specs.PriorityRouterCore.{PriorityQueues, PriorityCoreView, GivesNext, PriorityGives, Dequeues, TakesByPriority, PriorityNextOutOfMemory, after_advertisement, put_advertisement, put_by_priority, put_forwarded, put_own}
use Rattle.ipx_carrier.specs.PriorityQueued.{PutsAdvertisement, PutsByPriority, PutsToldPackets, priority_queues}
use Rattle.ipx_carrier.specs.Queued.{Puts, PutsStart}
use Rattle.ipx_carrier.proofs.Givable.{IsGivableAnswer}
use Rattle.ipx_carrier.proofs.Queueing.{IsKept, first_givable, kept_by_put, kept_rest, kept_same, put_both}

abbrev pub core_of : OutcomeCounters → RouterView → PriorityQueues → Bool → ℕ → PriorityCoreView
core_of f router queues started dropped =
    record { router = router; queues = queues; started = started; dropped = dropped; outcomes = f }

abbrev pub queues_of : List SendingView → List SendingView → ℕ → PriorityQueues
queues_of forwarded own row = record { forwarded = forwarded; own = own; originated_run = row }

-- ---- what was put

pub put_own_is : (f : OutcomeCounters) (sent w q q' : List SendingView) (row d d' : ℕ) (router : RouterView) (started : Bool) → Puts sent q d q' d' → core_of f router (queues_of w q' row) started d' ≡ put_own sent (core_of f router (queues_of w q row) started d)
put_own_is f sent w q q' row d d' router started h =
    let p = put_both sent q q' d d' h in
    ap (λ q. core_of f router (queues_of w q row) started d') p.0 ∙ ap (λ d. core_of f router (queues_of w (put_after q sent) row) started d) p.1

put_told_is : (f : OutcomeCounters) (told w q q' : List SendingView) (row d d' : ℕ) (router : RouterView) (started : Bool) → PutsToldPackets told q d q' d' → core_of f router (queues_of w q' row) started d' ≡ put_advertisement told (core_of f router (queues_of w q row) started d)
put_told_is f told w q q' row d d' router started h =
    ap (λ q. core_of f router (queues_of w q row) started d') h.0 ∙ ap (λ d. core_of f router (queues_of w (after_advertisement q told) row) started d) h.1

put_forwarded_is : (f : OutcomeCounters) (sent w w' q : List SendingView) (row d d' : ℕ) (router : RouterView) (started : Bool) → Puts sent w d w' d' → core_of f router (queues_of w' q row) started d' ≡ put_forwarded sent (core_of f router (queues_of w q row) started d)
put_forwarded_is f sent w w' q row d d' router started h =
    let p = put_both sent w w' d d' h in
    ap (λ w. core_of f router (queues_of w q row) started d') p.0 ∙ ap (λ d. core_of f router (queues_of (put_after w sent) q row) started d) p.1

three_same : (f : OutcomeCounters) (w w' q q' : List SendingView) (row d d' : ℕ) (router : RouterView) (started : Bool) → (w' ≡ w) × (q' ≡ q) × (d' ≡ d) → core_of f router (queues_of w' q' row) started d' ≡ core_of f router (queues_of w q row) started d
three_same f w w' q q' row d d' router started h =
    ap (λ w. core_of f router (queues_of w q' row) started d') h.0 ∙ ap (λ q. core_of f router (queues_of w q row) started d') h.1 ∙ ap (λ d. core_of f router (queues_of w q row) started d) h.2

pub put_by_priority_is : (f : OutcomeCounters) (a : OutcomeView) (w w' q q' : List SendingView) (row d d' : ℕ) (router : RouterView) (started : Bool) → PutsByPriority a w q d w' q' d' → core_of f router (queues_of w' q' row) started d' ≡ put_by_priority a (core_of f router (queues_of w q row) started d)
put_by_priority_is f (Forward port next bytes) w w' q q' row d d' router started h =
    ap (λ q. core_of f router (queues_of w' q row) started d') h.1 ∙ put_forwarded_is f (one_forwarded port next bytes) w w' q row d d' router started h.0
put_by_priority_is f (Replies sent) w w' q q' row d d' router started h =
    ap (λ w. core_of f router (queues_of w q' row) started d') h.1 ∙ put_own_is f sent w q q' row d d' router started h.0
put_by_priority_is f (Heard n) w w' q q' row d d' router started h = three_same f w w' q q' row d d' router started h
put_by_priority_is f (Dropped reason) w w' q q' row d d' router started h = three_same f w w' q q' row d d' router started h

-- ---- what the queues keep

-- what leaves can be sent
pub leaving_givable : (n : ℕ) (s : SendingView) (old new : PriorityQueues) → Dequeues old (Some s) new → AreGivable n old.forwarded → AreGivable n old.own → CanBeSent n s
leaving_givable n s old new (inl h) gw gq = first_givable n s old.forwarded new.forwarded h.0 gw
leaving_givable n s old new (inr h) gw gq = first_givable n s old.own new.own h.1 gq

kept_by_answer : (n : ℕ) (a : OutcomeView) (w w' q q' : List Reply) (d d' : ℕ) → IsKept n w → IsKept n q → IsGivableAnswer n a → PutsByPriority a (sendings w) (sendings q) d (sendings w') (sendings q') d' → IsKept n w' × IsKept n q'
kept_by_answer n (Forward port next bytes) w w' q q' d d' kw kq g h = (kept_by_put n (one_forwarded port next bytes) w w' d d' kw g h.0, kept_same n q q' h.1 kq)
kept_by_answer n (Replies sent) w w' q q' d d' kw kq g h = (kept_same n w w' h.1 kw, kept_by_put n sent q q' d d' kq g h.0)
kept_by_answer n (Heard k) w w' q q' d d' kw kq g h = (kept_same n w w' h.0 kw, kept_same n q q' h.1 kq)
kept_by_answer n (Dropped reason) w w' q q' d d' kw kq g h = (kept_same n w w' h.0 kw, kept_same n q q' h.1 kq)

pub kept_by_result : {T E : Type 0} (r : Result T E) (n : ℕ) (a : OutcomeView) (w w' q q' : List Reply) (d d' : ℕ) → IsKept n w → IsKept n q → IsGivableAnswer n a → OnOk r (PutsByPriority a (sendings w) (sendings q) d (sendings w') (sendings q') d') → OnErr r ((w' ≡ w) × (q' ≡ q) × (d' ≡ d)) → IsKept n w' × IsKept n q'
kept_by_result (Ok x) n a w w' q q' d d' kw kq g h k = kept_by_answer n a w w' q q' d d' kw kq g h
kept_by_result (Err e) n a w w' q q' d d' kw kq g h k = (subst (IsKept n) (sym k.0) kw, subst (IsKept n) (sym k.1) kq)

kept_leaving : (n : ℕ) (w w' q q' : List Reply) (row row' : ℕ) (leaving : Option SendingView) → IsKept n w → IsKept n q → Dequeues (priority_queues w q row) leaving (priority_queues w' q' row') → IsKept n w' × IsKept n q'
kept_leaving n w w' q q' row row' (Some s) kw kq (inl h) = (kept_rest n s w w' h.0 kw, kept_same n q q' (ap (λ (c : PriorityQueues). c.own) h.1) kq)
kept_leaving n w w' q q' row row' (Some s) kw kq (inr h) = (kept_same n w w' (ap (λ (c : PriorityQueues). c.forwarded) h.3) kw, kept_rest n s q q' h.1 kq)
kept_leaving n w w' q q' row row' None kw kq h = (kept_same n w w' (ap (λ (c : PriorityQueues). c.forwarded) h.2) kw, kept_same n q q' (ap (λ (c : PriorityQueues). c.own) h.2) kq)

pub kept_given : (n : ℕ) (w w' q q' : List Reply) (row row' : ℕ) (given : Option Given) → IsKept n w → IsKept n q → GivesNext (priority_queues w q row) given (priority_queues w' q' row') → IsKept n w' × IsKept n q'
kept_given n w w' q q' row row' given kw kq h = kept_leaving n w w' q q' row row' h.0 kw kq h.1

-- ---- what a core receives and gives

-- queues that did not change
pub same_queues : (f : OutcomeCounters) (router : RouterView) (w w' q q' : List Reply) (row : ℕ) (started : Bool) (d d' : ℕ) → (w' ≡ w) × (q' ≡ q) × (d' ≡ d) → core_of f router (priority_queues w' q' row) started d' ≡ core_of f router (priority_queues w q row) started d
same_queues f router w w' q q' row started d d' h =
    ap (λ (xs : List Reply). core_of f router (priority_queues xs q' row) started d') h.0 ∙ ap (λ (xs : List Reply). core_of f router (priority_queues w xs row) started d') h.1 ∙ ap (λ d. core_of f router (priority_queues w q row) started d) h.2

-- a queue of its own that did not change
pub same_core : (f : OutcomeCounters) (router : RouterView) (w items items' : List Reply) (row : ℕ) (started started' : Bool) (d d' : ℕ) → (items' ≡ items) × (d' ≡ d) → started' ≡ started → core_of f router (priority_queues w items' row) started' d' ≡ core_of f router (priority_queues w items row) started d
same_core f router w items items' row started started' d d' h s =
    ap (λ (xs : List Reply). core_of f router (priority_queues w xs row) started' d') h.0 ∙ ap (λ d. core_of f router (priority_queues w items row) started' d) h.1 ∙ ap (λ s. core_of f router (priority_queues w items row) s d) s

pub next_gives : (f : OutcomeCounters) (router router' : RouterView) (w w3 items items1 items2 items3 : List Reply) (row row3 : ℕ) (started started' : Bool) (d d1 d2 now : ℕ) (given : Option Given) → PutsStart router started (sendings items) d (sendings items1) d1 → PutsAdvertisement router now router' (sendings items1) d1 (sendings items2) d2 → started' ≡ true → GivesNext (priority_queues w items2 row) given (priority_queues w3 items3 row3) → PriorityGives (core_of f router (priority_queues w items row) started d) now given (core_of f router' (priority_queues w3 items3 row3) started' d2)
next_gives f router router' w w3 items items1 items2 items3 row row3 started started' d d1 d2 now given h k s g =
    let new : PriorityCoreView = core_of f router' (priority_queues w3 items3 row3) started' d2 in
    let x : put_advertisement k.0 (put_own h.0 (core_of f router' (priority_queues w items row) true d)) ≡ core_of f router' (priority_queues w items2 row) true d2 =
    ap (put_advertisement k.0) (sym (put_own_is f h.0 (sendings w) (sendings items) (sendings items1) row d d1 router' true h.2)) ∙ sym (put_told_is f k.0 (sendings w) (sendings items1) (sendings items2) row d1 d2 router' true k.2) in
    let takes : TakesByPriority (core_of f router' (priority_queues w items2 row) true d2) given new = (g, ap (λ s. core_of f router' (priority_queues w3 items3 row3) s d2) s) in
    (core_of f router' (priority_queues w items2 row) true d2, (h.0, k.0, router', h.1, k.1, sym x), takes)

pub next_withholds : (f : OutcomeCounters) (router router' : RouterView) (w items items1 items2 : List Reply) (row : ℕ) (started started' : Bool) (d d1 d2 now : ℕ) → PutsStart router started (sendings items) d (sendings items1) d1 → started' ≡ true → (items2 ≡ items1) × (d2 ≡ d1) → IsNotAdvertised router now (sendings items1) router' → PriorityNextOutOfMemory (core_of f router (priority_queues w items row) started d) now (core_of f router' (priority_queues w items2 row) started' d2)
next_withholds f router router' w items items1 items2 row started started' d d1 d2 now h s same lost =
    inr (
      h.0,
      router',
      h.1,
      same_core f router' w items1 items2 row true started' d1 d2 same s ∙ put_own_is f h.0 (sendings w) (sendings items) (sendings items1) row d d1 router' true h.2,
      subst (λ (xs : List Reply). IsNotAdvertised router now (sendings xs) router') (sym same.0) lost,
    )
