-- The one queue of a router as a core.
use Rattle.std.proofs.Common.{◌≡◌, ℕ, Bool, true, List, [], ◌∷◌, length, drop, arith, refl, Option, Some, None, sym, ap, ◌∙◌, subst, Result, Ok, Err, inr}
use Rattle.std.specs.Result.{OnErr, OnOk}
use Rattle.ipx_router.specs.OutcomeView.{OutcomeView, Forward, Replies, Heard, Dropped}
use Rattle.ipx_router.specs.RouterView.{RouterView}
use Rattle.ipx_router.specs.declared.outcome.Reply.{Reply}
use Rattle.ipx_router.specs.RouterPackets.{SendingView, sendings}
use Rattle.ipx_carrier.specs.declared.outcome_counters.OutcomeCounters.{OutcomeCounters}
use Rattle.ipx_carrier.specs.Turns.{Given}
use Rattle.ipx_carrier.specs.RouterQueues.{AreGivable, CanBeSent, IsNotAdvertised, one_forwarded, put_after}
use Rattle.ipx_carrier.specs.RouterCore.{CoreView, GivesFront, Leaves, RouterGives, TakesFirst, NextOutOfMemory, put, put_answer}
use Rattle.ipx_carrier.specs.Queued.{Puts, PutsAnswer, PutsStart, PutsAdvertised}
use Rattle.ipx_carrier.proofs.Givable.{IsGivableAnswer}
use Rattle.ipx_carrier.proofs.Queueing.{IsKept, first_givable, kept_by_put, kept_rest, kept_same, put_both}

abbrev pub core_of : OutcomeCounters → RouterView → List SendingView → Bool → ℕ → CoreView
core_of f router queue started dropped =
    record { router = router; queue = queue; started = started; dropped = dropped; outcomes = f }

-- ---- what was put

pub put_is : (f : OutcomeCounters) (sent q q' : List SendingView) (d d' : ℕ) (router : RouterView) (started : Bool) → Puts sent q d q' d' → core_of f router q' started d' ≡ put sent (core_of f router q started d)
put_is f sent q q' d d' router started h =
    let p = put_both sent q q' d d' h in
    ap (λ q. core_of f router q started d') p.0 ∙ ap (λ d. core_of f router (put_after q sent) started d) p.1

both_same : (f : OutcomeCounters) (q q' : List SendingView) (d d' : ℕ) (router : RouterView) (started : Bool) → (q' ≡ q) × (d' ≡ d) → core_of f router q' started d' ≡ core_of f router q started d
both_same f q q' d d' router started h = ap (λ q. core_of f router q started d') h.0 ∙ ap (λ d. core_of f router q started d) h.1

pub put_answer_is : (f : OutcomeCounters) (a : OutcomeView) (q q' : List SendingView) (d d' : ℕ) (router : RouterView) (started : Bool) → PutsAnswer a q d q' d' → core_of f router q' started d' ≡ put_answer a (core_of f router q started d)
put_answer_is f (Forward port next bytes) q q' d d' router started h = put_is f (one_forwarded port next bytes) q q' d d' router started h
put_answer_is f (Replies sent) q q' d d' router started h = put_is f sent q q' d d' router started h
put_answer_is f (Heard n) q q' d d' router started h = both_same f q q' d d' router started h
put_answer_is f (Dropped reason) q q' d d' router started h = both_same f q q' d d' router started h

-- ---- what the queue keeps

kept_by_answer : (n : ℕ) (a : OutcomeView) (q q' : List Reply) (d d' : ℕ) → IsKept n q → IsGivableAnswer n a → PutsAnswer a (sendings q) d (sendings q') d' → IsKept n q'
kept_by_answer n (Forward port next bytes) q q' d d' k g h = kept_by_put n (one_forwarded port next bytes) q q' d d' k g h
kept_by_answer n (Replies sent) q q' d d' k g h = kept_by_put n sent q q' d d' k g h
kept_by_answer n (Heard m) q q' d d' k g h = kept_same n q q' h.0 k
kept_by_answer n (Dropped reason) q q' d d' k g h = kept_same n q q' h.0 k

pub kept_by_result : {T E : Type 0} (r : Result T E) (n : ℕ) (a : OutcomeView) (q q' : List Reply) (d d' : ℕ) → IsKept n q → IsGivableAnswer n a → OnOk r (PutsAnswer a (sendings q) d (sendings q') d') → OnErr r ((q' ≡ q) × (d' ≡ d)) → IsKept n q'
kept_by_result (Ok x) n a q q' d d' k g h e = kept_by_answer n a q q' d d' k g h
kept_by_result (Err x) n a q q' d d' k g h e = subst (IsKept n) (sym e.0) k

kept_leaving : (n : ℕ) (q q' : List Reply) (leaving : Option SendingView) → IsKept n q → Leaves (sendings q) leaving (sendings q') → IsKept n q'
kept_leaving n q q' (Some s) k h = kept_rest n s q q' h k
kept_leaving n q q' None k h = kept_same n q q' (h.1 ∙ sym h.0) k

pub kept_given : (n : ℕ) (q q' : List Reply) (given : Option Given) → IsKept n q → GivesFront (sendings q) given (sendings q') → IsKept n q'
kept_given n q q' given k h = kept_leaving n q q' h.0 k h.1

-- only an empty queue pops nothing
pub none_left : {A : Type 0} (xs ys : List A) → xs ≡ ys → ys ≡ drop 1 xs → (xs ≡ []) × (ys ≡ [])
none_left [] ys e rest = (refl, sym e)
none_left (x ∷ xs) ys e rest = absurd (omega (arith, ap length e, ap length rest))

-- the first of packets that can be sent
pub front_givable : (n : ℕ) (s : SendingView) (q q' : List SendingView) → Leaves q (Some s) q' → AreGivable n q → CanBeSent n s
front_givable n s q q' h g = first_givable n s q q' h g

-- ---- what a core receives and gives

-- a queue that did not change
pub same_core : (f : OutcomeCounters) (router : RouterView) (q q' : List Reply) (started started' : Bool) (d d' : ℕ) → (q' ≡ q) × (d' ≡ d) → started' ≡ started → core_of f router (sendings q') started' d' ≡ core_of f router (sendings q) started d
same_core f router q q' started started' d d' h s =
    ap (λ (xs : List Reply). core_of f router (sendings xs) started' d') h.0 ∙ ap (λ d. core_of f router (sendings q) started' d) h.1 ∙ ap (λ s. core_of f router (sendings q) s d) s

pub next_gives : (f : OutcomeCounters) (router router' : RouterView) (q q1 q2 q3 : List Reply) (started started' : Bool) (d d1 d2 now : ℕ) (given : Option Given) → PutsStart router started (sendings q) d (sendings q1) d1 → PutsAdvertised router now router' (sendings q1) d1 (sendings q2) d2 → started' ≡ true → GivesFront (sendings q2) given (sendings q3) → RouterGives (core_of f router (sendings q) started d) now given (core_of f router' (sendings q3) started' d2)
next_gives f router router' q q1 q2 q3 started started' d d1 d2 now given h k s g =
    let new : CoreView = core_of f router' (sendings q3) started' d2 in
    let x : put k.0 (put h.0 (core_of f router' (sendings q) true d)) ≡ core_of f router' (sendings q2) true d2 =
    ap (put k.0) (sym (put_is f h.0 (sendings q) (sendings q1) d d1 router' true h.2)) ∙ sym (put_is f k.0 (sendings q1) (sendings q2) d1 d2 router' true k.2) in
    let takes : TakesFirst (core_of f router' (sendings q2) true d2) given new = (g, ap (λ s. core_of f router' (sendings q3) s d2) s) in
    (core_of f router' (sendings q2) true d2, (h.0, k.0, router', h.1, k.1, sym x), takes)

pub next_withholds : (f : OutcomeCounters) (router router' : RouterView) (q q1 q2 : List Reply) (started started' : Bool) (d d1 d2 now : ℕ) → PutsStart router started (sendings q) d (sendings q1) d1 → started' ≡ true → (q2 ≡ q1) × (d2 ≡ d1) → IsNotAdvertised router now (sendings q1) router' → NextOutOfMemory (core_of f router (sendings q) started d) now (core_of f router' (sendings q2) started' d2)
next_withholds f router router' q q1 q2 started started' d d1 d2 now h s same lost =
    inr (
      h.0,
      router',
      h.1,
      same_core f router' q1 q2 true started' d1 d2 same s ∙ put_is f h.0 (sendings q) (sendings q1) d d1 router' true h.2,
      subst (λ (xs : List Reply). IsNotAdvertised router now (sendings xs) router') (sym same.0) lost,
    )
