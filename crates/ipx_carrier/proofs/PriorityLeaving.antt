-- What leaves the queues of a router, one after another.
use Rattle.std.proofs.Common.{◌≡◌, ◌≤◌, ◌<◌, ◌⊎◌, ℕ, zero, suc, ◌+◌, ◌-◌, List, [], ◌∷◌, ◌++◌, length, map, take, drop, Option, Some, None, refl, sym, ap, ◌∙◌, subst, inl, inr, arith, unwrap_or}
use Rattle.std.specs.Prelude.{option_map}
use Rattle.ipx_router.specs.declared.outcome.Reply.{Reply}
use Rattle.ipx_router.specs.RouterPackets.{SendingView, sending_of, sendings}
use Rattle.ipx_carrier.specs.Turns.{Given, GivesEach}
use Rattle.ipx_carrier.specs.RouterQueues.{given_of}
use Rattle.ipx_carrier.specs.PriorityRouterCore.{PriorityQueues, PriorityCoreView, ForwardedLeaveFirst, GivesNext, LeaveInOrder, Dequeues, PriorityGives, PriorityStartsAndTells, KeepsAllButQueues, max_originated_run, max_of_own, run_after_forward}
use Rattle.ipx_carrier.specs.PriorityQueued.{priority_queues}
use Rattle.ipx_carrier.proofs.PriorityStaying.{all_once, keeps_on, keeps_rest, no_more_own, ready_once}

-- ---- one packet

-- only an empty queue pops nothing
none_left : {A : Type 0} (xs ys : List A) → xs ≡ ys → ys ≡ drop 1 xs → xs ≡ []
none_left [] ys e rest = refl
none_left (x ∷ xs) ys e rest = absurd (omega (arith, ap length e, ap length rest))

-- the first forwarded packet leaves
pub forwarded_leaves : (w w' q : List Reply) (row row' : ℕ) (r : Reply) → w ≡ r ∷ w' → row' ≡ run_after_forward (sendings q) → Dequeues (priority_queues w q row) (Some (sending_of r)) (priority_queues w' q row')
forwarded_leaves w w' q row row' r e is =
    inl (ap sendings e, ap (λ n. priority_queues w' q n) is)

-- the first of its own leaves
pub own_leaves : (q q' : List Reply) (row row' : ℕ) (r : Reply) → q ≡ r ∷ q' → row < max_originated_run → row' ≡ row + 1 → Dequeues (priority_queues [] q row) (Some (sending_of r)) (priority_queues [] q' row')
own_leaves q q' row row' r e less is =
    inr (refl, ap sendings e, less, ap (λ n. priority_queues [] q' n) is)

-- none leaves after the most in a row
pub row_ends : (q : List Reply) (row row' : ℕ) → max_originated_run ≤ row → row' ≡ 0 → Dequeues (priority_queues [] q row) None (priority_queues [] q row')
row_ends q row row' most is = (refl, inr most, ap (λ n. priority_queues [] q n) is)

-- or if there is none
pub none_leaves : (q q' : List Reply) (row row' : ℕ) → q ≡ q' → q' ≡ drop 1 q → row' ≡ 0 → Dequeues (priority_queues [] q row) None (priority_queues [] q' row')
none_leaves q q' row row' e rest is =
    (refl, inl (ap sendings (none_left q q' e rest)), ap (λ (xs : List Reply). priority_queues [] xs row') (sym e) ∙ ap (λ n. priority_queues [] q n) is)

-- its own leave if none is forwarded
pub after_none : (w w' q q' : List Reply) (row row' : ℕ) (leaving : Option SendingView) → w ≡ w' → w' ≡ drop 1 w → Dequeues (priority_queues [] q row) leaving (priority_queues [] q' row') → Dequeues (priority_queues w q row) leaving (priority_queues w' q' row')
after_none w w' q q' row row' leaving e rest h =
    let none : w ≡ [] = none_left w w' e rest in
    subst (λ (xs : List Reply). Dequeues (priority_queues xs q row) leaving (priority_queues w' q' row')) (sym none)
    (subst (λ (xs : List Reply). Dequeues (priority_queues [] q row) leaving (priority_queues xs q' row')) (sym none ∙ e) h)

-- ---- all that leave, until none does

none_then : (q new : PriorityQueues) (leaving : Option SendingView) → Dequeues q leaving new → None ≡ option_map given_of leaving → Dequeues q None new
none_then q new None h is = h
none_then q new (Some s) h is =
    let other : None ≡ Some (given_of s) = is in
    cc

some_then : (q new : PriorityQueues) (p : Given) (leaving : Option SendingView) → Dequeues q leaving new → Some p ≡ option_map given_of leaving → (s : SendingView) × Dequeues q (Some s) new × (p ≡ given_of s)
some_then q new p None h is =
    let other : Some p ≡ None = is in
    cc
some_then q new p (Some s) h is = (s, h, ap (λ (o : Option Given). unwrap_or o p) is)

abbrev all_of : List SendingView → List SendingView → ℕ → PriorityQueues
all_of w own row = record { forwarded = w; own = own; originated_run = row }

taken_of_none : (n : ℕ) → take {A = SendingView} n [] ≡ []
taken_of_none zero = refl
taken_of_none (suc n) = refl

left_of_none : (n : ℕ) → drop {A = SendingView} n [] ≡ []
left_of_none zero = refl
left_of_none (suc n) = refl

-- none of its own leaves if it has none, or if the most in a row left
no_more : (own : List SendingView) (row : ℕ) (new : PriorityQueues) → (own ≡ []) ⊎ (max_originated_run ≤ row) → new ≡ all_of [] own 0 → LeaveInOrder (all_of [] own row) [] new
no_more own row new (inl none) is =
    let taken = ap (λ (xs : List SendingView). take (max_originated_run - row) xs) none ∙ taken_of_none (max_originated_run - row) in
    let left = ap (λ (xs : List SendingView). drop (max_originated_run - row) xs) none ∙ left_of_none (max_originated_run - row) in
    (sym (ap (map given_of) taken), is ∙ ap (λ (xs : List SendingView). all_of [] xs 0) (none ∙ sym left))
no_more own row new (inr most) is =
    let none : max_originated_run - row ≡ 0 = omega (arith, most) in
    (sym (ap (λ n. map given_of (take n own)) none), is ∙ sym (ap (λ n. all_of [] (drop n own) 0) none))

same_row : (w own : List SendingView) → max_of_own w own (run_after_forward own) ≡ max_originated_run - run_after_forward own
same_row [] own = refl
same_row (s ∷ w) own = refl

-- a forwarded packet leaves
one_forwarded_more : (p : Given) (ps : List Given) (s : SendingView) (w own : List SendingView) (row : ℕ) (new : PriorityQueues) → p ≡ given_of s → LeaveInOrder (all_of w own (run_after_forward own)) ps new → LeaveInOrder (all_of (s ∷ w) own row) (p ∷ ps) new
one_forwarded_more p ps s w own row new is rest = (
  ap (λ (x : Given). x ∷ ps) is ∙ ap (λ (xs : List Given). given_of s ∷ xs) (rest.0 ∙ ap (λ n. map given_of (w ++ take n own)) (same_row w own)),
  rest.1 ∙ ap (λ n. all_of [] (drop n own) 0) (same_row w own),
)

-- one of its own leaves
one_own_more : (p : Given) (ps : List Given) (s : SendingView) (own : List SendingView) (row : ℕ) (new : PriorityQueues) → p ≡ given_of s → row < max_originated_run → LeaveInOrder (all_of [] own (row + 1)) ps new → LeaveInOrder (all_of [] (s ∷ own) row) (p ∷ ps) new
one_own_more p ps s own row new is less rest =
    let more : max_originated_run - row ≡ suc (max_originated_run - (row + 1)) = omega (arith, less) in (
      ap (λ (x : Given). x ∷ ps) is ∙ ap (λ (xs : List Given). given_of s ∷ xs) rest.0 ∙ sym (ap (λ n. map given_of (take n (s ∷ own))) more),
      rest.1 ∙ sym (ap (λ n. all_of [] (drop n (s ∷ own)) 0) more),
    )

one_more : (ps : List Given) (p : Given) (s : SendingView) (q mid new : PriorityQueues) → p ≡ given_of s → Dequeues q (Some s) mid → LeaveInOrder mid ps new → LeaveInOrder q (p ∷ ps) new
one_more ps p s q mid new is (inl h) rest =
    let after = subst (λ (c : PriorityQueues). LeaveInOrder c ps new) h.1 rest in
    subst (λ (w : List SendingView). LeaveInOrder (all_of w q.own q.originated_run) (p ∷ ps) new) (sym h.0) (one_forwarded_more p ps s mid.forwarded q.own q.originated_run new is after)
one_more ps p s q mid new is (inr h) rest =
    let after : LeaveInOrder (all_of [] mid.own (q.originated_run + 1)) ps new =
    subst (λ (c : PriorityQueues). LeaveInOrder c ps new) (h.3 ∙ ap (λ (w : List SendingView). all_of w mid.own (q.originated_run + 1)) h.0) rest in
    let before : q ≡ all_of [] (s ∷ mid.own) q.originated_run =
    ap (λ (w : List SendingView). all_of w q.own q.originated_run) h.0 ∙ ap (λ (xs : List SendingView). all_of [] xs q.originated_run) h.1 in
    subst (λ (c : PriorityQueues). LeaveInOrder c (p ∷ ps) new) (sym before) (one_own_more p ps s mid.own q.originated_run new is h.2 after)

-- none leaves any more
last_of : (q new : PriorityQueues) → Dequeues q None new → LeaveInOrder q [] new
last_of q new h =
    let before : q ≡ all_of [] q.own q.originated_run = ap (λ (w : List SendingView). all_of w q.own q.originated_run) h.0 in
    subst (λ (c : PriorityQueues). LeaveInOrder c [] new) (sym before)
    (no_more q.own q.originated_run new h.1 (h.2 ∙ ap (λ (w : List SendingView). all_of w q.own 0) h.0))

-- these were given, then none was
pub record AreGivenSo (now : ℕ) (packets : List Given) (old new : PriorityCoreView) : Type 0 where
  pub ready : PriorityCoreView
  pub is_ready : PriorityStartsAndTells old now ready
  pub order : LeaveInOrder ready.queues packets new.queues
  pub rest : KeepsAllButQueues ready new

given_so : (now : ℕ) (packets : List Given) (old last new : PriorityCoreView) → GivesEach PriorityGives now packets old last → PriorityGives last now None new → AreGivenSo now packets old new
given_so now [] old last new h k =
    let there : PriorityGives old now None new = subst (λ (c : PriorityCoreView). PriorityGives c now None new) h k in
    let next : GivesNext there.0.queues None new.queues = there.2.0 in
    record {
      ready = there.0;
      is_ready = there.1;
      order = last_of there.0.queues new.queues (none_then there.0.queues new.queues next.0 next.1 next.2);
      rest = keeps_rest there.0 new there.2.1;
    }
given_so now (p ∷ ps) old last new h k =
    let mid : PriorityCoreView = h.0 in
    let gives : PriorityGives old now (Some p) mid = h.1 in
    let next : GivesNext gives.0.queues (Some p) mid.queues = gives.2.0 in
    let some = some_then gives.0.queues mid.queues p next.0 next.1 next.2 in
    let rest : AreGivenSo now ps mid new = given_so now ps mid last new h.2 k in
    let fewer : length mid.queues.own ≤ length gives.0.queues.own = no_more_own some.0 gives.0.queues mid.queues some.1 in
    let again : rest.ready.queues ≡ mid.queues = ready_once now old gives.0 mid rest.ready gives.1 gives.2.1 rest.is_ready in
    record {
      ready = gives.0;
      is_ready = gives.1;
      order = one_more ps p some.0 gives.0.queues mid.queues new.queues some.2 some.1 (subst (λ (c : PriorityQueues). LeaveInOrder c ps new.queues) again rest.order);
      rest = keeps_on gives.0 rest.ready new (all_once now old gives.0 mid rest.ready gives.1 gives.2.1 rest.is_ready fewer) rest.rest;
    }

pub forwarded_first : ForwardedLeaveFirst
forwarded_first = λ now packets old last new h k.
    let so = given_so now packets old last new h k in
    (so.ready, so.is_ready, so.order, so.rest)
