-- A queue of packets that a router is to send, as both of its cores use it.
use Rattle.std.proofs.Common.{◌≡◌, ◌≤◌, ℕ, ◌+◌, ◌-◌, ◌^◌, Bool, true, false, List, ◌∷◌, ◌++◌, length, min, nat_le, refl, sym, ap, subst, arith, cond, length-append, MatchBool, Result, Ok, Err}
use Rattle.std.proofs.lemmas.List.Elements.{All-append, All-head, All-tail}
use Rattle.std.proofs.lemmas.List.{length-map}
use Rattle.std.specs.Result.{OnErr}
use borrow.Author.Tests.{leb-true}
use Rattle.ipx_router.specs.RouterView.{RouterView}
use Rattle.ipx_router.specs.declared.outcome.Reply.{Reply}
use Rattle.ipx_router.specs.RouterPackets.{SendingView, sending_of, sendings}
use Rattle.ipx_carrier.specs.Queued.{Puts, PutsStart, PutsAdvertised}
use Rattle.ipx_carrier.specs.RouterQueues.{AreGivable, CanBeSent, dropped_if_full, max_queued, put_after}

-- ---- what was put

put_cases : (b : Bool) (sent q q' : List SendingView) (d d' : ℕ) → MatchBool b ((q' ≡ q ++ sent) × (d' ≡ d)) ((q' ≡ q) × (d' ≡ min (d + length sent) (2 ^ 64 - 1))) → (q' ≡ cond b (q ++ sent) q) × (d' ≡ cond b d (min (d + length sent) (2 ^ 64 - 1)))
put_cases true sent q q' d d' h = h
put_cases false sent q q' d d' h = h

pub put_both : (sent q q' : List SendingView) (d d' : ℕ) → Puts sent q d q' d' → (q' ≡ put_after q sent) × (d' ≡ dropped_if_full q sent d)
put_both sent q q' d d' h = put_cases (nat_le (length q + length sent) max_queued) sent q q' d d' h

-- ---- what a queue keeps

few_cases : (b : Bool) (sent q q' : List SendingView) (d d' : ℕ) → b ≡ nat_le (length q + length sent) max_queued → length q ≤ max_queued → MatchBool b ((q' ≡ q ++ sent) × (d' ≡ d)) ((q' ≡ q) × (d' ≡ min (d + length sent) (2 ^ 64 - 1))) → length q' ≤ max_queued
few_cases true sent q q' d d' e few h =
    let room : length q + length sent ≤ max_queued = leb-true _ _ (sym e) in
    omega (arith, ap length h.0, length-append q sent)
few_cases false sent q q' d d' e few h = omega (arith, ap length h.0)

-- the queue stays within its limit
pub put_keeps_few : (sent q q' : List SendingView) (d d' : ℕ) → length q ≤ max_queued → Puts sent q d q' d' → length q' ≤ max_queued
put_keeps_few sent q q' d d' few h = few_cases (nat_le (length q + length sent) max_queued) sent q q' d d' refl few h

givable_cases : (b : Bool) (n : ℕ) (sent q q' : List SendingView) (d d' : ℕ) → AreGivable n q → AreGivable n sent → MatchBool b ((q' ≡ q ++ sent) × (d' ≡ d)) ((q' ≡ q) × (d' ≡ min (d + length sent) (2 ^ 64 - 1))) → AreGivable n q'
givable_cases true n sent q q' d d' gq gs h = subst (AreGivable n) (sym h.0) (All-append (CanBeSent n) q sent gq gs)
givable_cases false n sent q q' d d' gq gs h = subst (AreGivable n) (sym h.0) gq

pub put_keeps_givable : (n : ℕ) (sent q q' : List SendingView) (d d' : ℕ) → AreGivable n q → AreGivable n sent → Puts sent q d q' d' → AreGivable n q'
put_keeps_givable n sent q q' d d' gq gs h = givable_cases (nat_le (length q + length sent) max_queued) n sent q q' d d' gq gs h

-- the first of packets that can be sent
pub first_givable : (n : ℕ) (s : SendingView) (q rest : List SendingView) → q ≡ s ∷ rest → AreGivable n q → CanBeSent n s
first_givable n s q rest e g = All-head (CanBeSent n) s rest (subst (AreGivable n) e g)

pub record IsKept (n : ℕ) (items : List Reply) : Type 0 where
  pub few : length items ≤ max_queued
  pub givable : AreGivable n (sendings items)

pub kept_by_put : (n : ℕ) (sent : List SendingView) (items items' : List Reply) (d d' : ℕ) → IsKept n items → AreGivable n sent → Puts sent (sendings items) d (sendings items') d' → IsKept n items'
kept_by_put n sent items items' d d' kept gs h = record {
  few = omega (arith, kept.few, length-map items sending_of, length-map items' sending_of, put_keeps_few sent (sendings items) (sendings items') d d' (omega (arith, kept.few, length-map items sending_of)) h);
  givable = put_keeps_givable n sent (sendings items) (sendings items') d d' kept.givable gs h;
}

-- a queue that stays
pub kept_same : (n : ℕ) (items items' : List Reply) → sendings items' ≡ sendings items → IsKept n items → IsKept n items'
kept_same n items items' e kept = record {
  few = omega (arith, kept.few, length-map items sending_of, length-map items' sending_of, ap length e);
  givable = subst (AreGivable n) (sym e) kept.givable;
}

-- a queue whose first packet left
pub kept_rest : (n : ℕ) (s : SendingView) (items items' : List Reply) → sendings items ≡ s ∷ sendings items' → IsKept n items → IsKept n items'
kept_rest n s items items' e kept = record {
  few = omega (arith, kept.few, length-map items sending_of, length-map items' sending_of, ap length e);
  givable = All-tail (CanBeSent n) s (sendings items') (subst (AreGivable n) e kept.givable);
}

pub kept_next : (router router' : RouterView) (items items1 items2 : List Reply) (started : Bool) (d d1 d2 now : ℕ) → IsKept (length router.ports) items → PutsStart router started (sendings items) d (sendings items1) d1 → PutsAdvertised router now router' (sendings items1) d1 (sendings items2) d2 → IsKept (length router.ports) items2
kept_next router router' items items1 items2 started d d1 d2 now kept h k =
    let begun = kept_by_put (length router.ports) h.0 items items1 d d1 kept h.3 h.2 in
    kept_by_put (length router.ports) k.0 items1 items2 d1 d2 begun k.3 k.2

-- what holds at an error, twice
pub err_both : {T E : Type 0} (r : Result T E) (P Q : Type 0) → OnErr r P → OnErr r Q → OnErr r (P × Q)
err_both (Ok x) P Q p q = tt
err_both (Err e) P Q p q = (p, q)
