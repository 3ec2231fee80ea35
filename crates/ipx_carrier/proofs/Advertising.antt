-- An advertisement in the queue of a router's own packets.
use Rattle.std.proofs.Common.{◌≡◌, ◌≤◌, ◌<◌, ◌⊎◌, ℕ, ◌+◌, ◌-◌, ◌^◌, Bool, true, false, cond, List, [], ◌∷◌, ◌++◌, length, min, nat_le, refl, sym, ap, ◌∙◌, subst, inl, inr, arith, length-append}
use borrow.Author.Tests.{leb-true}
use Rattle.std.proofs.lemmas.List.{append-nil, length-map}
use Rattle.std.proofs.lemmas.List.Elements.{All-append}
use Rattle.ipx_router.specs.RouterView.{RouterView}
use Rattle.ipx_router.specs.declared.outcome.Reply.{Reply}
use Rattle.ipx_router.specs.RouterPackets.{SendingView, sending_of, sendings}
use Rattle.ipx_carrier.specs.Queued.{PutsStart}
use Rattle.ipx_carrier.specs.RouterQueues.{AreGivable, CanBeSent, max_queued}
use Rattle.ipx_carrier.specs.PriorityQueued.{PutsAdvertisement, PutsToldPackets}
use Rattle.ipx_carrier.specs.PriorityRouterCore.{AdvertisementsAreQueued, PriorityCoreView, after_advertisement, dropped_by_advertisement}
use Rattle.ipx_carrier.proofs.Queueing.{IsKept, kept_by_put}

-- ---- what the queue keeps

few_by : (b c : Bool) (q told : List SendingView) → b ≡ nat_le (length q + length told) max_queued → c ≡ nat_le (length told) max_queued → length q ≤ max_queued → length (cond b (q ++ told) (cond c told q)) ≤ max_queued
few_by true c q told e f few =
    let room : length q + length told ≤ max_queued = leb-true _ _ (sym e) in
    omega (arith, room, length-append q told)
few_by false true q told e f few = leb-true _ _ (sym f)
few_by false false q told e f few = few

few_after : (q told : List SendingView) → length q ≤ max_queued → length (after_advertisement q told) ≤ max_queued
few_after q [] few = few
few_after q (s ∷ told) few = few_by (nat_le (length q + length (s ∷ told)) max_queued) (nat_le (length (s ∷ told)) max_queued) q (s ∷ told) refl refl few

givable_by : (b c : Bool) (n : ℕ) (q told : List SendingView) → AreGivable n q → AreGivable n told → AreGivable n (cond b (q ++ told) (cond c told q))
givable_by true c n q told gq gs = All-append (CanBeSent n) q told gq gs
givable_by false true n q told gq gs = gs
givable_by false false n q told gq gs = gq

givable_after : (n : ℕ) (q told : List SendingView) → AreGivable n q → AreGivable n told → AreGivable n (after_advertisement q told)
givable_after n q [] gq gs = gq
givable_after n q (s ∷ told) gq gs = givable_by (nat_le (length q + length (s ∷ told)) max_queued) (nat_le (length (s ∷ told)) max_queued) n q (s ∷ told) gq gs

pub kept_by_told : (n : ℕ) (told : List SendingView) (items items' : List Reply) (d d' : ℕ) → IsKept n items → AreGivable n told → PutsToldPackets told (sendings items) d (sendings items') d' → IsKept n items'
kept_by_told n told items items' d d' kept gs h = record {
  few = omega (arith, length-map items' sending_of, ap length h.0, few_after (sendings items) told (omega (arith, kept.few, length-map items sending_of)));
  givable = subst (AreGivable n) (sym h.0) (givable_after n (sendings items) told kept.givable gs);
}

pub kept_next : (router router' : RouterView) (items items1 items2 : List Reply) (started : Bool) (d d1 d2 now : ℕ) → IsKept (length router.ports) items → PutsStart router started (sendings items) d (sendings items1) d1 → PutsAdvertisement router now router' (sendings items1) d1 (sendings items2) d2 → IsKept (length router.ports) items2
kept_next router router' items items1 items2 started d d1 d2 now kept h k =
    let begun = kept_by_put (length router.ports) h.0 items items1 d d1 kept h.3 h.2 in
    kept_by_told (length router.ports) k.0 items1 items2 d1 d2 begun k.3 k.2

-- ---- it is queued whole

whole_by : (b c : Bool) (q told : List SendingView) → c ≡ nat_le (length told) max_queued → length told ≤ max_queued → (before : List SendingView) × (cond b (q ++ told) (cond c told q) ≡ before ++ told)
whole_by true c q told f fits = (q, refl)
whole_by false true q told f fits = ([], refl)
whole_by false false q told f fits = absurd (grind (arith))

whole_after : (q told : List SendingView) → length told ≤ max_queued → (before : List SendingView) × (after_advertisement q told ≡ before ++ told)
whole_after q [] fits = (q, sym (append-nil q))
whole_after q (s ∷ told) fits = whole_by (nat_le (length q + length (s ∷ told)) max_queued) (nat_le (length (s ∷ told)) max_queued) q (s ∷ told) refl fits

pub advertisements_queued : AdvertisementsAreQueued
advertisements_queued old new now s fits =
    let whole = whole_after _ s.1 fits in
    (whole.0, ap (λ (c : PriorityCoreView). c.queues.own) s.5 ∙ whole.1)

-- ---- what it counts

-- a queue is within its limit, or what was dropped was counted
counted_by : (b c : Bool) (q told : List SendingView) (d : ℕ) → b ≡ nat_le (length q + length told) max_queued → c ≡ nat_le (length told) max_queued → (length (cond b (q ++ told) (cond c told q)) ≤ max_queued) ⊎ (cond b d (cond c (min (d + length q) (2 ^ 64 - 1)) (min (d + length told) (2 ^ 64 - 1))) < 2 ^ 64)
counted_by true c q told d e f =
    let room : length q + length told ≤ max_queued = leb-true _ _ (sym e) in
    inl (omega (arith, room, length-append q told))
counted_by false true q told d e f = inl (leb-true _ _ (sym f))
counted_by false false q told d e f = inr (grind (arith))

pub counted_after : (q told : List SendingView) (d : ℕ) → (length q ≤ max_queued) ⊎ (d < 2 ^ 64) → (length (after_advertisement q told) ≤ max_queued) ⊎ (dropped_by_advertisement q told d < 2 ^ 64)
counted_after q [] d before = before
counted_after q (s ∷ told) d before = counted_by (nat_le (length q + length (s ∷ told)) max_queued) (nat_le (length (s ∷ told)) max_queued) q (s ∷ told) d refl refl
