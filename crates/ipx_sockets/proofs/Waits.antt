-- What a poller was asked, wait after wait.
use Rattle.std.proofs.Common.{◌≡◌, ◌≢◌, ℕ, zero, suc, ◌+◌, Bool, true, false, List, length, Result, Ok, Err, ◌⊎◌, inl, inr, refl, sym, ap, ◌∙◌, subst, arith}
use Rattle.std.proofs.lemmas.List.{length_push}
use Rattle.std.specs.Prelude.{◌↔◌}
use Rattle.ipx_sockets.specs.PollEvents.{PollEvent, Waited}
use Rattle.ipx_sockets.specs.Polling.{FailedToWait, FailsToWait, WaitsOnce, WaitsWell, reported}
use Rattle.ipx_sockets.specs.declared.poller.Poller.{Poller}

pub both : (b : Bool) → b ≡ true → b ≡ false → ⊥
both true e k = cc
both false e k = cc

false_if_not : (b : Bool) → (b ≡ true → ⊥) → b ≡ false
false_if_not true never = absurd (never refl)
false_if_not false never = refl

pub err_is : {T E : Type 0} (a b : E) (r : Result T E) → r ≡ Err a → r ≡ Err b → a ≡ b
err_is a b r p q =
    let e : Err a ≡ Err b = sym p ∙ q in
    (cc)

pub not_err : {T E : Type 0} (x : T) (e : E) → Ok x ≡ Err e → ⊥
not_err x e is = cc

once_more : (time : ℕ) (p q : Poller) → WaitsOnce time p q → length q.poll.trace.items ≡ length p.poll.trace.items + 1
once_more time p q w = ap (λ (l : List PollEvent). length l) w.0 ∙ length_push p.poll.trace.items (Waited time (reported q))

-- a poller that is unchanged did not wait
still : (p q : Poller) → q ≡ p → FailsToWait p q → ⊥
still p q same (time, waits, failed) =
    let long = once_more time p q waits in
    let short = ap (λ (r : Poller). length r.poll.trace.items) same in
    omega (arith, long, short)

-- a step that does not wait
pub not_waited : {X : Type 0} (x u : X) (p q : Poller) → x ≢ u → q ≡ p → (x ≡ u) ↔ FailsToWait p q
not_waited x u p q other same = (λ is. absurd (other is), λ fails. absurd (still p q same fails))

-- one whose wait succeeds, and one whose wait fails
pub waited : {X : Type 0} (x u : X) (p q : Poller) → x ≢ u → q.failed ≡ false → (x ≡ u) ↔ FailsToWait p q
waited x u p q other went = (λ is. absurd (other is), λ fails. absurd (both q.failed fails.2 went))

pub unwaited : {X : Type 0} (x u : X) (time : ℕ) (p q : Poller) → x ≡ u → WaitsOnce time p q → q.failed ≡ true → (x ≡ u) ↔ FailsToWait p q
unwaited x u time p q is waits failed = (λ e. (time, waits, failed), λ fails. is)

-- one step more, whose wait does not fail
pub waits_on : (count : ℕ) (p q r : Poller) → WaitsWell count p q → (r ≡ q) ⊎ ((time : ℕ) × WaitsOnce time q r) → (FailsToWait q r → ⊥)
    → (n : ℕ) × WaitsWell n p r
waits_on count p q r well (inl same) never = (count, subst (λ (k : Poller). WaitsWell count p k) (sym same) well)
waits_on count p q r well (inr w) never =
    (suc count, (q, w.0, well, w.1, false_if_not r.failed (λ failed. never (w.0, w.1, failed))))

waits_grow : (n : ℕ) (p q : Poller) → WaitsWell n p q → length q.poll.trace.items ≡ length p.poll.trace.items + n
waits_grow zero p q same = let e = ap (λ (r : Poller). length r.poll.trace.items) same in omega (arith, e)
waits_grow (suc n) p q (mid, time, well, waits, went) =
    let before = waits_grow n p mid well in
    let last = once_more time mid q waits in
    omega (arith, before, last)

-- if no wait failed, none did
ends_well : (n : ℕ) (p q : Poller) → WaitsWell n p q → FailedToWait p q → ⊥
ends_well zero p q same (count, mid, well, fails) =
    let short = ap (λ (r : Poller). length r.poll.trace.items) same in
    let before = waits_grow count p mid well in
    let last = once_more fails.0 mid q fails.1 in
    omega (arith, short, before, last)
ends_well (suc n) p q well (count, mid, before, fails) = both q.failed fails.2 well.4

-- a run that does not end because a wait failed
pub not_failed : {X : Type 0} (x u : X) (count : ℕ) (p q : Poller) → x ≢ u → WaitsWell count p q → (x ≡ u) ↔ FailedToWait p q
not_failed x u count p q other well = (λ is. absurd (other is), λ failed. absurd (ends_well count p q well failed))

ends_back : {X : Type 0} (x u : X) (count : ℕ) (p q r : Poller) → WaitsWell count p q → (r ≡ q) ⊎ ((time : ℕ) × WaitsOnce time q r) → (FailsToWait q r → x ≡ u)
    → FailedToWait p r → x ≡ u
ends_back x u count p q r well (inl same) is failed =
    absurd (ends_well count p r (subst (λ (k : Poller). WaitsWell count p k) (sym same) well) failed)
ends_back x u count p q r well (inr w) is (n, mid, before, fails) = is (w.0, w.1, fails.2)

-- a run that ends with a step
pub run_ends : {X : Type 0} (x u : X) (count : ℕ) (p q r : Poller) → WaitsWell count p q → (r ≡ q) ⊎ ((time : ℕ) × WaitsOnce time q r)
    → (x ≡ u → FailsToWait q r) → (FailsToWait q r → x ≡ u) → (x ≡ u) ↔ FailedToWait p r
run_ends x u count p q r well may on back =
    (λ is. (count, q, well, on is), ends_back x u count p q r well may back)
