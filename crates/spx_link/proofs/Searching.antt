-- Which of the sent units is due, where some are known not to be.
use Rattle.std.proofs.Common.{◌≡◌, ℕ, zero, suc, ◌+◌, ◌-◌, ◌<◌, ◌≤◌, min, Bool, true, false, cond, not, nat_lt, refl, ap, sym, subst, ◌∙◌, List, [], ◌∷◌, ◌++◌, length, take, drop, set, Option, None, Some, IfSome, slice_get, get_or, position, length-take, length-append, length-drop, length-set, arith}
use Rattle.std.specs.List.{prefix_len, position_or_len}
use Rattle.std.proofs.lemmas.Bool.Decides.{nat_tests}
use Rattle.std.proofs.lemmas.List.{take_more, take-append-le}
use Rattle.spx_link.specs.declared.queue.Queued.{Queued}
use Rattle.spx_link.specs.LinkView.{due}
use Rattle.spx_link.specs.Queues.{IsSince, IsSearched, IsFound}
use Rattle.spx_link.proofs.Waiting.{waits, all_wait, at_least_less}

since_more : (n : ℕ) (qs : List Queued) (q : Queued) → IsSince n qs → n ≤ q.at → IsSince n (qs ++ q ∷ [])
since_more n [] q since le = (le, tt)
since_more n (p ∷ qs) q since le = (since.0, since_more n qs q since.1 le)

-- one more unit is searched
pub since_step : (units : List Queued) (place since : ℕ) (q : Queued) → place < length units → q ≡ get_or units place q → IsSince since (take place units) → IsSince (min since q.at) (take (place + 1) units)
since_step units place since q less read all =
    let more : take (place + 1) units ≡ take place units ++ q ∷ [] = take_more units place q less ∙ ap (λ (p : Queued). take place units ++ p ∷ []) (sym read) in
    let P : List Queued → Type 0 = λ qs. IsSince (min since q.at) qs in
    let fewer : min since q.at ≤ since = omega arith in
    let here : min since q.at ≤ q.at = omega arith in
    subst P (sym more) (since_more (min since q.at) (take place units) q (at_least_less (min since q.at) since (take place units) fewer all) here)

since_nil : (n k : ℕ) → IsSince n (take k [])
since_nil n zero = tt
since_nil n (suc k) = tt

-- units leave from the front
since_drop : (n count searched : ℕ) (qs : List Queued) → IsSince n (take searched qs) → IsSince n (take (searched - count) (drop count qs))
since_drop n zero searched qs all =
    let same : searched ≡ searched - zero = omega arith in
    let P : ℕ → Type 0 = λ k. IsSince n (take k qs) in
    subst P same all
since_drop n (suc count) searched [] all = since_nil n (searched - suc count)
since_drop n (suc count) zero (q ∷ qs) all =
    let none : 0 ≡ zero - suc count = omega arith in
    let P : ℕ → Type 0 = λ k. IsSince n (take k (drop count qs)) in
    subst P none tt
since_drop n (suc count) (suc searched) (q ∷ qs) all =
    let same : searched - count ≡ suc searched - suc count = omega arith in
    let P : ℕ → Type 0 = λ k. IsSince n (take k (drop count qs)) in
    subst P same (since_drop n count searched qs all.1)

pub drop_searched : (units after : List Queued) (searched since count : ℕ) → IsSearched units searched since → after ≡ drop count units → IsSearched after (searched - count) since
drop_searched units after searched since count s is =
    let P : List Queued → Type 0 = λ qs. IsSearched qs (searched - count) since in
    let fewer : length (drop count units) ≡ length units - count = length-drop count units in
    subst P (sym is) (record { within = omega (arith, s.within); first = since_drop since count searched units s.first })

-- a unit is sent
since_set : (n now i searched : ℕ) (qs : List Queued) (q : Queued) → q.at ≡ now → IsSince n (take searched qs) → IsSince (min n now) (take searched (set qs i q))
since_set n now i searched [] q at all = since_nil (min n now) searched
since_set n now i zero (p ∷ qs) q at all = tt
since_set n now zero (suc searched) (p ∷ qs) q at all = (omega arith, at_least_less (min n now) n (take searched qs) (omega arith) all.1)
since_set n now (suc i) (suc searched) (p ∷ qs) q at all =
    let here : n ≤ p.at = all.0 in
    (omega arith, since_set n now i searched qs q at all.1)

pub stamp_searched : (units after : List Queued) (searched since i now : ℕ) (q : Queued) → IsSearched units searched since → after ≡ set units i q → q.at ≡ now → IsSearched after searched (min since now)
stamp_searched units after searched since i now q s is at =
    let P : List Queued → Type 0 = λ qs. IsSearched qs searched (min since now) in
    let same : length (set units i q) ≡ length units = length-set units i q in
    subst P (sym is) (record { within = omega (arith, s.within); first = since_set since now i searched units q at s.first })

stamp_at : (units after : List Queued) (searched since place now count : ℕ) (o : Option Queued) → IsSearched units searched since → (o ≡ None → ⊥) → IfSome o (λ q. after ≡ set units place (record { unit = q.unit; at = now; count = count })) → IsSearched after searched (min since now)
stamp_at units after searched since place now count None s there is = absurd (there refl)
stamp_at units after searched since place now count (Some q) s there is = stamp_searched units after searched since place now (record { unit = q.unit; at = now; count = count }) s is refl

there_below : (qs : List Queued) (k : ℕ) → k < length qs → slice_get qs k ≡ None → ⊥
there_below [] k less none = omega arith
there_below (q ∷ qs) zero less none = absurd (cc)
there_below (q ∷ qs) (suc k) less none = there_below qs k (omega arith) none

pub sent_searched : (units after now_seen : List Queued) (searched since place now count : ℕ) → IsSearched units searched since → units ≡ now_seen → place < length now_seen → IfSome (slice_get units place) (λ q. after ≡ set units place (record { unit = q.unit; at = now; count = count })) → IsSearched after searched (min since now)
sent_searched units after now_seen searched since place now count s view less is =
    let P : List Queued → Type 0 = λ qs. place < length qs in
    stamp_at units after searched since place now count (slice_get units place) s (there_below units place (subst P (sym view) less)) is

-- units come behind the others
pub push_searched : (units after more : List Queued) (searched since : ℕ) → IsSearched units searched since → after ≡ units ++ more → IsSearched after searched since
push_searched units after more searched since s is =
    let P : List Queued → Type 0 = λ qs. IsSearched qs searched since in
    let Q : List Queued → Type 0 = λ qs. IsSince since qs in
    let longer : length (units ++ more) ≡ length units + length more = length-append units more in
    subst P (sym is) (record { within = omega (arith, s.within); first = subst Q (sym (take-append-le searched units more s.within)) s.first })

-- fewer of the first units
since_fewer : (n j k : ℕ) (qs : List Queued) → j ≤ k → IsSince n (take k qs) → IsSince n (take j qs)
since_fewer n zero k qs le all = tt
since_fewer n (suc j) zero qs le all = absurd (omega arith)
since_fewer n (suc j) (suc k) [] le all = tt
since_fewer n (suc j) (suc k) (q ∷ qs) le all = (all.0, since_fewer n j k qs (omega arith) all.1)

-- ---- what is found

pub goes_on : (units : List Queued) (searched since end now : ℕ) → IsSearched units searched since → due since now ≡ false → IsFound units end now (min searched end) since
goes_on units searched since end now s e =
    record {
      within = omega arith;
      first = since_fewer since (min searched end) searched units (omega arith) s.first;
      early = grind (arith, nat_tests);
    }

pub found_searched : (units : List Queued) (end now place since : ℕ) → end ≤ length units → IsFound units end now place since → IsSearched units place since
found_searched units end now place since within found = record { within = omega (arith, found.within); first = found.first }

some_is : {A : Type 0} (x y : A) → Some x ≡ Some y → x ≡ y
some_is x y e = cc

found_at : (now n place sent : ℕ) (xs : List Queued) (q : Queued) → now < n + 500 → IsSince n (take place xs) → place < sent → slice_get xs place ≡ Some q → due q.at now ≡ true → prefix_len (waits now) (take sent xs) ≡ place
found_at now n place zero xs q early since less some late = absurd (omega arith)
found_at now n zero (suc sent) [] q early since less some late = absurd (cc)
found_at now n zero (suc sent) (x ∷ xs) q early since less some late =
    let same : x ≡ q = some_is x q some in
    let goes : waits now x ≡ false = ap (λ (p : Queued). waits now p) same ∙ ap not late in
    ap (λ (b : Bool). cond b (1 + prefix_len (waits now) (take sent xs)) 0) goes
found_at now n (suc place) (suc sent) [] q early since less some late = absurd (cc)
found_at now n (suc place) (suc sent) (x ∷ xs) q early since less some late =
    let here : n ≤ x.at = since.0 in
    let goes : waits now x ≡ true = grind (arith, nat_tests) in
    let rest : prefix_len (waits now) (take sent xs) ≡ place = found_at now n place sent xs q early since.1 (omega arith) some late in
    ap (λ (b : Bool). cond b (1 + prefix_len (waits now) (take sent xs)) 0) goes ∙ omega arith

take_min : (n : ℕ) (xs : List Queued) → take (min n (length xs)) xs ≡ take n xs
take_min zero xs =
    let none : min zero (length xs) ≡ zero = omega arith in
    ap (λ (k : ℕ). take k xs) none
take_min (suc n) [] =
    let none : min (suc n) (length {A = Queued} []) ≡ zero = omega arith in
    ap (λ (k : ℕ). take {A = Queued} k []) none
take_min (suc n) (x ∷ xs) =
    let next : min (suc n) (length (x ∷ xs)) ≡ suc (min n (length xs)) = omega arith in
    ap (λ (k : ℕ). take k (x ∷ xs)) next ∙ ap (λ (ys : List Queued). x ∷ ys) (take_min n xs)

some_there : (o : Option Queued) (now : ℕ) → IfSome o (λ q. due q.at now ≡ true) → (o ≡ None → ⊥) → (q : Queued) × (o ≡ Some q) × (due q.at now ≡ true)
some_there None now late there = absurd (there refl)
some_there (Some q) now late there = (q, refl, late)

pub one_found : (units : List Queued) (sent end now place since : ℕ) → end ≡ min sent (length units) → IsFound units end now place since → place < end → IfSome (slice_get units place) (λ q. due q.at now ≡ true) → position (λ (q : Queued). due q.at now) (take sent units) ≡ Some place
one_found units sent end now place since is found less late =
    let below : place < length units = omega arith in
    let q = some_there (slice_get units place) now late (there_below units place below) in
    let exact : position_or_len (λ (p : Queued). due p.at now) (take sent units) ≡ place = found_at now since place sent units q.0 found.early found.first (omega arith) q.1 q.2 in
    let many : length (take sent units) ≡ min sent (length units) = length-take sent units in
    let test : nat_lt (position_or_len (λ (p : Queued). due p.at now) (take sent units)) (length (take sent units)) ≡ true = grind (arith, nat_tests) in
    ap (λ (b : Bool). cond b (Some (position_or_len (λ (p : Queued). due p.at now) (take sent units))) None) test ∙ ap Some exact

pub none_found : (units : List Queued) (sent end now place since : ℕ) → end ≡ min sent (length units) → IsFound units end now place since → end ≤ place → position (λ (q : Queued). due q.at now) (take sent units) ≡ None
none_found units sent end now place since is found past =
    let at : place ≡ min sent (length units) = omega (arith, found.within) in
    let same : take place units ≡ take sent units = ap (λ (k : ℕ). take k units) at ∙ take_min sent units in
    let P : List Queued → Type 0 = λ qs. IsSince since qs in
    let all : position_or_len (λ (p : Queued). due p.at now) (take sent units) ≡ length (take sent units) = all_wait now since (take sent units) found.early (subst P same found.first) in
    let test : nat_lt (position_or_len (λ (p : Queued). due p.at now) (take sent units)) (length (take sent units)) ≡ false = grind (arith, nat_tests) in
    ap (λ (b : Bool). cond b (Some (position_or_len (λ (p : Queued). due p.at now) (take sent units))) None) test
