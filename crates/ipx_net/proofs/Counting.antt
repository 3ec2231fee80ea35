-- Units counted by their indices.
use Rattle.std.proofs.Common.{◌≡◌, ◌<◌, ◌≤◌, ◌+◌, ◌-◌, ◌==◌, ℕ, zero, suc, List, [], ◌∷◌, ◌++◌, length, get_or, take, drop, refl, sym, ◌∙◌, ap, arith, Bool, true, false, cond, add-zero, zero-add, ltb, ltb-true, ltb-false, length-drop, length-take}
use Rattle.std.specs.Prelude.{count_by, if◌then◌else◌}
use Rattle.std.specs.List.Sorted.{IsPartitionPoint, IsPartitionedBy}
use Rattle.std.proofs.lemmas.List.Recursion.{is_count_by}
use Rattle.std.proofs.lemmas.List.Sorted.{IsPartitionedBy-ltb}
use Rattle.spx_theory.specs.Scan.{times}
use Rattle.ipx_net.specs.Places.{places_from}

-- a list that ends in one number more
pub places-push : (at e n : ℕ) (ns : List ℕ) → places_from at e (ns ++ n ∷ []) ≡ places_from at e ns ++ (if n == e then (at + length ns) ∷ [] else [])
places-push at e n [] = elim (n == e) as (λ b. cond b (at ∷ []) [] ≡ cond b ((at + 0) ∷ []) []) [ true ↦ ap (λ k. k ∷ []) (sym (add-zero at)) | false ↦ refl ]
places-push at e n (x ∷ xs) =
    let same : at + 1 + length xs ≡ at + suc (length xs) = omega arith in
    let rest : places_from (at + 1) e (xs ++ n ∷ []) ≡ places_from (at + 1) e xs ++ (if n == e then (at + suc (length xs)) ∷ [] else []) =
    places-push (at + 1) e n xs ∙ ap (λ k. places_from (at + 1) e xs ++ (if n == e then k ∷ [] else [])) same in
    elim (x == e) as (λ b. cond b (at ∷ places_from (at + 1) e (xs ++ n ∷ [])) (places_from (at + 1) e (xs ++ n ∷ []))
    ≡ cond b (at ∷ places_from (at + 1) e xs) (places_from (at + 1) e xs) ++ (if n == e then (at + suc (length xs)) ∷ [] else []))
    [ true ↦ ap (λ ys. at ∷ ys) rest | false ↦ rest ]

-- an index in the list is not before its first one
first_or_later : (at d : ℕ) (ps : List ℕ) (k : ℕ) → ((j : ℕ) → j < length ps → at + 1 ≤ get_or ps j d) → k < suc (length ps) → at ≤ get_or (at ∷ ps) k d
first_or_later at d ps zero later h = omega arith
first_or_later at d ps (suc k) later h = let w = later k (omega arith) in omega arith

pub not_before : (at e : ℕ) (ns : List ℕ) (k d : ℕ) → k < length (places_from at e ns) → at ≤ get_or (places_from at e ns) k d
not_before at e [] k d h = absurd (omega arith)
not_before at e (x ∷ xs) k d h =
    let ps : List ℕ = places_from (at + 1) e xs in
    let later : (j : ℕ) → j < length ps → at + 1 ≤ get_or ps j d = λ j. not_before (at + 1) e xs j d in
    elim (x == e) as (λ b. k < length (cond b (at ∷ ps) ps) → at ≤ get_or (cond b (at ∷ ps) ps) k d)
    [ true ↦ first_or_later at d ps k later | false ↦ λ w. let l = later k w in omega arith ] h

-- the indices rise
with_first : (at d : ℕ) (ps : List ℕ) (i j : ℕ) → i ≤ j → ((k : ℕ) → k < length ps → at + 1 ≤ get_or ps k d) → ((a b : ℕ) → a ≤ b → b < length ps → get_or ps a d ≤ get_or ps b d)
    → j < suc (length ps) → get_or (at ∷ ps) i d ≤ get_or (at ∷ ps) j d
with_first at d ps zero zero le above later h = omega arith
with_first at d ps zero (suc j) le above later h = let w = above j (omega arith) in omega arith
with_first at d ps (suc i) zero le above later h = absurd (omega arith)
with_first at d ps (suc i) (suc j) le above later h = later i j (omega arith) (omega arith)

pub rising : (at e : ℕ) (ns : List ℕ) (i j d : ℕ) → i ≤ j → j < length (places_from at e ns) → get_or (places_from at e ns) i d ≤ get_or (places_from at e ns) j d
rising at e [] i j d le h = absurd (omega arith)
rising at e (x ∷ xs) i j d le h =
    let ps : List ℕ = places_from (at + 1) e xs in
    let above : (k : ℕ) → k < length ps → at + 1 ≤ get_or ps k d = λ k. not_before (at + 1) e xs k d in
    let later : (a b : ℕ) → a ≤ b → b < length ps → get_or ps a d ≤ get_or ps b d = λ a b. rising (at + 1) e xs a b d in
    elim (x == e) as (λ b. j < length (cond b (at ∷ ps) ps) → get_or (cond b (at ∷ ps) ps) i d ≤ get_or (cond b (at ∷ ps) ps) j d)
    [ true ↦ with_first at d ps i j le above later | false ↦ later i j le ] h

-- if the first i indices are below a bound, and the others are not, i is how many times the number occurs
-- below it
pub counted : (at e : ℕ) (ns : List ℕ) (x i : ℕ) → i ≤ length (places_from at e ns)
    → ((k : ℕ) → k < i → get_or (places_from at e ns) k 0 < at + x) → ((k : ℕ) → i ≤ k → k < length (places_from at e ns) → at + x ≤ get_or (places_from at e ns) k 0)
    → i ≡ times e (take x ns)
counted at e [] zero i le below above = omega arith
counted at e [] (suc x) i le below above = omega arith
counted at e (n ∷ ns) zero zero le below above = refl
counted at e (n ∷ ns) zero (suc i) le below above =
    let low = below 0 (omega arith) in
    let high = not_before at e (n ∷ ns) 0 0 (omega (arith, le)) in
    absurd (omega (arith, low, high))
counted at e (n ∷ ns) (suc x) i le below above =
    let ps : List ℕ = places_from (at + 1) e ns in
    let rest : (j : ℕ) → j ≤ length ps → ((k : ℕ) → k < j → get_or ps k 0 < at + 1 + x) → ((k : ℕ) → j ≤ k → k < length ps → at + 1 + x ≤ get_or ps k 0) → j ≡ times e (take x ns) = λ j. counted (at + 1) e ns x j in
    elim (n == e) as (λ b. i ≤ length (cond b (at ∷ ps) ps) → ((k : ℕ) → k < i → get_or (cond b (at ∷ ps) ps) k 0 < at + suc x)
    → ((k : ℕ) → i ≤ k → k < length (cond b (at ∷ ps) ps) → at + suc x ≤ get_or (cond b (at ∷ ps) ps) k 0) → i ≡ cond b 1 0 + times e (take x ns)) [
      | true ↦ with_one at x ps (times e (take x ns)) i rest
      | false ↦ λ l b a. let k = rest i l (λ k h. let w = b k h in omega arith) (λ k g h. let w = a k g h in omega arith) in omega arith
    ] le below above
  where
    with_one : (at x : ℕ) (ps : List ℕ) (t i : ℕ)
        → ((j : ℕ) → j ≤ length ps → ((k : ℕ) → k < j → get_or ps k 0 < at + 1 + x) → ((k : ℕ) → j ≤ k → k < length ps → at + 1 + x ≤ get_or ps k 0) → j ≡ t)
        → i ≤ suc (length ps) → ((k : ℕ) → k < i → get_or (at ∷ ps) k 0 < at + suc x) → ((k : ℕ) → i ≤ k → k < suc (length ps) → at + suc x ≤ get_or (at ∷ ps) k 0) → i ≡ 1 + t
    with_one at x ps t zero rest le below above = let w = above 0 (omega arith) (omega arith) in absurd (omega arith)
    with_one at x ps t (suc i) rest le below above =
        let k = rest i (omega arith) (λ k h. let w = below (suc k) (omega arith) in omega arith) (λ k g h. let w = above (suc k) (omega arith) (omega arith) in omega arith) in omega arith

-- how many times a number occurs between two indices
pub times-between : (e a b : ℕ) (ns : List ℕ) → times e (drop a (take b ns)) ≡ times e (take b ns) - times e (take a ns)
times-between e zero b ns = omega arith
times-between e (suc a) zero ns = omega arith
times-between e (suc a) (suc b) [] = refl
times-between e (suc a) (suc b) (n ∷ ns) = let rest = times-between e a b ns in omega arith

-- a number does not occur more often than there are elements
pub times-few : (e : ℕ) (ns : List ℕ) → times e ns ≤ length ns
times-few e [] = omega arith
times-few e (n ∷ ns) = let rest = times-few e ns in elim (n == e) as (λ b. cond b 1 0 + times e ns ≤ suc (length ns)) [ true ↦ omega arith | false ↦ omega arith ]

one_counted : (b : Bool) (t : ℕ) → cond b 1 0 + t ≡ cond b (1 + t) t
one_counted true t = refl
one_counted false t = zero-add t

-- the same as the count of std
pub times-count : (e : ℕ) (ns : List ℕ) → times e ns ≡ count_by (λ n. n == e) ns
times-count e ns = is_count_by (times e) (λ n. n == e) refl (λ x xs. one_counted (x == e) (times e xs)) ns

-- between two indices there are no more elements than their distance
pub few_between : (e a b : ℕ) (ns : List ℕ) → times e (drop a (take b ns)) ≤ b - a
few_between e a b ns =
    let few : times e (drop a (take b ns)) ≤ length (drop a (take b ns)) = times-few e (drop a (take b ns)) in
    omega (arith, length-drop a (take b ns), length-take b ns)

-- what a search in the list of an end finds
pub found_below : (list sent : List ℕ) (e place i : ℕ) → list ≡ places_from 0 e sent → i ≤ length list
    → IsPartitionPoint (λ y. ltb y place ≡ true) (λ y. ltb y place ≡ false) list i → i ≡ times e (take place sent)
found_below list sent e place i is within point =
    let ps : List ℕ = places_from 0 e sent in
    let there : i ≤ length ps = rw is at within in
    let parts : IsPartitionPoint (λ y. ltb y place ≡ true) (λ y. ltb y place ≡ false) ps i = rw is at point in
    counted 0 e sent place i there
    (λ k h. let t : get_or ps k 0 < place = ltb-true (get_or ps k 0) place (parts.0 k 0 (omega arith) h) in omega arith)
    (λ k g h. let t : place ≤ get_or ps k 0 = ltb-false (get_or ps k 0) place (parts.1 k 0 g h) in omega arith)

-- the test that the search makes
pub is_parted : (list sent : List ℕ) (e place : ℕ) → list ≡ places_from 0 e sent → IsPartitionedBy (λ y. ltb y place) list
is_parted list sent e place is = rw is (IsPartitionedBy-ltb (λ y. y) (places_from 0 e sent) place (rising 0 e sent))
