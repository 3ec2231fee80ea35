-- A list that has each of n different numbers has n places.
use Rattle.std.proofs.Common.{◌≡◌, ◌≢◌, ℕ, ◌+◌, ◌<◌, ◌≤◌, zero, suc, List, [], ◌∷◌, Bool, true, false, ◌||◌, cond, ◌==◌, refl, ap, ◌∙◌, length, arith}
use Rattle.spx_link.specs.Sound.{is_among}
use Rattle.spx_link.proofs.Found.{eq_from, eq_false}

-- it is one of the first n values of f
abbrev is_hit : (ℕ → ℕ) → ℕ → ℕ → Bool
is_hit f zero m = false
is_hit f (suc n) m = is_hit f n m || (m == f n)

-- how many pass
abbrev totals : (ℕ → Bool) → List ℕ → ℕ
totals p [] = 0
totals p (n ∷ ns) = cond (p n) 1 0 + totals p ns

tally_step : (b : Bool) (x y : ℕ) → x ≤ y → cond b 1 0 + x ≤ y + 1
tally_step true x y h = omega (arith, h)
tally_step false x y h = omega (arith, h)

tally_within : (p : ℕ → Bool) (ns : List ℕ) → totals p ns ≤ length ns
tally_within p [] = omega arith
tally_within p (n ∷ ns) =
    let here = tally_step (p n) (totals p ns) (length ns) (tally_within p ns) in
    omega (arith, here)

no_less_step : (b c : Bool) (x y : ℕ) → x ≤ y → cond b 1 0 + x ≤ cond (b || c) 1 0 + y
no_less_step true c x y h = omega (arith, h)
no_less_step false true x y h = omega (arith, h)
no_less_step false false x y h = omega (arith, h)

no_less : (p q : ℕ → Bool) (ns : List ℕ) → totals p ns ≤ totals (λ m. p m || q m) ns
no_less p q [] = omega arith
no_less p q (n ∷ ns) = no_less_step (p n) (q n) (totals p ns) (totals (λ m. p m || q m) ns) (no_less p q ns)

more_step : (b c : Bool) (x y : ℕ) → (c ≡ true → b ≡ false) → x ≤ y → (c ≡ false → x + 1 ≤ y) → cond b 1 0 + x + 1 ≤ cond (b || c) 1 0 + y
more_step true true x y new all more = absurd (cc (new refl))
more_step true false x y new all more = let h : x + 1 ≤ y = more refl in omega (arith, h)
more_step false true x y new all more = omega (arith, all)
more_step false false x y new all more = let h : x + 1 ≤ y = more refl in omega (arith, h)

or_second : (b c : Bool) → (b || c) ≡ true → b ≡ false → c ≡ true
or_second true c h e = cc
or_second false c h e = h

-- one number more that is there, and did not pass
one_more : (p : ℕ → Bool) (a : ℕ) (ns : List ℕ) → p a ≡ false → is_among ns a ≡ true → totals p ns + 1 ≤ totals (λ m. p m || (m == a)) ns
one_more p a [] new among = absurd (cc (among))
one_more p a (n ∷ ns) new among =
    more_step (p n) (n == a) (totals p ns) (totals (λ m. p m || (m == a)) ns)
    (λ e. ap p (eq_from n a e) ∙ new)
    (no_less p (λ m. m == a) ns)
    (λ e. one_more p a ns new (or_second (n == a) (is_among ns a) among e))

neither : (b c : Bool) → b ≡ false → c ≡ false → (b || c) ≡ false
neither true c p q = cc
neither false c p q = q

no_hit : (f : ℕ → ℕ) (n m : ℕ) → ((i : ℕ) → i < n → m ≢ f i) → is_hit f n m ≡ false
no_hit f zero m other = refl
no_hit f (suc n) m other =
    neither (is_hit f n m) (m == f n) (no_hit f n m (λ i h. other i (omega arith))) (eq_false m (f n) (other n (omega arith)))

all_hit : (f : ℕ → ℕ) (n : ℕ) (ns : List ℕ) → ((i j : ℕ) → i < j → j < n → f j ≢ f i) → ((k : ℕ) → k < n → is_among ns (f k) ≡ true) → n ≤ totals (is_hit f n) ns
all_hit f zero ns apart among = omega arith
all_hit f (suc n) ns apart among =
    let below : n ≤ totals (is_hit f n) ns = all_hit f n ns (λ i j h k. apart i j h (omega arith)) (λ k h. among k (omega arith)) in
    let here : totals (is_hit f n) ns + 1 ≤ totals (is_hit f (suc n)) ns = one_more (is_hit f n) (f n) ns (no_hit f n (f n) (λ i h. apart i n h (omega arith))) (among n (omega arith)) in
    omega (arith, below, here)

pub as_many_places : (f : ℕ → ℕ) (n : ℕ) (ns : List ℕ) → ((i j : ℕ) → i < j → j < n → f j ≢ f i) → ((k : ℕ) → k < n → is_among ns (f k) ≡ true) → n ≤ length ns
as_many_places f n ns apart among = omega (arith, all_hit f n ns apart among, tally_within (is_hit f n) ns)
