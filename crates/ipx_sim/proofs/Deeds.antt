-- Actions one after another, one more at a time.
use Rattle.std.proofs.Common.{◌≡◌, ◌<◌, ℕ, ◌+◌, Bool, true, false, not, inl, inr, List, [], ◌∷◌, ◌++◌, length, take, drop, get_or, map, Result, Ok, Err, refl, sym, ap, ◌∙◌, subst, arith, take-append-drop}
use Rattle.std.specs.Prelude.{◌||◌, ◌==◌}
use Rattle.std.specs.List.{range_with_len}
use Rattle.std.proofs.lemmas.Bool.{ne_eqb}
use Rattle.std.proofs.lemmas.List.{drop_more, length_push, map-id, take_more}
use Rattle.std.proofs.lemmas.List.FromFn.{get_or-range_with_len, length-range_with_len, map-range_with_len_more, take-map-range_with_len}
use Rattle.ipx_sim.specs.ScriptDoing.{DoesEach, Iterates, Repeats, Then}
use Rattle.ipx_sim.specs.declared.stop.LineFault.{LineFault}

or_nil : (q : Bool) → q ≡ (q || false)
or_nil true = refl
or_nil false = refl

or_last : (p q : Bool) → p ≡ false → (p || q) ≡ (q || false)
or_last p q never = rw never (or_nil q)

or_more : (p r s q : Bool) → p ≡ (r || s) → (p || q) ≡ (r || (s || q))
or_more p true s q is = rw is refl
or_more p false s q is = rw is refl

-- one more of a list
pub each_more : {S X : Type 0} (Does : X → S → Result Bool LineFault → S → Type 0) (xs : List X) (x : X) (p q : Bool) (a b c : S)
    → DoesEach Does xs a (Ok p) b → Does x b (Ok q) c → DoesEach Does (xs ++ x ∷ []) a (Ok (p || q)) c
each_more {S} Does [] x p q a b c done next =
    let none : p ≡ false = cc (done.0) in
    (c, q, false, subst (λ (s : S). Does x s (Ok q) c) done.1 next, (refl, refl), or_last p q none)
each_more Does (y ∷ ys) x p q a b c done next = (
  done.0,
  done.1,
  done.2 || q,
  done.3,
  each_more Does ys x done.2 q done.0 b c done.4 next,
  or_more p done.1 done.2 q done.5,
)

-- an action that is stopped stops all
pub each_stop : {S X : Type 0} (Does : X → S → Result Bool LineFault → S → Type 0) (xs : List X) (x : X) (ys : List X) (p : Bool) (stop : LineFault) (a b c : S)
    → DoesEach Does xs a (Ok p) b → Does x b (Err stop) c → DoesEach Does (xs ++ x ∷ ys) a (Err stop) c
each_stop {S} Does [] x ys p stop a b c done next = inl (subst (λ (s : S). Does x s (Err stop) c) done.1 next)
each_stop Does (z ∷ zs) x ys p stop a b c done next =
    inr (done.0, done.1, done.3, each_stop Does zs x ys done.2 stop done.0 b c done.4 next)

-- the same, with an index of a list
pub each_at : {S X : Type 0} (Does : X → S → Result Bool LineFault → S → Type 0) (xs : List X) (i : ℕ) (d : X) (p q : Bool) (a b c : S)
    → i < length xs → DoesEach Does (take i xs) a (Ok p) b → Does (get_or xs i d) b (Ok q) c → DoesEach Does (take (i + 1) xs) a (Ok (p || q)) c
each_at {X = X} Does xs i d p q a b c lt done next =
    subst (λ (l : List X). DoesEach Does l a (Ok (p || q)) c) (sym (take_more xs i d lt)) (each_more Does (take i xs) (get_or xs i d) p q a b c done next)

pub each_stop_at : {S X : Type 0} (Does : X → S → Result Bool LineFault → S → Type 0) (xs : List X) (i : ℕ) (d : X) (p : Bool) (stop : LineFault) (a b c : S)
    → i < length xs → DoesEach Does (take i xs) a (Ok p) b → Does (get_or xs i d) b (Err stop) c → DoesEach Does xs a (Err stop) c
each_stop_at {X = X} Does xs i d p stop a b c lt done next =
    let cut : take i xs ++ (get_or xs i d ∷ drop (i + 1) xs) ≡ xs = ap (λ (l : List X). take i xs ++ l) (sym (drop_more xs i d lt)) ∙ take-append-drop i xs in
    subst (λ (l : List X). DoesEach Does l a (Err stop) c) cut (each_stop Does (take i xs) (get_or xs i d) (drop (i + 1) xs) p stop a b c done next)

-- and with numbers
range_more : (a n j : ℕ) → a + n ≡ j → range_with_len a (n + 1) ≡ range_with_len a n ++ j ∷ []
range_more a n j is =
    sym (map-id (range_with_len a (n + 1))) ∙ map-range_with_len_more (λ (x : ℕ). x) a n j is ∙ ap (λ (l : List ℕ). l ++ j ∷ []) (map-id (range_with_len a n))

pub each_number : {S : Type 0} (Does : ℕ → S → Result Bool LineFault → S → Type 0) (first n j : ℕ) (p q : Bool) (a b c : S)
    → first + n ≡ j → DoesEach Does (range_with_len first n) a (Ok p) b → Does j b (Ok q) c → DoesEach Does (range_with_len first (n + 1)) a (Ok (p || q)) c
each_number Does first n j p q a b c is done next =
    subst (λ (l : List ℕ). DoesEach Does l a (Ok (p || q)) c) (sym (range_more first n j is)) (each_more Does (range_with_len first n) j p q a b c done next)

pub each_stop_number : {S : Type 0} (Does : ℕ → S → Result Bool LineFault → S → Type 0) (first n most j : ℕ) (p : Bool) (stop : LineFault) (a b c : S)
    → first + n ≡ j → n < most → DoesEach Does (range_with_len first n) a (Ok p) b → Does j b (Err stop) c → DoesEach Does (range_with_len first most) a (Err stop) c
each_stop_number Does first n most j p stop a b c is lt done next =
    let all = range_with_len first most in
    let long : n < length all = omega (arith, length-range_with_len first most, lt) in
    let front : take n all ≡ range_with_len first n =
    sym (ap (take n) (map-id all)) ∙ take-map-range_with_len (λ (x : ℕ). x) first most n (omega (arith, lt)) ∙ map-id (range_with_len first n) in
    let here : get_or all n 0 ≡ j = get_or-range_with_len first most n 0 lt ∙ is in
    each_stop_at Does all n 0 p stop a b c long
    (subst (λ (l : List ℕ). DoesEach Does l a (Ok p) b) (sym front) done)
    (subst (λ (k : ℕ). Does k b (Err stop) c) (sym here) next)

-- ---- again and again

pub record Going {S : Type 0} (Does : S → Result Bool LineFault → S → Type 0) (a b : S) (n : ℕ) (any : Bool) : Type 0 where
  pub states : List S
  pub goes : Iterates Does states a b
  pub count : length states ≡ n
  pub some : any ≡ not (length states == 0)

goes_more : {S : Type 0} (Does : S → Result Bool LineFault → S → Type 0) (states : List S) (a b c : S) → Iterates Does states a b → Does b (Ok true) c → Iterates Does (states ++ c ∷ []) a c
goes_more {S} Does [] a b c goes next = (subst (λ (s : S). Does s (Ok true) c) goes next, refl)
goes_more Does (s ∷ states) a b c goes next = (goes.0, goes_more Does states s b c goes.1 next)

pub going_none : {S : Type 0} (Does : S → Result Bool LineFault → S → Type 0) (a : S) → Going Does a a 0 false
going_none Does a = record { states = []; goes = refl; count = refl; some = refl }

pub going_more : {S : Type 0} (Does : S → Result Bool LineFault → S → Type 0) (a b c : S) (n : ℕ) (any : Bool) → Going Does a b n any → Does b (Ok true) c → Going Does a c (n + 1) true
going_more Does a b c n any on next =
    let long : length (on.states ++ c ∷ []) ≡ n + 1 = omega (arith, length_push on.states c, on.count) in
    record {
      states = on.states ++ c ∷ [];
      goes = goes_more Does on.states a b c on.goes next;
      count = long;
      some = sym (ap not (ne_eqb (length (on.states ++ c ∷ [])) 0 (λ is. absurd (omega (arith, is, long)))));
    }

pub ends_quiet : {S : Type 0} (Does : S → Result Bool LineFault → S → Type 0) (a b c : S) (n most : ℕ) (any : Bool) → Going Does a b n any → n < most → Does b (Ok false) c → Repeats most Does a (Ok any) c
ends_quiet Does a b c n most any on lt next = (on.states, b, on.goes, on.some, inr (omega (arith, on.count, lt), next))

pub ends_stopped : {S : Type 0} (Does : S → Result Bool LineFault → S → Type 0) (a b c : S) (n most : ℕ) (any : Bool) (stop : LineFault) → Going Does a b n any → n < most → Does b (Err stop) c
    → Repeats most Does a (Err stop) c
ends_stopped Does a b c n most any stop on lt next = (on.states, b, on.goes, omega (arith, on.count, lt), next)

pub ends_all : {S : Type 0} (Does : S → Result Bool LineFault → S → Type 0) (a b : S) (n most : ℕ) (any : Bool) → Going Does a b n any → n ≡ most → Repeats most Does a (Ok any) b
ends_all Does a b n most any on is = (on.states, b, on.goes, on.some, inl (on.count ∙ is, refl))
