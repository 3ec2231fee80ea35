-- The best of a list of offers.
use Rattle.std.proofs.Common.{◌≡◌, ℕ, Bool, true, false, cond, List, [], ◌∷◌, Option, Some, None, ◌⊎◌, inl, inr, refl, sym, ap, ◌∙◌, arith}
use mathlib.Core.Bool.{true≢false, ◌&&◌}
use Rattle.std.specs.List.{AllByRecursion}
use Rattle.std.specs.Option.{unwrap_or, IfSome, IfNone}
use Rattle.std.specs.Cmp.{IsTotalOrder, IsStrictWeakOrder}
use Rattle.std.specs.Ordering.{ordering_then, is_eq, is_lt}
use Rattle.std.specs.declared.cmp.Ordering.{Ordering}
use Rattle.std.specs.declared.cmp.Ordering.TheVariants.{Less, Equal, Greater}
use Rattle.std.proofs.lemmas.Cmp.{then_total, on_total, tied_itself}
use Rattle.std.proofs.lemmas.List.MinMax.{ranks_by}
use Rattle.ipx_tables.specs.declared.source.Source.{Source}
use Rattle.ipx_tables.specs.declared.offer.Offer.{Offer}
use Rattle.ipx_tables.specs.Order.{IsStrictTotal}
use Rattle.ipx_tables.specs.Content.{content, said_of, HasDistinctKeys, pair_of, is_young, is_same, source_cmp}
use Rattle.ipx_tables.specs.Best.{metric_cmp, rank_cmp, is_better, IsBest, NoneCounts}
use Rattle.ipx_tables.specs.OfferScan.{is_candidate, source_and_metric, offer_beats, better_of, best_from}
use Rattle.ipx_tables.proofs.Lists.{source_total, same_equiv, found_same}

-- the fact holds of some item of the list
abbrev pub SomeIn : {X : Type 0} → (X → Type 0) → List X → Type 0
SomeIn P [] = ⊥
SomeIn P (x ∷ xs) = P x ⊎ SomeIn P xs

module _ {M : Type 0} {before : M → M → Bool} (strict : IsStrictTotal before) where
  metric_less : (x y : M) → metric_cmp before x y ≡ Less → before x y ≡ true
  metric_less x y h = grind (arith, strict.total x y)

  pub metric_equal : (x y : M) → metric_cmp before x y ≡ Equal → x ≡ y
  metric_equal x y h = grind (arith, strict.total x y)

  metric_total : IsTotalOrder (metric_cmp before)
  metric_total = record {
    antisymm = λ x y. grind (arith, strict.transitive x y x, strict.irreflexive x);
    trans = λ x y z h k. ap (λ b. cond b Less (cond (before z x) Greater Equal)) (strict.transitive x y z (metric_less x y h) (metric_less y z k));
    congr = λ x y z h. ap (λ v. metric_cmp before v z) (metric_equal x y h);
  }

  pub rank_total : IsTotalOrder (rank_cmp before)
  rank_total = then_total (on_total (λ (a : Source × M). a.1) metric_total) (on_total (λ (a : Source × M). a.0) source_total)

  pub better_order : {K : Type 0} → IsStrictWeakOrder (offer_beats {K = K} before)
  better_order {K} = ranks_by rank_total (λ (o : Offer K M). source_and_metric o)

-- the best of those that pass
module _ {X : Type 0} (test : X → Bool) (beats : X → X → Bool) where
  -- none that passes is better
  abbrev pub Beats : X → List X → Type 0
  Beats r xs = AllByRecursion (λ x. test x ≡ true → beats x r ≡ false) xs

  -- it is one that passes
  abbrev pub IsFrom : X → List X → Type 0
  IsFrom r xs = SomeIn (λ x. (test x ≡ true) × (r ≡ x)) xs

  -- the item that it started with is no better
  abbrev pub AsGood : Option X → X → Type 0
  AsGood None r = Unit {0}
  AsGood (Some b) r = beats b r ≡ false

module _ {X : Type 0} (test : X → Bool) (beats : X → X → Bool) (w : IsStrictWeakOrder beats) where
  not_itself : (a b : X) → a ≡ b → beats a b ≡ false
  not_itself a b h = grind (arith, w.one_way a b, w.one_way b a)

  -- the better of two is as good as both
  better_left : (best : Option X) (a r : X) → beats (better_of beats best a) r ≡ false → AsGood test beats best r
  better_left None a r h = tt
  better_left (Some b) a r h = grind (arith, w.one_way a b, w.chain b a r)

  better_right : (best : Option X) (a r : X) → beats (better_of beats best a) r ≡ false → beats a r ≡ false
  better_right None a r h = h
  better_right (Some b) a r h = grind (arith, w.chain a b r)

  pub best_beats : (xs : List X) (best : Option X) (r : X) → best_from test beats best xs ≡ Some r → AsGood test beats best r × Beats test beats r xs
  best_beats [] None r h = (tt, tt)
  best_beats [] (Some b) r h = (not_itself b r (grind arith), tt)
  best_beats (x ∷ xs) best r h = elim (test x) as (λ t. test x ≡ t → best_from test beats (cond t (Some (better_of beats best x)) best) xs ≡ Some r → AsGood test beats best r × Beats test beats r (x ∷ xs)) [
    | true ↦ λ e g. let rest = best_beats xs _ r g in (better_left best x r rest.0, ((λ k. better_right best x r rest.0), rest.1))
    | false ↦ λ e g. let rest = best_beats xs _ r g in (rest.0, ((λ k. absurd (true≢false (sym k ∙ e))), rest.1))
  ] refl h

  better_is : (best : Option X) (a r : X) → better_of beats best a ≡ r → (best ≡ Some r) ⊎ (r ≡ a)
  better_is None a r h = inr (sym h)
  better_is (Some b) a r h = elim (beats a b) as (λ t. cond t a b ≡ r → (Some b ≡ Some r) ⊎ (r ≡ a)) [ true ↦ λ e. inr (sym e) | false ↦ λ e. inl (ap Some e) ] h

  some_same : (a b : X) → Some a ≡ Some b → a ≡ b
  some_same a b h = cc

  pub best_is_from : (xs : List X) (best : Option X) (r : X) → best_from test beats best xs ≡ Some r → (best ≡ Some r) ⊎ IsFrom test beats r xs
  best_is_from [] best r h = inl h
  best_is_from (x ∷ xs) best r h = elim (test x) as (λ t. test x ≡ t → best_from test beats (cond t (Some (better_of beats best x)) best) xs ≡ Some r → (best ≡ Some r) ⊎ IsFrom test beats r (x ∷ xs)) [
    | true ↦ λ e g. elim (best_is_from xs _ r g) [
      | inl same ↦ elim (better_is best x r (some_same _ _ same)) [ inl old ↦ inl old | inr here ↦ inr (inl (e, here)) ]
      | inr rest ↦ inr (inr rest)
    ]
    | false ↦ λ e g. elim (best_is_from xs _ r g) [ inl same ↦ inl same | inr rest ↦ inr (inr rest) ]
  ] refl h

  pub best_none : (xs : List X) (best : Option X) → best_from test beats best xs ≡ None → (best ≡ None) × AllByRecursion (λ x. test x ≡ false) xs
  best_none [] best h = (h, tt)
  best_none (x ∷ xs) best h = elim (test x) as (λ t. test x ≡ t → best_from test beats (cond t (Some (better_of beats best x)) best) xs ≡ None → (best ≡ None) × AllByRecursion (λ x. test x ≡ false) (x ∷ xs)) [
    | true ↦ λ e g. let rest = (best_none xs _ g).0 in cc
    | false ↦ λ e g. let rest = best_none xs _ g in (rest.0, (e, rest.1))
  ] refl h

pub some_pair : {A B : Type 0} (p q : A × B) → Some p ≡ Some q → (p.0 ≡ q.0) × (p.1 ≡ q.1)
some_pair {A} {B} p q h =
    let first : Option (A × B) → A = λ v. (unwrap_or v p).0 in
    let second : Option (A × B) → B = λ v. (unwrap_or v p).1 in
    (ap first h, ap second h)

module _ {K M : Type 0} {cmp : K → K → Ordering} (o : IsTotalOrder cmp) {before : M → M → Bool} (strict : IsStrictTotal before) (key : K) (now : ℕ) where
  w : IsStrictWeakOrder (offer_beats {K = K} before)
  w = better_order strict

  -- the parts of a test
  parts : (a b : Ordering) → is_eq (ordering_then a b) ≡ true → (is_eq a ≡ true) × (b ≡ Equal)
  parts Less b h = cc
  parts Equal Less h = cc
  parts Equal Equal h = (refl, refl)
  parts Equal Greater h = cc
  parts Greater b h = cc

  both_true : (a b : Bool) → a ≡ true → b ≡ true → (a && b) ≡ true
  both_true true b h k = k
  both_true false b h k = h

  false_right : (a b : Bool) → a ≡ true → (a && b) ≡ false → b ≡ false
  false_right true b h k = k
  false_right false b h k = cc

  split_true : (a b : Bool) → (a && b) ≡ true → (a ≡ true) × (b ≡ true)
  split_true true b h = (refl, h)
  split_true false b h = cc

  joined : (a b : Ordering) → is_eq a ≡ true → b ≡ Equal → is_eq (ordering_then a b) ≡ true
  joined Less b h k = cc
  joined Equal b h k = ap is_eq k
  joined Greater b h k = cc

  -- sources that compare as equal are equally good
  pub as_good : (s u : Source) (m : M) (r : Source × M) → source_cmp s u ≡ Equal → is_better before (s, m) r ≡ is_better before (u, m) r
  as_good s u m r h = ap is_lt ((rank_total strict).congr (s, m) (u, m) r (ap (λ v. ordering_then v (source_cmp s u)) (tied_itself (metric_total strict) m) ∙ h))

  -- what is found is a candidate
  pub beats_found : (os : List (Offer K M)) (r : Offer K M) → Beats (is_candidate cmp key now) (offer_beats before) r os → (s : Source) (m : M) (t : ℕ) → content cmp os (key, s) ≡ Some (m, t) → is_young now t ≡ true → is_better before (s, m) (source_and_metric r) ≡ false
  beats_found [] r b s m t h y = cc
  beats_found (x ∷ os) r b s m t h y = elim (is_same cmp (pair_of x) (key, s)) as (λ v. is_same cmp (pair_of x) (key, s) ≡ v → cond v (Some (x.metric, x.heard)) (content cmp os (key, s)) ≡ Some (m, t) → is_better before (s, m) (source_and_metric r) ≡ false) [
    | true ↦ λ e g.
        let both = parts (cmp x.key key) (source_cmp x.source s) e in
        let same_metric = (some_pair (x.metric, x.heard) (m, t) g).0 in
        let same_time = (some_pair (x.metric, x.heard) (m, t) g).1 in
        let counts : is_young now x.heard ≡ true = ap (is_young now) same_time ∙ y in
        let candidate : is_candidate cmp key now x ≡ true = both_true _ _ both.0 counts in
        ap (λ v. is_better before (s, v) (source_and_metric r)) (sym same_metric) ∙ sym (as_good x.source s x.metric (source_and_metric r) both.1) ∙ b.0 candidate
    | false ↦ λ e g. beats_found os r b.1 s m t g y
  ] refl h

  -- it is in the table, and valid
  abbrev pub IsPresent : List (Offer K M) → Offer K M → Type 0
  IsPresent os r = (t : ℕ) × ((content cmp os (key, r.source) ≡ Some (r.metric, t)) × (is_young now t ≡ true))

  -- an earlier offer is of another pair
  separate_other : (x : Offer K M) (os : List (Offer K M)) (p : K × Source) {v : M × ℕ} → content cmp os (pair_of x) ≡ None → content cmp os p ≡ Some v → is_same cmp (pair_of x) p ≡ false
  separate_other x os p n h = let alike = found_same (same_equiv o) said_of os (pair_of x) p in
      elim (is_same cmp (pair_of x) p) as (λ b. is_same cmp (pair_of x) p ≡ b → b ≡ false) [ true ↦ λ e. let two = alike e in cc | false ↦ λ e. refl ] refl

  pub from_found : (os : List (Offer K M)) (r : Offer K M) → HasDistinctKeys (is_same cmp) os → IsFrom (is_candidate cmp key now) (offer_beats before) r os → IsPresent os r
  from_found [] r a f = absurd f
  from_found (x ∷ os) r a (inl f) =
      let both = split_true _ _ f.0 in
      let same : is_same cmp (pair_of x) (key, x.source) ≡ true = joined (cmp x.key key) _ both.0 (tied_itself source_total x.source) in
      let said : content cmp (x ∷ os) (key, x.source) ≡ Some (x.metric, x.heard) = ap (λ v. cond v (Some (x.metric, x.heard)) (content cmp os (key, x.source))) same in
      (x.heard, (ap (λ (v : Offer K M). content cmp (x ∷ os) (key, v.source)) f.1 ∙ said ∙ ap (λ (v : Offer K M). Some (v.metric, x.heard)) (sym f.1), both.1))
  from_found (x ∷ os) r a (inr f) = let rest = from_found os r a.1 f in
      (rest.0, (ap (λ v. cond v (Some (x.metric, x.heard)) (content cmp os (key, r.source))) (separate_other x os (key, r.source) a.0 rest.1.0) ∙ rest.1.0, rest.1.1))

  pub none_found : (os : List (Offer K M)) → AllByRecursion (λ o. is_candidate cmp key now o ≡ false) os → NoneCounts (content cmp os) key now
  none_found [] n s m t h = cc
  none_found (x ∷ os) n s m t h = elim (is_same cmp (pair_of x) (key, s)) as (λ v. is_same cmp (pair_of x) (key, s) ≡ v → cond v (Some (x.metric, x.heard)) (content cmp os (key, s)) ≡ Some (m, t) → is_young now t ≡ false) [
    | true ↦ λ e g.
        let both = parts (cmp x.key key) (source_cmp x.source s) e in
        let same_time = (some_pair (x.metric, x.heard) (m, t) g).1 in
        ap (is_young now) (sym same_time) ∙ false_right _ _ both.0 n.0
    | false ↦ λ e g. none_found os n.1 s m t g
  ] refl h

  -- what a scan gives is the best
  pub scanned : (os : List (Offer K M)) → HasDistinctKeys (is_same cmp) os → (r : Option (Offer K M)) → r ≡ best_from (is_candidate cmp key now) (offer_beats before) None os → IfSome r (λ v. IsBest before (content cmp os) key now (source_and_metric v)) × IfNone r (NoneCounts (content cmp os) key now)
  scanned os a None h = (tt, none_found os (best_none (is_candidate cmp key now) (offer_beats before) w os None (sym h)).1)
  scanned os a (Some r) h = elim (best_is_from (is_candidate cmp key now) (offer_beats before) w os None r (sym h)) [
    | inl none ↦ cc
    | inr from ↦
        let stands = from_found os r a from in
        let beats = (best_beats (is_candidate cmp key now) (offer_beats before) w os None r (sym h)).1 in (
          record { moment = stands.0; stands = stands.1.0; counts = stands.1.1; least = beats_found os r beats },
          tt,
        )
  ]
