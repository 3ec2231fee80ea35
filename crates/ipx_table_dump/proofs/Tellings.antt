-- The counts of a neighbour after one more advertisement.
use Rattle.std.proofs.Common.{◌≡◌, ℕ, ◌+◌, ◌<◌, ◌≤◌, ◌^◌, Bool, true, false, List, ◌++◌, [], ◌∷◌, Some, None, length, max, take, get_or, refl, sym, ap, cond, ◌∙◌, arith, if◌then◌else◌}
use Rattle.std.specs.Prelude.{◌&&◌, count_by, filter, not}
use Rattle.std.specs.List.{list_any}
use Rattle.std.specs.Option.{unwrap_or}
use Rattle.std.proofs.lemmas.List.{length-take, take_more}
use Rattle.std.proofs.lemmas.List.Folds.{list_any-append}
use Rattle.std.proofs.lemmas.List.Sums.{count_by-le-length, sum_by-cons, sum_by_push}
use Rattle.std.specs.Ordering.{is_eq}
use Rattle.std.specs.declared.cmp.Ordering.{Ordering}
use Rattle.std.specs.declared.cmp.Ordering.TheVariants.{Less, Equal, Greater}
use Rattle.ipx_tables.specs.declared.source.Source.{Source}
use Rattle.ipx_tables.specs.Content.{source_cmp}
use Rattle.ipx_tables.specs.Order.{EqualOnlyIfSame}
use Rattle.ipx_table_dump.specs.declared.advertisements.Advertisement.{Advertisement}
use Rattle.ipx_table_dump.specs.declared.advertisers.Advertiser.{Advertiser}
use Rattle.ipx_table_dump.specs.Advertisers.{is_advertisement_of, latest, nothing_advertised, advertiser_of, advertised_by, with_advertisement}

-- one more counts, or does not
abbrev one_if : Bool → ℕ
one_if b = if b then 1 else 0

count_more : {X : Type 0} (p : X → Bool) (xs : List X) (x : X) → count_by p (xs ++ x ∷ []) ≡ count_by p xs + one_if (p x)
count_more p xs x = sum_by_push (λ y. cond (p y) 1 0) xs x

-- the latest of one more
latest_more : (p : Advertisement → Bool) (xs : List Advertisement) (x : Advertisement) → latest (filter p (xs ++ x ∷ [])) ≡ (if p x then max (latest (filter p xs)) x.heard else latest (filter p xs))
latest_more p [] x = elim (p x) as (λ b. latest (if b then x ∷ [] else []) ≡ (if b then max 0 x.heard else 0)) [ true ↦ omega arith | false ↦ refl ]
latest_more p (y ∷ xs) x = grind (arith, latest_more p xs x)

none_counted : {X : Type 0} (p q : X → Bool) (xs : List X) → list_any p xs ≡ false → count_by (λ x. p x && q x) xs ≡ 0
none_counted p q [] none = refl
none_counted p q (x ∷ xs) none = grind (arith, none_counted p q xs, sum_by-cons (λ y. cond (p y && q y) 1 0) x xs)

none_filtered : (p : Advertisement → Bool) (xs : List Advertisement) → list_any p xs ≡ false → latest (filter p xs) ≡ 0
none_filtered p [] none = refl
none_filtered p (x ∷ xs) none = grind (arith, none_filtered p xs)

abbrev made : ℕ → ℕ → ℕ → Advertiser
made networks services heard = record { networks = networks; services = services; heard = heard }

count_said : (said f : Bool) (n : ℕ) → said ≡ true → n + one_if (said && f) ≡ (if f then n + 1 else n)
count_said true true n is = refl
count_said true false n is = omega arith
count_said false f n is = cc

count_not : (said f : Bool) (n : ℕ) → said ≡ false → n + one_if (said && f) ≡ n
count_not true f n off = cc
count_not false f n off = omega arith

swapped : {X : Type 0} (f : Bool) (x y : X) → (if not f then x else y) ≡ (if f then y else x)
swapped true x y = refl
swapped false x y = refl

told_more : (said : List Advertisement) (a : Advertisement) (s : Source) → is_advertisement_of s a ≡ true → advertised_by (said ++ a ∷ []) s ≡ with_advertisement (advertised_by said s) a
told_more said a s is =
    let n : count_by (λ x. is_advertisement_of s x && x.of_network) (said ++ a ∷ []) ≡ (if a.of_network then (advertised_by said s).networks + 1 else (advertised_by said s).networks) =
    count_more (λ (x : Advertisement). is_advertisement_of s x && x.of_network) said a ∙ count_said (is_advertisement_of s a) a.of_network _ is in
    let m : count_by (λ x. is_advertisement_of s x && not x.of_network) (said ++ a ∷ []) ≡ (if a.of_network then (advertised_by said s).services else (advertised_by said s).services + 1) =
    count_more (λ (x : Advertisement). is_advertisement_of s x && not x.of_network) said a ∙ count_said (is_advertisement_of s a) (not a.of_network) _ is ∙ swapped a.of_network _ _ in
    let h : latest (filter (is_advertisement_of s) (said ++ a ∷ [])) ≡ max (advertised_by said s).heard a.heard =
    latest_more (is_advertisement_of s) said a ∙ ap (λ b. if b then max (advertised_by said s).heard a.heard else (advertised_by said s).heard) is in
    λ i. made (n i) (m i) (h i)

told_same : (said : List Advertisement) (a : Advertisement) (s : Source) → is_advertisement_of s a ≡ false → advertised_by (said ++ a ∷ []) s ≡ advertised_by said s
told_same said a s off =
    let n : count_by (λ x. is_advertisement_of s x && x.of_network) (said ++ a ∷ []) ≡ (advertised_by said s).networks =
    count_more (λ (x : Advertisement). is_advertisement_of s x && x.of_network) said a ∙ count_not (is_advertisement_of s a) a.of_network _ off in
    let m : count_by (λ x. is_advertisement_of s x && not x.of_network) (said ++ a ∷ []) ≡ (advertised_by said s).services =
    count_more (λ (x : Advertisement). is_advertisement_of s x && not x.of_network) said a ∙ count_not (is_advertisement_of s a) (not a.of_network) _ off in
    let h : latest (filter (is_advertisement_of s) (said ++ a ∷ [])) ≡ (advertised_by said s).heard =
    latest_more (is_advertisement_of s) said a ∙ ap (λ b. if b then max (advertised_by said s).heard a.heard else (advertised_by said s).heard) off in
    λ i. made (n i) (m i) (h i)

none_told : (said : List Advertisement) (s : Source) → list_any (is_advertisement_of s) said ≡ false → advertised_by said s ≡ nothing_advertised
none_told said s none =
    let n = none_counted (is_advertisement_of s) (λ (x : Advertisement). x.of_network) said none in
    let m = none_counted (is_advertisement_of s) (λ (x : Advertisement). not x.of_network) said none in
    let h = none_filtered (is_advertisement_of s) said none in
    λ i. made (n i) (m i) (h i)

-- the counts before, also of a neighbour without advertisements
pub counted_before : (said : List Advertisement) (s : Source) → unwrap_or (advertiser_of said s) nothing_advertised ≡ advertised_by said s
counted_before said s = elim (list_any (is_advertisement_of s) said) as (λ b. list_any (is_advertisement_of s) said ≡ b → unwrap_or (if b then Some (advertised_by said s) else None) nothing_advertised ≡ advertised_by said s) [
  | true ↦ λ e. refl
  | false ↦ λ e. sym (none_told said s e)
] refl

any_more : (said : List Advertisement) (a : Advertisement) (s : Source) → list_any (is_advertisement_of s) (said ++ a ∷ []) ≡ (if is_advertisement_of s a then true else list_any (is_advertisement_of s) said)
any_more said a s = grind (arith, list_any-append (is_advertisement_of s) said (a ∷ []))

-- one more advertisement changes the counts of its neighbour, and of no other
advertiser_more : (said : List Advertisement) (a : Advertisement) (s : Source) → advertiser_of (said ++ a ∷ []) s ≡ (if is_advertisement_of s a then Some (with_advertisement (advertised_by said s) a) else advertiser_of said s)
advertiser_more said a s = elim (is_advertisement_of s a) as (λ b. is_advertisement_of s a ≡ b → advertiser_of (said ++ a ∷ []) s ≡ (if b then Some (with_advertisement (advertised_by said s) a) else advertiser_of said s)) [
  | true ↦ λ e.
      let any : list_any (is_advertisement_of s) (said ++ a ∷ []) ≡ true = any_more said a s ∙ ap (λ b. if b then true else list_any (is_advertisement_of s) said) e in
      ap (λ b. if b then Some (advertised_by (said ++ a ∷ []) s) else None) any ∙ ap Some (told_more said a s e)
  | false ↦ λ e.
      let any : list_any (is_advertisement_of s) (said ++ a ∷ []) ≡ list_any (is_advertisement_of s) said = any_more said a s ∙ ap (λ b. if b then true else list_any (is_advertisement_of s) said) e in
      λ i. if any i then Some (told_same said a s e i) else None
] refl

is_equal : (r : Ordering) → is_eq r ≡ true → r ≡ Equal
is_equal Less h = cc
is_equal Equal h = refl
is_equal Greater h = cc

-- so the map changes at that neighbour alone
pub advertiser_put : EqualOnlyIfSame source_cmp → (said : List Advertisement) (i : ℕ) (a : Advertisement) (s : Source) → i < length said → (d : Advertisement) → a ≡ get_or said i d → (new : Advertiser) → new ≡ with_advertisement (advertised_by (take i said) a.source) a
    → cond (is_advertisement_of s a) (Some new) (advertiser_of (take i said) s) ≡ advertiser_of (take (i + 1) said) s
advertiser_put apart said i a s lt d is new told =
    let all : advertiser_of (take (i + 1) said) s ≡ (if is_advertisement_of s a then Some (with_advertisement (advertised_by (take i said) s) a) else advertiser_of (take i said) s) =
    ap (λ x. advertiser_of x s) (take_more said i d lt ∙ ap (λ x. take i said ++ x ∷ []) (sym is)) ∙ advertiser_more (take i said) a s in
    elim (is_advertisement_of s a) as (λ b. is_advertisement_of s a ≡ b → cond b (Some new) (advertiser_of (take i said) s) ≡ (if b then Some (with_advertisement (advertised_by (take i said) s) a) else advertiser_of (take i said) s)) [
      | true ↦ λ e. let same : a.source ≡ s = apart a.source s (is_equal _ e) in ap Some (told ∙ ap (λ q. with_advertisement (advertised_by (take i said) q) a) same)
      | false ↦ λ e. refl
    ] refl ∙ sym all

counted-le : {X : Type 0} (p q : X → Bool) (xs : List X) → count_by (λ x. p x && q x) xs ≤ length xs
counted-le p q xs = count_by-le-length (λ x. p x && q x) xs

-- the counts of the first advertisements are at most their number
few_of : (said : List Advertisement) (i : ℕ) (s : Source) → i ≤ length said → ((advertised_by (take i said) s).networks ≤ i) × ((advertised_by (take i said) s).services ≤ i)
few_of said i s le =
    let short = length-take i said in
    let n = counted-le (is_advertisement_of s) (λ (x : Advertisement). x.of_network) (take i said) in
    let m = counted-le (is_advertisement_of s) (λ (x : Advertisement). not x.of_network) (take i said) in
    (omega (arith, short, n), omega (arith, short, m))

pub few_told : (said : List Advertisement) (i : ℕ) (s : Source) (t : Advertiser) → i < length said → length said < 2 ^ 64 → t ≡ advertised_by (take i said) s → (t.networks + 1 < 2 ^ 64) × (t.services + 1 < 2 ^ 64)
few_told said i s t lt small is =
    let few = few_of said i s (omega (arith, lt)) in
    rw is (omega (arith, few.0, lt, small), omega (arith, few.1, lt, small))
