-- The offers that are among the best are the best.
use Rattle.std.proofs.Common.{◌≡◌, ℕ, zero, suc, ◌<◌, Bool, true, false, cond, List, [], ◌∷◌, Some, length, map, get_or, ◌⊎◌, inl, inr, refl, sym, ap, ◌∙◌, subst, arith}
use Rattle.std.specs.Prelude.{◌||◌, filter}
use Rattle.std.specs.Cmp.{IsTotalOrder}
use Rattle.std.specs.List.{All, AllByRecursion}
use Rattle.std.specs.Ordering.{is_eq, ordering_reverse, ordering_then}
use Rattle.std.specs.declared.cmp.Ordering.{Ordering}
use Rattle.std.specs.declared.cmp.Ordering.TheVariants.{Less, Equal, Greater}
use Rattle.std.proofs.lemmas.Cmp.{nat_cmp_total, nat_list_cmp_total, on_total, then_total}
use Rattle.std.proofs.lemmas.Map.Lookups.{exact_pairs}
use Rattle.ipx_tables.specs.declared.source.Source.{Source}
use Rattle.ipx_tables.specs.declared.offer.Offer.{Offer}
use Rattle.ipx_tables.specs.Best.{IsBest}
use Rattle.ipx_tables.specs.Content.{Content, is_young, pair_cmp, pair_of, said_of, source_cmp}
use Rattle.ipx_tables.specs.Inventory.{IsInventory}
use Rattle.ipx_tables.specs.Listing.{IsListing, listed_key}
use Rattle.ipx_tables.specs.Order.{EqualOnlyIfSame}
use Rattle.ipx_tables.specs.Sorted.{IsRising}
use Rattle.ipx_table_dump.specs.StillPresent.{is_among_best}

source_total : IsTotalOrder source_cmp
source_total = then_total (on_total (λ s. s.port) nat_cmp_total) (on_total (λ s. s.neighbour.0) nat_list_cmp_total)

-- an item of a listing, and its key and source
abbrev Item : Type 0 → Type 0 → Type 0
Item K M = K × Source × M

abbrev pub item : {K M : Type 0} → Offer K M → Item K M
item x = (x.key, x.source, x.metric)

abbrev place : {K M : Type 0} → Item K M → K × Source
place b = (b.0, b.1)

module _ {K : Type 0} (M : Type 0) {cmp : K → K → Ordering} (o : IsTotalOrder cmp) where
  pairs : IsTotalOrder (pair_cmp cmp)
  pairs = then_total (on_total (λ (p : K × Source). p.0) o) (on_total (λ (p : K × Source). p.1) source_total)

  -- all are above a key and source
  abbrev AreAbove : K × Source → List (Offer K M) → Type 0
  AreAbove p os = AllByRecursion (λ x. pair_cmp cmp p (pair_of x) ≡ Less) os

  abbrev AreBestsAbove : K × Source → List (Item K M) → Type 0
  AreBestsAbove p bs = AllByRecursion (λ b. pair_cmp cmp p (place b) ≡ Less) bs

  abbrev Rise : List (Offer K M) → Type 0
  Rise [] = Unit {0}
  Rise (x ∷ os) = AreAbove (pair_of x) os × Rise os

  abbrev BestsRise : List (Item K M) → Type 0
  BestsRise [] = Unit {0}
  BestsRise (b ∷ bs) = AreBestsAbove (place b) bs × BestsRise bs

  -- an offer with the key and source of a best one is in a list, and each such offer is that one
  abbrev HoldsIn : Item K M → List (Offer K M) → Type 0
  HoldsIn b [] = ⊥
  HoldsIn b (x ∷ os) = (pair_cmp cmp (place b) (pair_of x) ≡ Equal) ⊎ HoldsIn b os

  abbrev IsEach : List (Offer K M) → Item K M → Type 0
  IsEach os b = AllByRecursion (λ x. pair_cmp cmp (place b) (pair_of x) ≡ Equal → item x ≡ b) os

  below_none : (bs : List (Item K M)) (x : Offer K M) → AreBestsAbove (pair_of x) bs → is_among_best cmp bs x ≡ false
  below_none [] x all = refl
  below_none (b ∷ bs) x all =
      let back : pair_cmp cmp (place b) (pair_of x) ≡ Greater = pairs.antisymm (place b) (pair_of x) ∙ ap ordering_reverse all.0 in
      λ i. is_eq (back i) || below_none bs x all.1 i

  past_first : (b : Item K M) (bs : List (Item K M)) (os : List (Offer K M)) → AreAbove (place b) os → filter (is_among_best cmp (b ∷ bs)) os ≡ filter (is_among_best cmp bs) os
  past_first b bs [] all = refl
  past_first b bs (x ∷ os) all =
      let rest = past_first b bs os all.1 in
      λ i. cond (is_eq (all.0 i) || is_among_best cmp bs x) (x ∷ rest i) (rest i)

  not_in : (b : Item K M) (os : List (Offer K M)) → AreAbove (place b) os → HoldsIn b os → ⊥
  not_in b [] all there = there
  not_in b (x ∷ os) all there = elim there [
    | inl tie ↦ let no_tie : Less ≡ Equal = sym all.0 ∙ tie in cc
    | inr later ↦ not_in b os all.1 later
  ]

  above_through : (p q : K × Source) (os : List (Offer K M)) → pair_cmp cmp p q ≡ Less → AreAbove q os → AreAbove p os
  above_through p q [] less all = tt
  above_through p q (x ∷ os) less all = (pairs.trans p q (pair_of x) less all.0, above_through p q os less all.1)

  bests_through : (p q : K × Source) (bs : List (Item K M)) → pair_cmp cmp p q ≡ Less → AreBestsAbove q bs → AreBestsAbove p bs
  bests_through p q [] less all = tt
  bests_through p q (b ∷ bs) less all = (pairs.trans p q (place b) less all.0, bests_through p q bs less all.1)

  above_tied : (p q : K × Source) (os : List (Offer K M)) → pair_cmp cmp p q ≡ Equal → AreAbove q os → AreAbove p os
  above_tied p q [] tie all = tt
  above_tied p q (x ∷ os) tie all = (pairs.congr p q (pair_of x) tie ∙ all.0, above_tied p q os tie all.1)

  bests_tied : (p q : K × Source) (bs : List (Item K M)) → pair_cmp cmp p q ≡ Equal → AreBestsAbove p bs → AreBestsAbove q bs
  bests_tied p q [] tie all = tt
  bests_tied p q (b ∷ bs) tie all = (sym (pairs.congr p q (place b) tie) ∙ all.0, bests_tied p q bs tie all.1)

  -- what is in a list and is above its head is in its tail
  in_tail : (x : Offer K M) (os : List (Offer K M)) (bs : List (Item K M)) → AreBestsAbove (pair_of x) bs → AllByRecursion (λ b. HoldsIn b (x ∷ os) × IsEach (x ∷ os) b) bs → AllByRecursion (λ b. HoldsIn b os × IsEach os b) bs
  in_tail x os [] above all = tt
  in_tail x os (b ∷ bs) above all =
      let back : pair_cmp cmp (place b) (pair_of x) ≡ Greater = pairs.antisymm (place b) (pair_of x) ∙ ap ordering_reverse above.0 in
      let there : HoldsIn b os = elim all.0.0 [ inl tie ↦ let no_tie : Greater ≡ Equal = sym back ∙ tie in cc | inr later ↦ later ] in
      ((there, all.0.1.1), in_tail x os bs above.1 all.1)

  pub merged : (os : List (Offer K M)) (bs : List (Item K M)) → Rise os → BestsRise bs → AllByRecursion (λ b. HoldsIn b os × IsEach os b) bs → map item (filter (is_among_best cmp bs) os) ≡ bs
  merged [] [] ro rb all = refl
  merged [] (b ∷ bs) ro rb all = absurd all.0.0
  merged (x ∷ os) [] ro rb all = merged os [] ro.1 tt tt
  merged (x ∷ os) (b ∷ bs) ro rb all =
      let tail = filter (is_among_best cmp (b ∷ bs)) os in
      elim (pair_cmp cmp (place b) (pair_of x)) as (λ r. pair_cmp cmp (place b) (pair_of x) ≡ r → map item (cond (is_among_best cmp (b ∷ bs) x) (x ∷ tail) tail) ≡ b ∷ bs) [
        | Less ↦ λ e.
            absurd (elim all.0.0 [
              | inl tie ↦ let no_tie : Less ≡ Equal = sym e ∙ tie in cc
              | inr later ↦ not_in b os (above_through (place b) (pair_of x) os e ro.0) later
            ])
        | Equal ↦ λ e.
            let kept : is_among_best cmp (b ∷ bs) x ≡ true = ap (λ r. is_eq r || is_among_best cmp bs x) e in
            let rest : tail ≡ filter (is_among_best cmp bs) os = past_first b bs os (above_tied (place b) (pair_of x) os e ro.0) in
            let later : map item (filter (is_among_best cmp bs) os) ≡ bs = merged os bs ro.1 rb.1 (in_tail x os bs (bests_tied (place b) (pair_of x) bs e rb.0) all.1) in
            ap (λ t. map item (cond t (x ∷ tail) tail)) kept ∙ (λ i. all.0.1.0 e i ∷ map item (rest i)) ∙ ap (λ l. b ∷ l) later
        | Greater ↦ λ e.
            let under : pair_cmp cmp (pair_of x) (place b) ≡ Less = pairs.antisymm (pair_of x) (place b) ∙ ap ordering_reverse e in
            let above : AreBestsAbove (pair_of x) (b ∷ bs) = (under, bests_through (pair_of x) (place b) bs under rb.0) in
            ap (λ t. map item (cond t (x ∷ tail) tail)) (below_none (b ∷ bs) x above) ∙ merged os (b ∷ bs) ro.1 rb (in_tail x os (b ∷ bs) above all)
      ] refl

  -- ---- lists that rise by place

  above_from : (p : K × Source) (os : List (Offer K M)) → ((j : ℕ) (d : Offer K M) → j < length os → pair_cmp cmp p (pair_of (get_or os j d)) ≡ Less) → AreAbove p os
  above_from p [] all = tt
  above_from p (x ∷ os) all = (all 0 x (omega arith), above_from p os (λ j d lt. all (suc j) d (omega (arith, lt))))

  rise_from : (os : List (Offer K M)) → IsRising (pair_cmp cmp) pair_of os → Rise os
  rise_from [] rising = tt
  rise_from (x ∷ os) rising = (
    above_from (pair_of x) os (λ j d lt. rising 0 (suc j) d (omega arith) (omega (arith, lt))),
    rise_from os (λ i j d lt within. rising (suc i) (suc j) d (omega (arith, lt)) (omega (arith, within))),
  )

  bests_from : (p : K × Source) (bs : List (Item K M)) → ((j : ℕ) (d : Item K M) → j < length bs → cmp p.0 (get_or bs j d).0 ≡ Less) → AreBestsAbove p bs
  bests_from p [] all = tt
  bests_from p (b ∷ bs) all = (ap (λ r. ordering_then r (source_cmp p.1 b.1)) (all 0 b (omega arith)), bests_from p bs (λ j d lt. all (suc j) d (omega (arith, lt))))

  bests_rise : (bs : List (Item K M)) → IsRising cmp listed_key bs → BestsRise bs
  bests_rise [] rising = tt
  bests_rise (b ∷ bs) rising = (
    bests_from (place b) bs (λ j d lt. rising 0 (suc j) d (omega arith) (omega (arith, lt))),
    bests_rise bs (λ i j d lt within. rising (suc i) (suc j) d (omega (arith, lt)) (omega (arith, within))),
  )

  -- ---- those that count

  module _ (p : Offer K M → Bool) where
    kept_all : (P : Offer K M → Type 0) (os : List (Offer K M)) → AllByRecursion P os → AllByRecursion P (filter p os)
    kept_all P [] all = tt
    kept_all P (x ∷ os) all = elim (p x) as (λ b. AllByRecursion P (cond b (x ∷ filter p os) (filter p os))) [
      | true ↦ (all.0, kept_all P os all.1)
      | false ↦ kept_all P os all.1
    ]

    kept_rise : (os : List (Offer K M)) → Rise os → Rise (filter p os)
    kept_rise [] rising = tt
    kept_rise (x ∷ os) rising = elim (p x) as (λ b. Rise (cond b (x ∷ filter p os) (filter p os))) [
      | true ↦ (kept_all (λ y. pair_cmp cmp (pair_of x) (pair_of y) ≡ Less) os rising.0, kept_rise os rising.1)
      | false ↦ kept_rise os rising.1
    ]

    drops_in : (b : Item K M) (os : List (Offer K M)) (i : ℕ) → i < length os → ((d : Offer K M) → pair_cmp cmp (place b) (pair_of (get_or os i d)) ≡ Equal) → ((d : Offer K M) → p (get_or os i d) ≡ true) → HoldsIn b (filter p os)
    drops_in b [] i within tie young = absurd (omega (arith, within))
    drops_in b (x ∷ os) zero within tie young = subst (λ t. HoldsIn b (cond t (x ∷ filter p os) (filter p os))) (sym (young x)) (inl (tie x))
    drops_in b (x ∷ os) (suc i) within tie young =
        let later : HoldsIn b (filter p os) = drops_in b os i (omega (arith, within)) tie young in
        elim (p x) as (λ t. HoldsIn b (cond t (x ∷ filter p os) (filter p os))) [ true ↦ inr later | false ↦ later ]

  module _ (exact : EqualOnlyIfSame cmp) (sources : EqualOnlyIfSame source_cmp) where
    one_pair : EqualOnlyIfSame (pair_cmp cmp)
    one_pair = exact_pairs cmp source_cmp exact sources

    some_is : {A : Type 0} (x y : A) → Some x ≡ Some y → x ≡ y
    some_is x y h = cc

    module _ (c : Content K M) (now : ℕ) (all : List (Offer K M)) (i : IsInventory cmp c all) where
      abbrev young : Offer K M → Bool
      young x = is_young now x.heard

      abbrev Said : Offer K M → Type 0
      Said x = c (pair_of x) ≡ Some (said_of x)

      said_from : (os : List (Offer K M)) → ((k : ℕ) (d : Offer K M) → k < length os → Said (get_or os k d)) → AllByRecursion Said os
      said_from [] said = tt
      said_from (x ∷ os) said = (said 0 x (omega arith), said_from os (λ k d lt. said (suc k) d (omega (arith, lt))))

      is_each : (b : Item K M) (t : ℕ) → c (place b) ≡ Some (b.2, t) → (os : List (Offer K M)) → AllByRecursion Said os → IsEach os b
      is_each b t stands [] said = tt
      is_each b t stands (x ∷ os) said = (
        λ tie.
            let same : pair_of x ≡ place b = sym (one_pair (place b) (pair_of x) tie) in
            let told : said_of x ≡ (b.2, t) = some_is (said_of x) (b.2, t) (sym said.0 ∙ ap c same ∙ stands) in
            λ j. ((same j).0, (same j).1, (told j).0),
        is_each b t stands os said.1,
      )

      holds_in : {before : M → M → Bool} (b : Item K M) → IsBest before c b.0 now (b.1, b.2) → HoldsIn b (filter young all)
      holds_in b is =
          let at = i.no_other (place b) (b.2, is.moment) is.stands in
          let tie : (d : Offer K M) → pair_cmp cmp (pair_of (get_or all at.0 d)) (place b) ≡ Equal = at.1.ties in
          drops_in young b all at.0 at.1.in_range
          (λ d. pairs.antisymm (place b) (pair_of (get_or all at.0 d)) ∙ ap ordering_reverse (tie d))
          (λ d.
          let same : pair_of (get_or all at.0 d) ≡ place b = one_pair (pair_of (get_or all at.0 d)) (place b) (tie d) in
          let told : said_of (get_or all at.0 d) ≡ (b.2, is.moment) = some_is (said_of (get_or all at.0 d)) (b.2, is.moment) (sym (i.as_said at.0 d at.1.in_range) ∙ ap c same ∙ is.stands) in
          ap (λ v. is_young now v.1) told ∙ is.counts)

      each_holds : {before : M → M → Bool} (bs : List (Item K M)) → All (λ b. IsBest before c b.0 now (b.1, b.2)) bs → AllByRecursion (λ b. HoldsIn b (filter young all) × IsEach (filter young all) b) bs
      each_holds {before = before} [] are = tt
      each_holds {before = before} (b ∷ bs) are =
          let is : IsBest before c b.0 now (b.1, b.2) = are 0 b (omega arith) in
          let said : AllByRecursion Said (filter young all) = kept_all young Said all (said_from all i.as_said) in
          ((holds_in b is, is_each b is.moment is.stands (filter young all) said), each_holds bs (λ k d lt. are (suc k) d (omega (arith, lt))))

      pub bests_kept : {before : M → M → Bool} (bests : List (Item K M)) → IsListing cmp before c now bests → map item (filter (is_among_best cmp bests) (filter young all)) ≡ bests
      bests_kept bests l = merged (filter young all) bests (kept_rise young all (rise_from all i.in_order)) (bests_rise bests l.in_order) (each_holds bests l.are_best)

pub map_twice : {A B C : Type 0} (f : B → C) (g : A → B) (xs : List A) → map (λ x. f (g x)) xs ≡ map f (map g xs)
map_twice f g [] = refl
map_twice f g (x ∷ xs) = ap (λ l. f (g x) ∷ l) (map_twice f g xs)
