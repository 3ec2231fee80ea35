-- The walk over the best offer of each key: its steps, and that it gives the listing.
use Rattle.std.proofs.Common.{◌≡◌, ℕ, zero, suc, ◌+◌, ◌<◌, ◌≤◌, Bool, true, false, cond, not, List, [], ◌∷◌, Option, Some, None, ◌⊎◌, inl, inr, length, get_or, drop, refl, sym, ap, ◌∙◌, subst, arith, length-drop}
use mathlib.Core.Bool.{true≢false}
use Rattle.std.specs.Option.{IfSome, MatchOption}
use Rattle.std.specs.List.{All, AllByRecursion}
use Rattle.std.specs.Cmp.{IsTotalOrder, IsStrictWeakOrder}
use Rattle.std.specs.Ordering.{is_eq, is_lt, ordering_then, ordering_reverse}
use Rattle.std.specs.declared.cmp.Ordering.{Ordering}
use Rattle.std.specs.declared.cmp.Ordering.TheVariants.{Less, Equal, Greater}
use Rattle.std.proofs.lemmas.Bool.{cases_lt}
use Rattle.std.proofs.lemmas.Cmp.{alike_right, tied_itself}
use Rattle.std.proofs.lemmas.List.{drop_more, drop_all, get_or_default, get_or-drop}
use Rattle.std.proofs.lemmas.List.Elements.{All-from_recursion}
use Rattle.std.proofs.lemmas.List.MinMax.{ranks_by}
use Rattle.ipx_tables.specs.declared.source.Source.{Source}
use Rattle.ipx_tables.specs.declared.offer.Offer.{Offer}
use Rattle.ipx_tables.specs.Order.{IsStrictTotal}
use Rattle.ipx_tables.specs.Content.{content, heard_key, said_of, HasDistinctKeys, is_same, is_young, pair_cmp, pair_of, source_cmp}
use Rattle.ipx_tables.specs.Best.{is_better, NoneCounts}
use Rattle.ipx_tables.specs.OfferScan.{better_of, offer_beats}
use Rattle.ipx_tables.specs.Sorted.{IsRising, IsAtKey}
use Rattle.ipx_tables.specs.Listing.{listed_key, IsListing}
use Rattle.ipx_tables.specs.Walk.{IsLone, item_of, item_beats, put_first, bests_of}
use Rattle.ipx_tables.proofs.Lists.{same_equiv}
use Rattle.ipx_tables.proofs.Best.{as_good, rank_total}
use Rattle.ipx_tables.proofs.Listed.{member_found, found_member}
use Rattle.ipx_tables.proofs.Ordered.{separate_rising, tail_rising}

pub is_equal : (r : Ordering) → is_eq r ≡ true → r ≡ Equal
is_equal Less h = cc
is_equal Equal h = refl
is_equal Greater h = cc

-- if the reverse is not less, and they are not equal, it is less
is_above : (r : Ordering) → is_lt (ordering_reverse r) ≡ false → is_eq r ≡ false → r ≡ Less
is_above Less h k = refl
is_above Equal h k = cc
is_above Greater h k = cc

less_not_equal : (r : Ordering) → r ≡ Less → is_eq r ≡ false
less_not_equal r h = ap is_eq h

both_equal : (a b : Ordering) → is_eq (ordering_then a b) ≡ true → (a ≡ Equal) × (b ≡ Equal)
both_equal Less b h = cc
both_equal Equal b h = (refl, is_equal b h)
both_equal Greater b h = cc

first_of_two : (a b : Ordering) → ordering_then a b ≡ Less → is_lt (ordering_reverse a) ≡ false
first_of_two Less b h = refl
first_of_two Equal b h = refl
first_of_two Greater b h = cc

-- facts of each item: one from another, and two together
module _ {X : Type 0} {P Q : X → Type 0} where
  all_map : (xs : List X) → ((x : X) → P x → Q x) → AllByRecursion P xs → AllByRecursion Q xs
  all_map [] f all = tt
  all_map (x ∷ xs) f all = (f x all.0, all_map xs f all.1)

  all_zip : {R : X → Type 0} (xs : List X) → ((x : X) → P x → Q x → R x) → AllByRecursion P xs → AllByRecursion Q xs → AllByRecursion R xs
  all_zip [] f p q = tt
  all_zip (x ∷ xs) f p q = (f x p.0 q.0, all_zip xs f p.1 q.1)

module _ {K M : Type 0} (cmp : K → K → Ordering) (before : M → M → Bool) where
  -- the held offer goes first
  abbrev pub put_held : Option (Offer K M) → List (K × Source × M) → List (K × Source × M)
  put_held None bs = bs
  put_held (Some h) bs = put_first cmp before (item_of h) bs

-- an offer that is not past has the key of the held one
pub same_key : {K M : Type 0} (cmp : K → K → Ordering) (held : Option (Offer K M)) (key : K) (past : Bool) → past ≡ false → MatchOption held (past ≡ false) (λ h. is_eq (cmp h.key key) ≡ not past) → MatchOption held (Unit {0}) (λ h. is_eq (cmp h.key key) ≡ true)
same_key cmp None key past p is = tt
same_key cmp (Some h) key past p is = is ∙ ap not p

-- no offer from here on has a key below that of the held one
abbrev pub IsLow : {K M : Type 0} → (K → K → Ordering) → List (Offer K M) → ℕ → Option (Offer K M) → Type 0
IsLow cmp os at None = Unit {0}
IsLow {K} {M} cmp os at (Some h) = (j : ℕ) (d : Offer K M) → at ≤ j → j < length os → is_lt (cmp (get_or os j d).key h.key) ≡ false

module _ {K M : Type 0} {cmp : K → K → Ordering} (o : IsTotalOrder cmp) {before : M → M → Bool} (strict : IsStrictTotal before) where
  w : IsStrictWeakOrder (item_beats cmp before)
  w = ranks_by (rank_total strict) (λ (item : K × Source × M). (item.1, item.2))

  put_beaten : (a b : K × Source × M) (bs : List (K × Source × M)) → is_eq (cmp a.0 b.0) ≡ true → item_beats cmp before b a ≡ true → put_first cmp before a (b ∷ bs) ≡ b ∷ bs
  put_beaten a b bs tie won = ap (λ t. cond t (cond (item_beats cmp before b a) (b ∷ bs) (a ∷ bs)) (a ∷ b ∷ bs)) tie ∙ ap (λ t. cond t (b ∷ bs) (a ∷ bs)) won

  put_kept : (a b : K × Source × M) (bs : List (K × Source × M)) → is_eq (cmp a.0 b.0) ≡ true → item_beats cmp before b a ≡ false → put_first cmp before a (b ∷ bs) ≡ a ∷ bs
  put_kept a b bs tie lost = ap (λ t. cond t (cond (item_beats cmp before b a) (b ∷ bs) (a ∷ bs)) (a ∷ b ∷ bs)) tie ∙ ap (λ t. cond t (b ∷ bs) (a ∷ bs)) lost

  put_separate : (a b : K × Source × M) (bs : List (K × Source × M)) → is_eq (cmp a.0 b.0) ≡ false → put_first cmp before a (b ∷ bs) ≡ a ∷ b ∷ bs
  put_separate a b bs other = ap (λ t. cond t (cond (item_beats cmp before b a) (b ∷ bs) (a ∷ bs)) (a ∷ b ∷ bs)) other

  -- what beats an item also beats what that item beats
  beats_through : (r x h : K × Source × M) → item_beats cmp before r x ≡ true → item_beats cmp before x h ≡ true → item_beats cmp before r h ≡ true
  beats_through r x h k l = elim (item_beats cmp before r h) as (λ b. item_beats cmp before r h ≡ b → b ≡ true) [
    | true ↦ λ e. refl
    | false ↦ λ e. let lost = w.chain r h x e (w.one_way x h l) in sym lost ∙ k
  ] refl

  -- of two adjacent items of one key the better one goes first
  put_both : (h x : K × Source × M) (rest : List (K × Source × M)) → is_eq (cmp h.0 x.0) ≡ true → put_first cmp before h (put_first cmp before x rest) ≡ put_first cmp before (cond (item_beats cmp before x h) x h) rest
  put_both h x [] tie = elim (item_beats cmp before x h) as (λ b. item_beats cmp before x h ≡ b → put_first cmp before h (x ∷ []) ≡ cond b x h ∷ []) [
    | true ↦ λ e. put_beaten h x [] tie e
    | false ↦ λ e. put_kept h x [] tie e
  ] refl
  put_both h x (r ∷ rs) tie =
      let along : is_eq (cmp h.0 r.0) ≡ is_eq (cmp x.0 r.0) = ap is_eq (o.congr h.0 x.0 r.0 (is_equal _ tie)) in
      elim (is_eq (cmp x.0 r.0)) as (λ t. is_eq (cmp x.0 r.0) ≡ t → put_first cmp before h (put_first cmp before x (r ∷ rs)) ≡ put_first cmp before (cond (item_beats cmp before x h) x h) (r ∷ rs)) [
        | true ↦ λ same. elim (item_beats cmp before r x) as (λ b. item_beats cmp before r x ≡ b → put_first cmp before h (put_first cmp before x (r ∷ rs)) ≡ put_first cmp before (cond (item_beats cmp before x h) x h) (r ∷ rs)) [
          | true ↦ λ won. ap (put_first cmp before h) (put_beaten x r rs same won) ∙ elim (item_beats cmp before x h) as (λ b. item_beats cmp before x h ≡ b → put_first cmp before h (r ∷ rs) ≡ put_first cmp before (cond b x h) (r ∷ rs)) [
            | true ↦ λ over. put_beaten h r rs (along ∙ same) (beats_through r x h won over) ∙ sym (put_beaten x r rs same won)
            | false ↦ λ under. refl
          ] refl
          | false ↦ λ lost. ap (put_first cmp before h) (put_kept x r rs same lost) ∙ elim (item_beats cmp before x h) as (λ b. item_beats cmp before x h ≡ b → put_first cmp before h (x ∷ rs) ≡ put_first cmp before (cond b x h) (r ∷ rs)) [
            | true ↦ λ over. put_beaten h x rs tie over ∙ sym (put_kept x r rs same lost)
            | false ↦ λ under. put_kept h x rs tie under ∙ sym (put_kept h r rs (along ∙ same) (w.chain r x h lost under))
          ] refl
        ] refl
        | false ↦ λ other. ap (put_first cmp before h) (put_separate x r rs other) ∙ elim (item_beats cmp before x h) as (λ b. item_beats cmp before x h ≡ b → put_first cmp before h (x ∷ r ∷ rs) ≡ put_first cmp before (cond b x h) (r ∷ rs)) [
          | true ↦ λ over. put_beaten h x (r ∷ rs) tie over ∙ sym (put_separate x r rs other)
          | false ↦ λ under. put_kept h x (r ∷ rs) tie under ∙ sym (put_separate h r rs (along ∙ other))
        ] refl
      ] refl

  less_through : (a b c : K) → cmp a b ≡ Less → is_lt (cmp c b) ≡ false → cmp a c ≡ Less
  less_through a b c less not_less = elim (cmp b c) as (λ r. cmp b c ≡ r → cmp a c ≡ Less) [
    | Less ↦ λ e. o.trans a b c less e
    | Equal ↦ λ e. sym (alike_right o b c a e) ∙ less
    | Greater ↦ λ e. absurd (true≢false (sym (ap is_lt (o.antisymm c b ∙ ap ordering_reverse e)) ∙ not_less))
  ] refl

  -- what holds of each valid offer, as an item, holds of each best
  module _ (now : ℕ) where
    abbrev bests : List (Offer K M) → List (K × Source × M)
    bests os = bests_of cmp before now os

    put_all : (P : K × Source × M → Type 0) (a : K × Source × M) (bs : List (K × Source × M)) → P a → AllByRecursion P bs → AllByRecursion P (put_first cmp before a bs)
    put_all P a [] here all = (here, tt)
    put_all P a (b ∷ bs) here all = elim (is_eq (cmp a.0 b.0)) as (λ t. AllByRecursion P (cond t (cond (item_beats cmp before b a) (b ∷ bs) (a ∷ bs)) (a ∷ b ∷ bs))) [
      | true ↦ elim (item_beats cmp before b a) as (λ t. AllByRecursion P (cond t (b ∷ bs) (a ∷ bs))) [ true ↦ all | false ↦ (here, all.1) ]
      | false ↦ (here, all)
    ]

    all_bests : (P : K × Source × M → Type 0) (os : List (Offer K M)) → ((j : ℕ) (d : Offer K M) → j < length os → is_young now (get_or os j d).heard ≡ true → P (item_of (get_or os j d))) → AllByRecursion P (bests os)
    all_bests P [] all = tt
    all_bests P (x ∷ xs) all =
        let rest : AllByRecursion P (bests xs) = all_bests P xs (λ j d lt young. all (suc j) d (omega (arith, lt)) young) in
        elim (is_young now x.heard) as (λ b. is_young now x.heard ≡ b → AllByRecursion P (cond b (put_first cmp before (item_of x) (bests xs)) (bests xs))) [
          | true ↦ λ young. put_all P (item_of x) (bests xs) (all 0 x (omega arith) young) rest
          | false ↦ λ old. rest
        ] refl

    -- an item whose key no other has goes first
    put_above : (a : K × Source × M) (bs : List (K × Source × M)) → AllByRecursion (λ z. is_eq (cmp a.0 z.0) ≡ false) bs → put_first cmp before a bs ≡ a ∷ bs
    put_above a [] all = refl
    put_above a (b ∷ bs) all = put_separate a b bs all.0

    module _ (os : List (Offer K M)) (rising : IsRising (pair_cmp cmp) pair_of os) (at : ℕ) (x : Offer K M) (within : at < length os) (read : x ≡ get_or os at x) where
      step : bests (drop at os) ≡ cond (is_young now x.heard) (put_first cmp before (item_of x) (bests (drop (at + 1) os))) (bests (drop (at + 1) os))
      step = ap bests (drop_more os at x within) ∙ ap (λ (v : Offer K M). bests (v ∷ drop (at + 1) os)) (sym read)

      pub walk_old : (held : Option (Offer K M)) → is_young now x.heard ≡ false → put_held cmp before held (bests (drop (at + 1) os)) ≡ put_held cmp before held (bests (drop at os))
      walk_old held old = ap (put_held cmp before held) (sym (step ∙ ap (λ b. cond b (put_first cmp before (item_of x) (bests (drop (at + 1) os))) (bests (drop (at + 1) os))) old))

      chosen : (b : Bool) (h : Offer K M) → item_of (cond b x h) ≡ cond b (item_of x) (item_of h)
      chosen true h = refl
      chosen false h = refl

      young_step : is_young now x.heard ≡ true → bests (drop at os) ≡ put_first cmp before (item_of x) (bests (drop (at + 1) os))
      young_step young = step ∙ ap (λ b. cond b (put_first cmp before (item_of x) (bests (drop (at + 1) os))) (bests (drop (at + 1) os))) young

      pub walk_young : (held : Option (Offer K M)) → is_young now x.heard ≡ true → MatchOption held (Unit {0}) (λ h. is_eq (cmp h.key x.key) ≡ true) → put_held cmp before (Some (better_of (offer_beats before) held x)) (bests (drop (at + 1) os)) ≡ put_held cmp before held (bests (drop at os))
      walk_young None young same = sym (young_step young)
      walk_young (Some h) young same =
          ap (λ i. put_first cmp before i (bests (drop (at + 1) os))) (chosen (offer_beats before x h) h)
          ∙ sym (put_both (item_of h) (item_of x) (bests (drop (at + 1) os)) same)
          ∙ ap (put_first cmp before (item_of h)) (sym (young_step young))

      low_itself : (j : ℕ) (d : Offer K M) → at + 1 ≤ j → j < length os → is_lt (cmp (get_or os j d).key x.key) ≡ false
      low_itself j d le lt =
          let up : pair_cmp cmp (pair_of x) (pair_of (get_or os j d)) ≡ Less = ap (λ (v : Offer K M). pair_cmp cmp (pair_of v) (pair_of (get_or os j d))) (read ∙ get_or_default os at x d within) ∙ rising at j d (omega arith) lt in
          ap is_lt (o.antisymm (get_or os j d).key x.key) ∙ first_of_two _ _ up

      pub low_next : (held : Option (Offer K M)) → IsLow cmp os at held → IsLow cmp os (at + 1) held
      low_next None low = tt
      low_next (Some h) low = λ j d le lt. low j d (omega arith) lt

      pub low_better : (held : Option (Offer K M)) → IsLow cmp os at held → IsLow cmp os (at + 1) (Some (better_of (offer_beats before) held x))
      low_better None low = low_itself
      low_better (Some h) low = elim (offer_beats before x h) as (λ b. IsLow cmp os (at + 1) (Some (cond b x h))) [ true ↦ low_itself | false ↦ low_next (Some h) low ]

      -- at an offer of another key, the held one is the best of its own key
      pub walk_past : (h : Offer K M) → IsLow cmp os at (Some h) → is_eq (cmp h.key x.key) ≡ false → put_held cmp before (Some h) (bests (drop at os)) ≡ item_of h ∷ bests (drop at os)
      walk_past h low other =
          let here : get_or os at x ≡ x = sym read in
          let below : cmp h.key x.key ≡ Less = is_above (cmp h.key x.key) (ap is_lt (sym (o.antisymm x.key h.key)) ∙ ap (λ (v : Offer K M). is_lt (cmp v.key h.key)) (sym here) ∙ low at x (omega arith) within) other in
          put_above (item_of h) (bests (drop at os)) (all_bests (λ z. is_eq (cmp h.key z.0) ≡ false) (drop at os) (λ j d lt young.
          let k : at + j < length os = omega (arith, lt, length-drop at os) in
          let is : get_or (drop at os) j d ≡ get_or os (at + j) d = get_or-drop at os j d in
          ap (λ (v : Offer K M). is_eq (cmp h.key v.key)) is ∙ elim (cases_lt 0 j) [
            | inl later ↦
                let y = get_or os (at + j) d in
                let up : is_lt (cmp y.key x.key) ≡ false = low_itself (at + j) d (omega arith) k in
                less_not_equal _ (less_through h.key x.key y.key below up)
            | inr first ↦
                let same : at + j ≡ at = omega arith in
                ap (λ n. is_eq (cmp h.key (get_or os n d).key)) same ∙ ap (λ (v : Offer K M). is_eq (cmp h.key v.key)) (get_or_default os at d x within ∙ here) ∙ other
          ]))

      -- when a walk stops, the item of the held offer comes first
      pub walk_stops : (held : Option (Offer K M)) (past : Bool) (all : List (K × Source × M)) → past ≡ true → MatchOption held (past ≡ false) (λ h. is_eq (cmp h.key x.key) ≡ not past) → IsLow cmp os at held → put_held cmp before held (bests (drop at os)) ≡ all → IfSome held (λ h. all ≡ item_of h ∷ bests (drop at os))
      walk_stops None past all p is low left = tt
      walk_stops (Some h) past all p is low left = sym left ∙ walk_past h low (is ∙ ap not p)

    -- at the end the held offer is the last
    pub walk_end : (os : List (Offer K M)) (at : ℕ) → length os ≤ at → bests (drop at os) ≡ []
    walk_end os at past = ap bests (drop_all at os past)

    -- the only offer of its key, if valid, is its best
    pub lone_walk : (os : List (Offer K M)) → IsRising (pair_cmp cmp) pair_of os → (at : ℕ) (x : Offer K M) → x ≡ get_or os at x → IsLone cmp now os at → bests (drop at os) ≡ item_of x ∷ bests (drop (at + 1) os)
    lone_walk os rising at x read lone =
        let within = lone.in_range in
        let young : is_young now x.heard ≡ true = ap (λ (v : Offer K M). is_young now v.heard) read ∙ lone.young x in
        young_step os rising at x within read young ∙ elim (cases_lt (at + 1) (length os)) [
          | inl more ↦
              let y = get_or os (at + 1) x in
              let read_y : y ≡ get_or os (at + 1) y = get_or_default os (at + 1) x y more in
              let other : is_eq (cmp x.key y.key) ≡ false = ap (λ (v : Offer K M). is_eq (cmp v.key y.key)) read ∙ lone.last x more in
              walk_past os rising (at + 1) y more read_y x (low_better os rising at x within read None tt) other
          | inr end ↦ rw (walk_end os (at + 1) end) refl
        ]

    -- keys that rise, by recursion
    abbrev Rises : List (K × Source × M) → Type 0
    Rises [] = Unit {0}
    Rises (z ∷ zs) = AllByRecursion (λ y. cmp z.0 y.0 ≡ Less) zs × Rises zs

    rising_by_place : (zs : List (K × Source × M)) → Rises zs → IsRising cmp listed_key zs
    rising_by_place [] h i j d lt within = absurd (omega (arith, within))
    rising_by_place (z ∷ zs) h i zero d lt within = absurd (omega (arith, lt))
    rising_by_place (z ∷ zs) h zero (suc j) d lt within = All-from_recursion (λ y. cmp z.0 y.0 ≡ Less) zs h.0 j d (omega (arith, within))
    rising_by_place (z ∷ zs) h (suc i) (suc j) d lt within = rising_by_place zs h.1 i j d (omega (arith, lt)) (omega (arith, within))

    not_below : (a b : K) → is_lt (cmp b a) ≡ false → is_eq (cmp a b) ≡ false → cmp a b ≡ Less
    not_below a b h k = is_above (cmp a b) (ap is_lt (sym (o.antisymm b a)) ∙ h) k

    put_rises : (a : K × Source × M) (bs : List (K × Source × M)) → Rises bs → AllByRecursion (λ z. is_lt (cmp z.0 a.0) ≡ false) bs → Rises (put_first cmp before a bs)
    put_rises a [] up low = (tt, tt)
    put_rises a (b ∷ bs) up low = elim (is_eq (cmp a.0 b.0)) as (λ t. is_eq (cmp a.0 b.0) ≡ t → Rises (cond t (cond (item_beats cmp before b a) (b ∷ bs) (a ∷ bs)) (a ∷ b ∷ bs))) [
      | true ↦ λ tie. elim (item_beats cmp before b a) as (λ t. Rises (cond t (b ∷ bs) (a ∷ bs))) [
        | true ↦ up
        | false ↦ (all_map bs (λ z less. o.congr a.0 b.0 z.0 (is_equal _ tie) ∙ less) up.0, up.1)
      ]
      | false ↦ λ other.
          let less : cmp a.0 b.0 ≡ Less = not_below a.0 b.0 low.0 other in
          ((less, all_map bs (λ z more. o.trans a.0 b.0 z.0 less more) up.0), up)
    ] refl

    -- each later item has a key that is not below
    low_bests : (x : Offer K M) (xs : List (Offer K M)) → IsRising (pair_cmp cmp) pair_of (x ∷ xs) → AllByRecursion (λ z. is_lt (cmp z.0 x.key) ≡ false) (bests xs)
    low_bests x xs rising = all_bests (λ z. is_lt (cmp z.0 x.key) ≡ false) xs (λ j d lt young.
        ap is_lt (o.antisymm (get_or xs j d).key x.key) ∙ first_of_two _ _ (rising 0 (suc j) d (omega arith) (omega (arith, lt))))

    bests_rise : (os : List (Offer K M)) → IsRising (pair_cmp cmp) pair_of os → Rises (bests os)
    bests_rise [] rising = tt
    bests_rise (x ∷ xs) rising =
        let rest : Rises (bests xs) = bests_rise xs (tail_rising o x xs rising) in
        elim (is_young now x.heard) as (λ b. Rises (cond b (put_first cmp before (item_of x) (bests xs)) (bests xs))) [
          | true ↦ put_rises (item_of x) (bests xs) rest (low_bests x xs rising)
          | false ↦ rest
        ]

    -- some item has the key
    abbrev HasKey : K → List (K × Source × M) → Type 0
    HasKey key [] = ⊥
    HasKey key (z ∷ zs) = (cmp z.0 key ≡ Equal) ⊎ HasKey key zs

    swapped : (a b : K) → cmp a b ≡ Equal → cmp b a ≡ Equal
    swapped a b h = o.antisymm b a ∙ ap ordering_reverse h

    put_keeps : (a : K × Source × M) (bs : List (K × Source × M)) (key : K) → HasKey key bs → HasKey key (put_first cmp before a bs)
    put_keeps a [] key has = absurd has
    put_keeps a (b ∷ bs) key has = elim (is_eq (cmp a.0 b.0)) as (λ t. is_eq (cmp a.0 b.0) ≡ t → HasKey key (cond t (cond (item_beats cmp before b a) (b ∷ bs) (a ∷ bs)) (a ∷ b ∷ bs))) [
      | true ↦ λ tie. elim (item_beats cmp before b a) as (λ t. HasKey key (cond t (b ∷ bs) (a ∷ bs))) [
        | true ↦ has
        | false ↦ elim has [ inl here ↦ inl (o.congr a.0 b.0 key (is_equal _ tie) ∙ here) | inr later ↦ inr later ]
      ]
      | false ↦ λ other. inr has
    ] refl

    put_has : (a : K × Source × M) (bs : List (K × Source × M)) → HasKey a.0 (put_first cmp before a bs)
    put_has a [] = inl (tied_itself o a.0)
    put_has a (b ∷ bs) = elim (is_eq (cmp a.0 b.0)) as (λ t. is_eq (cmp a.0 b.0) ≡ t → HasKey a.0 (cond t (cond (item_beats cmp before b a) (b ∷ bs) (a ∷ bs)) (a ∷ b ∷ bs))) [
      | true ↦ λ tie. elim (item_beats cmp before b a) as (λ t. HasKey a.0 (cond t (b ∷ bs) (a ∷ bs))) [
        | true ↦ inl (swapped a.0 b.0 (is_equal _ tie))
        | false ↦ inl (tied_itself o a.0)
      ]
      | false ↦ λ other. inl (tied_itself o a.0)
    ] refl

    -- the key of each valid offer has an item
    abbrev IsCovered : List (K × Source × M) → Offer K M → Type 0
    IsCovered zs x = is_young now x.heard ≡ true → HasKey x.key zs

    covers : (os : List (Offer K M)) → AllByRecursion (IsCovered (bests os)) os
    covers [] = tt
    covers (x ∷ xs) = elim (is_young now x.heard) as (λ b. is_young now x.heard ≡ b → AllByRecursion (IsCovered (cond b (put_first cmp before (item_of x) (bests xs)) (bests xs))) (x ∷ xs)) [
      | true ↦ λ young. ((λ y. put_has (item_of x) (bests xs)), all_map xs (λ v has y. put_keeps (item_of x) (bests xs) v.key (has y)) (covers xs))
      | false ↦ λ old. ((λ y. absurd (true≢false (sym y ∙ old))), covers xs)
    ] refl

    -- no valid offer of an item's key is better than the item
    abbrev NoBetter : K × Source × M → Offer K M → Type 0
    NoBetter z x = is_young now x.heard ≡ true → is_eq (cmp x.key z.0) ≡ true → item_beats cmp before (item_of x) z ≡ false

    not_itself : (a : K × Source × M) → item_beats cmp before a a ≡ false
    not_itself a = elim (item_beats cmp before a a) as (λ b. item_beats cmp before a a ≡ b → b ≡ false) [
      | true ↦ λ e. sym e ∙ w.one_way a a e
      | false ↦ λ e. refl
    ] refl

    -- of a higher key
    other_key : (x : Offer K M) (z : K × Source × M) → cmp x.key z.0 ≡ Less → NoBetter z x
    other_key x z less young tie = absurd (true≢false (sym tie ∙ ap is_eq less))

    later_best : (x : Offer K M) (xs : List (Offer K M)) (zs : List (K × Source × M)) → AllByRecursion (λ z. cmp x.key z.0 ≡ Less) zs → AllByRecursion (λ z. AllByRecursion (NoBetter z) xs) zs → AllByRecursion (λ z. AllByRecursion (NoBetter z) (x ∷ xs)) zs
    later_best x xs zs above all = all_zip zs (λ z less rest. (other_key x z less, rest)) above all

    no_key : (a : K) (key : K) (zs : List (K × Source × M)) → is_eq (cmp key a) ≡ true → AllByRecursion (λ z. cmp a z.0 ≡ Less) zs → HasKey key zs → ⊥
    no_key a key [] tie above has = has
    no_key a key (z ∷ zs) tie above has = elim has [
      | inl here ↦ true≢false (sym (ap is_eq (swapped z.0 key here)) ∙ ap is_eq (o.congr key a z.0 (is_equal _ tie) ∙ above.0))
      | inr later ↦ no_key a key zs tie above.1 later
    ]

    put_best : (x : Offer K M) (xs : List (Offer K M)) (rest : List (K × Source × M)) → Rises rest → AllByRecursion (λ z. is_lt (cmp z.0 x.key) ≡ false) rest → AllByRecursion (IsCovered rest) xs → AllByRecursion (λ z. AllByRecursion (NoBetter z) xs) rest → AllByRecursion (λ z. AllByRecursion (NoBetter z) (x ∷ xs)) (put_first cmp before (item_of x) rest)
    put_best x xs [] up low cover all = (((λ young tie. not_itself (item_of x)), all_map xs (λ v has young tie. absurd (has young)) cover), tt)
    put_best x xs (r ∷ rs) up low cover all = elim (is_eq (cmp x.key r.0)) as (λ t. is_eq (cmp x.key r.0) ≡ t → AllByRecursion (λ z. AllByRecursion (NoBetter z) (x ∷ xs)) (cond t (cond (item_beats cmp before r (item_of x)) (r ∷ rs) (item_of x ∷ rs)) (item_of x ∷ r ∷ rs))) [
      | true ↦ λ same.
          let above : AllByRecursion (λ z. cmp x.key z.0 ≡ Less) rs = all_map rs (λ z less. o.congr x.key r.0 z.0 (is_equal _ same) ∙ less) up.0 in
          let later : AllByRecursion (λ z. AllByRecursion (NoBetter z) (x ∷ xs)) rs = later_best x xs rs above all.1 in
          elim (item_beats cmp before r (item_of x)) as (λ t. item_beats cmp before r (item_of x) ≡ t → AllByRecursion (λ z. AllByRecursion (NoBetter z) (x ∷ xs)) (cond t (r ∷ rs) (item_of x ∷ rs))) [
            | true ↦ λ won. (((λ young tie. w.one_way r (item_of x) won), all.0), later)
            | false ↦ λ lost. (((λ young tie. not_itself (item_of x)), all_map xs (λ v best young tie. w.chain (item_of v) r (item_of x) (best young (ap is_eq (sym (alike_right o x.key r.0 v.key (is_equal _ same))) ∙ tie)) lost) all.0), later)
          ] refl
      | false ↦ λ other.
          let less : cmp x.key r.0 ≡ Less = not_below x.key r.0 low.0 other in
          let above : AllByRecursion (λ z. cmp x.key z.0 ≡ Less) (r ∷ rs) = (less, all_map rs (λ z more. o.trans x.key r.0 z.0 less more) up.0) in
          (((λ young tie. not_itself (item_of x)), all_map xs (λ v has young tie. absurd (no_key x.key v.key (r ∷ rs) tie above (has young))) cover), later_best x xs (r ∷ rs) above all)
    ] refl

    best_of_key : (os : List (Offer K M)) → IsRising (pair_cmp cmp) pair_of os → AllByRecursion (λ z. AllByRecursion (NoBetter z) os) (bests os)
    best_of_key [] rising = tt
    best_of_key (x ∷ xs) rising =
        let tail = tail_rising o x xs rising in
        let rest : AllByRecursion (λ z. AllByRecursion (NoBetter z) xs) (bests xs) = best_of_key xs tail in
        elim (is_young now x.heard) as (λ b. is_young now x.heard ≡ b → AllByRecursion (λ z. AllByRecursion (NoBetter z) (x ∷ xs)) (cond b (put_first cmp before (item_of x) (bests xs)) (bests xs))) [
          | true ↦ λ young. put_best x xs (bests xs) (bests_rise xs tail) (low_bests x xs rising) (covers xs) rest
          | false ↦ λ old. all_map (bests xs) (λ z all. ((λ young tie. absurd (true≢false (sym young ∙ old))), all)) rest
        ] refl

    has_place : (key : K) (zs : List (K × Source × M)) → HasKey key zs → (i : ℕ) × IsAtKey cmp listed_key zs key i
    has_place key [] has = absurd has
    has_place key (z ∷ zs) has = elim has [
      | inl here ↦ (0, record { in_range = omega arith; ties = λ d. here })
      | inr later ↦ let rest = has_place key zs later in (suc rest.0, record { in_range = omega (arith, rest.1.in_range); ties = λ d. rest.1.ties d })
    ]

    -- the walk gives the listing
    module _ (os : List (Offer K M)) (rising : IsRising (pair_cmp cmp) pair_of os) where
      apart : HasDistinctKeys (is_same cmp) os
      apart = separate_rising o os rising

      abbrev IsPresent : K × Source × M → Type 0
      IsPresent item = (t : ℕ) × ((content cmp os (item.0, item.1) ≡ Some (item.2, t)) × (is_young now t ≡ true))

      -- each item is a valid offer
      pub walked : (P : K × Source × M → Type 0) → ((j : ℕ) (d : Offer K M) → j < length os → is_young now (get_or os j d).heard ≡ true → P (item_of (get_or os j d))) → All P (bests os)
      walked P all j d lt = All-from_recursion P (bests os) (all_bests P os all) j d lt

      -- its key is the one that was learned last
      pub walked_as_heard : All (λ item. heard_key cmp os (item.0, item.1) ≡ Some item.0) (bests os)
      walked_as_heard = walked (λ item. heard_key cmp os (item.0, item.1) ≡ Some item.0) (λ j d lt young. member_found (same_equiv o) (λ (x : Offer K M). x.key) os j d apart lt)

      stands : All IsPresent (bests os)
      stands = walked IsPresent (λ j d lt young. ((get_or os j d).heard, (member_found (same_equiv o) said_of os j d apart lt, young)))

      least : (k : ℕ) (d : K × Source × M) → k < length (bests os) → (source : Source) (metric : M) (t : ℕ) → content cmp os ((get_or (bests os) k d).0, source) ≡ Some (metric, t) → is_young now t ≡ true → is_better before (source, metric) ((get_or (bests os) k d).1, (get_or (bests os) k d).2) ≡ false
      least k d lt source metric t said young =
          let z = get_or (bests os) k d in
          let f = found_member (same_equiv o) os (z.0, source) (metric, t) said in
          let tie = both_equal (cmp f.offer.key z.0) (source_cmp f.offer.source source) f.same_pair in
          let none_better : AllByRecursion (NoBetter z) os = All-from_recursion (λ y. AllByRecursion (NoBetter y) os) (bests os) (best_of_key os rising) k d lt in
          let own : NoBetter z f.offer = subst (NoBetter z) f.there.2 (All-from_recursion (NoBetter z) os none_better f.there.0 f.offer f.there.1) in
          ap (λ v. is_better before (source, v) (z.1, z.2)) (sym f.metric) ∙ sym (as_good o strict z.0 now f.offer.source source f.offer.metric (z.1, z.2) tie.1) ∙ own (ap (is_young now) f.heard ∙ young) (ap is_eq tie.0)

      pub walk_lists : IsListing cmp before (content cmp os) now (bests os)
      walk_lists = record {
        in_order = rising_by_place (bests os) (bests_rise os rising);
        are_best = λ k d lt.
            let there = stands k d lt in
            record { moment = there.0; stands = there.1.0; counts = there.1.1; least = λ source metric t said young. least k d lt source metric t said young };
        no_other = λ key best is.
            let f = found_member (same_equiv o) os (key, best.0) (best.1, is.moment) is.stands in
            let tie = both_equal (cmp f.offer.key key) (source_cmp f.offer.source best.0) f.same_pair in
            let own : IsCovered (bests os) f.offer = subst (IsCovered (bests os)) f.there.2 (All-from_recursion (IsCovered (bests os)) os (covers os) f.there.0 f.offer f.there.1) in
            let at = has_place f.offer.key (bests os) (own (ap (is_young now) f.heard ∙ is.counts)) in
            (at.0, record { in_range = at.1.in_range; ties = λ d. sym (alike_right o f.offer.key key (listed_key (get_or (bests os) at.0 d)) tie.0) ∙ at.1.ties d });
      }

      -- if no offer is valid, there is no item
      pub none_walked : ((key : K) → NoneCounts (content cmp os) key now) → bests os ≡ []
      none_walked none = elim (bests os) as (λ l. bests os ≡ l → l ≡ []) [
        | [] ↦ λ e. refl
        | z ∷ zs ↦ λ e.
            let some : 0 < length (bests os) = rw e (omega arith) in
            let there = stands 0 z some in
            let item = get_or (bests os) 0 z in
            absurd (true≢false (sym there.1.1 ∙ none item.0 item.1 item.2 there.0 there.1.0))
      ] refl
