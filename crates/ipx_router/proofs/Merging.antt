-- Two rising lists of routes, merged into one.
use Rattle.std.proofs.Common.{◌≡◌, ℕ, zero, suc, ◌+◌, ◌<◌, true, false, List, [], ◌∷◌, ◌++◌, length, drop, get_or, ◌⊎◌, inl, inr, refl, sym, ap, ◌∙◌, subst, arith}
use Rattle.std.specs.Prelude.{Contains, nat_lt, take_while}
use Rattle.std.specs.List.{All, prefix_len}
use Rattle.std.specs.declared.cmp.Ordering.TheVariants.{Less}
use Rattle.std.proofs.lemmas.Bool.{cases_order, cond-true, lt-ltb, ltb-false}
use Rattle.std.proofs.lemmas.List.{get_or-drop, get_or-take, length-drop, length-take, take-append-drop}
use Rattle.std.proofs.lemmas.List.Elements.{All-contains_itself, All-weaker, Contains-append_cases, Contains-append_left, Contains-append_right, Contains-get_or}
use Rattle.std.proofs.lemmas.List.Kept.{AllPairs-cons}
use Rattle.std.proofs.lemmas.List.Sums.{prefix_len-le-length, prefix_len_passes, prefix_len_stops}
use Rattle.ipx_wire.specs.declared.address.Network.{Network}
use Rattle.ipx_control.specs.declared.rip.packet.RipEntry.{RipEntry}
use Rattle.ipx_tables.specs.Route.{network_cmp}
use Rattle.ipx_tables.specs.Sorted.{IsRising}
use Rattle.ipx_router.specs.AdvertisedEntries.{route_key}
use Rattle.ipx_router.specs.Placing.{is_below}
use Rattle.ipx_router.proofs.Rising.{network_total, nothing_rises}

-- each entry of the second list comes after those of the first that are lower
abbrev pub merged : List RipEntry → List RipEntry → List RipEntry
merged own [] = own
merged own (e ∷ es) =
    take_while (is_below e.network) own ++ (e ∷ merged (drop (prefix_len (is_below e.network) own) own) es)

cons_cases : {X : Type 0} (x : X) (xs : List X) (z : X) → Contains (x ∷ xs) z → (x ≡ z) ⊎ Contains xs z
cons_cases x xs z c = at c.0 c.1 c.2
  where
    at : (k : ℕ) → k < length (x ∷ xs) → get_or (x ∷ xs) k z ≡ z → (x ≡ z) ⊎ Contains xs z
    at zero lt is = inl is
    at (suc k) lt is = inr (k, omega arith, is)

here : {X : Type 0} (x : X) (xs : List X) → Contains (x ∷ xs) x
here x xs = (0, omega arith, refl)

behind : {X : Type 0} (x : X) (xs : List X) (z : X) → Contains xs z → Contains (x ∷ xs) z
behind x xs z c = (suc c.0, omega (arith, c.1), c.2)

all_by : {X : Type 0} (P : X → Type 0) (xs : List X) → ((x : X) → Contains xs x → P x) → All P xs
all_by P xs f = All-weaker (Contains xs) P f xs (All-contains_itself xs)

module _ (own : List RipEntry) (network : Network) where
  abbrev n : ℕ
  n = prefix_len (is_below network) own

  abbrev front : List RipEntry
  front = take_while (is_below network) own

  abbrev rest : List RipEntry
  rest = drop n own

  parts : front ++ rest ≡ own
  parts = take-append-drop n own

  front_has : (x : RipEntry) → Contains front x → Contains own x
  front_has x c = subst (λ l. Contains l x) parts (Contains-append_left front rest x c)

  rest_has : (x : RipEntry) → Contains rest x → Contains own x
  rest_has x c = subst (λ l. Contains l x) parts (Contains-append_right front rest x c)

  own_is : (x : RipEntry) → Contains own x → Contains front x ⊎ Contains rest x
  own_is x c = Contains-append_cases front rest x (subst (λ l. Contains l x) (sym parts) c)

-- ---- its items

pub merged_has : (own es : List RipEntry) (x : RipEntry) → Contains own x ⊎ Contains es x → Contains (merged own es) x
merged_has own [] x c = elim c [ inl a ↦ a | inr b ↦ absurd (omega (arith, b.1)) ]
merged_has own (e ∷ es) x c =
    let f = front own e.network in
    let r = rest own e.network in
    let later : Contains r x ⊎ Contains es x → Contains (merged own (e ∷ es)) x = λ d. Contains-append_right f (e ∷ merged r es) x (behind e (merged r es) x (merged_has r es x d)) in
    elim c [
      | inl a ↦ elim (own_is own e.network x a) [
        | inl low ↦ Contains-append_left f (e ∷ merged r es) x low
        | inr high ↦ later (inl high)
      ]
      | inr b ↦ elim (cons_cases e es x b) [
        | inl same ↦ subst (Contains (merged own (e ∷ es))) same (Contains-append_right f (e ∷ merged r es) e (here e (merged r es)))
        | inr more ↦ later (inr more)
      ]
    ]

pub merged_only : (own es : List RipEntry) (x : RipEntry) → Contains (merged own es) x → Contains own x ⊎ Contains es x
merged_only own [] x c = inl c
merged_only own (e ∷ es) x c =
    let f = front own e.network in
    let r = rest own e.network in
    elim (Contains-append_cases f (e ∷ merged r es) x c) [
      | inl low ↦ inl (front_has own e.network x low)
      | inr high ↦ elim (cons_cases e (merged r es) x high) [
        | inl same ↦ inr (subst (Contains (e ∷ es)) same (here e es))
        | inr more ↦ elim (merged_only r es x more) [
          | inl a ↦ inl (rest_has own e.network x a)
          | inr b ↦ inr (behind e es x b)
        ]
      ]
    ]

-- ---- its order

abbrev Rises : List RipEntry → Type 0
Rises = IsRising network_cmp route_key

abbrev IsUnder : RipEntry → RipEntry → Type 0
IsUnder a b = network_cmp a.network b.network ≡ Less

under_from : (a b : RipEntry) → is_below b.network a ≡ true → IsUnder a b
under_from a b low = cond-true (nat_lt a.network.0 b.network.0) Less _ low

over_from : (a b : RipEntry) → is_below b.network a ≡ false → (a.network.0 ≡ b.network.0 → ⊥) → IsUnder b a
over_from a b high apart =
    let ge = ltb-false a.network.0 b.network.0 high in
    elim (cases_order a.network.0 b.network.0) [
      | inl same ↦ absurd (apart same)
      | inr other ↦ elim other [
        | inl less ↦ absurd (omega arith)
        | inr more ↦ cond-true (nat_lt b.network.0 a.network.0) Less _ (lt-ltb b.network.0 a.network.0 more)
      ]
    ]

rises_cons : (x : RipEntry) (xs : List RipEntry) → ((y : RipEntry) → Contains xs y → IsUnder x y) → Rises xs → Rises (x ∷ xs)
rises_cons x xs f r = AllPairs-cons IsUnder x xs (all_by (IsUnder x) xs f) r

rises_tail : (x : RipEntry) (xs : List RipEntry) → Rises (x ∷ xs) → Rises xs
rises_tail x xs r i j d lt within = r (suc i) (suc j) d (omega arith) (omega (arith, within))

rises_head : (x : RipEntry) (xs : List RipEntry) → Rises (x ∷ xs) → (y : RipEntry) → Contains xs y → IsUnder x y
rises_head x xs r y c =
    let less : IsUnder x (get_or xs c.0 y) = r 0 (suc c.0) y (omega arith) (omega (arith, c.1)) in
    subst (IsUnder x) c.2 less

rises_append : (xs ys : List RipEntry) → Rises xs → Rises ys → ((x y : RipEntry) → Contains xs x → Contains ys y → IsUnder x y) → Rises (xs ++ ys)
rises_append [] ys rx ry f = ry
rises_append (x ∷ xs) ys rx ry f =
    rises_cons x (xs ++ ys)
    (λ y c. elim (Contains-append_cases xs ys y c) [
      | inl left ↦ rises_head x xs rx y left
      | inr right ↦ f x y (here x xs) right
    ])
    (rises_append xs ys (rises_tail x xs rx) ry (λ a b c d. f a b (behind x xs a c) d))

rises_left : (xs ys : List RipEntry) → Rises (xs ++ ys) → Rises xs
rises_left [] ys r = nothing_rises network_cmp route_key
rises_left (x ∷ xs) ys r =
    rises_cons x xs (λ y c. rises_head x (xs ++ ys) r y (Contains-append_left xs ys y c)) (rises_left xs ys (rises_tail x (xs ++ ys) r))

rises_right : (xs ys : List RipEntry) → Rises (xs ++ ys) → Rises ys
rises_right [] ys r = r
rises_right (x ∷ xs) ys r = rises_right xs ys (rises_tail x (xs ++ ys) r)

module _ (own : List RipEntry) (e : RipEntry) where
  -- what comes before the entry is lower
  front_under : (x : RipEntry) → Contains (front own e.network) x → IsUnder x e
  front_under x c =
      let test = is_below e.network in
      let place : c.0 < prefix_len test own = omega (arith, c.1, prefix_len-le-length test own, length-take (prefix_len test own) own) in
      let same : get_or own c.0 x ≡ x = sym (get_or-take (prefix_len test own) own c.0 x place) ∙ c.2 in
      under_from x e (subst (λ y. test y ≡ true) same (prefix_len_passes test own c.0 x place))

  -- and the rest is higher
  rest_over : Rises own → ((x : RipEntry) → Contains own x → x.network.0 ≡ e.network.0 → ⊥) → (x : RipEntry) → Contains (rest own e.network) x → IsUnder e x
  rest_over r apart x c =
      let test = is_below e.network in
      let n = prefix_len test own in
      let within : n + c.0 < length own = omega (arith, c.1, length-drop n own) in
      let same : get_or own (n + c.0) x ≡ x = sym (get_or-drop n own c.0 x) ∙ c.2 in
      let first = get_or own n x in
      let over : IsUnder e first = over_from first e (prefix_len_stops test own x (omega arith)) (apart first (Contains-get_or own n x (omega arith))) in
      at c.0 n within same over
    where
      at : (k m : ℕ) → m + k < length own → get_or own (m + k) x ≡ x → IsUnder e (get_or own m x) → IsUnder e x
      at zero m within same over = subst (IsUnder e) (ap (λ j. get_or own j x) (omega arith) ∙ same) over
      at (suc k) m within same over =
          subst (IsUnder e) same (network_total.trans e.network (get_or own m x).network (get_or own (m + suc k) x).network over (r m (m + suc k) x (omega arith) within))

pub merged_rises : (own es : List RipEntry) → Rises own → Rises es → ((x y : RipEntry) → Contains own x → Contains es y → x.network.0 ≡ y.network.0 → ⊥) → Rises (merged own es)
merged_rises own [] ro re apart = ro
merged_rises own (e ∷ es) ro re apart =
    let f = front own e.network in
    let r = rest own e.network in
    let split : Rises (f ++ r) = subst Rises (sym (parts own e.network)) ro in
    let later : Rises (merged r es) = merged_rises r es (rises_right f r split) (rises_tail e es re) (λ x y c d. apart x y (rest_has own e.network x c) (behind e es y d)) in
    let over : (y : RipEntry) → Contains (merged r es) y → IsUnder e y = λ y c. elim (merged_only r es y c) [
      | inl a ↦ rest_over own e ro (λ x d. apart x e d (here e es)) y a
      | inr b ↦ rises_head e es re y b
    ] in
    rises_append f (e ∷ merged r es) (rises_left f r split) (rises_cons e (merged r es) over later)
    (λ x y c d. elim (cons_cases e (merged r es) y d) [
      | inl same ↦ subst (IsUnder x) same (front_under own e x c)
      | inr more ↦ network_total.trans x.network e.network y.network (front_under own e x c) (over y more)
    ])
