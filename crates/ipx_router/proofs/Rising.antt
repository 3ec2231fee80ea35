-- Searches and inserts in lists that rise by a key.
use Rattle.std.proofs.Common.{◌≡◌, ℕ, ◌+◌, ◌-◌, ◌<◌, ◌≤◌, List, length, get_or, Result, Ok, Err, IfOk, IfErr, [], refl, sym, ap, ◌∙◌, subst, inl, inr, arith}
use Rattle.std.specs.Prelude.{Contains, ◌⊎◌}
use Rattle.std.specs.List.{insert}
use Rattle.std.specs.List.Sorted.{IsSearchInRange, IsBinarySearchResult, IsSortedBy}
use Rattle.std.specs.Cmp.{IsTotalOrder}
use Rattle.std.specs.Ordering.{is_lt, ordering_reverse}
use Rattle.std.specs.declared.cmp.Ordering.{Ordering}
use Rattle.std.specs.declared.cmp.Ordering.TheVariants.{Less}
use Rattle.std.proofs.lemmas.List.Sorted.{searchable_from_sorted}
use Rattle.std.proofs.lemmas.List.Edits.{length-insert, get_or-insert_below, get_or-insert_at, get_or-insert_above}
use Rattle.std.proofs.lemmas.Bool.{cases_lt}
use Rattle.std.proofs.lemmas.Cmp.{nat_cmp_total, on_total}
use Rattle.std.proofs.lemmas.List.Elements.{Contains-get_or}
use Rattle.ipx_wire.specs.declared.address.Network.{Network}
use Rattle.ipx_control.specs.declared.rip.packet.RipEntry.{RipEntry}
use Rattle.ipx_tables.specs.Route.{network_cmp, network_exact}
use Rattle.ipx_tables.specs.Sorted.{IsRising, IsAtKey, IsGapFor}
use Rattle.ipx_router.specs.AdvertisedEntries.{route_key}
use Rattle.ipx_router.specs.Placing.{PutsEntry}

module _ {X K : Type 0} {cmp : K → K → Ordering} (o : IsTotalOrder cmp) (key_of : X → K) (xs : List X) where
  rising_sorted : IsRising cmp key_of xs → IsSortedBy (λ a b. is_lt (cmp (key_of a) (key_of b))) xs
  rising_sorted rising k d low high = ap is_lt (o.antisymm _ _ ∙ ap ordering_reverse (rising k (k + 1) d (omega arith) high))

  -- what a binary search by the key gives
  pub searched : IsRising cmp key_of xs → (key : K) (r : Result ℕ ℕ) → IsSearchInRange r (length xs) → IsBinarySearchResult (λ x. cmp (key_of x) key) xs r → IfOk r (IsAtKey cmp key_of xs key) × IfErr r (IsGapFor cmp key_of xs key)
  searched rising key (Ok i) within equal = (record { in_range = within; ties = equal }, tt)
  searched rising key (Err i) within parted =
      let at = parted (searchable_from_sorted o key_of xs key (rising_sorted rising)) in
      (tt, record { in_range = within; below = λ j d lt. at.0 j d (omega arith) lt; above = λ j d le lt. at.1 j d le lt })

  -- a new item in the gap keeps the order
  pub insert_rising : IsRising cmp key_of xs → (x : X) (at : ℕ) → IsGapFor cmp key_of xs (key_of x) at → IsRising cmp key_of (insert xs at x)
  insert_rising rising x at gap i j d lt in_range =
      let new = insert xs at x in
      let v : List X → ℕ → K = λ ys k. key_of (get_or ys k d) in
      let long = length-insert xs at x gap.in_range in
      let here : (k : ℕ) → k ≡ at → v new k ≡ key_of x = λ k e. rw e (ap key_of (get_or-insert_at xs at x d gap.in_range)) in
      let below : (k : ℕ) → k < at → v new k ≡ v xs k = λ k l. ap key_of (get_or-insert_below xs at x d k l gap.in_range) in
      let above : (k : ℕ) → at < k → v new k ≡ v xs (k - 1) = λ k l. subst (λ q. v new q ≡ v xs (k - 1)) {x = k - 1 + 1} (omega arith) (ap key_of (get_or-insert_above xs at x d (k - 1) (omega arith) gap.in_range)) in
      let after : (k : ℕ) → at ≤ k → k < length xs → cmp (key_of x) (v xs k) ≡ Less = λ k l m. o.antisymm _ _ ∙ ap ordering_reverse (gap.above k d l m) in
      let before : (k : ℕ) → k < at → cmp (v xs k) (key_of x) ≡ Less = λ k l. gap.below k d l in
      let up : (k l : ℕ) → k < l → l < length xs → cmp (v xs k) (v xs l) ≡ Less = λ k l m n. rising k l d m n in
      elim (cases_lt j at) [
        | inl low ↦ rw (below i (omega arith), below j low) (up i j lt (omega arith))
        | inr high ↦ elim (cases_lt at j) [
          | inl over ↦ elim (cases_lt i at) [
            | inl under ↦ rw (below i under, above j over) (up i (j - 1) (omega arith) (omega arith))
            | inr not_under ↦ elim (cases_lt at i) [
              | inl past ↦ rw (above i past, above j over) (up (i - 1) (j - 1) (omega arith) (omega arith))
              | inr not_past ↦ rw (here i (omega arith), above j over) (after (j - 1) (omega arith) (omega arith))
            ]
          ]
          | inr not_over ↦ rw (below i (omega arith), here j (omega arith)) (before i (omega arith))
        ]
      ]

module _ {X : Type 0} (xs : List X) (at : ℕ) (y : X) (fits : at ≤ length xs) where
  -- an insert keeps the items of the list
  pub insert_keeps : (x : X) → Contains xs x → Contains (insert xs at y) x
  insert_keeps x (k, lt, is) =
      let long = length-insert xs at y fits in
      elim (cases_lt k at) [
        | inl low ↦ (k, omega arith, get_or-insert_below xs at y x k low fits ∙ is)
        | inr high ↦ (k + 1, omega arith, get_or-insert_above xs at y x k high fits ∙ is)
      ]

  -- and adds the item
  pub insert_there : Contains (insert xs at y) y
  insert_there = (at, omega (arith, length-insert xs at y fits), get_or-insert_at xs at y y fits)

  -- and nothing else
  pub insert_only : (x : X) → Contains (insert xs at y) x → Contains xs x ⊎ (x ≡ y)
  insert_only x (k, lt, is) =
      let long = length-insert xs at y fits in
      elim (cases_lt k at) [
        | inl low ↦ inl (k, omega arith, sym (get_or-insert_below xs at y x k low fits) ∙ is)
        | inr high ↦ elim (cases_lt at k) [
          | inl past ↦ inl (k - 1, omega arith, sym (subst (λ q. get_or (insert xs at y) q x ≡ get_or xs (k - 1) x) {x = k - 1 + 1} (omega arith) (get_or-insert_above xs at y x (k - 1) (omega arith) fits)) ∙ is)
          | inr not_past ↦
              let same : k ≡ at = omega arith in
              inr (sym is ∙ ap (λ q. get_or (insert xs at y) q x) same ∙ get_or-insert_at xs at y x fits)
        ]
      ]

pub nothing_rises : {X K : Type 0} (cmp : K → K → Ordering) (key_of : X → K) → IsRising cmp key_of []
nothing_rises cmp key_of i j d lt in_range = absurd (omega arith)

pub network_total : IsTotalOrder network_cmp
network_total = on_total (λ (n : Network). n.0) nat_cmp_total

-- if the list has an entry of the network
pub puts_nothing : (old : List RipEntry) (entry : RipEntry) (i : ℕ) → IsRising network_cmp route_key old → IsAtKey network_cmp route_key old entry.network i → PutsEntry old entry old
puts_nothing old entry i rising at = record {
  in_order = rising;
  keeps = λ x m. m;
  only = λ x m. inl m;
  there = (get_or old i entry, Contains-get_or old i entry at.in_range, network_exact _ _ (at.ties entry));
}

-- if the entry is inserted
pub puts_new : (old new : List RipEntry) (entry : RipEntry) (at : ℕ) → IsRising network_cmp route_key old → IsGapFor network_cmp route_key old entry.network at → new ≡ insert old at entry → PutsEntry old entry new
puts_new old new entry at rising gap is = subst (PutsEntry old entry) (sym is) (record {
  in_order = insert_rising network_total route_key old rising entry at gap;
  keeps = insert_keeps old at entry gap.in_range;
  only = insert_only old at entry gap.in_range;
  there = (entry, insert_there old at entry gap.in_range, refl);
})
