-- Edits that keep the order of a list that rises by a key.
use Rattle.std.proofs.Common.{◌≡◌, ◌≢◌, ℕ, ◌+◌, ◌-◌, ◌<◌, ◌≤◌, List, length, get_or, set, sym, ap, ◌∙◌, subst, inl, inr, arith}
use Rattle.std.specs.List.{insert, remove}
use Rattle.std.specs.Cmp.{IsTotalOrder}
use Rattle.std.specs.Ordering.{ordering_reverse}
use Rattle.std.specs.declared.cmp.Ordering.{Ordering}
use Rattle.std.specs.declared.cmp.Ordering.TheVariants.{Less, Equal}
use Rattle.std.proofs.lemmas.Cmp.{alike_right}
use Rattle.std.proofs.lemmas.List.{get_or-set_same, get_or-set_other, length-set}
use Rattle.std.proofs.lemmas.List.Edits.{length-insert, get_or-insert_below, get_or-insert_at, get_or-insert_above, length-remove, get_or-remove_below, get_or-remove_above}
use Rattle.std.proofs.lemmas.Bool.{cases_lt}
use Rattle.ipx_tables.specs.Sorted.{IsRising, IsAtKey, IsGapFor}

module _ {X K : Type 0} {cmp : K → K → Ordering} (o : IsTotalOrder cmp) (key_of : X → K) (xs : List X) where
  -- a new item in the gap keeps the order
  pub insert_rising : IsRising cmp key_of xs → (x : X) (at : ℕ) → IsGapFor cmp key_of xs (key_of x) at → IsRising cmp key_of (insert xs at x)
  insert_rising rising x at gap i j d lt in_range =
      let new = insert xs at x in
      let v : List X → ℕ → K = λ ys k. key_of (get_or ys k d) in
      let long = length-insert xs at x gap.in_range in
      let here : (k : ℕ) → k ≡ at → v new k ≡ key_of x = λ k e. rw e (ap key_of (get_or-insert_at xs at x d gap.in_range)) in
      let below : (k : ℕ) → k < at → v new k ≡ v xs k = λ k l. ap key_of (get_or-insert_below xs at x d k l gap.in_range) in
      let above : (k : ℕ) → at < k → v new k ≡ v xs (k - 1) = λ k l. subst (λ q. v new q ≡ v xs (k - 1)) {x = k - 1 + 1} (omega arith) (ap key_of (get_or-insert_above xs at x d (k - 1) (omega arith) gap.in_range)) in
      let after : (k : ℕ) → at ≤ k → k < length xs → cmp (key_of x) (v xs k) ≡ Less = λ k l m. o.antisymm _ _ ∙ ap ordering_reverse (gap.above k d l m) in
      let before : (k : ℕ) → k < at → cmp (v xs k) (key_of x) ≡ Less = λ k l. gap.below k d l in
      let up : (k l : ℕ) → k < l → l < length xs → cmp (v xs k) (v xs l) ≡ Less = λ k l m n. rising k l d m n in
      elim (cases_lt j at) [
        | inl low ↦ rw (below i (omega arith), below j low) (up i j lt (omega arith))
        | inr high ↦ elim (cases_lt at j) [
          | inl over ↦ elim (cases_lt i at) [
            | inl under ↦ rw (below i under, above j over) (up i (j - 1) (omega arith) (omega arith))
            | inr not_under ↦ elim (cases_lt at i) [
              | inl past ↦ rw (above i past, above j over) (up (i - 1) (j - 1) (omega arith) (omega arith))
              | inr not_past ↦ rw (here i (omega arith), above j over) (after (j - 1) (omega arith) (omega arith))
            ]
          ]
          | inr not_over ↦ rw (below i (omega arith), here j (omega arith)) (before i (omega arith))
        ]
      ]

  -- the removal of an item keeps the order
  pub remove_rising : IsRising cmp key_of xs → (at : ℕ) → at < length xs → IsRising cmp key_of (remove xs at)
  remove_rising rising at within i j d lt in_range =
      let new = remove xs at in
      let v : List X → ℕ → K = λ ys k. key_of (get_or ys k d) in
      let short = length-remove xs at within in
      let below : (k : ℕ) → k < at → v new k ≡ v xs k = λ k l. ap key_of (get_or-remove_below xs at d k l within) in
      let above : (k : ℕ) → at ≤ k → v new k ≡ v xs (k + 1) = λ k l. ap key_of (get_or-remove_above xs at d k l within) in
      let up : (k l : ℕ) → k < l → l < length xs → cmp (v xs k) (v xs l) ≡ Less = λ k l m n. rising k l d m n in
      elim (cases_lt j at) [
        | inl low ↦ rw (below i (omega arith), below j low) (up i j lt (omega arith))
        | inr high ↦ elim (cases_lt i at) [
          | inl under ↦ rw (below i under, above j high) (up i (j + 1) (omega arith) (omega arith))
          | inr over ↦ rw (above i over, above j high) (up (i + 1) (j + 1) (omega arith) (omega arith))
        ]
      ]

  -- an item that replaces one of an equal key keeps the order
  pub set_rising : IsRising cmp key_of xs → (x : X) (at : ℕ) → IsAtKey cmp key_of xs (key_of x) at → IsRising cmp key_of (set xs at x)
  set_rising rising x at here i j d lt in_range =
      let new = set xs at x in
      let v : List X → ℕ → K = λ ys k. key_of (get_or ys k d) in
      let tie : cmp (v xs at) (key_of x) ≡ Equal = here.ties d in
      let same : v new at ≡ key_of x = ap key_of (get_or-set_same xs at x d here.in_range) in
      let other : (k : ℕ) → k ≢ at → v new k ≡ v xs k = λ k e. ap key_of (get_or-set_other xs at k x d e) in
      let within : j < length xs = omega (arith, in_range, length-set xs at x) in
      let up : cmp (v xs i) (v xs j) ≡ Less = rising i j d lt within in
      elim (cases_lt i at) [
        | inl under ↦ elim (cases_lt j at) [
          | inl low ↦ rw (other i (λ e. omega arith), other j (λ e. omega arith)) up
          | inr high ↦ elim (cases_lt at j) [
            | inl over ↦ rw (other i (λ e. omega arith), other j (λ e. omega arith)) up
            | inr not_over ↦
                let is : j ≡ at = omega arith in
                let was : cmp (v xs i) (v xs at) ≡ Less = rw is at up in
                rw (other i (λ e. omega arith), is, same) (sym (alike_right o _ _ _ tie) ∙ was)
          ]
        ]
        | inr not_under ↦ elim (cases_lt at i) [
          | inl past ↦ rw (other i (λ e. omega arith), other j (λ e. omega arith)) up
          | inr not_past ↦
              let is : i ≡ at = omega arith in
              let was : cmp (v xs at) (v xs j) ≡ Less = rw is at up in
              rw (other j (λ e. omega arith), is, same) (sym (o.congr _ _ _ tie) ∙ was)
        ]
      ]
