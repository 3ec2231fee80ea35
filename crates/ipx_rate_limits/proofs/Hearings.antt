-- How many general queries of a querier are heard in a course of datagrams.
use Rattle.std.proofs.Common.{◌≡◌, ◌≤◌, ◌<◌, inl, inr, ◌∙◌, ℕ, zero, suc, ◌+◌, ◌-◌, ◌*◌, ◌/◌, true, List, [], ◌∷◌, max, sym, ap, subst, arith}
use Rattle.std.proofs.lemmas.Bool.Decides.{nat_tests}
use Rattle.ipx_rate_limits.specs.declared.querier.Querier.{Querier}
use Rattle.ipx_rate_limits.specs.declared.node_buckets.Asking.{Asking}
use Rattle.token_bucket.specs.TokenBucket.{back_after, has_tokens}
use Rattle.ipx_rate_limits.specs.TokenBuckets.{TokenBucketsView, back_at, with_token_taken}
use Rattle.ipx_rate_limits.specs.RateLimiter.{HearsRateLimited, RateLimiterView}
use Rattle.ipx_rate_limits.specs.QueryRate.{AreSuch, Coming, Course, IsHeardOf}
use Rattle.ipx_rate_limits.proofs.Taken.{back_at_grows, back_at_own}

has_own : (back now : ℕ) → has_tokens 8 1 back now ≡ true → back ≤ now + 7000
has_own back now h = grind (arith, nat_tests)

-- a querier's tokens after another querier, or the same one, took one
grows : (t : TokenBucketsView) (who o : Querier) (now : ℕ) → back_at t.queriers o ≤ max (back_at (with_token_taken t who now).queriers o) now
grows t who o now =
    let x = back_after 1 (back_at t.queriers who) now in
    let more : back_at t.queriers who ≤ x = omega arith in
    back_at_grows who o now x t.queriers more

own : (t : TokenBucketsView) (who : Querier) (now : ℕ) → back_at (with_token_taken t who now).queriers who ≡ max (back_at t.queriers who) now + 1000
own t who now = back_at_own who now (back_after 1 (back_at t.queriers who) now) t.queriers

module _ {C : Type 0} (hears : C → ℕ → List ℕ → ℕ → C → Type 0) where
  -- whatever comes
  step : (who : Querier) (old : RateLimiterView C) (port : ℕ) (bytes : List ℕ) (now : ℕ) (new : RateLimiterView C) → HearsRateLimited hears old port bytes now new → back_at old.buckets.queriers who ≤ max (back_at new.buckets.queriers who) now
  step who old port bytes now new h =
      let goal : TokenBucketsView → Type 0 = λ t. back_at old.buckets.queriers who ≤ max (back_at t.queriers who) now in
      let same : goal old.buckets = omega arith in
      let buckets : RateLimiterView C → TokenBucketsView = λ v. v.buckets in
      let queriers : RateLimiterView C → List Asking = λ v. v.buckets.queriers in
      let asking : List Asking → Type 0 = λ xs. back_at old.buckets.queriers who ≤ max (back_at xs who) now in
      let others = λ (is : new.buckets.queriers ≡ old.buckets.queriers). subst asking (sym is) same in
      elim h [
        | inl q ↦ elim q [
          | inl x ↦
              let is : new.buckets ≡ with_token_taken old.buckets x.0 now = ap buckets x.1.3 in
              subst goal (sym is) (grows old.buckets x.0 who now)
          | inr x ↦ let is : new.buckets ≡ old.buckets = ap buckets x.3 in subst goal (sym is) same
        ]
        | inr y ↦ elim y [
          | inl d ↦ elim d [
            | inl x ↦ others (ap queriers x.1.3)
            | inr x ↦ others (ap queriers x.3)
          ]
          | inr z ↦ elim z [
            | inl d ↦ elim d [
              | inl x ↦ others (ap queriers x.1.3)
              | inr x ↦ others (ap queriers x.3)
            ]
            | inr x ↦ others (ap queriers x.4)
          ]
        ]
      ]

  few : (who : Querier) (a b : ℕ) (course : List (Coming C)) (from : ℕ) (old : RateLimiterView C) (n : ℕ) → Course hears from old course → AreSuch (IsHeardOf hears who a b) course n → 0 < n → max (max (back_at old.buckets.queriers who) from) a + 1000 * n ≤ b + 8000
  few who a b [] from old n runs are some = absurd (omega arith)
  few who a b (c ∷ rest) from old n runs are some =
      let back : TokenBucketsView → ℕ = λ t. back_at t.queriers who in
      let before : back c.before.buckets ≡ back old.buckets = ap back runs.1 in
      let later : from ≤ c.now = runs.0 in
      let then = few who a b rest c.now c.after in
      elim are [
        | inl x ↦
            let first : a ≤ c.now = x.0.0 in
            let last : c.now ≤ b = x.0.1 in
            let turn : back c.before.buckets ≤ c.now + 7000 = has_own _ c.now x.0.2.1.node.own in
            let buckets : RateLimiterView C → TokenBucketsView = λ v. v.buckets in
            let is : c.after.buckets ≡ with_token_taken c.before.buckets who c.now = ap buckets x.0.2.3 in
            let taken : back c.after.buckets ≡ max (back c.before.buckets) c.now + 1000 = ap back is ∙ own c.before.buckets who c.now in
            one_more (back old.buckets) (back c.before.buckets) (back c.after.buckets) from a b c.now n x.1 before later first last turn taken x.2 (λ more. then x.1 runs.3 x.3 more)
        | inr x ↦
            let more = step who c.before c.port c.bytes c.now c.after runs.2 in
            let ih = then n runs.3 x.1 some in
            none_more (back old.buckets) (back c.before.buckets) (back c.after.buckets) from a b c.now n before later more ih
      ]
    where
      one_more : (x y z from a b now n m : ℕ) → y ≡ x → from ≤ now → a ≤ now → now ≤ b → y ≤ now + 7000 → z ≡ max y now + 1000 → n ≡ m + 1 → (0 < m → max (max z now) a + 1000 * m ≤ b + 8000) → max (max x from) a + 1000 * n ≤ b + 8000
      one_more x y z from a b now n zero e1 h1 h2 h3 h4 e2 e3 then = omega arith
      one_more x y z from a b now n (suc m) e1 h1 h2 h3 h4 e2 e3 then =
          let ih = then (omega arith) in omega arith

      none_more : (x y z from a b now n : ℕ) → y ≡ x → from ≤ now → y ≤ max z now → max (max z now) a + 1000 * n ≤ b + 8000 → max (max x from) a + 1000 * n ≤ b + 8000
      none_more x y z from a b now n e1 h1 h2 h3 = omega arith

  pub seldom : (who : Querier) (from a b n : ℕ) (old : RateLimiterView C) (course : List (Coming C)) → Course hears from old course → AreSuch (IsHeardOf hears who a b) course n → n ≤ 8 + (b - a) / 1000
  seldom who from a b zero old course runs are = omega arith
  seldom who from a b (suc n) old course runs are =
      let most = few who a b course from old (suc n) runs are (omega arith) in
      omega arith
