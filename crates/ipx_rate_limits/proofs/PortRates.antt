-- How many general queries of a port, and directed broadcasts that leave by one, are heard in a course of
-- datagrams.
use Rattle.std.proofs.Common.{◌≡◌, ◌≤◌, ◌<◌, inl, inr, ◌∙◌, ℕ, zero, suc, ◌+◌, ◌-◌, ◌*◌, ◌/◌, true, List, [], ◌∷◌, Option, Some, max, ap, subst, arith}
use Rattle.std.proofs.Math.Nat.{mul-le-mul_left, mul-sub}
use Rattle.token_bucket.specs.declared.bucket.RateLimit.{RateLimit}
use Rattle.token_bucket.specs.declared.bucket.TokenBucket.{TokenBucket}
use Rattle.token_bucket.specs.TokenBucket.{bucket_clock, bucket_has, bucket_taken, most_in}
use Rattle.token_bucket.proofs.Rates.{at_most, has, none_more, one_more}
use Rattle.ipx_rate_limits.specs.TokenBuckets.{TokenBucketsView}
use Rattle.ipx_rate_limits.specs.RateLimiter.{HearsRateLimited, RateLimiterView}
use Rattle.ipx_rate_limits.specs.QueryRate.{AreSuch, Coming, Course}

-- a later state of a bucket, in which no token is back sooner
abbrev pub Later : TokenBucket → TokenBucket → ℕ → Type 0
Later bucket later now = (later.limit ≡ bucket.limit) × (bucket.back ≤ max later.back (bucket_clock bucket.limit now))

-- a bucket, and the events that take a token of it between two times
module _ {C : Type 0} (hears : C → ℕ → List ℕ → ℕ → C → Type 0) (of : TokenBucketsView → Option TokenBucket) (Is : Coming C → Type 0) (a b : ℕ)
    (step : (old : RateLimiterView C) (port : ℕ) (bytes : List ℕ) (now : ℕ) (new : RateLimiterView C) → HearsRateLimited hears old port bytes now new
    → (bucket : TokenBucket) → of old.buckets ≡ Some bucket → (later : TokenBucket) × (of new.buckets ≡ Some later) × Later bucket later now)
    (take : (c : Coming C) → Is c → (bucket : TokenBucket) → of c.before.buckets ≡ Some bucket
    → (a ≤ c.now) × (c.now ≤ b) × (bucket_has bucket 1 c.now ≡ true) × (of c.after.buckets ≡ Some (bucket_taken bucket 1 c.now))) where
  abbrev Bounded : TokenBucket → ℕ → ℕ → Type 0
  Bounded bucket from n = max (max bucket.back (bucket_clock bucket.limit from)) (bucket_clock bucket.limit a) + 1000 * n ≤ bucket_clock bucket.limit b + 1000 * bucket.limit.burst

  few : (course : List (Coming C)) (from : ℕ) (old : RateLimiterView C) (n : ℕ) (bucket : TokenBucket) → of old.buckets ≡ Some bucket
      → Course hears from old course → AreSuch Is course n → 0 < n → Bounded bucket from n
  few [] from old n bucket is runs are some = absurd (omega arith)
  few (c ∷ rest) from old n bucket is runs are some =
      let before : of c.before.buckets ≡ Some bucket = ap of runs.1 ∙ is in
      let r = bucket.limit.per_second in
      let later : r * from ≤ r * c.now = mul-le-mul_left r runs.0 in
      let burst = bucket.limit.burst in
      elim are [
        | inl x ↦
            let t = take c x.0 bucket before in
            let first : r * a ≤ r * c.now = mul-le-mul_left r t.0 in
            let last : r * c.now ≤ r * b = mul-le-mul_left r t.1 in
            let token : max bucket.back (r * c.now) + 1000 ≤ r * c.now + 1000 * burst = has burst 1 bucket.back (r * c.now) t.2 in
            one_more bucket.back (r * from) (r * a) (r * b) (r * c.now) burst 1 n x.1 later first last token x.2
            (λ more. few rest c.now c.after x.1 (bucket_taken bucket 1 c.now) t.3 runs.3 x.3 more)
        | inr x ↦
            let s = step c.before c.port c.bytes c.now c.after runs.2 bucket before in
            let ih : Bounded s.0 c.now n = few rest c.now c.after n s.0 s.1 runs.3 x.1 some in
            let at : RateLimit → Type 0 = λ limit. max (max s.0.back (bucket_clock limit c.now)) (bucket_clock limit a) + 1000 * n ≤ bucket_clock limit b + 1000 * limit.burst in
            let here : at bucket.limit = subst at s.2.0 ih in
            none_more bucket.back s.0.back (r * from) (r * a) (r * b) (r * c.now) n burst later s.2.1 here
      ]

  pub seldom : (from n : ℕ) (old : RateLimiterView C) (course : List (Coming C)) (bucket : TokenBucket) → of old.buckets ≡ Some bucket
      → Course hears from old course → AreSuch Is course n → n ≤ most_in bucket.limit a b
  seldom from zero old course bucket is runs are = omega arith
  seldom from (suc n) old course bucket is runs are =
      let r = bucket.limit.per_second in
      let most : Bounded bucket from (suc n) = few course from old (suc n) bucket is runs are (omega arith) in
      let apart : r * (b - a) ≡ r * b - r * a = mul-sub r b a in
      at_most (bucket.back) (r * from) (r * a) (r * b) (r * (b - a)) bucket.limit.burst (suc n) most apart
