-- How many narrow queries of a node are heard in a course of datagrams.
use Rattle.std.proofs.Common.{◌≡◌, ◌≤◌, inl, inr, ◌∙◌, ℕ, true, List, Option, Some, slice_set, max, sym, ap, refl, subst, arith}
use Rattle.std.proofs.lemmas.Option.{same_Some}
use Rattle.ipx_rate_limits.specs.declared.port_buckets.PortBuckets.{PortBuckets}
use Rattle.ipx_rate_limits.specs.declared.querier.Querier.{Querier}
use Rattle.token_bucket.specs.declared.bucket.RateLimit.{RateLimit}
use Rattle.token_bucket.specs.declared.bucket.TokenBucket.{TokenBucket}
use Rattle.ipx_rate_limits.specs.PortBuckets.{at_port, directed_taken, narrow_taken, no_tokens, query_taken, with_directed_taken}
use Rattle.token_bucket.specs.TokenBucket.{back_after, bucket_has, bucket_taken, most_in}
use Rattle.ipx_rate_limits.specs.TokenBuckets.{TokenBucketsView, asked_by, back_at, narrow_clock, node_narrow, with_narrow_token_taken, with_token_taken}
use Rattle.ipx_rate_limits.specs.RateLimiter.{HearsRateLimited, RateLimiterView}
use Rattle.ipx_rate_limits.specs.QueryRate.{AreSuch, Coming, Course, IsNarrowHeardOf}
use Rattle.ipx_rate_limits.proofs.PortRates.{Later, seldom}
use Rattle.ipx_rate_limits.proofs.PortTokens.{set_or}
use Rattle.ipx_rate_limits.proofs.Taken.{back_at_grows, back_at_own}

-- what a port may pass of one node is unchanged if one of its buckets changes
kept_limit : (change : PortBuckets → PortBuckets) → ((p : PortBuckets) → node_narrow (change p) ≡ node_narrow p) → (ports : List PortBuckets) (i port : ℕ)
    → node_narrow (at_port (slice_set ports i (change (at_port ports i))) port) ≡ node_narrow (at_port ports port)
kept_limit change keeps ports i port =
    set_or (λ p. node_narrow p ≡ node_narrow (at_port ports port)) ports i port (change (at_port ports i)) no_tokens refl
    (λ e. keeps (at_port ports i) ∙ sym (ap (λ (k : ℕ). node_narrow (at_port ports k)) e))

module _ {C : Type 0} (hears : C → ℕ → List ℕ → ℕ → C → Type 0) (who : Querier) (a b : ℕ) where
  abbrev bucket_of : TokenBucketsView → TokenBucket
  bucket_of t = record { limit = node_narrow (at_port t.ports who.port); back = back_at t.narrow who }

  abbrev of : TokenBucketsView → Option TokenBucket
  of t = Some (bucket_of t)

  abbrev Goes : TokenBucket → ℕ → TokenBucketsView → Type 0
  Goes bucket now t = (later : TokenBucket) × (of t ≡ Some later) × Later bucket later now

  goes : (old new : TokenBucketsView) (now : ℕ) → node_narrow (at_port new.ports who.port) ≡ node_narrow (at_port old.ports who.port)
      → back_at old.narrow who ≤ max (back_at new.narrow who) (narrow_clock now) → Goes (bucket_of old) now new
  goes old new now limit back = (bucket_of new, refl, (limit, back))

  step : (old : RateLimiterView C) (port : ℕ) (bytes : List ℕ) (now : ℕ) (new : RateLimiterView C) → HearsRateLimited hears old port bytes now new
      → (bucket : TokenBucket) → of old.buckets ≡ Some bucket → Goes bucket now new.buckets
  step old port bytes now new h bucket is =
      let t = old.buckets in
      let buckets : RateLimiterView C → TokenBucketsView = λ v. v.buckets in
      let goal : TokenBucketsView → Type 0 = λ it. Goes (bucket_of t) now it in
      let same : back_at t.narrow who ≤ max (back_at t.narrow who) (narrow_clock now) = omega arith in
      let stays : goal t = goes t t now refl same in
      let one : goal new.buckets = elim h [
        | inl q ↦ elim q [
          | inl x ↦ subst goal (sym (ap buckets x.1.3)) (goes t (with_token_taken t x.0 now) now (kept_limit (query_taken now) (λ p. refl) t.ports x.0.port who.port) same)
          | inr x ↦ subst goal (sym (ap buckets x.3)) stays
        ]
        | inr y ↦ elim y [
          | inl q ↦ elim q [
            | inl x ↦
                let more : back_at t.narrow x.0 ≤ back_after 1 (back_at t.narrow x.0) (narrow_clock now) = omega arith in
                subst goal (sym (ap buckets x.1.3)) (goes t (with_narrow_token_taken t x.0 now) now (kept_limit (narrow_taken now) (λ p. refl) t.ports x.0.port who.port)
                (back_at_grows x.0 who (narrow_clock now) (back_after 1 (back_at t.narrow x.0) (narrow_clock now)) t.narrow more))
            | inr x ↦ subst goal (sym (ap buckets x.3)) stays
          ]
          | inr z ↦ elim z [
            | inl d ↦ elim d [
              | inl x ↦ subst goal (sym (ap buckets x.1.3)) (goes t (record t { ports = with_directed_taken t.ports x.0.leaves_by now }) now (kept_limit (directed_taken now) (λ p. refl) t.ports x.0.leaves_by who.port) same)
              | inr x ↦ subst goal (sym (ap buckets x.3)) stays
            ]
            | inr x ↦ subst goal (sym (ap buckets x.4)) stays
          ]
        ]
      ] in
      subst (λ (it : TokenBucket). Goes it now new.buckets) (same_Some (bucket_of t) bucket is) one

  take : (c : Coming C) → IsNarrowHeardOf hears who a b c → (bucket : TokenBucket) → of c.before.buckets ≡ Some bucket
      → (a ≤ c.now) × (c.now ≤ b) × (bucket_has bucket 1 c.now ≡ true) × (of c.after.buckets ≡ Some (bucket_taken bucket 1 c.now))
  take c (first, last, heard) bucket is =
      let t = c.before.buckets in
      let now = narrow_clock c.now in
      let limit = node_narrow (at_port t.ports who.port) in
      let bucket_is : bucket_of t ≡ bucket = same_Some (bucket_of t) bucket is in
      let has : bucket_has bucket 1 c.now ≡ true = subst (λ (it : TokenBucket). bucket_has it 1 c.now ≡ true) bucket_is heard.1.node.own in
      let back : back_at (asked_by who now t.narrow) who ≡ back_after 1 (back_at t.narrow who) now = back_at_own who now (back_after 1 (back_at t.narrow who) now) t.narrow in
      let stays = kept_limit (narrow_taken c.now) (λ p. refl) t.ports who.port who.port in
      let some : RateLimit → ℕ → Option TokenBucket = λ l x. Some (record { limit = l; back = x }) in
      let taken : of c.after.buckets ≡ Some (bucket_taken (bucket_of t) 1 c.now) =
      ap (λ (v : RateLimiterView C). of v.buckets) heard.3
      ∙ ap (λ (l : RateLimit). some l (back_at (asked_by who now t.narrow) who)) stays
      ∙ ap (λ (x : ℕ). some limit x) back in
      (first, last, has, taken ∙ ap (λ (it : TokenBucket). Some (bucket_taken it 1 c.now)) bucket_is)

  pub node_narrow_seldom : (from n : ℕ) (old : RateLimiterView C) (course : List (Coming C)) → Course hears from old course
      → AreSuch (IsNarrowHeardOf hears who a b) course n → n ≤ most_in (node_narrow (at_port old.buckets.ports who.port)) a b
  node_narrow_seldom from n old course runs are =
      seldom hears of (IsNarrowHeardOf hears who a b) a b step take from n old course (bucket_of old.buckets) refl runs are
