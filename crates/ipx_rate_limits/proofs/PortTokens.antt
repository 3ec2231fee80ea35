-- How a bucket of a port, for general queries, narrow queries or directed broadcasts, changes as a core with
-- limits hears.
use Rattle.std.proofs.Common.{◌≡◌, ◌≤◌, inl, inr, ◌∙◌, ℕ, zero, suc, ◌+◌, ◌*◌, true, List, [], ◌∷◌, Option, Some, get_or, slice_set, max, sym, ap, refl, subst, arith}
use Rattle.std.proofs.lemmas.Option.{same_Some}
use Rattle.std.specs.Option.{option_map}
use Rattle.ipx_rate_limits.specs.declared.port_buckets.PortBuckets.{PortBuckets}
use Rattle.ipx_rate_limits.specs.declared.querier.Querier.{Querier}
use Rattle.token_bucket.specs.declared.bucket.TokenBucket.{TokenBucket}
use Rattle.ipx_rate_limits.specs.PortBuckets.{at_port, directed_has, directed_taken, is_free, narrow_has, narrow_taken, no_tokens, query_has, query_taken}
use Rattle.token_bucket.specs.TokenBucket.{bucket_has, bucket_taken, most_in}
use Rattle.ipx_rate_limits.specs.TokenBuckets.{TokenBucketsView}
use Rattle.ipx_rate_limits.specs.RateLimiter.{HearsRateLimited, RateLimiterView}
use Rattle.ipx_rate_limits.specs.QueryRate.{AreSuch, Coming, Course, IsHeardAt, IsNarrowHeardAt, IsToLeaveBy}
use Rattle.token_bucket.proofs.Rates.{has}
use Rattle.ipx_rate_limits.proofs.PortRates.{Later, seldom}

-- what holds for an element still holds after an element is replaced, if it holds for the new one
pub set_or : (P : PortBuckets → Type 0) (xs : List PortBuckets) (i j : ℕ) (y d : PortBuckets) → P (get_or xs j d) → (j ≡ i → P y) → P (get_or (slice_set xs i y) j d)
set_or P [] i j y d h g = h
set_or P (x ∷ xs) zero zero y d h g = g refl
set_or P (x ∷ xs) zero (suc j) y d h g = h
set_or P (x ∷ xs) (suc i) zero y d h g = h
set_or P (x ∷ xs) (suc i) (suc j) y d h g = set_or P xs i j y d h (λ e. g (ap (λ k. suc k) e))

-- an existing element is replaced
set_there : (P : PortBuckets → Type 0) (xs : List PortBuckets) (j : ℕ) (y d : PortBuckets) → (get_or xs j d ≡ d → ⊥) → P y → P (get_or (slice_set xs j y) j d)
set_there P [] j y d there h = absurd (there refl)
set_there P (x ∷ xs) zero y d there h = h
set_there P (x ∷ xs) (suc j) y d there h = set_there P xs j y d there h

-- one bucket of a port
module _ (pick : PortBuckets → Option TokenBucket) (port : ℕ) where
  abbrev of : TokenBucketsView → Option TokenBucket
  of t = pick (at_port t.ports port)

  abbrev Keeps : TokenBucket → ℕ → PortBuckets → Type 0
  Keeps bucket now p = (later : TokenBucket) × (pick p ≡ Some later) × Later bucket later now

  same : (bucket : TokenBucket) (now : ℕ) (p : PortBuckets) → pick p ≡ Some bucket → Keeps bucket now p
  same bucket now p is = (bucket, is, (refl, omega arith))

  taken : (bucket : TokenBucket) (now : ℕ) (p : PortBuckets) → pick p ≡ Some (bucket_taken bucket 1 now) → Keeps bucket now p
  taken bucket now p is = (bucket_taken bucket 1 now, is, (refl, omega arith))

  changed : (bucket : TokenBucket) (now : ℕ) (change : PortBuckets → PortBuckets) → ((p : PortBuckets) → pick p ≡ Some bucket → Keeps bucket now (change p))
      → (ports : List PortBuckets) (i : ℕ) → pick (at_port ports port) ≡ Some bucket → Keeps bucket now (at_port (slice_set ports i (change (at_port ports i))) port)
  changed bucket now change good ports i is =
      set_or (Keeps bucket now) ports i port (change (at_port ports i)) no_tokens (same bucket now (at_port ports port) is)
      (λ e. good (at_port ports i) (subst (λ (k : ℕ). pick (at_port ports k) ≡ Some bucket) e is))

  module _ {C : Type 0} (hears : C → ℕ → List ℕ → ℕ → C → Type 0)
      (query : (bucket : TokenBucket) (now : ℕ) (p : PortBuckets) → pick p ≡ Some bucket → Keeps bucket now (query_taken now p))
      (narrow : (bucket : TokenBucket) (now : ℕ) (p : PortBuckets) → pick p ≡ Some bucket → Keeps bucket now (narrow_taken now p))
      (directed : (bucket : TokenBucket) (now : ℕ) (p : PortBuckets) → pick p ≡ Some bucket → Keeps bucket now (directed_taken now p)) where
    step : (old : RateLimiterView C) (at : ℕ) (bytes : List ℕ) (now : ℕ) (new : RateLimiterView C) → HearsRateLimited hears old at bytes now new
        → (bucket : TokenBucket) → of old.buckets ≡ Some bucket → (later : TokenBucket) × (of new.buckets ≡ Some later) × Later bucket later now
    step old at bytes now new h bucket is =
        let ports : RateLimiterView C → List PortBuckets = λ v. v.buckets.ports in
        let goal : List PortBuckets → Type 0 = λ ps. Keeps bucket now (at_port ps port) in
        let stays : goal old.buckets.ports = same bucket now (at_port old.buckets.ports port) is in
        elim h [
          | inl q ↦ elim q [
            | inl x ↦ subst goal (sym (ap ports x.1.3)) (changed bucket now (query_taken now) (query bucket now) old.buckets.ports x.0.port is)
            | inr x ↦ subst goal (sym (ap ports x.3)) stays
          ]
          | inr y ↦ elim y [
            | inl q ↦ elim q [
              | inl x ↦ subst goal (sym (ap ports x.1.3)) (changed bucket now (narrow_taken now) (narrow bucket now) old.buckets.ports x.0.port is)
              | inr x ↦ subst goal (sym (ap ports x.3)) stays
            ]
            | inr z ↦ elim z [
              | inl d ↦ elim d [
                | inl x ↦ subst goal (sym (ap ports x.1.3)) (changed bucket now (directed_taken now) (directed bucket now) old.buckets.ports x.0.leaves_by is)
                | inr x ↦ subst goal (sym (ap ports x.3)) stays
              ]
              | inr x ↦ subst goal (sym (ap ports x.4)) stays
            ]
          ]
        ]

-- if there is no port there is no token
no_query : (now : ℕ) → query_has no_tokens now ≡ true → ⊥
no_query now h = let le : max 0 (0 * now) + 1000 * 1 ≤ 0 * now + 1000 * 0 = has 0 1 0 (0 * now) h in absurd (omega arith)

no_narrow : (now : ℕ) → narrow_has no_tokens now ≡ true → ⊥
no_narrow now h = let le : max 0 (0 * now) + 1000 * 1 ≤ 0 * now + 1000 * 0 = has 0 1 0 (0 * now) h in absurd (omega arith)

no_directed : (now : ℕ) → directed_has no_tokens now ≡ true → ⊥
no_directed now h = let le : max 0 (0 * now) + 1000 * 1 ≤ 0 * now + 1000 * 0 = has 0 1 0 (0 * now) h in absurd (omega arith)

module _ {C : Type 0} (hears : C → ℕ → List ℕ → ℕ → C → Type 0) (port a b : ℕ) where
  abbrev queries_of : PortBuckets → Option TokenBucket
  queries_of p = Some p.queries

  abbrev narrow_of : PortBuckets → Option TokenBucket
  narrow_of p = Some p.narrow

  abbrev directed_of : PortBuckets → Option TokenBucket
  directed_of p = p.directed

  take_query : (c : Coming C) → IsHeardAt hears port a b c → (bucket : TokenBucket) → of queries_of port c.before.buckets ≡ Some bucket
      → (a ≤ c.now) × (c.now ≤ b) × (bucket_has bucket 1 c.now ≡ true) × (of queries_of port c.after.buckets ≡ Some (bucket_taken bucket 1 c.now))
  take_query c (first, last, here, (who, heard)) bucket is =
      let ports = c.before.buckets.ports in
      let asks : who.port ≡ port = ap (λ (w : Querier). w.port) heard.0.2.3 ∙ here in
      let token : query_has (at_port ports port) c.now ≡ true = subst (λ (k : ℕ). query_has (at_port ports k) c.now ≡ true) asks heard.1.common in
      let bucket_is : (at_port ports port).queries ≡ bucket = same_Some (at_port ports port).queries bucket is in
      let has : bucket_has bucket 1 c.now ≡ true = subst (λ (it : TokenBucket). bucket_has it 1 c.now ≡ true) bucket_is token in
      let there : at_port ports port ≡ no_tokens → ⊥ = λ e. no_query c.now (subst (λ (p : PortBuckets). query_has p c.now ≡ true) e token) in
      let new = query_taken c.now (at_port ports port) in
      let P : PortBuckets → Type 0 = λ p. queries_of p ≡ Some (bucket_taken bucket 1 c.now) in
      let now_taken : P new = ap (λ (it : TokenBucket). Some (bucket_taken it 1 c.now)) bucket_is in
      let set : P (at_port (slice_set ports port new) port) = set_there P ports port new no_tokens there now_taken in
      let at_who : P (at_port (slice_set ports who.port (query_taken c.now (at_port ports who.port))) port) =
      subst (λ (k : ℕ). P (at_port (slice_set ports k (query_taken c.now (at_port ports k))) port)) (sym asks) set in
      let after : c.after.buckets.ports ≡ slice_set ports who.port (query_taken c.now (at_port ports who.port)) = ap (λ (v : RateLimiterView C). v.buckets.ports) heard.3 in
      (first, last, has, subst (λ (ps : List PortBuckets). P (at_port ps port)) (sym after) at_who)

  take_narrow : (c : Coming C) → IsNarrowHeardAt hears port a b c → (bucket : TokenBucket) → of narrow_of port c.before.buckets ≡ Some bucket
      → (a ≤ c.now) × (c.now ≤ b) × (bucket_has bucket 1 c.now ≡ true) × (of narrow_of port c.after.buckets ≡ Some (bucket_taken bucket 1 c.now))
  take_narrow c (first, last, here, (who, heard)) bucket is =
      let ports = c.before.buckets.ports in
      let asks : who.port ≡ port = ap (λ (w : Querier). w.port) heard.0.2.3 ∙ here in
      let token : narrow_has (at_port ports port) c.now ≡ true = subst (λ (k : ℕ). narrow_has (at_port ports k) c.now ≡ true) asks heard.1.common in
      let bucket_is : (at_port ports port).narrow ≡ bucket = same_Some (at_port ports port).narrow bucket is in
      let has : bucket_has bucket 1 c.now ≡ true = subst (λ (it : TokenBucket). bucket_has it 1 c.now ≡ true) bucket_is token in
      let there : at_port ports port ≡ no_tokens → ⊥ = λ e. no_narrow c.now (subst (λ (p : PortBuckets). narrow_has p c.now ≡ true) e token) in
      let new = narrow_taken c.now (at_port ports port) in
      let P : PortBuckets → Type 0 = λ p. narrow_of p ≡ Some (bucket_taken bucket 1 c.now) in
      let now_taken : P new = ap (λ (it : TokenBucket). Some (bucket_taken it 1 c.now)) bucket_is in
      let set : P (at_port (slice_set ports port new) port) = set_there P ports port new no_tokens there now_taken in
      let at_who : P (at_port (slice_set ports who.port (narrow_taken c.now (at_port ports who.port))) port) =
      subst (λ (k : ℕ). P (at_port (slice_set ports k (narrow_taken c.now (at_port ports k))) port)) (sym asks) set in
      let after : c.after.buckets.ports ≡ slice_set ports who.port (narrow_taken c.now (at_port ports who.port)) = ap (λ (v : RateLimiterView C). v.buckets.ports) heard.3 in
      (first, last, has, subst (λ (ps : List PortBuckets). P (at_port ps port)) (sym after) at_who)

  take_directed : (c : Coming C) → IsToLeaveBy hears port a b c → (bucket : TokenBucket) → of directed_of port c.before.buckets ≡ Some bucket
      → (a ≤ c.now) × (c.now ≤ b) × (bucket_has bucket 1 c.now ≡ true) × (of directed_of port c.after.buckets ≡ Some (bucket_taken bucket 1 c.now))
  take_directed c (first, last, (it, leaves, heard)) bucket is =
      let ports = c.before.buckets.ports in
      let token : directed_has (at_port ports port) c.now ≡ true = subst (λ (k : ℕ). directed_has (at_port ports k) c.now ≡ true) leaves heard.1 in
      let has : bucket_has bucket 1 c.now ≡ true = subst (λ (found : Option TokenBucket). is_free found c.now ≡ true) is token in
      let there : at_port ports port ≡ no_tokens → ⊥ = λ e. no_directed c.now (subst (λ (p : PortBuckets). directed_has p c.now ≡ true) e token) in
      let new = directed_taken c.now (at_port ports port) in
      let P : PortBuckets → Type 0 = λ p. directed_of p ≡ Some (bucket_taken bucket 1 c.now) in
      let now_taken : P new = ap (λ (found : Option TokenBucket). option_map (λ k. bucket_taken k 1 c.now) found) is in
      let set : P (at_port (slice_set ports port new) port) = set_there P ports port new no_tokens there now_taken in
      let at_it : P (at_port (slice_set ports it.leaves_by (directed_taken c.now (at_port ports it.leaves_by))) port) =
      subst (λ (k : ℕ). P (at_port (slice_set ports k (directed_taken c.now (at_port ports k))) port)) (sym leaves) set in
      let after : c.after.buckets.ports ≡ slice_set ports it.leaves_by (directed_taken c.now (at_port ports it.leaves_by)) = ap (λ (v : RateLimiterView C). v.buckets.ports) heard.3 in
      (first, last, has, subst (λ (ps : List PortBuckets). P (at_port ps port)) (sym after) at_it)

  -- what takes a token of one bucket of a port takes none of its others
  pub queries_seldom : (from n : ℕ) (old : RateLimiterView C) (course : List (Coming C)) → Course hears from old course
      → AreSuch (IsHeardAt hears port a b) course n → n ≤ most_in (at_port old.buckets.ports port).queries.limit a b
  queries_seldom from n old course runs are =
      let query = λ (bucket : TokenBucket) (now : ℕ) (p : PortBuckets) (is : queries_of p ≡ Some bucket).
      taken queries_of port bucket now (query_taken now p) (ap (λ (it : TokenBucket). Some (bucket_taken it 1 now)) (same_Some p.queries bucket is)) in
      let narrow = λ (bucket : TokenBucket) (now : ℕ) (p : PortBuckets) (is : queries_of p ≡ Some bucket). same queries_of port bucket now (narrow_taken now p) is in
      let directed = λ (bucket : TokenBucket) (now : ℕ) (p : PortBuckets) (is : queries_of p ≡ Some bucket). same queries_of port bucket now (directed_taken now p) is in
      seldom hears (of queries_of port) (IsHeardAt hears port a b) a b (step queries_of port hears query narrow directed) take_query
      from n old course (at_port old.buckets.ports port).queries refl runs are

  pub narrow_seldom : (from n : ℕ) (old : RateLimiterView C) (course : List (Coming C)) → Course hears from old course
      → AreSuch (IsNarrowHeardAt hears port a b) course n → n ≤ most_in (at_port old.buckets.ports port).narrow.limit a b
  narrow_seldom from n old course runs are =
      let query = λ (bucket : TokenBucket) (now : ℕ) (p : PortBuckets) (is : narrow_of p ≡ Some bucket). same narrow_of port bucket now (query_taken now p) is in
      let narrow = λ (bucket : TokenBucket) (now : ℕ) (p : PortBuckets) (is : narrow_of p ≡ Some bucket).
      taken narrow_of port bucket now (narrow_taken now p) (ap (λ (it : TokenBucket). Some (bucket_taken it 1 now)) (same_Some p.narrow bucket is)) in
      let directed = λ (bucket : TokenBucket) (now : ℕ) (p : PortBuckets) (is : narrow_of p ≡ Some bucket). same narrow_of port bucket now (directed_taken now p) is in
      seldom hears (of narrow_of port) (IsNarrowHeardAt hears port a b) a b (step narrow_of port hears query narrow directed) take_narrow
      from n old course (at_port old.buckets.ports port).narrow refl runs are

  pub directed_seldom : (from n : ℕ) (old : RateLimiterView C) (course : List (Coming C)) (bucket : TokenBucket)
      → (at_port old.buckets.ports port).directed ≡ Some bucket → Course hears from old course
      → AreSuch (IsToLeaveBy hears port a b) course n → n ≤ most_in bucket.limit a b
  directed_seldom from n old course bucket is runs are =
      let query = λ (bucket : TokenBucket) (now : ℕ) (p : PortBuckets) (is : directed_of p ≡ Some bucket). same directed_of port bucket now (query_taken now p) is in
      let narrow = λ (bucket : TokenBucket) (now : ℕ) (p : PortBuckets) (is : directed_of p ≡ Some bucket). same directed_of port bucket now (narrow_taken now p) is in
      let directed = λ (bucket : TokenBucket) (now : ℕ) (p : PortBuckets) (is : directed_of p ≡ Some bucket).
      taken directed_of port bucket now (directed_taken now p) (ap (λ (found : Option TokenBucket). option_map (λ k. bucket_taken k 1 now) found) is) in
      seldom hears (of directed_of port) (IsToLeaveBy hears port a b) a b (step directed_of port hears query narrow directed) take_directed
      from n old course bucket is runs are
