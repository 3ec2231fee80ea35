-- How often a core with limits hears one querier, all queriers at a port, and the directed broadcasts that
-- leave by a port; and how often narrow queries of one node, and of all at a port, are heard. Defined by this
-- project.
use Rattle.std.specs.Prelude.{◌≡◌, ◌≤◌, ◌⊎◌, ℕ, ◌+◌, ◌-◌, ◌*◌, ◌/◌, List, [], ◌∷◌, Some}
use Rattle.ipx_rate_limits.specs.declared.directed_broadcast.DirectedBroadcast.{DirectedBroadcast}
use Rattle.ipx_rate_limits.specs.declared.querier.Querier.{Querier}
use Rattle.token_bucket.specs.declared.bucket.TokenBucket.{TokenBucket}
use Rattle.token_bucket.specs.TokenBucket.{most_in}
use Rattle.ipx_rate_limits.specs.PortBuckets.{at_port}
use Rattle.ipx_rate_limits.specs.TokenBuckets.{node_narrow, own_tokens}
use Rattle.ipx_rate_limits.specs.RateLimiter.{HearOutOfMemoryBelow, HearsDirected, HearsNarrowWithToken, HearsWithToken, HearsRateLimited, IsGeneralQuery, IsNarrowQuery, RateLimiterView}

-- the core below receives what comes in: it hears it, or runs out of memory as it does
abbrev pub Reaches : {C : Type 0} → (hears hear_out_of_memory : C → ℕ → List ℕ → ℕ → C → Type 0)
    → C → ℕ → List ℕ → ℕ → C → Type 0
Reaches hears hear_out_of_memory old port bytes now new =
    hears old port bytes now new ⊎ hear_out_of_memory old port bytes now new

-- what a core with limits does with what comes in, also if it runs out of memory, is what is said below of one whose
-- core below is reached
abbrev pub IsEachHearingLimited : {C : Type 0} → (hears hear_out_of_memory : C → ℕ → List ℕ → ℕ → C → Type 0) → Type 0
IsEachHearingLimited {C} hears hear_out_of_memory =
    (old new : RateLimiterView C) (port : ℕ) (bytes : List ℕ) (now : ℕ)
    → HearsRateLimited hears old port bytes now new ⊎ HearOutOfMemoryBelow hear_out_of_memory old port bytes now new
    → HearsRateLimited (Reaches hears hear_out_of_memory) old port bytes now new

-- bytes that came in on a port at a time, and the core before and after it heard them
pub record Coming (C : Type 0) : Type 0 where
  pub before : RateLimiterView C
  pub port : ℕ
  pub bytes : List ℕ
  pub now : ℕ
  pub after : RateLimiterView C

-- this many of these satisfy `Is`
abbrev pub AreSuch : {C : Type 0} → (Coming C → Type 0) → List (Coming C) → ℕ → Type 0
AreSuch Is [] n = n ≡ 0
AreSuch Is (c ∷ rest) n =
    (Is c × (m : ℕ) × (n ≡ m + 1) × AreSuch Is rest m) ⊎ ((Is c → ⊥) × AreSuch Is rest n)

module _ {C : Type 0} (hears : C → ℕ → List ℕ → ℕ → C → Type 0) where
  -- no query escapes: a general query that came in took a token, and a narrow query one of those, or the core below is
  -- unchanged
  abbrev pub IsEachQueryLimited : Type 0
  IsEachQueryLimited = (old new : RateLimiterView C) (port : ℕ) (bytes : List ℕ) (now : ℕ)
      → HearsRateLimited hears old port bytes now new
      → ((who : Querier) → IsGeneralQuery old.ports port bytes who
      → HearsWithToken hears old port bytes now new who ⊎ (new.core ≡ old.core))
      × ((who : Querier) → IsNarrowQuery old.ports port bytes who
      → HearsNarrowWithToken hears old port bytes now new who ⊎ (new.core ≡ old.core))

  -- they come one after another, at times that do not go back, from this time and this core on. What else
  -- happens to the core between two of them leaves the tokens unchanged
  abbrev pub Course : ℕ → RateLimiterView C → List (Coming C) → Type 0
  Course from old [] = Unit {0}
  Course from old (c ∷ rest) = (from ≤ c.now) × (c.before.buckets ≡ old.buckets)
      × HearsRateLimited hears c.before c.port c.bytes c.now c.after × Course c.now c.after rest

  -- between two times, the core below hears this as a general query of this querier
  abbrev pub IsHeardOf : Querier → ℕ → ℕ → Coming C → Type 0
  IsHeardOf who a b c = (a ≤ c.now) × (c.now ≤ b)
      × HearsWithToken hears c.before c.port c.bytes c.now c.after who

  -- the same for any querier at a port
  abbrev pub IsHeardAt : ℕ → ℕ → ℕ → Coming C → Type 0
  IsHeardAt port a b c = (a ≤ c.now) × (c.now ≤ b) × (c.port ≡ port)
      × ((who : Querier) × HearsWithToken hears c.before c.port c.bytes c.now c.after who)

  -- the same for a narrow query of this node
  abbrev pub IsNarrowHeardOf : Querier → ℕ → ℕ → Coming C → Type 0
  IsNarrowHeardOf who a b c = (a ≤ c.now) × (c.now ≤ b)
      × HearsNarrowWithToken hears c.before c.port c.bytes c.now c.after who

  -- the same for a narrow query of any node at a port
  abbrev pub IsNarrowHeardAt : ℕ → ℕ → ℕ → Coming C → Type 0
  IsNarrowHeardAt port a b c = (a ≤ c.now) × (c.now ≤ b) × (c.port ≡ port)
      × ((who : Querier) × HearsNarrowWithToken hears c.before c.port c.bytes c.now c.after who)

  -- the same for a directed broadcast that leaves by a port
  abbrev pub IsToLeaveBy : ℕ → ℕ → ℕ → Coming C → Type 0
  IsToLeaveBy port a b c = (a ≤ c.now) × (c.now ≤ b) × ((it : DirectedBroadcast) × (it.leaves_by ≡ port)
      × HearsDirected hears c.before c.port c.bytes c.now c.after it)

  -- of one querier it hears at most eight, and one more for each second between the times
  abbrev pub IsQueryRateBounded : Type 0
  IsQueryRateBounded = (who : Querier) (from a b n : ℕ) (old : RateLimiterView C) (course : List (Coming C))
      → Course from old course → AreSuch (IsHeardOf who a b) course n → n ≤ own_tokens + (b - a) / 1000

  -- of all queriers at a port it hears at most as many as the port's limit lets pass
  abbrev pub IsPortQueryRateBounded : Type 0
  IsPortQueryRateBounded = (port from a b n : ℕ) (old : RateLimiterView C) (course : List (Coming C))
      → Course from old course → AreSuch (IsHeardAt port a b) course n
      → n ≤ most_in (at_port old.buckets.ports port).queries.limit a b

  -- of the narrow queries of one node it hears at most as many as the limit of a node at its port lets pass
  abbrev pub IsNodeNarrowRateBounded : Type 0
  IsNodeNarrowRateBounded = (who : Querier) (from a b n : ℕ) (old : RateLimiterView C) (course : List (Coming C))
      → Course from old course → AreSuch (IsNarrowHeardOf who a b) course n
      → n ≤ most_in (node_narrow (at_port old.buckets.ports who.port)) a b

  -- of the narrow queries at a port it hears at most as many as the port's limit of these lets pass
  abbrev pub IsNarrowRateBounded : Type 0
  IsNarrowRateBounded = (port from a b n : ℕ) (old : RateLimiterView C) (course : List (Coming C))
      → Course from old course → AreSuch (IsNarrowHeardAt port a b) course n
      → n ≤ most_in (at_port old.buckets.ports port).narrow.limit a b

  -- of directed broadcasts that leave by a port it hears at most as many as the port's limit lets pass, if it
  -- has one
  abbrev pub IsDirectedRateBounded : Type 0
  IsDirectedRateBounded = (port from a b n : ℕ) (old : RateLimiterView C) (course : List (Coming C))
      (bucket : TokenBucket) → (at_port old.buckets.ports port).directed ≡ Some bucket
      → Course from old course → AreSuch (IsToLeaveBy port a b) course n → n ≤ most_in bucket.limit a b
