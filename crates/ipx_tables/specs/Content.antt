-- What a table of offers says, and how learning and ageing change it. A router keeps what each neighbour
-- advertised last, and removes it if it is not advertised again for some time (Novell IPX Router
-- Specification, RIP and SAP). That this time is three minutes is defined by this project.
use Rattle.std.specs.Prelude.{◌≡◌, ℕ, ◌-◌, ◌≤◌, Bool, cond, nat_lt, List, [], ◌∷◌, Option, Some, None, length}
use Rattle.std.specs.declared.cmp.Ordering.{Ordering}
use Rattle.std.specs.Ordering.{ordering_then, is_eq, nat_cmp, then_cmp, on}
use Rattle.std.specs.Cmp.Lexicographic.{slice_cmp}
use Rattle.ipx_tables.specs.declared.source.Source.{Source}
use Rattle.ipx_tables.specs.declared.offer.Offer.{Offer}

-- a table: how many offers it may hold, and those that it holds, in any order
pub record Table (K M : Type 0) : Type 0 where
  pub capacity : ℕ
  pub offers : List (Offer K M)

-- a finite map from key and source to metric and time
abbrev pub Content : Type 0 → Type 0 → Type 0
Content K M = K × Source → Option (M × ℕ)

-- by port, and then by the bytes of the neighbour
abbrev pub source_cmp : Source → Source → Ordering
source_cmp = then_cmp (on (λ s. s.port) nat_cmp) (on (λ s. s.neighbour.0) (slice_cmp nat_cmp))

-- the age is under three minutes; the age at a time before it was learned is 0
abbrev pub is_young : ℕ → ℕ → Bool
is_young now moment = nat_lt (now - moment) 180000

-- what is left of an offer at a time: nothing if it is old
abbrev pub still : {M : Type 0} → ℕ → Option (M × ℕ) → Option (M × ℕ)
still now None = None
still now (Some v) = cond (is_young now v.1) (Some v) None

-- the key and source of an offer
abbrev pub pair_of : {K M : Type 0} → Offer K M → K × Source
pair_of o = (o.key, o.source)

-- what an offer says: a metric, and when it was learned
abbrev pub said_of : {K M : Type 0} → Offer K M → M × ℕ
said_of o = (o.metric, o.heard)

-- a value of the first offer of a key and source, with a test for which of these are the same
abbrev pub found : {K M B : Type 0} → (K × Source → K × Source → Bool) → (Offer K M → B)
    → List (Offer K M) → K × Source → Option B
found same told [] p = None
found same told (o ∷ os) p = cond (same (pair_of o) p) (Some (told o)) (found same told os p)

-- no two offers have one key and source
abbrev pub HasDistinctKeys : {K M : Type 0} → (K × Source → K × Source → Bool) → List (Offer K M) → Type 0
HasDistinctKeys same [] = Unit {0}
HasDistinctKeys same (o ∷ os) = (found same said_of os (pair_of o) ≡ None) × HasDistinctKeys same os

module _ {K : Type 0} (cmp : K → K → Ordering) where
  -- by key, and then by source
  abbrev pub pair_cmp : K × Source → K × Source → Ordering
  pair_cmp p q = ordering_then (cmp p.0 q.0) (source_cmp p.1 q.1)

  -- the same key and source
  abbrev pub is_same : K × Source → K × Source → Bool
  is_same p q = is_eq (pair_cmp p q)

  -- what a list of offers says
  abbrev pub content : {M : Type 0} → List (Offer K M) → Content K M
  content os = found is_same said_of os

  -- the key of an offer as it was learned last: keys may differ and still compare as equal
  abbrev pub heard_key : {M : Type 0} → List (Offer K M) → K × Source → Option K
  heard_key os = found is_same (λ o. o.key) os

  -- the content after an offer was learned
  abbrev pub after_hear : {M : Type 0} → (M → Bool) → Content K M → K × Source → M → ℕ → Content K M
  after_hear dead c p metric now q =
      cond (is_same p q) (cond (dead metric) None (Some (metric, now))) (c q)

  -- the keys after an offer was learned
  abbrev pub keys_after_hear : {M : Type 0} → (M → Bool) → (K × Source → Option K) → K × Source → M
      → K × Source → Option K
  keys_after_hear dead keys p metric q =
      cond (is_same p q) (cond (dead metric) None (Some p.0)) (keys q)

  -- no key and source is listed twice, and there are at most `capacity` offers
  pub record IsTable {M : Type 0} (t : Table K M) : Type 0 where
    pub apart : HasDistinctKeys is_same t.offers
    pub within : length t.offers ≤ t.capacity

-- the content after old offers were removed
abbrev pub after_age : {K M : Type 0} → Content K M → ℕ → Content K M
after_age c now q = still now (c q)
