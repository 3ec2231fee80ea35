-- Definitions for private functions: the walk over the best offer of each key.
use Rattle.std.specs.Prelude.{◌≡◌, ℕ, ◌+◌, ◌<◌, Bool, true, false, cond, List, [], ◌∷◌, length, slice_index_or}
use Rattle.std.specs.declared.cmp.Ordering.{Ordering}
use Rattle.std.specs.Ordering.{is_eq}
use Rattle.ipx_tables.specs.declared.source.Source.{Source}
use Rattle.ipx_tables.specs.declared.offer.Offer.{Offer}
use Rattle.ipx_tables.specs.Content.{is_young}
use Rattle.ipx_tables.specs.Best.{is_better}

-- an offer as an item of a listing
abbrev pub item_of : {K M : Type 0} → Offer K M → K × Source × M
item_of o = (o.key, o.source, o.metric)

module _ {K M : Type 0} (cmp : K → K → Ordering) (before : M → M → Bool) where
  -- the first item is the better one
  abbrev pub item_beats : K × Source × M → K × Source × M → Bool
  item_beats a b = is_better before (a.1, a.2) (b.1, b.2)

  -- an item goes before those of higher keys; of two items with one key only the better one stays
  abbrev pub put_first : K × Source × M → List (K × Source × M) → List (K × Source × M)
  put_first a [] = a ∷ []
  put_first a (b ∷ bs) = cond (is_eq (cmp a.0 b.0)) (cond (item_beats b a) (b ∷ bs) (a ∷ bs))
      (a ∷ b ∷ bs)

  -- the best valid offer of each key that has one, if the keys do not fall
  abbrev pub bests_of : ℕ → List (Offer K M) → List (K × Source × M)
  bests_of now [] = []
  bests_of now (o ∷ os) = cond (is_young now o.heard) (put_first (item_of o) (bests_of now os))
      (bests_of now os)

-- the offer at an index is valid, and the next one has another key
pub record IsLone {K M : Type 0} (cmp : K → K → Ordering) (now : ℕ) (os : List (Offer K M))
    (at : ℕ) : Type 0 where
  pub in_range : at < length os
  pub young : (d : Offer K M) → is_young now (slice_index_or os at d).heard ≡ true
  pub last : (d : Offer K M) → at + 1 < length os
      → is_eq (cmp (slice_index_or os at d).key (slice_index_or os (at + 1) d).key) ≡ false
