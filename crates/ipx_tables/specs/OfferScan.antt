-- Definitions for the private functions that read offers.
use Rattle.std.specs.Prelude.{◌≡◌, ℕ, ◌<◌, Bool, true, cond, ◌&&◌, List, [], ◌∷◌, Option, Some, None, length, slice_index_or}
use Rattle.std.specs.declared.cmp.Ordering.{Ordering}
use Rattle.std.specs.Ordering.{is_eq}
use Rattle.ipx_tables.specs.declared.source.Source.{Source}
use Rattle.ipx_tables.specs.declared.offer.Offer.{Offer}
use Rattle.ipx_tables.specs.Content.{is_young, pair_of}
use Rattle.ipx_tables.specs.Best.{is_better}

-- the offer at index i is of this key and source
pub record IsAt {K M : Type 0} (same : K × Source → K × Source → Bool)
    (os : List (Offer K M)) (p : K × Source) (i : ℕ) : Type 0 where
  pub in_range : i < length os
  pub here : (d : Offer K M) → same (pair_of (slice_index_or os i d)) p ≡ true

-- a valid offer of the key
abbrev pub is_candidate : {K M : Type 0} → (K → K → Ordering) → K → ℕ → Offer K M → Bool
is_candidate cmp key now o = is_eq (cmp o.key key) && is_young now o.heard

-- the source and metric of an offer
abbrev pub source_and_metric : {K M : Type 0} → Offer K M → Source × M
source_and_metric o = (o.source, o.metric)

-- the first of two offers of a key is better
abbrev pub offer_beats : {K M : Type 0} → (M → M → Bool) → Offer K M → Offer K M → Bool
offer_beats before a b = is_better before (source_and_metric a) (source_and_metric b)

-- the better of an item and the held one, if there is one
abbrev pub better_of : {X : Type 0} → (X → X → Bool) → Option X → X → X
better_of beats None a = a
better_of beats (Some b) a = cond (beats a b) a b

-- the best of those that pass a test, starting with one or none
module _ {X : Type 0} (test : X → Bool) (beats : X → X → Bool) where
  abbrev pub best_from : Option X → List X → Option X
  best_from best [] = best
  best_from best (x ∷ xs) = best_from (cond (test x) (Some (better_of beats best x)) best) xs
