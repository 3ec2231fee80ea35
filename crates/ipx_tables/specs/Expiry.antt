-- Definitions for private functions: until when offers are valid.
use Rattle.std.specs.Prelude.{◌≡◌, ℕ, ◌+◌, ◌≤◌, ◌<◌, List, length, slice_index_or}
use Rattle.std.specs.List.{All}
use Rattle.ipx_tables.specs.declared.offer.Offer.{Offer}

-- each offer is valid at every time before this one
abbrev pub NoneOldBefore : {K M : Type 0} → ℕ → List (Offer K M) → Type 0
NoneOldBefore moment offers = All (λ o. moment ≤ o.heard + 180000) offers

-- the offer at index i was learned at this time, and none was learned earlier
pub record IsOldest {K M : Type 0} (os : List (Offer K M)) (i moment : ℕ) : Type 0 where
  pub in_range : i < length os
  pub heard : (d : Offer K M) → (slice_index_or os i d).heard ≡ moment
  pub first : All (λ o. moment ≤ o.heard) os
