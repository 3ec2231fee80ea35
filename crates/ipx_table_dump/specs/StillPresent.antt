-- The offers of a table that count at a time, and the best of them. Defined by this project.
use Rattle.std.specs.Prelude.{◌≡◌, ℕ, Bool, List, filter}
use Rattle.std.specs.List.{list_any}
use Rattle.std.specs.declared.cmp.Ordering.{Ordering}
use Rattle.ipx_tables.specs.declared.source.Source.{Source}
use Rattle.ipx_tables.specs.declared.offer.Offer.{Offer}
use Rattle.ipx_tables.specs.Content.{Content, is_same, is_young, pair_of}
use Rattle.ipx_tables.specs.Inventory.{IsInventory}

-- each offer that counts at this time appears once, by key and then by source
pub record ArePresent {K M : Type 0} (cmp : K → K → Ordering) (c : Content K M) (now : ℕ)
    (offers : List (Offer K M)) : Type 0 where
  pub all : List (Offer K M)
  pub inventory : IsInventory cmp c all
  pub counting : offers ≡ filter (λ o. is_young now o.heard) all

-- an offer is one of those that are listed as the best of their keys
abbrev pub is_among_best : {K M : Type 0} → (K → K → Ordering) → List (K × Source × M) → Offer K M
    → Bool
is_among_best cmp bests o = list_any (λ b. is_same cmp (b.0, b.1) (pair_of o)) bests
