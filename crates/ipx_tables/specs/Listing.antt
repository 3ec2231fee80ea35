-- The best offer of each key, by key.
use Rattle.std.specs.Prelude.{ℕ, Bool, List}
use Rattle.std.specs.List.{All}
use Rattle.std.specs.declared.cmp.Ordering.{Ordering}
use Rattle.ipx_tables.specs.declared.source.Source.{Source}
use Rattle.ipx_tables.specs.Content.{Content}
use Rattle.ipx_tables.specs.Best.{IsBest}
use Rattle.ipx_tables.specs.Sorted.{IsRising, IsAtKey}

-- the key of an item of a listing
abbrev pub listed_key : {K M : Type 0} → K × Source × M → K
listed_key item = item.0

-- each key that has a best offer is listed once, in the order of the keys, with that offer
pub record IsListing {K M : Type 0} (cmp : K → K → Ordering) (before : M → M → Bool)
    (c : Content K M) (now : ℕ) (listed : List (K × Source × M)) : Type 0 where
  pub in_order : IsRising cmp listed_key listed
  pub are_best : All (λ item. IsBest before c item.0 now (item.1, item.2)) listed
  pub no_other : (key : K) (best : Source × M) → IsBest before c key now best
      → (i : ℕ) × IsAtKey cmp listed_key listed key i
