-- Each offer that a table holds.
use Rattle.std.specs.Prelude.{◌≡◌, ℕ, List, Some}
use Rattle.std.specs.List.{All}
use Rattle.std.specs.declared.cmp.Ordering.{Ordering}
use Rattle.ipx_tables.specs.declared.source.Source.{Source}
use Rattle.ipx_tables.specs.declared.offer.Offer.{Offer}
use Rattle.ipx_tables.specs.Content.{Content, pair_cmp, pair_of, said_of}
use Rattle.ipx_tables.specs.Sorted.{IsRising, IsAtKey}

-- each offer is listed once, also old ones, by key and then by source
pub record IsInventory {K M : Type 0} (cmp : K → K → Ordering) (c : Content K M)
    (offers : List (Offer K M)) : Type 0 where
  pub in_order : IsRising (pair_cmp cmp) pair_of offers
  pub as_said : All (λ o. c (pair_of o) ≡ Some (said_of o)) offers
  pub no_other : (p : K × Source) (said : M × ℕ) → c p ≡ Some said
      → (i : ℕ) × IsAtKey (pair_cmp cmp) pair_of offers p i
