-- The neighbours whose offers count, and how many each has. Defined by this project.
use Rattle.std.specs.Prelude.{◌≡◌, ℕ, ◌+◌, ◌&&◌, Bool, List, [], ◌∷◌, Option, Some, None, count_by, filter, if◌then◌else◌, map, max, not}
use Rattle.std.specs.BTreeMap.{is_at}
use Rattle.std.specs.List.{list_any}
use Rattle.std.specs.List.Sorted.{IsStrictlySortedBy}
use Rattle.std.specs.Map.{keys_of, lookup}
use Rattle.std.specs.Ordering.{is_eq}
use Rattle.ipx_tables.specs.declared.source.Source.{Source}
use Rattle.ipx_tables.specs.declared.offer.Offer.{Offer}
use Rattle.ipx_tables.specs.Content.{source_cmp}
use Rattle.ipx_table_dump.specs.declared.advertisements.Advertisement.{Advertisement}
use Rattle.ipx_table_dump.specs.declared.advertisers.Advertiser.{Advertiser}

-- the advertisements that offers come from: of a network, or of a service
abbrev pub advertisements : {K M : Type 0} → Bool → List (Offer K M) → List Advertisement
advertisements of_network offers =
    map (λ o. record { source = o.source; heard = o.heard; of_network = of_network }) offers

-- a neighbour sent it
abbrev pub is_advertisement_of : Source → Advertisement → Bool
is_advertisement_of s saying = is_eq (source_cmp saying.source s)

-- the latest time, or 0 if there is none
abbrev pub latest : List Advertisement → ℕ
latest [] = 0
latest (saying ∷ said) = max saying.heard (latest said)

-- the counts of a neighbour: how many networks and services, and when the last of them was heard
abbrev pub advertised_by : List Advertisement → Source → Advertiser
advertised_by said s = record {
  networks = count_by (λ a. is_advertisement_of s a && a.of_network) said;
  services = count_by (λ a. is_advertisement_of s a && not a.of_network) said;
  heard = latest (filter (is_advertisement_of s) said);
}

-- no advertisements
abbrev pub nothing_advertised : Advertiser
nothing_advertised = record { networks = 0; services = 0; heard = 0 }

-- the counts of a neighbour after one more advertisement
abbrev pub with_advertisement : Advertiser → Advertisement → Advertiser
with_advertisement t a = record {
  networks = if a.of_network then t.networks + 1 else t.networks;
  services = if a.of_network then t.services else t.services + 1;
  heard = max t.heard a.heard;
}

-- the counts of a neighbour, or None if it has no advertisement
abbrev pub advertiser_of : List Advertisement → Source → Option Advertiser
advertiser_of said s = if list_any (is_advertisement_of s) said then Some (advertised_by said s) else None

-- each neighbour with an advertisement appears once, by port and node, with its counts
pub record AreAdvertisers (said : List Advertisement) (listed : List (Source × Advertiser)) : Type 0 where
  pub in_order : IsStrictlySortedBy source_cmp (keys_of listed)
  pub each : (s : Source) → lookup (is_at (source_cmp s)) listed ≡ advertiser_of said s
