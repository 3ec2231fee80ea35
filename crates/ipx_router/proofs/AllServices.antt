-- All advertised services of a kind.
use Rattle.std.proofs.Common.{◌≡◌, ℕ, ◌<◌, Bool, true, false, List, [], ◌∷◌, ◌++◌, length, cond, map, not, refl, ap, ◌∙◌, subst, arith}
use Rattle.std.specs.Prelude.{◌==◌, ◌&&◌}
use Rattle.std.specs.List.{filter}
use Rattle.std.proofs.lemmas.List.{append_assoc}
use Rattle.ipx_control.specs.declared.sap.packet.ServiceEntry.{ServiceEntry}
use Rattle.ipx_tables.specs.declared.service.ServiceKey.{ServiceKey}
use Rattle.ipx_tables.specs.declared.service.ServiceMetric.{ServiceMetric}
use Rattle.ipx_tables.specs.declared.source.Source.{Source}
use Rattle.ipx_tables.specs.Best.{IsBest}
use Rattle.ipx_tables.specs.Listing.{IsListing}
use Rattle.ipx_tables.specs.Service.{service_before, service_key_cmp}
use Rattle.ipx_router.specs.declared.port.PortNow.{PortNow}
use Rattle.ipx_router.specs.Knowledge.{Services}
use Rattle.ipx_router.specs.AdvertisedEntries.{advertised_service}
use Rattle.ipx_router.specs.Replying.{AreServicesAsked, is_of_kind}
use Rattle.ipx_router.specs.Picking.{is_item_asked}
use Rattle.ipx_router.specs.OutOfMemoryCases.{HasToReply}
use Rattle.ipx_router.proofs.Picked.{services_picked}
use Rattle.ipx_router.proofs.AdvertisedServices.{told_services_all}

module _ (at : PortNow) (kind : ℕ) where
  abbrev asked : ServiceKey × Source × ServiceMetric → Bool
  asked = is_item_asked at false kind

  -- what is advertised of the best offers that are asked for
  abbrev pub asked_items : List (ServiceKey × Source × ServiceMetric) → List ServiceEntry
  asked_items items = map advertised_service (filter asked items)

  -- the entries so far, with what is advertised of the offers that the walk has left, are all
  abbrev pub AreLeft : List (ServiceKey × Source × ServiceMetric) → List ServiceEntry → List ServiceEntry → Type 0
  AreLeft left all entries = entries ++ asked_items left ≡ all

  module _ (item : ServiceKey × Source × ServiceMetric) (later : List (ServiceKey × Source × ServiceMetric)) (all entries : List ServiceEntry) (so_far : AreLeft (item ∷ later) all entries) where
    abbrev With : Bool → Type 0
    With b = entries ++ map advertised_service (cond b (item ∷ filter asked later) (filter asked later)) ≡ all

    pub walk_pass : is_item_asked at false kind item ≡ false → AreLeft later all entries
    walk_pass passed = subst With passed so_far

    pub walk_asked : is_item_asked at false kind item ≡ true → AreLeft later all (entries ++ advertised_service item ∷ [])
    walk_asked told = append_assoc entries (advertised_service item ∷ []) (asked_items later) ∙ subst With told so_far

  abbrev by_other_port : ServiceKey × Source × ServiceMetric → Bool
  by_other_port item = not (item.1.port == at.number)

  -- they are those of the kind among what is advertised of all best offers
  of_kind : (items : List (ServiceKey × Source × ServiceMetric)) → filter (is_of_kind kind) (map advertised_service (filter by_other_port items)) ≡ asked_items items
  of_kind [] = refl
  of_kind (item ∷ items) = by (by_other_port item) (is_of_kind kind (advertised_service item)) refl (of_kind items)
    where
      by : (a b : Bool) → is_of_kind kind (advertised_service item) ≡ b → filter (is_of_kind kind) (map advertised_service (filter by_other_port items)) ≡ asked_items items
          → filter (is_of_kind kind) (map advertised_service (cond a (item ∷ filter by_other_port items) (filter by_other_port items))) ≡ map advertised_service (cond (a && b) (item ∷ filter asked items) (filter asked items))
      by true true e rest = ap (λ t. cond t (advertised_service item ∷ filter (is_of_kind kind) (map advertised_service (filter by_other_port items))) (filter (is_of_kind kind) (map advertised_service (filter by_other_port items)))) e ∙ ap (λ l. advertised_service item ∷ l) rest
      by true false e rest = ap (λ t. cond t (advertised_service item ∷ filter (is_of_kind kind) (map advertised_service (filter by_other_port items))) (filter (is_of_kind kind) (map advertised_service (filter by_other_port items)))) e ∙ rest
      by false true e rest = rest
      by false false e rest = rest

  module _ (services : Services) (heard : List (ServiceKey × Source × ServiceMetric)) (listing : IsListing service_key_cmp service_before services at.now heard)
      (one : (c : Services) (key : ServiceKey) (now : ℕ) (a b : Source × ServiceMetric) → IsBest service_before c key now a → IsBest service_before c key now b → a ≡ b) where
    pub all_asked : AreServicesAsked services at false kind (asked_items heard)
    all_asked =
        subst (AreServicesAsked services at false kind) (of_kind heard)
        (services_picked services at (map advertised_service (filter by_other_port heard)) (told_services_all services at heard listing one) kind)

    -- if there are entries, some service is to be sent
    pub some_asked : 0 < length (asked_items heard) → HasToReply services at false kind
    some_asked some = first (asked_items heard) all_asked some
      where
        first : (es : List ServiceEntry) → AreServicesAsked services at false kind es → 0 < length es → HasToReply services at false kind
        first [] are lt = absurd (omega arith)
        first (e ∷ es) are lt = let f = (are.stands e).0 (0, omega arith, refl) in (e, f.0, f.1)
