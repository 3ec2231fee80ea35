-- The nearest advertised service, by a walk over the best offers.
use Rattle.std.proofs.Common.{◌≡◌, ℕ, Bool, true, false, cond, not, List, [], ◌∷◌, ◌++◌, Option, Some, None, map, refl, sym, ap, subst}
use Rattle.std.specs.Prelude.{Contains, IfNone, IfSome, MatchOption, ◌==◌, ◌&&◌}
use Rattle.std.specs.List.{filter}
use Rattle.ipx_control.specs.declared.sap.packet.ServiceEntry.{ServiceEntry}
use Rattle.ipx_tables.specs.declared.service.ServiceKey.{ServiceKey}
use Rattle.ipx_tables.specs.declared.service.ServiceMetric.{ServiceMetric}
use Rattle.ipx_tables.specs.declared.source.Source.{Source}
use Rattle.ipx_tables.specs.Best.{IsBest}
use Rattle.ipx_tables.specs.Listing.{IsListing}
use Rattle.ipx_tables.specs.Service.{service_before, service_key_cmp}
use Rattle.ipx_router.specs.declared.port.PortNow.{PortNow}
use Rattle.ipx_router.specs.Knowledge.{Services}
use Rattle.ipx_router.specs.AdvertisedEntries.{IsAdvertisedService, advertised_service}
use Rattle.ipx_router.specs.Replying.{IsNearest, NoneIsNear, is_near}
use Rattle.ipx_router.specs.Picking.{is_item_asked, nearer}
use Rattle.ipx_router.proofs.Nearest.{nearest_more, nearest_skip}
use Rattle.ipx_router.proofs.AdvertisedRoutes.{both}
use Rattle.ipx_router.proofs.AdvertisedServices.{told_services_all}

module _ (at : PortNow) where
  abbrev by_other_port : ServiceKey × Source × ServiceMetric → Bool
  by_other_port item = not (item.1.port == at.number)

  -- what is advertised of the items
  abbrev told_of : List (ServiceKey × Source × ServiceMetric) → List ServiceEntry
  told_of items = map advertised_service (filter by_other_port items)

  told_push : (items : List (ServiceKey × Source × ServiceMetric)) (item : ServiceKey × Source × ServiceMetric) → by_other_port item ≡ true → told_of (items ++ item ∷ []) ≡ told_of items ++ advertised_service item ∷ []
  told_push [] item e = ap (λ b. map advertised_service (cond b (item ∷ []) [])) e
  told_push (x ∷ xs) item e = elim (by_other_port x) as (λ b. map advertised_service (cond b (x ∷ filter by_other_port (xs ++ item ∷ [])) (filter by_other_port (xs ++ item ∷ []))) ≡ map advertised_service (cond b (x ∷ filter by_other_port xs) (filter by_other_port xs)) ++ advertised_service item ∷ []) [
    | true ↦ ap (λ l. advertised_service x ∷ l) (told_push xs item e)
    | false ↦ told_push xs item e
  ]

  told_pass : (items : List (ServiceKey × Source × ServiceMetric)) (item : ServiceKey × Source × ServiceMetric) → by_other_port item ≡ false → told_of (items ++ item ∷ []) ≡ told_of items
  told_pass [] item e = ap (λ b. map advertised_service (cond b (item ∷ []) [])) e
  told_pass (x ∷ xs) item e = elim (by_other_port x) as (λ b. map advertised_service (cond b (x ∷ filter by_other_port (xs ++ item ∷ [])) (filter by_other_port (xs ++ item ∷ []))) ≡ map advertised_service (cond b (x ∷ filter by_other_port xs) (filter by_other_port xs))) [
    | true ↦ ap (λ l. advertised_service x ∷ l) (told_pass xs item e)
    | false ↦ told_pass xs item e
  ]

  module _ (kind : ℕ) where
    -- it is the nearest of what is advertised of the items, or none is near
    abbrev pub IsNearestOf : List (ServiceKey × Source × ServiceMetric) → Option ServiceEntry → Type 0
    IsNearestOf items o = MatchOption o (NoneIsNear (Contains (told_of items)) kind) (IsNearest (Contains (told_of items)) kind)

    module _ (held : Option ServiceEntry) (items : List (ServiceKey × Source × ServiceMetric)) (item : ServiceKey × Source × ServiceMetric) (so_far : IsNearestOf items held) where
      -- an item that is near may be the nearest
      pub walk_near : is_item_asked at true kind item ≡ true → IsNearestOf (items ++ item ∷ []) (Some (nearer held (advertised_service item)))
      walk_near asked =
          let parts = both _ _ asked in
          subst (λ (es : List ServiceEntry). IsNearest (Contains es) kind (nearer held (advertised_service item))) (sym (told_push items item parts.0)) (nearest_more held (told_of items) kind (advertised_service item) so_far parts.1)

      -- an item that is not advertised, or not near, is skipped
      pub walk_far : is_item_asked at true kind item ≡ false → IsNearestOf (items ++ item ∷ []) held
      walk_far asked = elim (by_other_port item) as (λ b. by_other_port item ≡ b → (b && is_near kind (advertised_service item)) ≡ false → IsNearestOf (items ++ item ∷ []) held) [
        | true ↦ λ e far. subst (λ (es : List ServiceEntry). MatchOption held (NoneIsNear (Contains es) kind) (IsNearest (Contains es) kind)) (sym (told_push items item e)) (nearest_skip held (told_of items) kind (advertised_service item) so_far far)
        | false ↦ λ e far. subst (λ (es : List ServiceEntry). MatchOption held (NoneIsNear (Contains es) kind) (IsNearest (Contains es) kind)) (sym (told_pass items item e)) so_far
      ] refl asked

    -- the whole walk gives the nearest of what is advertised
    module _ (services : Services) (heard : List (ServiceKey × Source × ServiceMetric)) (listing : IsListing service_key_cmp service_before services at.now heard)
        (one : (c : Services) (key : ServiceKey) (now : ℕ) (a b : Source × ServiceMetric) → IsBest service_before c key now a → IsBest service_before c key now b → a ≡ b) where
      pub walked_nearest : (o : Option ServiceEntry) → IsNearestOf heard o → IfSome o (IsNearest (IsAdvertisedService services at) kind) × IfNone o (NoneIsNear (IsAdvertisedService services at) kind)
      walked_nearest None none =
          let all = told_services_all services at heard listing one in
          (tt, λ x told. none x ((all.stands x).1 told))
      walked_nearest (Some e) n =
          let all = told_services_all services at heard listing one in
          (record { told = (all.stands e).0 n.told; near = n.near; least = λ x told near. n.least x ((all.stands x).1 told) near }, tt)
