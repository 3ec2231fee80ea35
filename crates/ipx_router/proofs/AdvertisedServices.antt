-- The advertised services, from the list of the best offers.
use Rattle.std.proofs.Common.{◌≡◌, ℕ, Bool, true, false, not, List, get_or, map, sym, ap, ◌∙◌, subst}
use borrow.Author.Tests.{eqb-false}
use Rattle.std.specs.Prelude.{Contains, ◌==◌, ◌&&◌}
use Rattle.std.specs.List.{filter}
use Rattle.std.specs.declared.cmp.Ordering.TheVariants.{Less}
use Rattle.std.proofs.lemmas.Bool.{not-true}
use Rattle.std.proofs.lemmas.List.Elements.{All-contains, Contains-get_or}
use Rattle.std.proofs.lemmas.List.Kept.{AllPairs-filter}
use Rattle.ipx_control.specs.declared.sap.packet.ServiceEntry.{ServiceEntry}
use Rattle.ipx_tables.specs.declared.service.ServiceKey.{ServiceKey}
use Rattle.ipx_tables.specs.declared.service.ServiceMetric.{ServiceMetric}
use Rattle.ipx_tables.specs.declared.source.Source.{Source}
use Rattle.ipx_tables.specs.Best.{IsBest}
use Rattle.ipx_tables.specs.Listing.{IsListing}
use Rattle.ipx_tables.specs.Service.{service_before, service_key_cmp, service_key_exact}
use Rattle.ipx_router.specs.declared.port.PortNow.{PortNow}
use Rattle.ipx_router.specs.Knowledge.{Services}
use Rattle.ipx_router.specs.AdvertisedEntries.{AreAdvertisedServices, IsAdvertisedService, key_of_service, advertised_service}
use Rattle.ipx_router.specs.Picking.{is_item_asked}
use Rattle.ipx_router.specs.OutOfMemoryCases.{HasToReply}
use Rattle.ipx_router.proofs.Members.{rising_map, map_has, map_only, filter_has, filter_only}
use Rattle.ipx_router.proofs.AdvertisedRoutes.{both, not_itself}

and_false : (a b : Bool) → a ≡ true → (a && b) ≡ false → b ≡ false
and_false true b p e = e
and_false false b p e = cc

Item : Type 0
Item = ServiceKey × Source × ServiceMetric

module _ (services : Services) (at : PortNow) (heard : List (ServiceKey × Source × ServiceMetric)) (listing : IsListing service_key_cmp service_before services at.now heard)
    (one : (c : Services) (key : ServiceKey) (now : ℕ) (a b : Source × ServiceMetric) → IsBest service_before c key now a → IsBest service_before c key now b → a ≡ b) where
  abbrev comes_elsewhere : ServiceKey × Source × ServiceMetric → Bool
  comes_elsewhere item = not (item.1.port == at.number)

  abbrev told : List ServiceEntry
  told = map advertised_service (filter comes_elsewhere heard)

  told_is : (x : ServiceEntry) → Contains told x → IsAdvertisedService services at x
  told_is x c =
      let from = map_only advertised_service (filter comes_elsewhere heard) x c in
      let item = from.0 in
      let kept = filter_only comes_elsewhere heard item from.1 in
      let best = All-contains (λ (i : ServiceKey × Source × ServiceMetric). IsBest service_before services i.0 at.now (i.1, i.2)) heard item listing.are_best kept.0 in
      let named : key_of_service x ≡ item.0 = ap key_of_service from.2 in
      record {
        best = (item.1, item.2);
        heard = subst (λ (k : ServiceKey). IsBest service_before services k at.now (item.1, item.2)) (sym named) best;
        elsewhere = eqb-false _ _ (not-true _ kept.1);
        is = from.2 ∙ ap (λ (k : ServiceKey). advertised_service (k, item.1, item.2)) (sym named);
      }

  told_has : (x : ServiceEntry) → IsAdvertisedService services at x → Contains told x
  told_has x t =
      let there = listing.no_other (key_of_service x) t.best t.heard in
      let d : ServiceKey × Source × ServiceMetric = (key_of_service x, t.best.0, t.best.1) in
      let item = get_or heard there.0 d in
      let named : item.0 ≡ key_of_service x = service_key_exact _ _ (there.1.ties d) in
      let of_item = listing.are_best there.0 d there.1.in_range in
      let same : (item.1, item.2) ≡ t.best = one services (key_of_service x) at.now (item.1, item.2) t.best (subst (λ (k : ServiceKey). IsBest service_before services k at.now (item.1, item.2)) named of_item) t.heard in
      let other : comes_elsewhere item ≡ true = not_itself item.1.port at.number (λ e. t.elsewhere (sym (ap (λ (b : Source × ServiceMetric). b.0.port) same) ∙ e)) in
      let place = Contains-get_or heard there.0 d there.1.in_range in
      let says : advertised_service item ≡ x = ap (λ (k : ServiceKey). advertised_service (k, item.1, item.2)) named ∙ ap (λ (b : Source × ServiceMetric). advertised_service (key_of_service x, b.0, b.1)) same ∙ sym t.is in
      subst (Contains told) says (map_has advertised_service (filter comes_elsewhere heard) item (filter_has comes_elsewhere heard item place.0 place.1 place.2 other))

  pub told_services_all : AreAdvertisedServices services at told
  told_services_all = record {
    in_order = rising_map advertised_service service_key_cmp key_of_service (filter comes_elsewhere heard) (AllPairs-filter (λ a b. service_key_cmp a.0 b.0 ≡ Less) comes_elsewhere heard listing.in_order);
    stands = λ x. (told_is x, told_has x);
  }

  -- ---- whether one of them is asked for

  module _ (nearest : Bool) (kind : ℕ) where
    abbrev test : ServiceKey × Source × ServiceMetric → Bool
    test = is_item_asked at nearest kind

    -- an item that is asked for is advertised
    pub item_replied : (item : ServiceKey × Source × ServiceMetric) → Contains heard item → test item ≡ true → HasToReply services at nearest kind
    item_replied item c e =
        let parts = both _ _ e in
        let there : Contains told (advertised_service item) = map_has advertised_service (filter comes_elsewhere heard) item (filter_has comes_elsewhere heard item c.0 c.1 c.2 parts.0) in
        (advertised_service item, told_is (advertised_service item) there, parts.1)
