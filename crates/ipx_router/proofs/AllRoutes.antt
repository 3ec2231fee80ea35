-- All advertised routes: the networks of other ports, merged in order into the best offers.
use Rattle.std.proofs.Common.{◌≡◌, ℕ, ◌<◌, Bool, true, false, List, [], ◌∷◌, ◌++◌, length, cond, drop, get_or, map, Option, Some, None, refl, sym, ap, ◌∙◌, subst, inl, inr, arith}
use mathlib.Core.Bool.{true≢false}
use Rattle.std.specs.Prelude.{Contains, MatchBool, is_none, take_while, ◌==◌}
use Rattle.std.specs.List.{filter, prefix_len}
use Rattle.std.specs.declared.cmp.Ordering.TheVariants.{Less}
use Rattle.std.proofs.lemmas.List.{append_assoc, length-append}
use Rattle.std.proofs.lemmas.List.Elements.{Contains-get_or}
use Rattle.std.proofs.lemmas.List.Folds.{Any-from_list_any}
use Rattle.std.proofs.lemmas.List.Kept.{AllPairs-filter}
use borrow.Author.Tests.{eqb-true}
use Rattle.ipx_wire.specs.Assigned.{all_networks}
use Rattle.ipx_wire.specs.declared.address.Network.{Network}
use Rattle.ipx_control.specs.declared.rip.packet.RipEntry.{RipEntry}
use Rattle.ipx_tables.specs.declared.route.RouteMetric.{RouteMetric}
use Rattle.ipx_tables.specs.declared.source.Source.{Source}
use Rattle.ipx_tables.specs.Listing.{IsListing}
use Rattle.ipx_tables.specs.Route.{network_cmp, route_before}
use Rattle.ipx_tables.specs.Sorted.{IsRising}
use Rattle.ipx_router.specs.declared.port.Port.{Port}
use Rattle.ipx_router.specs.declared.port.PortNow.{PortNow}
use Rattle.ipx_router.specs.Knowledge.{Routes}
use Rattle.ipx_router.specs.RouteChoice.{direct_route}
use Rattle.ipx_router.specs.AdvertisedEntries.{AreAdvertisedRoutes, IsAdvertisedRoute, route_key, advertised_route}
use Rattle.ipx_router.specs.Placing.{AddsHeard, AreAdvertisedPorts, IsAdvertisedItem, is_below, is_elsewhere, is_advertised_item, is_advertised_port}
use Rattle.ipx_router.specs.Replying.{AreRoutesAsked, AreAdvertisedOf, asks_all}
use Rattle.ipx_router.specs.OutOfMemoryCases.{HasRouteToReply}
use Rattle.ipx_router.proofs.Members.{filter_has, filter_only, map_has, map_only, rising_map}
use Rattle.ipx_router.proofs.Merging.{merged, merged_has, merged_only, merged_rises}
use Rattle.ipx_router.proofs.AdvertisedRoutes.{OneBest, both, network_from, told_all}

abbrev pub no_route : RipEntry
no_route = record { network = record { 0 = 0 }; hops = 0; ticks = 0 }

pub longer : (xs ys : List RipEntry) → 0 < length ys → 0 < length (xs ++ ys)
longer xs ys some = omega (arith, length-append xs ys, some)

none_elsewhere : (o : Option ℕ) (number : ℕ) → is_none o ≡ true → is_elsewhere o number ≡ true → ⊥
none_elsewhere None number none there = true≢false (sym there)
none_elsewhere (Some place) number none there = true≢false (sym none)

module _ (ports : List Port) (at : PortNow) where
  abbrev told_of_item : Network × Source × RouteMetric → RipEntry
  told_of_item item = advertised_route item.0 item.2 at

  -- what is advertised of the best offers
  abbrev pub told_items : List (Network × Source × RouteMetric) → List RipEntry
  told_items items = map told_of_item (filter (is_advertised_item ports at) items)

  -- the entries so far, with what is advertised of the offers that the walk has left, are all
  abbrev pub AreLeft : List RipEntry → List (Network × Source × RouteMetric) → List RipEntry → List RipEntry → Type 0
  AreLeft own left all entries = entries ++ merged own (told_items left) ≡ all

  module _ (rest : List RipEntry) (item : Network × Source × RouteMetric) (later : List (Network × Source × RouteMetric)) (all entries : List RipEntry) (so_far : AreLeft rest (item ∷ later) all entries) where
    pub walk_pass : is_advertised_item ports at item ≡ false → AreLeft rest later all entries
    walk_pass passed = subst (λ (b : Bool). entries ++ merged rest (map told_of_item (cond b (item ∷ filter (is_advertised_item ports at) later) (filter (is_advertised_item ports at) later))) ≡ all) passed so_far

    abbrev low : List RipEntry
    low = take_while (is_below item.0) rest

    pub walk_told : is_advertised_item ports at item ≡ true → AreLeft (drop (prefix_len (is_below item.0) rest) rest) later all (entries ++ low ++ told_of_item item ∷ [])
    walk_told told =
        let behind = merged (drop (prefix_len (is_below item.0) rest) rest) (told_items later) in
        let e = told_of_item item in
        append_assoc (entries ++ low) (e ∷ []) behind ∙ append_assoc entries low (e ∷ behind)
        ∙ subst (λ (b : Bool). entries ++ merged rest (map told_of_item (cond b (item ∷ filter (is_advertised_item ports at) later) (filter (is_advertised_item ports at) later))) ≡ all) told so_far

  module _ (routes : Routes) (heard : List (Network × Source × RouteMetric)) (listing : IsListing network_cmp route_before routes at.now heard) (one : OneBest) (own : List RipEntry) (p : AreAdvertisedPorts ports at (length ports) own) where
    abbrev pub all_told : List RipEntry
    all_told = merged own (told_items heard)

    items_rise : IsRising network_cmp route_key (told_items heard)
    items_rise = rising_map told_of_item network_cmp route_key (filter (is_advertised_item ports at) heard) (AllPairs-filter (λ a b. network_cmp a.0 b.0 ≡ Less) (is_advertised_item ports at) heard listing.in_order)

    item_of : (x : RipEntry) → Contains (told_items heard) x → IsAdvertisedItem ports at heard x
    item_of x c =
        let from = map_only told_of_item (filter (is_advertised_item ports at) heard) x c in
        let kept = filter_only (is_advertised_item ports at) heard from.0 from.1 in
        (from.0, kept.0, kept.1, from.2)

    -- no network of a port is that of an advertised offer
    apart : (x y : RipEntry) → Contains own x → Contains (told_items heard) y → x.network.0 ≡ y.network.0 → ⊥
    apart x y c d same =
        let t = item_of y d in
        let named : x.network ≡ t.0.0 = network_from _ _ same ∙ ap route_key t.3 in
        let there : is_advertised_port ports at t.0.0 ≡ true = subst (λ (n : Network). is_advertised_port ports at n ≡ true) named (p.only x c).0 in
        none_elsewhere (direct_route ports t.0.0) at.number (both _ _ t.2).0 there

    adds : AddsHeard ports at heard (length heard) own all_told
    adds = record {
      in_order = merged_rises own (told_items heard) p.in_order items_rise apart;
      keeps = λ x c. merged_has own (told_items heard) x (inl c);
      only = λ x c. elim (merged_only own (told_items heard) x c) [ inl a ↦ inl a | inr b ↦ inr (item_of x b) ];
      all = λ k d lt test.
          let item = get_or heard k d in
          let there = Contains-get_or heard k d lt in
          let kept = filter_has (is_advertised_item ports at) heard item there.0 there.1 there.2 test in
          (told_of_item item, merged_has own (told_items heard) (told_of_item item) (inr (map_has told_of_item (filter (is_advertised_item ports at) heard) item kept)), refl);
    }

    pub all_are_told : AreAdvertisedRoutes ports routes at all_told
    all_are_told = told_all ports routes at heard listing one own all_told p adds

    -- if there are entries, some route is advertised
    pub some_are_told : 0 < length all_told → (t : RipEntry) × IsAdvertisedRoute ports routes at t
    some_are_told some = first all_told all_are_told some
      where
        first : (xs : List RipEntry) → AreAdvertisedRoutes ports routes at xs → 0 < length xs → (t : RipEntry) × IsAdvertisedRoute ports routes at t
        first [] are lt = absurd (omega arith)
        first (x ∷ xs) are lt = (x, (are.stands x).0 (0, omega arith, refl))

module _ (ports : List Port) (routes : Routes) (at : PortNow) (asked : List RipEntry) (all : asks_all asked ≡ true) where
  -- a request for all asks for everything that is advertised
  pub all_asked_for : (entries : List RipEntry) → AreAdvertisedRoutes ports routes at entries → AreRoutesAsked ports routes at asked entries
  all_asked_for entries are = subst (λ (b : Bool). MatchBool b (AreAdvertisedRoutes ports routes at entries) (AreAdvertisedOf (IsAdvertisedRoute ports routes at) asked entries)) (sym all) are

  pub some_asked_for : (t : RipEntry) × IsAdvertisedRoute ports routes at t → HasRouteToReply ports routes at asked
  some_asked_for t =
      let w = Any-from_list_any (λ (e : RipEntry). e.network.0 == all_networks) asked all in
      (w.1, t.0, (w.0, w.2, w.3), t.1, inl (eqb-true _ _ w.4))
