-- What is taken back at a port is what was advertised there.
use Rattle.std.proofs.Common.{◌≡◌, ◌⊎◌, ℕ, ◌+◌, Bool, true, false, not, nat_eq, List, [], get_or, map, Option, Some, None, refl, sym, ap, ◌∙◌, subst, inl, inr, arith}
use borrow.Author.Tests.{eqb-true, eqb-false}
use Rattle.std.proofs.lemmas.Bool.{not-true, not_from_false}
use Rattle.std.proofs.lemmas.Bool.Decides.{eqb_tells}
use Rattle.std.proofs.lemmas.List.Elements.{All-contains, Contains-get_or}
use Rattle.std.proofs.lemmas.List.Quantifiers.{position-Some}
use Rattle.std.specs.Prelude.{Contains, is_none, MatchOption, ◌==◌, ◌&&◌}
use Rattle.std.specs.List.{filter}
use Rattle.ipx_wire.specs.declared.address.Network.{Network}
use Rattle.ipx_control.specs.declared.rip.packet.RipEntry.{RipEntry}
use Rattle.ipx_control.specs.declared.sap.packet.ServiceEntry.{ServiceEntry}
use Rattle.ipx_tables.specs.declared.route.RouteMetric.{RouteMetric}
use Rattle.ipx_tables.specs.declared.service.ServiceKey.{ServiceKey}
use Rattle.ipx_tables.specs.declared.service.ServiceMetric.{ServiceMetric}
use Rattle.ipx_tables.specs.declared.source.Source.{Source}
use Rattle.ipx_tables.specs.Best.{IsBest}
use Rattle.ipx_tables.specs.Listing.{IsListing}
use Rattle.ipx_tables.specs.Route.{network_cmp, network_exact, route_before}
use Rattle.ipx_tables.specs.Service.{service_before, service_key_cmp, service_key_exact}
use Rattle.ipx_router.specs.declared.port.Port.{Port}
use Rattle.ipx_router.specs.declared.port.PortNow.{PortNow}
use Rattle.ipx_router.specs.declared.route.Route.{Route}
use Rattle.ipx_router.specs.Knowledge.{Routes, Services}
use Rattle.ipx_router.specs.RouteChoice.{IsHeardRoute, IsRouteTo, direct_route, over_port, over_neighbour}
use Rattle.ipx_router.specs.AdvertisedEntries.{IsAdvertisedRoute, IsAdvertisedService, key_of_service, route_key, advertised_route, advertised_service}
use Rattle.ipx_router.specs.Placing.{advertised_of_other_ports, is_elsewhere, is_advertised_item, is_advertised_port, no_way}
use Rattle.ipx_farewell.specs.Farewell.{BestRoutes, BestServices, FarewellIsOfAdvertised, advertised_networks, networks_by_others, networks_of_others, port_at}
use Rattle.ipx_farewell.proofs.Members.{filter_has, filter_only, in_either, in_first, in_second, map_has, map_only}

network_from : (a b : Network) → a.0 ≡ b.0 → a ≡ b
network_from a b e = ap (λ (n : ℕ). let x : Network = record { 0 = n } in x) e

no_port : Port
no_port = record { network = record { 0 = 0 }; node = record { 0 = [] }; cost = 0 }

elsewhere : (o : Option ℕ) (number : ℕ) → is_elsewhere o number ≡ true → (place : ℕ) × (o ≡ Some place) × (place + 1 ≡ number → ⊥)
elsewhere None number e = cc
elsewhere (Some place) number e = (place, refl, eqb-false (place + 1) number (not-true _ e))

not_itself : (a b : ℕ) → (a ≡ b → ⊥) → not (nat_eq a b) ≡ true
not_itself a b ne = elim (eqb_tells a b) [ inl same ↦ absurd (ne same.1) | inr other ↦ not_from_false _ other.0 ]

both : (a b : Bool) → (a && b) ≡ true → (a ≡ true) × (b ≡ true)
both true b e = (refl, e)
both false b e = cc

and_true : (a b : Bool) → a ≡ true → b ≡ true → (a && b) ≡ true
and_true a b p q = rw (p, q) refl

is_none_None : (o : Option ℕ) → is_none o ≡ true → o ≡ None
is_none_None None e = refl
is_none_None (Some n) e = cc

abbrev OneBest : Type 0
OneBest = (c : Routes) (key : Network) (now : ℕ) (a b : Source × RouteMetric) → IsBest route_before c key now a → IsBest route_before c key now b → a ≡ b

abbrev OneService : Type 0
OneService = (c : Services) (key : ServiceKey) (now : ℕ) (a b : Source × ServiceMetric) → IsBest service_before c key now a → IsBest service_before c key now b → a ≡ b

module _ (ports : List Port) (routes : Routes) (number : ℕ) (port : Port) (now : ℕ) where
  abbrev at : PortNow
  at = port_at number port now

  -- the network of another port
  of_other_told : (x : RipEntry) → Contains (networks_of_others ports number port) x → IsAdvertisedRoute ports routes at x
  of_other_told x c =
      let test : Port → Bool = λ p. is_advertised_port ports (port_at number port 0) p.network in
      let from = map_only (λ (p : Port). advertised_route p.network no_way (port_at number port 0)) (filter test ports) x c in
      let p = from.0 in
      let kept = filter_only test ports p from.1 in
      let named : x.network ≡ p.network = ap route_key from.2 in
      let w = elsewhere (direct_route ports p.network) number kept.1 in
      let leads : IsRouteTo ports routes now p.network (over_port w.0) = subst (λ (o : Option ℕ). MatchOption o (IsHeardRoute routes now p.network (over_port w.0)) (λ place. over_port w.0 ≡ over_port place)) (sym w.1) refl in
      record {
        route = over_port w.0;
        leads = subst (λ (n : Network). IsRouteTo ports routes now n (over_port w.0)) (sym named) leads;
        elsewhere = w.2;
        is = from.2 ∙ ap (λ (n : Network). advertised_route n no_way at) (sym named);
      }

  of_other_has : (x : RipEntry) (t : IsAdvertisedRoute ports routes at x) (place : ℕ) → direct_route ports x.network ≡ Some place → t.route ≡ over_port place → Contains (networks_of_others ports number port) x
  of_other_has x t place there is =
      let test : Port → Bool = λ p. is_advertised_port ports (port_at number port 0) p.network in
      let at_place = position-Some (λ (q : Port). q.network.0 == x.network.0) ports place no_port there in
      let p = get_or ports place no_port in
      let named : p.network ≡ x.network = network_from _ _ (eqb-true _ _ at_place.1) in
      let says : is_advertised_port ports at x.network ≡ true = subst (λ (o : Option ℕ). is_elsewhere o number ≡ true) (sym there) (not_itself (place + 1) number (λ e. t.elsewhere (ap (λ (r : Route). r.port) is ∙ e))) in
      let has = Contains-get_or ports place no_port at_place.0 in
      let kept = filter_has test ports p has.0 has.1 has.2 (subst (λ (n : Network). is_advertised_port ports at n ≡ true) (sym named) says) in
      let same : advertised_route p.network no_way at ≡ x = ap (λ (n : Network). advertised_route n no_way at) named ∙ ap (λ (r : Route). advertised_route x.network r.metric at) (sym is) ∙ sym t.is in
      subst (Contains (networks_of_others ports number port)) same
      (map_has (λ (q : Port). advertised_route q.network no_way (port_at number port 0)) (filter test ports) p kept)

  module _ (heard : BestRoutes) (listing : IsListing network_cmp route_before routes now heard) (one : OneBest) where
    -- a network whose best offer came by another port
    by_other_told : (x : RipEntry) → Contains (networks_by_others ports number port heard) x → IsAdvertisedRoute ports routes at x
    by_other_told x c =
        let test : Network × Source × RouteMetric → Bool = is_advertised_item ports (port_at number port 0) in
        let from = map_only (λ (i : Network × Source × RouteMetric). advertised_route i.0 i.2 (port_at number port 0)) (filter test heard) x c in
        let item = from.0 in
        let kept = filter_only test heard item from.1 in
        let parts = both _ _ kept.1 in
        let none : direct_route ports item.0 ≡ None = is_none_None _ parts.0 in
        let best : IsBest route_before routes item.0 now (item.1, item.2) = All-contains (λ (i : Network × Source × RouteMetric). IsBest route_before routes i.0 now (i.1, i.2)) heard item listing.are_best kept.0 in
        let named : x.network ≡ item.0 = ap route_key from.2 in
        let route : Route = over_neighbour (item.1, item.2) in
        let way : IsRouteTo ports routes now item.0 route = subst (λ (o : Option ℕ). MatchOption o (IsHeardRoute routes now item.0 route) (λ place. route ≡ over_port place)) (sym none) ((item.1, item.2), best, refl) in
        record {
          route = route;
          leads = subst (λ (n : Network). IsRouteTo ports routes now n route) (sym named) way;
          elsewhere = eqb-false _ _ (not-true _ parts.1);
          is = from.2 ∙ ap (λ (n : Network). advertised_route n item.2 at) (sym named);
        }

    by_other_has : (x : RipEntry) (t : IsAdvertisedRoute ports routes at x) → direct_route ports x.network ≡ None → IsHeardRoute routes now x.network t.route → Contains (networks_by_others ports number port heard) x
    by_other_has x t none r =
        let test : Network × Source × RouteMetric → Bool = is_advertised_item ports (port_at number port 0) in
        let best = r.0 in
        let there = listing.no_other x.network best r.1 in
        let d : Network × Source × RouteMetric = (x.network, best.0, best.1) in
        let item = get_or heard there.0 d in
        let named : item.0 ≡ x.network = network_exact _ _ (there.1.ties d) in
        let of_item : IsBest route_before routes item.0 now (item.1, item.2) = listing.are_best there.0 d there.1.in_range in
        let same : (item.1, item.2) ≡ best = one routes x.network now (item.1, item.2) best (subst (λ (n : Network). IsBest route_before routes n now (item.1, item.2)) named of_item) r.1 in
        let by : t.route.port ≡ item.1.port = ap (λ (q : Route). q.port) r.2 ∙ sym (ap (λ (b : Source × RouteMetric). b.0.port) same) in
        let no_port_there : is_none (direct_route ports item.0) ≡ true = subst (λ (n : Network). is_none (direct_route ports n) ≡ true) (sym named) (subst (λ (o : Option ℕ). is_none o ≡ true) (sym none) refl) in
        let passes : test item ≡ true = and_true _ _ no_port_there (not_itself item.1.port number (λ e. t.elsewhere (by ∙ e))) in
        let has = Contains-get_or heard there.0 d there.1.in_range in
        let kept = filter_has test heard item has.0 has.1 has.2 passes in
        let says : advertised_route item.0 item.2 at ≡ x = ap (λ (n : Network). advertised_route n item.2 at) named ∙ ap (λ (b : Source × RouteMetric). advertised_route x.network b.1 at) same ∙ ap (λ (q : Route). advertised_route x.network q.metric at) (sym r.2) ∙ sym t.is in
        subst (Contains (networks_by_others ports number port heard)) says
        (map_has (λ (i : Network × Source × RouteMetric). advertised_route i.0 i.2 (port_at number port 0)) (filter test heard) item kept)

    route_told : (x : RipEntry) → Contains (advertised_networks ports number port heard) x → IsAdvertisedRoute ports routes at x
    route_told x c = elim (in_either (networks_of_others ports number port) (networks_by_others ports number port heard) x c) [
      | inl m ↦ of_other_told x m
      | inr m ↦ by_other_told x m
    ]

    route_has_as : (x : RipEntry) (t : IsAdvertisedRoute ports routes at x) (o : Option ℕ) → direct_route ports x.network ≡ o → MatchOption o (IsHeardRoute routes now x.network t.route) (λ place. t.route ≡ over_port place) → Contains (advertised_networks ports number port heard) x
    route_has_as x t None e r = in_second (networks_of_others ports number port) (networks_by_others ports number port heard) x (by_other_has x t e r)
    route_has_as x t (Some place) e r = in_first (networks_of_others ports number port) (networks_by_others ports number port heard) x (of_other_has x t place e r)

    pub route_has : (x : RipEntry) → IsAdvertisedRoute ports routes at x → Contains (advertised_networks ports number port heard) x
    route_has x t = route_has_as x t (direct_route ports x.network) refl t.leads

module _ (services : Services) (number : ℕ) (port : Port) (now : ℕ) (heard : BestServices) (listing : IsListing service_key_cmp service_before services now heard) (one : OneService) where
  abbrev comes_elsewhere : ServiceKey × Source × ServiceMetric → Bool
  comes_elsewhere item = not (item.1.port == number)

  service_told : (x : ServiceEntry) → Contains (advertised_of_other_ports number heard) x → IsAdvertisedService services (port_at number port now) x
  service_told x c =
      let from = map_only advertised_service (filter comes_elsewhere heard) x c in
      let item = from.0 in
      let kept = filter_only comes_elsewhere heard item from.1 in
      let best = All-contains (λ (i : ServiceKey × Source × ServiceMetric). IsBest service_before services i.0 now (i.1, i.2)) heard item listing.are_best kept.0 in
      let named : key_of_service x ≡ item.0 = ap key_of_service from.2 in
      record {
        best = (item.1, item.2);
        heard = subst (λ (k : ServiceKey). IsBest service_before services k now (item.1, item.2)) (sym named) best;
        elsewhere = eqb-false _ _ (not-true _ kept.1);
        is = from.2 ∙ ap (λ (k : ServiceKey). advertised_service (k, item.1, item.2)) (sym named);
      }

  service_has : (x : ServiceEntry) → IsAdvertisedService services (port_at number port now) x → Contains (advertised_of_other_ports number heard) x
  service_has x t =
      let there = listing.no_other (key_of_service x) t.best t.heard in
      let d : ServiceKey × Source × ServiceMetric = (key_of_service x, t.best.0, t.best.1) in
      let item = get_or heard there.0 d in
      let named : item.0 ≡ key_of_service x = service_key_exact _ _ (there.1.ties d) in
      let of_item = listing.are_best there.0 d there.1.in_range in
      let same : (item.1, item.2) ≡ t.best = one services (key_of_service x) now (item.1, item.2) t.best (subst (λ (k : ServiceKey). IsBest service_before services k now (item.1, item.2)) named of_item) t.heard in
      let other : comes_elsewhere item ≡ true = not_itself item.1.port number (λ e. t.elsewhere (sym (ap (λ (b : Source × ServiceMetric). b.0.port) same) ∙ e)) in
      let place = Contains-get_or heard there.0 d there.1.in_range in
      let says : advertised_service item ≡ x = ap (λ (k : ServiceKey). advertised_service (k, item.1, item.2)) named ∙ ap (λ (b : Source × ServiceMetric). advertised_service (key_of_service x, b.0, b.1)) same ∙ sym t.is in
      subst (Contains (advertised_of_other_ports number heard)) says (map_has advertised_service (filter comes_elsewhere heard) item (filter_has comes_elsewhere heard item place.0 place.1 place.2 other))

pub all_advertised : OneBest → OneService → FarewellIsOfAdvertised
all_advertised one one_service ports routes services number port now heard offered listing services_listing = (
  λ e. (route_told ports routes number port now heard listing one e, route_has ports routes number port now heard listing one e),
  λ e. (service_told services number port now offered services_listing one_service e, service_has services number port now offered services_listing one_service e),
)
