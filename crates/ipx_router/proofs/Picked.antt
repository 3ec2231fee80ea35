-- From what is picked of the advertised entries to what was asked for.
use Rattle.std.proofs.Common.{◌≡◌, ◌≢◌, ℕ, Bool, true, false, List, [], ◌∷◌, ◌++◌, Option, Some, None, refl, sym, subst, ap, ◌∙◌, inl, inr}
use mathlib.Core.Bool.{true≢false}
use Rattle.std.specs.Prelude.{MatchOption, ◌==◌}
use Rattle.std.specs.List.{cons_option, filter, list_any}
use Rattle.std.proofs.lemmas.Bool.{or_left, or_right}
use Rattle.std.specs.declared.cmp.Ordering.{Ordering}
use Rattle.std.specs.declared.cmp.Ordering.TheVariants.{Less}
use Rattle.std.proofs.lemmas.List.Kept.{AllPairs-filter}
use Rattle.std.proofs.lemmas.List.Folds.{list_any-append}
use Rattle.ipx_wire.specs.Assigned.{all_networks}
use Rattle.ipx_wire.specs.declared.address.Network.{Network}
use Rattle.ipx_control.specs.declared.rip.packet.RipEntry.{RipEntry}
use Rattle.ipx_control.specs.declared.sap.packet.ServiceEntry.{ServiceEntry}
use Rattle.ipx_tables.specs.Service.{service_key_cmp}
use Rattle.ipx_router.specs.declared.port.Port.{Port}
use Rattle.ipx_router.specs.declared.port.PortNow.{PortNow}
use Rattle.ipx_router.specs.declared.route.Route.{Route}
use Rattle.ipx_router.specs.Knowledge.{Routes, Services}
use Rattle.ipx_router.specs.RouteChoice.{IsHeardRoute, IsRouteOrNone, IsRouteTo, over_port}
use Rattle.ipx_router.specs.AdvertisedEntries.{AreAdvertisedServices, IsListOf, IsAdvertisedRoute, IsAdvertisedService, key_of_service, advertised_route}
use Rattle.ipx_router.specs.Replying.{AreServicesAsked, AreAdvertisedOf, asks_all, is_of_kind}
use Rattle.ipx_router.specs.Picking.{IsAdvertisedOf}
use Rattle.ipx_router.proofs.Members.{filter_has, filter_only}
use Rattle.ipx_router.proofs.AdvertisedRoutes.{OneBest, one_route}

-- ---- routes

-- one more network is asked for, of which this entry or nothing is advertised
pub asked_more : (IsAdvertised : RipEntry → Type 0) (asked entries : List RipEntry) (e : RipEntry) (o : Option RipEntry) → AreAdvertisedOf IsAdvertised asked entries → IsAdvertisedOf IsAdvertised e.network o
    → AreAdvertisedOf IsAdvertised (asked ++ e ∷ []) (entries ++ cons_option o [])
asked_more IsAdvertised [] entries e None none nothing = inr (nothing, rw none refl)
asked_more IsAdvertised [] entries e (Some t) none told = inl (t, [], rw none refl, told.0, told.1, refl)
asked_more IsAdvertised (x ∷ asked) entries e o are told = elim are [
  | inl first ↦
      let rest : List RipEntry = first.1 in
      inl (first.0, rest ++ cons_option o [], ap (λ (es : List RipEntry). es ++ cons_option o []) first.2, first.3, first.4, asked_more IsAdvertised asked rest e o first.5 told)
  | inr none ↦ inr (none.0, asked_more IsAdvertised asked entries e o none.1 told)
]

-- one more entry that names a network
pub named_more : (ys : List RipEntry) (e : RipEntry) → asks_all ys ≡ false → (e.network.0 == all_networks) ≡ false → asks_all (ys ++ e ∷ []) ≡ false
named_more ys e before other =
    list_any-append (λ (x : RipEntry). x.network.0 == all_networks) ys (e ∷ []) ∙ rw (before, other) refl

-- one entry that asks for all
pub asks_all_by : (ys : List RipEntry) (e : RipEntry) (later asked : List RipEntry) → ys ++ (e ∷ later) ≡ asked → (e.network.0 == all_networks) ≡ true → asks_all asked ≡ true
asks_all_by ys e later asked are all =
    let test = λ (x : RipEntry). x.network.0 == all_networks in
    subst (λ (es : List RipEntry). asks_all es ≡ true) are (list_any-append test ys (e ∷ later) ∙ or_right (list_any test ys) (list_any test (e ∷ later)) (or_left (test e) (list_any test later) all))

module _ (one : OneBest) (ports : List Port) (routes : Routes) (at : PortNow) (network : Network) where
  -- nothing is advertised of a network that has no route
  pub no_route_told : IsRouteOrNone ports routes at.now network None → IsAdvertisedOf (IsAdvertisedRoute ports routes at) network None
  no_route_told none t told same =
      let leads = subst (λ (n : Network). IsRouteTo ports routes at.now n told.route) same told.leads in
      let best = subst (λ (o : Option ℕ). MatchOption o (IsHeardRoute routes at.now network told.route) (λ place. told.route ≡ over_port place)) none.0 leads in
      let is = best.1 in
      true≢false (sym is.counts ∙ none.1 best.0.0 best.0.1 is.moment is.stands)

  -- nor of one whose route leaves by the port
  pub itself_untold : (route : Route) → IsRouteTo ports routes at.now network route → route.port ≡ at.number → IsAdvertisedOf (IsAdvertisedRoute ports routes at) network None
  itself_untold route leads here t told same =
      let way = one_route one ports routes at.now network told.route route (subst (λ (n : Network). IsRouteTo ports routes at.now n told.route) same told.leads) leads in
      told.elsewhere (ap (λ (r : Route). r.port) way ∙ here)

  -- a route that leaves by another port is advertised
  pub elsewhere_told : (route : Route) → IsRouteTo ports routes at.now network route → route.port ≢ at.number → IsAdvertisedOf (IsAdvertisedRoute ports routes at) network (Some (advertised_route network route.metric at))
  elsewhere_told route leads other = (record { route = route; leads = leads; elsewhere = other; is = refl }, refl)

-- ---- services

-- the items of a list that pass a test
pub list_of_passing : {X K : Type 0} (cmp : K → K → Ordering) (key_of : X → K) (F : X → Type 0) (p : X → Bool) (xs : List X) → IsListOf cmp key_of F xs → IsListOf cmp key_of (λ x. F x × (p x ≡ true)) (filter p xs)
list_of_passing cmp key_of F p xs are = record {
  in_order = AllPairs-filter (λ a b. cmp (key_of a) (key_of b) ≡ Less) p xs are.in_order;
  stands = λ x. (
    (λ c. (let kept = filter_only p xs x c in ((are.stands x).0 kept.0, kept.1))),
    (λ f. (let c = (are.stands x).1 f.0 in filter_has p xs x c.0 c.1 c.2 f.1)),
  );
}

module _ (services : Services) (at : PortNow) (told : List ServiceEntry) (are : AreAdvertisedServices services at told) (kind : ℕ) where
  -- the services of a kind
  pub services_picked : AreServicesAsked services at false kind (filter (is_of_kind kind) told)
  services_picked = list_of_passing service_key_cmp key_of_service (IsAdvertisedService services at) (is_of_kind kind) told are
