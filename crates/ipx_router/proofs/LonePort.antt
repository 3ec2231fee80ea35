-- A router of one port has nothing to advertise, and one of more ports always has.
use Rattle.std.proofs.Common.{◌≡◌, ℕ, ◌+◌, ◌<◌, ◌≤◌, List, [], ◌∷◌, length, Option, Some, None, refl, sym, ap, ◌∙◌, subst, inl, arith}
use Rattle.std.specs.Prelude.{MatchOption, ◌==◌}
use Rattle.std.specs.declared.cmp.Ordering.{Ordering}
use Rattle.std.proofs.lemmas.Bool.{eq-eqb, lt-ltb}
use Rattle.std.proofs.lemmas.List.Quantifiers.{position-Some}
use Rattle.ipx_control.specs.declared.rip.packet.RipEntry.{RipEntry}
use Rattle.ipx_control.specs.declared.sap.packet.ServiceEntry.{ServiceEntry}
use Rattle.ipx_tables.specs.Route.{network_cmp}
use Rattle.ipx_tables.specs.Service.{service_key_cmp}
use Rattle.ipx_router.specs.declared.port.Port.{Port}
use Rattle.ipx_router.specs.declared.port.PortNow.{PortNow}
use Rattle.ipx_router.specs.declared.route.Route.{Route}
use Rattle.ipx_router.specs.Knowledge.{Routes, Services}
use Rattle.ipx_router.specs.Ports.{AreFromPorts}
use Rattle.ipx_router.specs.RouteChoice.{IsHeardRoute, direct_route, over_port}
use Rattle.ipx_router.specs.AdvertisedEntries.{IsListOf, IsAdvertisedRoute, IsAdvertisedService, key_of_service, route_key, advertised_route}
use Rattle.ipx_router.specs.Advertisements.{AreAdvertisements, AreAdvertised, HasToTell}
use Rattle.ipx_router.specs.Placing.{no_way}
use Rattle.ipx_router.proofs.Rising.{nothing_rises}
use Rattle.ipx_router.proofs.AdvertisedRoutes.{no_port}

pub list_of_none : {X K : Type 0} (cmp : K → K → Ordering) (key_of : X → K) (F : X → Type 0) → ((x : X) → F x → ⊥) → IsListOf cmp key_of F []
list_of_none cmp key_of F none = record {
  in_order = nothing_rises cmp key_of;
  stands = λ x. ((λ c. absurd (omega (arith, c.1))), (λ f. absurd (none x f)));
}

module _ (port : Port) (routes : Routes) (services : Services) (now : ℕ) (routes_from : AreFromPorts 1 routes) (services_from : AreFromPorts 1 services) where
  abbrev alone : List Port
  alone = port ∷ []

  abbrev at : PortNow
  at = record { number = 1; port = port; now = now }

  none_by : (e : RipEntry) (t : IsAdvertisedRoute alone routes at e) (o : Option ℕ) → direct_route alone e.network ≡ o → MatchOption o (IsHeardRoute routes now e.network t.route) (λ place. t.route ≡ over_port place) → ⊥
  none_by e t None none heard =
      let from = routes_from (e.network, heard.0.0) _ heard.1.stands in
      let first : heard.0.0.port ≡ 1 = omega (arith, from.0, from.1) in
      t.elsewhere (ap (λ (r : Route). r.port) heard.2 ∙ first)
  none_by e t (Some place) there is =
      let within = (position-Some (λ (q : Port). q.network.0 == e.network.0) alone place no_port there).0 in
      let first : place + 1 ≡ 1 = omega (arith, within) in
      t.elsewhere (ap (λ (r : Route). r.port) is ∙ first)

  no_route : (e : RipEntry) → IsAdvertisedRoute alone routes at e → ⊥
  no_route e t = none_by e t (direct_route alone e.network) refl t.leads

  no_service : (e : ServiceEntry) → IsAdvertisedService services at e → ⊥
  no_service e t =
      let from = services_from (key_of_service e, t.best.0) _ t.heard.stands in
      let first : t.best.0.port ≡ 1 = omega (arith, from.0, from.1) in
      t.elsewhere first

  nothing : AreAdvertised alone routes services at []
  nothing = record {
    advertised_routes = [];
    advertised_services = [];
    route_packets = [];
    service_packets = [];
    are = refl;
    of_routes = list_of_none network_cmp route_key (IsAdvertisedRoute alone routes at) no_route;
    of_services = list_of_none service_key_cmp key_of_service (IsAdvertisedService services at) no_service;
    in_route_packets = refl;
    in_service_packets = refl;
  }

pub nothing_to_tell : (ports : List Port) (routes : Routes) (services : Services) (now : ℕ) → length ports < 2 → AreFromPorts (length ports) routes → AreFromPorts (length ports) services
    → AreAdvertisements ports routes services now 1 ports []
nothing_to_tell [] routes services now few routes_from services_from = refl
nothing_to_tell (p ∷ []) routes services now few routes_from services_from = ([], [], refl, nothing p routes services now routes_from services_from, refl)
nothing_to_tell (p ∷ q ∷ ports) routes services now few routes_from services_from = absurd (omega arith)

-- the first port's network is advertised on the second
pub something_to_tell : (ports : List Port) (routes : Routes) (services : Services) (now : ℕ) → 2 ≤ length ports → HasToTell (record { ports = ports; routes = routes; services = services }) now
something_to_tell [] routes services now many = absurd (omega arith)
something_to_tell (p ∷ []) routes services now many = absurd (omega arith)
something_to_tell (p ∷ q ∷ ports) routes services now many =
    let at : PortNow = record { number = 2; port = q; now = now } in
    let all : List Port = p ∷ q ∷ ports in
    let first : direct_route all p.network ≡ Some 0 = rw (eq-eqb p.network.0 p.network.0 refl, lt-ltb 0 (length all) (omega arith)) refl in (
      2,
      q,
      (omega arith, refl),
      inl (
        advertised_route p.network no_way at,
        record {
          route = over_port 0;
          leads = subst (λ (o : Option ℕ). MatchOption o (IsHeardRoute routes now p.network (over_port 0)) (λ place. over_port 0 ≡ over_port place)) (sym first) refl;
          elsewhere = λ e. omega (arith, e);
          is = refl;
        },
      ),
    )
