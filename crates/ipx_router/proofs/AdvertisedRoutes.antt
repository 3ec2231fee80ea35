-- The advertised routes, from the networks of the ports and the list of the best offers.
use Rattle.std.proofs.Common.{◌≡◌, ℕ, ◌+◌, ◌<◌, Bool, true, false, not, nat_eq, List, [], length, get_or, Option, Some, None, refl, sym, ap, ◌∙◌, subst, inl, inr, arith}
use mathlib.Core.Bool.{true≢false}
use borrow.Author.Tests.{eqb-true, eqb-false}
use Rattle.std.proofs.lemmas.Bool.{not-true, not_from_false}
use Rattle.std.proofs.lemmas.Bool.Decides.{eqb_tells}
use Rattle.std.proofs.lemmas.Bool.{cases_lt}
use Rattle.std.proofs.lemmas.List.{get_or_default}
use Rattle.std.proofs.lemmas.List.Elements.{All-contains, Contains-get_or}
use Rattle.std.proofs.lemmas.List.Quantifiers.{position-Some}
use Rattle.std.specs.Prelude.{Contains, is_none, MatchOption, ◌==◌, ◌&&◌}
use Rattle.ipx_wire.specs.declared.address.Network.{Network}
use Rattle.ipx_control.specs.declared.rip.packet.RipEntry.{RipEntry}
use Rattle.ipx_tables.specs.declared.route.RouteMetric.{RouteMetric}
use Rattle.ipx_tables.specs.declared.source.Source.{Source}
use Rattle.ipx_tables.specs.Best.{IsBest}
use Rattle.ipx_tables.specs.Listing.{IsListing}
use Rattle.ipx_tables.specs.Route.{network_cmp, network_exact, route_before}
use Rattle.ipx_router.specs.declared.port.Port.{Port}
use Rattle.ipx_router.specs.declared.port.PortNow.{PortNow}
use Rattle.ipx_router.specs.declared.route.Route.{Route}
use Rattle.ipx_router.specs.Knowledge.{Routes}
use Rattle.ipx_router.specs.RouteChoice.{IsHeardRoute, IsRouteTo, direct_route, over_port, over_neighbour}
use Rattle.ipx_router.specs.AdvertisedEntries.{AreAdvertisedRoutes, IsAdvertisedRoute, route_key, advertised_route}
use Rattle.ipx_tables.specs.Sorted.{IsRising}
use Rattle.ipx_router.proofs.Rising.{nothing_rises}
use Rattle.ipx_router.specs.Placing.{AddsHeard, AreAdvertisedPorts, HasNetwork, PutsEntry, IsAdvertisedItem, IsAdvertisedPort, is_elsewhere, is_advertised_item, is_advertised_port, no_way}

abbrev pub no_item : Network × Source × RouteMetric
no_item = (record { 0 = 0 }, record { port = 0; neighbour = record { 0 = [] } }, record { ticks = 0; hops = 0 })

pub network_from : (a b : Network) → a.0 ≡ b.0 → a ≡ b
network_from a b e = ap (λ (n : ℕ). let x : Network = record { 0 = n } in x) e

abbrev pub no_port : Port
no_port = record { network = record { 0 = 0 }; node = record { 0 = [] }; cost = 0 }

elsewhere : (o : Option ℕ) (number : ℕ) → is_elsewhere o number ≡ true → (place : ℕ) × (o ≡ Some place) × (place + 1 ≡ number → ⊥)
elsewhere None number e = cc
elsewhere (Some place) number e = (place, refl, eqb-false (place + 1) number (not-true _ e))

pub not_itself : (a b : ℕ) → (a ≡ b → ⊥) → not (nat_eq a b) ≡ true
not_itself a b ne = elim (eqb_tells a b) [ inl same ↦ absurd (ne same.1) | inr other ↦ not_from_false _ other.0 ]

pub both : (a b : Bool) → (a && b) ≡ true → (a ≡ true) × (b ≡ true)
both true b e = (refl, e)
both false b e = cc

and_true : (a b : Bool) → a ≡ true → b ≡ true → (a && b) ≡ true
and_true a b p q = rw (p, q) refl

is_none_None : (o : Option ℕ) → is_none o ≡ true → o ≡ None
is_none_None None e = refl
is_none_None (Some n) e = cc

abbrev pub OneBest : Type 0
OneBest = (c : Routes) (key : Network) (now : ℕ) (a b : Source × RouteMetric) → IsBest route_before c key now a → IsBest route_before c key now b → a ≡ b

-- by the index of the port, or by the best offer
abbrev ByRoute : Routes → ℕ → Network → Route → Option ℕ → Type 0
ByRoute routes now network route o = MatchOption o (IsHeardRoute routes now network route) (λ place. route ≡ over_port place)

module _ (one : OneBest) where
  one_route_by : (routes : Routes) (now : ℕ) (network : Network) (o : Option ℕ) (a b : Route) → ByRoute routes now network a o → ByRoute routes now network b o → a ≡ b
  one_route_by routes now network None a b p q =
      p.2 ∙ ap over_neighbour (one routes network now p.0 q.0 p.1 q.1) ∙ sym q.2
  one_route_by routes now network (Some place) a b p q = p ∙ sym q

  -- a network has at most one route
  pub one_route : (ports : List Port) (routes : Routes) (now : ℕ) (network : Network) (a b : Route) → IsRouteTo ports routes now network a → IsRouteTo ports routes now network b → a ≡ b
  one_route ports routes now network a b p q = one_route_by routes now network (direct_route ports network) a b p q

  -- and is advertised in one way
  one_told : (ports : List Port) (routes : Routes) (at : PortNow) (a b : RipEntry) → IsAdvertisedRoute ports routes at a → IsAdvertisedRoute ports routes at b → a.network ≡ b.network → a ≡ b
  one_told ports routes at a b p q e =
      let r : p.route ≡ q.route = one_route ports routes at.now b.network p.route q.route (subst (λ n. IsRouteTo ports routes at.now n p.route) e p.leads) q.leads in
      p.is ∙ ap (λ (n : Network). advertised_route n p.route.metric at) e ∙ ap (λ (t : Route). advertised_route b.network t.metric at) r ∙ sym q.is

module _ (ports : List Port) (routes : Routes) (at : PortNow) where
  pub port_told : (x : RipEntry) → IsAdvertisedPort ports at x → IsAdvertisedRoute ports routes at x
  port_told x t =
      let w = elsewhere (direct_route ports x.network) at.number t.0 in
      record {
        route = over_port w.0;
        leads = subst (λ (o : Option ℕ). MatchOption o (IsHeardRoute routes at.now x.network (over_port w.0)) (λ place. over_port w.0 ≡ over_port place)) (sym w.1) refl;
        elsewhere = w.2;
        is = t.1;
      }

  -- an advertised network of a port leaves by another port
  pub port_says : (x : RipEntry) (t : IsAdvertisedRoute ports routes at x) (place : ℕ) → direct_route ports x.network ≡ Some place → t.route ≡ over_port place
      → (place < length ports) × ((get_or ports place no_port).network ≡ x.network) × (is_advertised_port ports at (get_or ports place no_port).network ≡ true)
  port_says x t place there is =
      let at_place = position-Some (λ (q : Port). q.network.0 == x.network.0) ports place no_port there in
      let named : (get_or ports place no_port).network ≡ x.network = network_from _ _ (eqb-true _ _ at_place.1) in
      let says : is_advertised_port ports at x.network ≡ true = subst (λ (o : Option ℕ). is_elsewhere o at.number ≡ true) (sym there) (not_itself (place + 1) at.number (λ e. t.elsewhere (ap (λ (r : Route). r.port) is ∙ e))) in
      (at_place.0, named, subst (λ (n : Network). is_advertised_port ports at n ≡ true) (sym named) says)

  module _ (heard : List (Network × Source × RouteMetric)) (listing : IsListing network_cmp route_before routes at.now heard) where
    pub item_told : (x : RipEntry) → IsAdvertisedItem ports at heard x → IsAdvertisedRoute ports routes at x
    item_told x t =
        let item = t.0 in
        let parts = both _ _ t.2 in
        let none : direct_route ports item.0 ≡ None = is_none_None _ parts.0 in
        let best : IsBest route_before routes item.0 at.now (item.1, item.2) = All-contains (λ (i : Network × Source × RouteMetric). IsBest route_before routes i.0 at.now (i.1, i.2)) heard item listing.are_best t.1 in
        let named : x.network ≡ item.0 = ap route_key t.3 in
        let route : Route = over_neighbour (item.1, item.2) in
        let way : IsRouteTo ports routes at.now item.0 route = subst (λ (o : Option ℕ). MatchOption o (IsHeardRoute routes at.now item.0 route) (λ place. route ≡ over_port place)) (sym none) ((item.1, item.2), best, refl) in
        record {
          route = route;
          leads = subst (λ (n : Network). IsRouteTo ports routes at.now n route) (sym named) way;
          elsewhere = eqb-false _ _ (not-true _ parts.1);
          is = t.3 ∙ ap (λ (n : Network). advertised_route n item.2 at) (sym named);
        }

    -- an advertised network that is no port's has a best offer that came by another port
    pub item_says : (one : OneBest) (x : RipEntry) (t : IsAdvertisedRoute ports routes at x) → direct_route ports x.network ≡ None → IsHeardRoute routes at.now x.network t.route
        → (i : ℕ) × (d : Network × Source × RouteMetric) × (i < length heard) × ((get_or heard i d).0 ≡ x.network) × (is_advertised_item ports at (get_or heard i d) ≡ true)
    item_says one x t none r =
        let best = r.0 in
        let there = listing.no_other x.network best r.1 in
        let d : Network × Source × RouteMetric = (x.network, best.0, best.1) in
        let item = get_or heard there.0 d in
        let named : item.0 ≡ x.network = network_exact _ _ (there.1.ties d) in
        let of_item : IsBest route_before routes item.0 at.now (item.1, item.2) = listing.are_best there.0 d there.1.in_range in
        let same : (item.1, item.2) ≡ best = one routes x.network at.now (item.1, item.2) best (subst (λ (n : Network). IsBest route_before routes n at.now (item.1, item.2)) named of_item) r.1 in
        let port : t.route.port ≡ item.1.port = ap (λ (q : Route). q.port) r.2 ∙ sym (ap (λ (b : Source × RouteMetric). b.0.port) same) in
        let no_port_there : is_none (direct_route ports item.0) ≡ true = subst (λ (n : Network). is_none (direct_route ports n) ≡ true) (sym named) (subst (λ (o : Option ℕ). is_none o ≡ true) (sym none) refl) in
        (there.0, d, there.1.in_range, named, and_true _ _ no_port_there (not_itself item.1.port at.number (λ e. t.elsewhere (port ∙ e))))

    module _ (one : OneBest) (over told : List RipEntry) (p : AreAdvertisedPorts ports at (length ports) over) (h : AddsHeard ports at heard (length heard) over told) where
      told_is : (x : RipEntry) → Contains told x → IsAdvertisedRoute ports routes at x
      told_is x c = elim (h.only x c) [ inl old ↦ port_told x (p.only x old) | inr item ↦ item_told x item ]

      -- an entry of the network is the one that is advertised
      holds_by : (x : RipEntry) → IsAdvertisedRoute ports routes at x → HasNetwork told x.network → Contains told x
      holds_by x t y = subst (Contains told) (one_told one ports routes at y.0 x (told_is y.0 y.1) t y.2) y.1

      over_port_holds : (x : RipEntry) (t : IsAdvertisedRoute ports routes at x) (place : ℕ) → direct_route ports x.network ≡ Some place → t.route ≡ over_port place → HasNetwork told x.network
      over_port_holds x t place there is =
          let w = port_says x t place there is in
          let y = p.all place no_port w.0 w.2 in
          (y.0, h.keeps y.0 y.1, y.2 ∙ w.1)

      over_neighbour_holds : (x : RipEntry) (t : IsAdvertisedRoute ports routes at x) → direct_route ports x.network ≡ None → IsHeardRoute routes at.now x.network t.route → HasNetwork told x.network
      over_neighbour_holds x t none r =
          let w = item_says one x t none r in
          let y = h.all w.0 w.1 w.2 w.4 in
          (y.0, y.1, y.2 ∙ w.3)

      holds_as : (x : RipEntry) (t : IsAdvertisedRoute ports routes at x) (o : Option ℕ) → direct_route ports x.network ≡ o → ByRoute routes at.now x.network t.route o → HasNetwork told x.network
      holds_as x t None e r = over_neighbour_holds x t e r
      holds_as x t (Some place) e r = over_port_holds x t place e r

      pub told_all : AreAdvertisedRoutes ports routes at told
      told_all = record {
        in_order = h.in_order;
        stands = λ x. (told_is x, λ t. holds_by x t (holds_as x t (direct_route ports x.network) refl t.leads));
      }

-- ---- the advertised routes, one after another

first_port : (ports : List Port) (at : PortNow) → AreAdvertisedPorts ports at 0 []
first_port ports at = record {
  in_order = nothing_rises network_cmp route_key;
  only = λ x c. absurd (omega (arith, c.1));
  all = λ k d lt says. absurd (omega arith);
}

module _ (ports : List Port) (at : PortNow) (n : ℕ) (d : Port) (lt : n < length ports) (told : List RipEntry) (p : AreAdvertisedPorts ports at n told) where
  -- a network that is not advertised
  pub port_skip : is_advertised_port ports at (get_or ports n d).network ≡ false → AreAdvertisedPorts ports at (n + 1) told
  port_skip not_told = record {
    in_order = p.in_order;
    only = p.only;
    all = λ k e less says. elim (cases_lt k n) [
      | inl low ↦ p.all k e low says
      | inr high ↦
          let same : k ≡ n = omega arith in
          let one : get_or ports k e ≡ get_or ports n d = ap (λ (j : ℕ). get_or ports j e) same ∙ get_or_default ports n e d lt in
          absurd (true≢false (sym says ∙ ap (λ (q : Port). is_advertised_port ports at q.network) one ∙ not_told))
    ];
  }

  -- a network that is advertised
  pub port_more : (new : List RipEntry) → is_advertised_port ports at (get_or ports n d).network ≡ true → PutsEntry told (advertised_route (get_or ports n d).network no_way at) new → AreAdvertisedPorts ports at (n + 1) new
  port_more new is_told puts = record {
    in_order = puts.in_order;
    only = λ x c. elim (puts.only x c) [
      | inl old ↦ p.only x old
      | inr same ↦
          let named : x.network ≡ (get_or ports n d).network = ap route_key same in
          (subst (λ (m : Network). is_advertised_port ports at m ≡ true) (sym named) is_told, same ∙ ap (λ (m : Network). advertised_route m no_way at) (sym named))
    ];
    all = λ k e less says. elim (cases_lt k n) [
      | inl low ↦ let y = p.all k e low says in (y.0, puts.keeps y.0 y.1, y.2)
      | inr high ↦
          let same : k ≡ n = omega arith in
          let one : get_or ports n d ≡ get_or ports k e = get_or_default ports n d e lt ∙ ap (λ (j : ℕ). get_or ports j e) (sym same) in
          (puts.there.0, puts.there.1, puts.there.2 ∙ ap (λ (q : Port). q.network) one)
    ];
  }

pub heard_none : (ports : List Port) (at : PortNow) (heard : List (Network × Source × RouteMetric)) (old : List RipEntry) → IsRising network_cmp route_key old → AddsHeard ports at heard 0 old old
heard_none ports at heard old rising = record {
  in_order = rising;
  keeps = λ x c. c;
  only = λ x c. inl c;
  all = λ k d lt says. absurd (omega arith);
}

module _ (ports : List Port) (at : PortNow) (heard : List (Network × Source × RouteMetric)) (n : ℕ) (d : Network × Source × RouteMetric) (lt : n < length heard) (old told : List RipEntry) (h : AddsHeard ports at heard n old told) where
  pub item_skip : is_advertised_item ports at (get_or heard n d) ≡ false → AddsHeard ports at heard (n + 1) old told
  item_skip not_told = record {
    in_order = h.in_order;
    keeps = h.keeps;
    only = h.only;
    all = λ k e less says. elim (cases_lt k n) [
      | inl low ↦ h.all k e low says
      | inr high ↦
          let same : k ≡ n = omega arith in
          let one : get_or heard k e ≡ get_or heard n d = ap (λ (j : ℕ). get_or heard j e) same ∙ get_or_default heard n e d lt in
          absurd (true≢false (sym says ∙ ap (is_advertised_item ports at) one ∙ not_told))
    ];
  }

  pub item_more : (new : List RipEntry) → is_advertised_item ports at (get_or heard n d) ≡ true → PutsEntry told (advertised_route (get_or heard n d).0 (get_or heard n d).2 at) new → AddsHeard ports at heard (n + 1) old new
  item_more new is_told puts = record {
    in_order = puts.in_order;
    keeps = λ x c. puts.keeps x (h.keeps x c);
    only = λ x c. elim (puts.only x c) [
      | inl before ↦ h.only x before
      | inr same ↦ inr (get_or heard n d, Contains-get_or heard n d lt, is_told, same)
    ];
    all = λ k e less says. elim (cases_lt k n) [
      | inl low ↦ let y = h.all k e low says in (y.0, puts.keeps y.0 y.1, y.2)
      | inr high ↦
          let same : k ≡ n = omega arith in
          let one : get_or heard n d ≡ get_or heard k e = get_or_default heard n d e lt ∙ ap (λ (j : ℕ). get_or heard j e) (sym same) in
          (puts.there.0, puts.there.1, puts.there.2 ∙ ap (λ (q : Network × Source × RouteMetric). q.0) one)
    ];
  }
