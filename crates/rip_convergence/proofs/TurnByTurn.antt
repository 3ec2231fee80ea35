-- Two routers that advertise to each other in turn.
use Rattle.std.proofs.Common.{◌≡◌, ◌≢◌, ◌⊎◌, ◌==◌, ℕ, zero, suc, ◌+◌, ◌-◌, ◌*◌, ◌<◌, ◌≤◌, true, false, cond, List, [], ◌∷◌, Contains, slice_get, Option, Some, None, refl, sym, ap, ◌∙◌, subst, inl, inr, arith, eqb-true}
use Rattle.std.proofs.lemmas.Bool.{eq-eqb, eqb-false, ne_eqb}
use Rattle.ipx_wire.specs.declared.address.Network.{Network}
use Rattle.ipx_control.specs.declared.rip.packet.RipEntry.{RipEntry}
use Rattle.ipx_tables.specs.declared.route.RouteMetric.{RouteMetric}
use Rattle.ipx_tables.specs.declared.source.Source.{Source}
use Rattle.ipx_tables.specs.Best.{IsBest, NoneCounts, is_better}
use Rattle.ipx_tables.specs.Content.{after_age, content, is_same, is_young, still}
use Rattle.ipx_tables.specs.Route.{network_cmp, route_before}
use Rattle.ipx_router.specs.declared.port.Port.{Port}
use Rattle.ipx_router.specs.declared.port.PortNow.{PortNow}
use Rattle.ipx_router.specs.declared.route.Route.{Route}
use Rattle.ipx_router.specs.Hearing.{after_routes}
use Rattle.ipx_router.specs.Knowledge.{Routes}
use Rattle.ipx_router.specs.RouteChoice.{IsHeardRoute, IsRouteOrNone, direct_route, over_neighbour, over_port}
use Rattle.ipx_router.specs.AdvertisedEntries.{IsAdvertisedRoute, advertised_route}
use Rattle.rip_convergence.specs.Fair.{IsFairRun}
use Rattle.rip_convergence.specs.Histories.{Meet, Owns, Routing, TellsRoute, as_offer, better_route}
use Rattle.rip_convergence.specs.RouterRuns.{AllIsHeard, AreRoutes, Hearing, IsRun, NodesDiffer, NothingForged, Saying, TellsTo, IsInAdvertisement}
use Rattle.rip_convergence.specs.TableLaws.{LawsOfTables}
use Rattle.rip_convergence.specs.TwoRouters.{FairRunsExist, ForgedRouteGoes, IsFromOther, by_half_minutes, forged_route, from_other, gone_network, own_node, ports_of_two, two_routers}
use Rattle.rip_convergence.specs.Ways.{CostsWithin, IsLeastWay, Way, own, over}
use Rattle.rip_convergence.proofs.Hearing.{Word, said_by, same_parts, still_is, still_was}
use Rattle.rip_convergence.proofs.Settling.{bool_cases, some_same}
use Rattle.rip_convergence.proofs.RunRoutes.{By}
use Rattle.rip_convergence.proofs.Theorems.{forget}

-- ---- the routers and their ports

abbrev shared_port : ℕ → Port
shared_port i = record { network = record { 0 = 1 }; node = own_node i; cost = 1 }

abbrev own_port : ℕ → Port
own_port i = record { network = record { 0 = i + 2 }; node = own_node i; cost = 1 }

-- a router is one of two
router_is : (r : ℕ) (ours : List Port) → slice_get two_routers r ≡ Some ours → (r < 2) × (ours ≡ ports_of_two r)
router_is zero ours at = (omega arith, sym (some_same (ports_of_two 0) ours at))
router_is (suc zero) ours at = (omega arith, sym (some_same (ports_of_two 1) ours at))
router_is (suc (suc r)) ours at = let none : None ≡ Some ours = at in cc

ports_at : (r : ℕ) → r < 2 → slice_get two_routers r ≡ Some (ports_of_two r)
ports_at zero low = refl
ports_at (suc zero) low = refl
ports_at (suc (suc r)) low = absurd (omega (arith, low))

-- a port is the one on network 1, or the one on the router's own network
abbrev PortIs : ℕ → ℕ → Port → Type 0
PortIs i k port = ((k ≡ 0) × (port ≡ shared_port i)) ⊎ ((k ≡ 1) × (port ≡ own_port i))

port_is : (i k : ℕ) (port : Port) → slice_get (ports_of_two i) k ≡ Some port → PortIs i k port
port_is i zero port at = inl (refl, sym (some_same (shared_port i) port at))
port_is i (suc zero) port at = inr (refl, sym (some_same (own_port i) port at))
port_is i (suc (suc k)) port at = let none : None ≡ Some port = at in cc

-- they meet only on network 1
record TheyMeet (s q r p : ℕ) (m : Meet two_routers s q r p) : Type 0 where
  hearer : r < 2
  teller : s ≡ 1 - r
  q_is : q ≡ 1
  p_is : p ≡ 1
  theirs : m.theirs ≡ ports_of_two s
  ours : m.ours ≡ ports_of_two r
  far : m.far ≡ shared_port s

they_meet : (s q r p : ℕ) (m : Meet two_routers s q r p) → TheyMeet s q r p m
they_meet s q r p m =
    let one = router_is s m.theirs m.teller in
    let two = router_is r m.ours m.hearer in
    by_ports one.0 one.1 two.0 two.1
    (port_is s (q - 1) m.far (subst (λ ports. slice_get ports (q - 1) ≡ Some m.far) one.1 m.at_far.1))
    (port_is r (p - 1) m.near (subst (λ ports. slice_get ports (p - 1) ≡ Some m.near) two.1 m.at_near.1))
  where
    by_ports : s < 2 → m.theirs ≡ ports_of_two s → r < 2 → m.ours ≡ ports_of_two r → PortIs s (q - 1) m.far → PortIs r (p - 1) m.near → TheyMeet s q r p m
    by_ports low_s theirs low_r ours (inl f) (inl n) = record {
      hearer = low_r;
      teller = omega (arith, low_s, low_r, m.two);
      q_is = omega (arith, f.0, m.at_far.0);
      p_is = omega (arith, n.0, m.at_near.0);
      theirs = theirs;
      ours = ours;
      far = f.1;
    }
    by_ports low_s theirs low_r ours (inl f) (inr n) =
        let same : 1 ≡ r + 2 = sym (ap (λ (z : Port). z.network.0) f.1) ∙ ap (λ (z : Network). z.0) m.one_network ∙ ap (λ (z : Port). z.network.0) n.1 in
        absurd (omega (arith, same))
    by_ports low_s theirs low_r ours (inr f) (inl n) =
        let same : s + 2 ≡ 1 = sym (ap (λ (z : Port). z.network.0) f.1) ∙ ap (λ (z : Network). z.0) m.one_network ∙ ap (λ (z : Port). z.network.0) n.1 in
        absurd (omega (arith, same))
    by_ports low_s theirs low_r ours (inr f) (inr n) =
        let same : s + 2 ≡ r + 2 = sym (ap (λ (z : Port). z.network.0) f.1) ∙ ap (λ (z : Network). z.0) m.one_network ∙ ap (λ (z : Port). z.network.0) n.1 in
        absurd (m.two (omega (arith, same)))

nodes_differ : NodesDiffer two_routers
nodes_differ s q s' q' r p r' p' a b same_r same_p nodes =
    let one = they_meet s q r p a in
    let two = they_meet s' q' r' p' b in
    (one.teller ∙ ap (λ z. 1 - z) same_r ∙ sym two.teller, one.q_is ∙ sym two.q_is)

cost_one : CostsWithin 1 two_routers
cost_one s q ports port at is =
    by_port (port_is s (q - 1) port (subst (λ z. slice_get z (q - 1) ≡ Some port) (router_is s ports at).1 is.1))
  where
    by_port : PortIs s (q - 1) port → (1 ≤ port.cost) × (port.cost ≤ 1)
    by_port (inl h) = let cost : port.cost ≡ 1 = ap (λ (z : Port). z.cost) h.1 in (omega (arith, cost), omega (arith, cost))
    by_port (inr h) = let cost : port.cost ≡ 1 = ap (λ (z : Port). z.cost) h.1 in (omega (arith, cost), omega (arith, cost))

-- ---- the run

abbrev turn : ℕ → ℕ
turn zero = 0
turn (suc n) = 1 - turn n

turn_low : (n : ℕ) → turn n < 2
turn_low zero = omega arith
turn_low (suc n) = omega arith

-- what a router advertises of its own network
abbrev entry : ℕ → RipEntry
entry i = record { network = record { 0 = i + 2 }; hops = 1; ticks = 1 }

abbrev heard : ℕ → Hearing
heard n = record { router = turn n; source = from_other (turn n); entries = entry (1 - turn n) ∷ [] }

abbrev after_turn : ℕ → ℕ → Routes → Routes
after_turn n r c = after_routes (ports_of_two r) (from_other r) (by_half_minutes n) (after_age c (by_half_minutes n)) (entry (1 - r) ∷ [])

abbrev says : (ℕ → Routes) → Saying
says first zero r = first r
says first (suc n) r = cond (r == turn n) (after_turn n r (says first n r)) (says first n r)

only_one : (x e : RipEntry) → Contains (x ∷ []) e → x ≡ e
only_one x e (zero, within, is) = is
only_one x e (suc k, within, is) = absurd (omega (arith, within))

abbrev meeting : (r : ℕ) → r < 2 → Meet two_routers (1 - r) 1 r 1
meeting r low = record {
  theirs = ports_of_two (1 - r);
  ours = ports_of_two r;
  far = shared_port (1 - r);
  near = shared_port r;
  teller = ports_at (1 - r) (omega arith);
  hearer = ports_at r low;
  at_far = (omega arith, refl);
  at_near = (omega arith, refl);
  one_network = refl;
  two = λ e. omega (arith, e, low);
}

abbrev at_port : ℕ → ℕ → PortNow
at_port i now = record { number = 1; port = shared_port i; now = now }

-- the port on a network
abbrev DirectIs : ℕ → Network → Type 0
DirectIs i d = ((d.0 ≡ 1) × (direct_route (ports_of_two i) d ≡ Some 0)) ⊎ (((d.0 ≡ i + 2) × (direct_route (ports_of_two i) d ≡ Some 1)) ⊎ (direct_route (ports_of_two i) d ≡ None))

direct_is : (i : ℕ) (d : Network) → DirectIs i d
direct_is i d = elim (bool_cases (1 == d.0)) [
  | inl shared ↦ inl (sym (eqb-true 1 d.0 shared), simp (shared) refl)
  | inr other ↦ elim (bool_cases (i + 2 == d.0)) [
    | inl mine ↦ inr (inl (sym (eqb-true (i + 2) d.0 mine), simp (other, mine) refl))
    | inr none ↦ inr (inr (simp (other, none) refl))
  ]
]

own_direct : (i : ℕ) (d : Network) → d.0 ≡ i + 2 → direct_route (ports_of_two i) d ≡ Some 1
own_direct i d is = simp (ne_eqb 1 d.0 (λ e. omega (arith, e, is)), eq-eqb (i + 2) d.0 (sym is)) refl

-- each advertises its own network
told_own : (i : ℕ) (c : Routes) (now : ℕ) → IsAdvertisedRoute (ports_of_two i) c (at_port i now) (entry i)
told_own i c now = record {
  route = over_port 1;
  leads = subst (By c now (entry i).network (over_port 1)) (sym (own_direct i (entry i).network refl)) refl;
  elsewhere = λ e. omega (arith, e);
  is = refl;
}

-- and nothing else, since everything that it learned came by the same port
told_only : (i : ℕ) (c : Routes) (now : ℕ) → ((p : Network × Source) (w : Word) → c p ≡ Some w → p.1 ≡ from_other i) → (e : RipEntry) → IsAdvertisedRoute (ports_of_two i) c (at_port i now) e → e ≡ entry i
told_only i c now only e told = by_direct (direct_is i e.network)
  where
    elsewhere : told.route.port ≡ 1 → ⊥
    elsewhere = told.elsewhere

    leads_by : (o : Option ℕ) → direct_route (ports_of_two i) e.network ≡ o → By c now e.network told.route o
    leads_by o is = subst (By c now e.network told.route) is told.leads

    by_direct : DirectIs i e.network → e ≡ entry i
    by_direct (inl h) = absurd (elsewhere (ap (λ (z : Route). z.port) (leads_by (Some 0) h.1)))
    by_direct (inr (inl h)) =
        told.is ∙ ap (λ (z : Route). advertised_route e.network z.metric (at_port i now)) (leads_by (Some 1) h.1)
        ∙ ap (λ (n : ℕ). advertised_route (record { 0 = n }) (over_port 1).metric (at_port i now)) h.0
    by_direct (inr (inr h)) =
        let best : IsHeardRoute c now e.network told.route = leads_by None h in
        absurd (elsewhere (ap (λ (z : Route). z.port) best.2 ∙ ap (λ (z : Source). z.port) (only (e.network, best.0.0) (best.0.1, best.1.moment) best.1.stands)))

still_young : (now : ℕ) (o : Option Word) (w : Word) → still now o ≡ Some w → is_young now w.1 ≡ true
still_young now None w h = let none : None ≡ Some w = h in cc
still_young now (Some v) w h = elim (bool_cases (is_young now v.1)) [
  | inl young ↦ ap (λ (z : Word). is_young now z.1) (some_same w v (sym h ∙ still_is now v young)) ∙ young
  | inr old ↦ let none : None ≡ Some w = sym (ap (λ b. cond b (Some v) None) old) ∙ h in cc
]

-- the route by the port on the network, or by the offer of one source
abbrev route_by : Option ℕ → Source → Option Word → Option Route
route_by (Some place) source w = Some (over_port place)
route_by None source None = None
route_by None source (Some w) = Some (over_neighbour (source, w.0))

not_both : (w : Word) → Some w ≡ None → ⊥
not_both w e = cc

-- if everything came from that source, it is the route
module _ (laws : LawsOfTables) (ports : List Port) (c : Routes) (now : ℕ) (d : Network) (source : Source) (only : (p : Network × Source) (w : Word) → c p ≡ Some w → p.1 ≡ source) where
  from_it : (s : Source) (w : Word) → c (d, s) ≡ Some w → c (d, source) ≡ Some w
  from_it s w is = sym (ap (λ z. c (d, z)) (only (d, s) w is)) ∙ is

  best_is : (w : Word) → still now (c (d, source)) ≡ Some w → IsBest route_before c d now (source, w.0)
  best_is w is = record {
    moment = w.1;
    stands = still_was now (c (d, source)) w is;
    counts = still_young now (c (d, source)) w is;
    least = λ s m t stands young.
        let same : (m, t) ≡ w = some_same (m, t) w (sym (ap (still now) (from_it s (m, t) stands) ∙ still_is now (m, t) young) ∙ is) in
        let offer : (s, m) ≡ (source, w.0) = ap (λ z. (z, m)) (only (d, s) (m, t) stands) ∙ ap (λ (z : Word). (source, z.0)) same in
        ap (λ (z : Source × RouteMetric). is_better route_before z (source, w.0)) offer ∙ laws.strict.irreflexive (source, w.0);
  }

  none_is : still now (c (d, source)) ≡ None → NoneCounts c d now
  none_is is s m t stands = elim (bool_cases (is_young now t)) [
    | inr old ↦ old
    | inl young ↦ absurd (not_both (m, t) (sym (ap (still now) (from_it s (m, t) stands) ∙ still_is now (m, t) young) ∙ is))
  ]

  is_route_by : (o : Option ℕ) → direct_route ports d ≡ o → (w : Option Word) → still now (c (d, source)) ≡ w → IsRouteOrNone ports c now d (route_by o source w)
  is_route_by (Some place) direct w is = subst (By c now d (over_port place)) (sym direct) refl
  is_route_by None direct None is = (direct, none_is is)
  is_route_by None direct (Some w) is = subst (By c now d (over_neighbour (source, w.0))) (sym direct) ((source, w.0), best_is w is, refl)

the_other : (i r : ℕ) → i < 2 → r < 2 → i ≢ r → 1 - i ≡ r
the_other i r one two apart = omega (arith, one, two, apart)

module _ (laws : LawsOfTables) (first : ℕ → Routes) (from : IsFromOther first) where
  abbrev table : Saying
  table = says first

  in_turn : (n r : ℕ) (p : Network × Source) → r ≡ turn n → table (suc n) r p ≡ after_turn n r (table n r) p
  in_turn n r p is = ap (λ b. cond b (after_turn n r (table n r)) (table n r) p) (eq-eqb r (turn n) is)

  out_of_turn : (n r : ℕ) (p : Network × Source) → r ≢ turn n → table (suc n) r p ≡ table n r p
  out_of_turn n r p other = ap (λ b. cond b (after_turn n r (table n r)) (table n r) p) (ne_eqb r (turn n) other)

  -- everything that a table holds came from the other router
  only_other : (n r : ℕ) (p : Network × Source) (w : Word) → table n r p ≡ Some w → p.1 ≡ from_other r
  only_other zero r p w is = (from r p w is).0
  only_other (suc n) r p w is = elim (bool_cases (r == turn n)) [
    | inl mine ↦ elim (said_by (ports_of_two r) (from_other r) (by_half_minutes n) p (after_age (table n r) (by_half_minutes n)) (entry (1 - r) ∷ []) w (sym (in_turn n r p (eqb-true r (turn n) mine)) ∙ is)) [
      | inl old ↦ only_other n r p w (still_was (by_half_minutes n) (table n r p) w old)
      | inr t ↦ sym (same_parts laws (t.0.network, from_other r) p t.2.same).1
    ]
    | inr other ↦ only_other n r p w (sym (ap (λ b. cond b (after_turn n r (table n r)) (table n r) p) other) ∙ is)
  ]

  runs : IsRun two_routers by_half_minutes table heard
  runs = record {
    rises = λ n. omega arith;
    past = λ r p m moment is. omega (arith, (from r p (m, moment) is).1);
    hears = λ n ours at p. in_turn n (turn n) p refl ∙ ap (λ ports. after_routes ports (from_other (turn n)) (by_half_minutes n) (after_age (table n (turn n)) (by_half_minutes n)) (entry (1 - turn n) ∷ []) p) (sym (router_is (turn n) ours at).1);
    hearer = λ n. (ports_of_two (turn n), ports_at (turn n) (turn_low n));
    others = λ n r p other. inl (out_of_turn n r p other);
  }

  nothing_forged : (d : Network) → NothingForged two_routers by_half_minutes table heard d
  nothing_forged d n e there named =
      let t : TellsTo two_routers by_half_minutes table heard n (turn n) (from_other (turn n)) = record {
        s = 1 - turn n;
        q = 1;
        p = 1;
        meet = meeting (turn n) (turn_low n);
        is = refl;
        advertised_at = n;
        before = omega arith;
        same_time = refl;
      } in
      (t, subst (IsInAdvertisement two_routers by_half_minutes table heard n (turn n) (from_other (turn n)) t) (only_one (entry (1 - turn n)) e there) (told_own (1 - turn n) (table n (1 - turn n)) (by_half_minutes n)))

  module _ (d : Network) where
    abbrev route_at : ℕ → ℕ → Option (List Port) → Option Route
    route_at n r None = None
    route_at n r (Some ours) = route_by (direct_route ours d) (from_other r) (still (by_half_minutes n) (table n r (d, from_other r)))

    abbrev routes : Routing
    routes n r = route_at n r (slice_get two_routers r)

    are : AreRoutes two_routers d by_half_minutes table routes
    are = record {
      of_router = λ n r ours at. subst (λ o. IsRouteOrNone ours (table n r) (by_half_minutes n) d (route_at n r o)) (sym at) (is_route_by laws ours (table n r) (by_half_minutes n) d (from_other r) (only_other n r) (direct_route ours d) refl (still (by_half_minutes n) (table n r (d, from_other r))) refl);
      no_router = λ n r at. ap (route_at n r) at;
    }

    heard_at : (k n s q r p : ℕ) (meet : Meet two_routers s q r p) (e : RipEntry) → k < n → by_half_minutes n < by_half_minutes k + 180000 → turn k ≡ r
        → IsAdvertisedRoute meet.theirs (table k s) (record { number = q; port = meet.far; now = by_half_minutes k }) e
        → (k : ℕ) × (k < n) × (by_half_minutes n < by_half_minutes k + 180000) × ((heard k).router ≡ r)
        × ((heard k).source ≡ record { port = p; neighbour = meet.far.node }) × Contains (heard k).entries e
    heard_at k n s q r p meet e before recent is told =
        let they = they_meet s q r p meet in
        let sender : 1 - turn k ≡ s = ap (λ z. 1 - z) is ∙ sym they.teller in
        let by_ports = subst (λ ports. IsAdvertisedRoute ports (table k s) (record { number = q; port = meet.far; now = by_half_minutes k }) e) they.theirs told in
        let by_number = subst (λ number. IsAdvertisedRoute (ports_of_two s) (table k s) (record { number = number; port = meet.far; now = by_half_minutes k }) e) they.q_is by_ports in
        let by_port = subst (λ port. IsAdvertisedRoute (ports_of_two s) (table k s) (record { number = 1; port = port; now = by_half_minutes k }) e) they.far by_number in
        let entry_is : e ≡ entry s = told_only s (table k s) (by_half_minutes k) (only_other k s) e by_port in
        let node : own_node (1 - turn k) ≡ meet.far.node = ap own_node sender ∙ sym (ap (λ (z : Port). z.node) they.far) in
        let source : (heard k).source ≡ record { port = p; neighbour = meet.far.node } = ap (λ z. let x : Source = record { port = 1; neighbour = z } in x) node ∙ ap (λ z. let x : Source = record { port = z; neighbour = meet.far.node } in x) (sym they.p_is) in
        (k, before, recent, is, source, (0, omega arith, ap entry sender ∙ sym entry_is))

    all_is_heard : AllIsHeard two_routers by_half_minutes table heard d (by_half_minutes 0 + 16 * 180000)
    all_is_heard zero s q r p late meet e named told = absurd (omega (arith, late))
    all_is_heard (suc zero) s q r p late meet e named told = absurd (omega (arith, late))
    all_is_heard (suc (suc m)) s q r p late meet e named told = elim (bool_cases (turn m == r)) [
      | inl is ↦ heard_at m (suc (suc m)) s q r p meet e (omega arith) (omega arith) (eqb-true (turn m) r is) (told m (omega arith) (omega arith))
      | inr other ↦
          let is : turn (suc m) ≡ r = the_other (turn m) r (turn_low m) (they_meet s q r p meet).hearer (λ e. eqb-false (turn m) r other e) in
          heard_at (suc m) (suc (suc m)) s q r p meet e (omega arith) (omega arith) is (told (suc m) (omega arith) (omega arith))
    ]

    abbrev fair : IsFairRun two_routers d by_half_minutes routes
    fair = record {
      one = record { says = table; heard = heard; run = runs; honest = nothing_forged d; routes = are };
      often = all_is_heard;
    }

-- ---- each shortest path is a shortest path and one more advertisement

module _ (laws : LawsOfTables) (d : Network) where
  owns_one : (r : ℕ) (a b : Route) → Owns two_routers d r a → Owns two_routers d r b → a ≡ b
  owns_one r a b one two =
      let ours : one.ours ≡ two.ours = some_same one.ours two.ours (sym one.router ∙ two.router) in
      let place : one.place ≡ two.place = some_same one.place two.place (sym one.direct ∙ ap (λ ports. direct_route ports d) ours ∙ two.direct) in
      one.is ∙ ap over_port place ∙ sym two.is

  not_told : (s r : ℕ) (a b c : Route) → Owns two_routers d r c → TellsRoute two_routers d s a r b → ⊥
  not_told s r a b c mine tells =
      let ours : mine.ours ≡ tells.meet.ours = some_same mine.ours tells.meet.ours (sym mine.router ∙ tells.meet.hearer) in
      let no_place : Some mine.place ≡ None = sym mine.direct ∙ ap (λ ports. direct_route ports d) ours ∙ tells.no_port in
      cc

  not_told_on : (t s r : ℕ) (c a b : Route) → TellsRoute two_routers d t c s a → TellsRoute two_routers d s a r b → ⊥
  not_told_on t s r c a b one two =
      let port : a.port ≡ one.p = ap (λ (z : Route). z.port) one.is ∙ ap (λ (z : Source). z.port) one.from in
      two.elsewhere (port ∙ (they_meet t one.q s one.p one.meet).p_is ∙ sym (they_meet s two.q r two.p two.meet).q_is)

  own_is_least : (s : ℕ) (a : Route) → Owns two_routers d s a → IsLeastWay two_routers d s a
  own_is_least s a mine = record { way = own mine; least = λ c way. no_better c way }
    where
      no_better : (c : Route) → Way two_routers d s c → better_route c a ≡ false
      no_better c (own other) = ap (λ z. better_route z a) (owns_one s c a other mine) ∙ laws.strict.irreflexive (as_offer a)
      no_better c (over {s = t} {a = e} way tells) = absurd (not_told t s e c a mine tells)

  least_one_on : (s r : ℕ) (a b : Route) → Way two_routers d s a → TellsRoute two_routers d s a r b → IsLeastWay two_routers d s a
  least_one_on s r a b (own mine) tells = own_is_least s a mine
  least_one_on s r a b (over {s = t} {a = c} way one) tells = absurd (not_told_on t s r c a b one tells)

  extends_by : (r : ℕ) (b : Route) → Way two_routers d r b → Owns two_routers d r b ⊎ ((s : ℕ) × (a : Route) × IsLeastWay two_routers d s a × TellsRoute two_routers d s a r b)
  extends_by r b (own mine) = inl mine
  extends_by r b (over {s = s} {a = a} way tells) = inr (s, a, least_one_on s r a b way tells, tells)

pub exist : LawsOfTables → FairRunsExist
exist laws d first from = (
  routes laws first from d,
  record {
    nodes = nodes_differ;
    costs = cost_one;
    extend = λ r b least. extends_by laws d r b least.way;
    fair = fair laws first from d;
    begins = refl;
  },
)

-- ---- a forged route

-- each has it by the other one
abbrev forged : ℕ → Routes
forged r = content network_cmp (record { key = gone_network; source = from_other r; metric = record { ticks = 2; hops = 2 }; heard = 0 } ∷ [])

forged_from_other : LawsOfTables → IsFromOther forged
forged_from_other laws r p w is = elim (bool_cases (is_same network_cmp (gone_network, from_other r) p)) [
  | inl same ↦
      let value : (record { ticks = 2; hops = 2 }, 0) ≡ w = some_same (record { ticks = 2; hops = 2 }, 0) w (sym (ap (λ b. cond b (Some (record { ticks = 2; hops = 2 }, 0)) None) same) ∙ is) in
      (sym (same_parts laws (gone_network, from_other r) p same).1, sym (ap (λ (z : Word). z.1) value))
  | inr other ↦ let none : None ≡ Some w = sym (ap (λ b. cond b (Some (record { ticks = 2; hops = 2 }, 0)) None) other) ∙ is in cc
]

no_port_there : (r : ℕ) → r < 2 → direct_route (ports_of_two r) gone_network ≡ None
no_port_there zero low = refl
no_port_there (suc zero) low = refl
no_port_there (suc (suc r)) low = absurd (omega (arith, low))

no_way : (r : ℕ) (b : Route) → Way two_routers gone_network r b → ⊥
no_way r b (own mine) =
    let at = router_is r mine.ours mine.router in
    let none : Some mine.place ≡ None = sym mine.direct ∙ ap (λ ports. direct_route ports gone_network) at.1 ∙ no_port_there r at.0 in
    cc
no_way r b (over {s = s} {a = a} way tells) = no_way s a way

at_first : (laws : LawsOfTables) (r : ℕ) → r < 2 → routes laws forged (forged_from_other laws) gone_network 0 r ≡ Some (forged_route r)
at_first laws zero low = refl
at_first laws (suc zero) low = refl
at_first laws (suc (suc r)) low = absurd (omega (arith, low))

pub forged_goes : LawsOfTables → ForgedRouteGoes
forged_goes laws =
    let run = fair laws forged (forged_from_other laws) gone_network in
    (routes laws forged (forged_from_other laws) gone_network, run, at_first laws, λ n r late. forget laws two_routers gone_network by_half_minutes (routes laws forged (forged_from_other laws) gone_network) run.one no_way n r late)
