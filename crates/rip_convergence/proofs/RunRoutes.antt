-- The routes of a run are a history.
use Rattle.std.proofs.Common.{ℕ, zero, suc, ◌+◌, ◌-◌, ◌<◌, ◌≤◌, ◌≡◌, ◌⊎◌, ◌==◌, true, false, List, Contains, slice_get, Option, Some, None, MatchOption, nat_lt, refl, sym, ap, ◌∙◌, subst, inl, inr, arith, eqb-true}
use Rattle.std.proofs.lemmas.Bool.{ltb-true, ltb-false, lt-ltb, eq-eqb}
use Rattle.ipx_wire.specs.declared.address.Network.{Network}
use Rattle.ipx_control.specs.declared.rip.packet.RipEntry.{RipEntry}
use Rattle.ipx_tables.specs.declared.route.RouteMetric.{RouteMetric}
use Rattle.ipx_tables.specs.declared.source.Source.{Source}
use Rattle.ipx_tables.specs.Content.{after_age, is_same, is_young, still}
use Rattle.ipx_tables.specs.Route.{network_cmp, route_dead}
use Rattle.ipx_router.specs.declared.port.Port.{Port}
use Rattle.ipx_router.specs.declared.port.PortNow.{PortNow}
use Rattle.ipx_router.specs.declared.route.Route.{Route}
use Rattle.ipx_router.specs.Hearing.{is_heard, route_metric}
use Rattle.ipx_router.specs.Knowledge.{Routes}
use Rattle.ipx_router.specs.RouteChoice.{IsHeardRoute, IsRouteOrNone, IsRouteTo, direct_route, over_neighbour, over_port}
use Rattle.ipx_router.specs.AdvertisedEntries.{advertised_route}
use Rattle.rip_convergence.specs.TableLaws.{LawsOfTables}
use Rattle.rip_convergence.specs.Histories.{Clock, HasAsGood, Internet, IsHistory, Owns, Routing, TellsRoute, WasAdvertised, better_route, is_foreign, advertised_metric}
use Rattle.rip_convergence.specs.RouterRuns.{AllIsHeard, AreRoutes, Hearing, IsRun, NodesDiffer, NothingForged, Saying, TellsTo, IsInAdvertisement}
use Rattle.rip_convergence.proofs.Hearing.{IsPresent, Word, keeps, makes, said_by, same_itself, same_parts, still_is, still_was}
use Rattle.rip_convergence.proofs.Settling.{bool_cases, some_same}

abbrev pub By : Routes → ℕ → Network → Route → Option ℕ → Type 0
By routes now d a o = MatchOption o (IsHeardRoute routes now d a) (λ place. a ≡ over_port place)

one_by : (laws : LawsOfTables) (routes : Routes) (now : ℕ) (d : Network) (o : Option ℕ) (a b : Route) → By routes now d a o → By routes now d b o → a ≡ b
one_by laws routes now d None a b p q =
    p.2 ∙ ap over_neighbour (laws.one_best routes d now p.0 q.0 p.1 q.1) ∙ sym q.2
one_by laws routes now d (Some place) a b p q = p ∙ sym q

none_by : (ports : List Port) (routes : Routes) (now : ℕ) (d : Network) (a : Route) → IsRouteOrNone ports routes now d None → IsRouteTo ports routes now d a → ⊥
none_by ports routes now d a none leads =
    let h : IsHeardRoute routes now d a = subst (By routes now d a) none.0 leads in
    let no = none.1 h.0.0 h.0.1 h.1.moment h.1.stands in
    let yet : true ≡ false = sym h.1.counts ∙ no in cc

-- a router has one route
route_is : (laws : LawsOfTables) (ports : List Port) (routes : Routes) (now : ℕ) (d : Network) (o : Option Route) (a : Route) → IsRouteOrNone ports routes now d o → IsRouteTo ports routes now d a → o ≡ Some a
route_is laws ports routes now d None a none leads = absurd (none_by ports routes now d a none leads)
route_is laws ports routes now d (Some b) a is leads = ap (λ r. Some r) (one_by laws routes now d (direct_route ports d) b a is leads)

module _ (laws : LawsOfTables) (net : Internet) (d : Network) (clock : Clock) (c : Saying) (heard : ℕ → Hearing) (x : Routing)
    (run : IsRun net clock c heard) (honest : NothingForged net clock c heard d) (are : AreRoutes net d clock c x) where
  -- what is in a table for the network was learned, unless it was there at first
  record WasHeard (r : ℕ) (p : Network × Source) (w : Word) : Type 0 where
    n : ℕ
    source : Source
    from_it : source ≡ p.1
    told : TellsTo net clock c heard n r source
    e : RipEntry
    named : e.network ≡ p.0
    said : IsInAdvertisement net clock c heard n r source told e
    metric : route_metric e ≡ w.0
    at : clock n ≡ w.1
    ours : List Port
    router : slice_get net r ≡ Some ours
    hears : is_heard ours e ≡ true
    alive : route_dead (route_metric e) ≡ false

  -- learned at a step before
  abbrev Kept : ℕ → ℕ → Network × Source → Word → Type 0
  Kept t r p w = (w.1 ≤ clock 0) ⊎ ((h : WasHeard r p w) × (h.n < t))

  kept_later : (t r : ℕ) (p : Network × Source) (w : Word) → Kept t r p w → Kept (suc t) r p w
  kept_later t r p w k = elim k [
    | inl old ↦ inl old
    | inr h ↦ inr (h.0, omega (arith, h.1))
  ]

  kept : (n r : ℕ) (p : Network × Source) (w : Word) → p.0 ≡ d → c n r p ≡ Some w → Kept n r p w
  kept zero r p w of is = inl (run.past r p w.0 w.1 is)
  kept (suc n) r p w of is = elim (bool_cases (r == (heard n).router)) [
    | inl same ↦
        let eq : r ≡ (heard n).router = eqb-true r (heard n).router same in
        let ours = run.hearer n in
        let now_is = sym (run.hears n ours.0 ours.1 p) ∙ ap (λ k. c (suc n) k p) (sym eq) ∙ is in
        subst (λ k. Kept (suc n) k p w) (sym eq)
        (elim (said_by ours.0 (heard n).source (clock n) p (after_age (c n (heard n).router) (clock n)) (heard n).entries w now_is) [
          | inl old ↦ kept_later n (heard n).router p w (kept n (heard n).router p w of (still_was (clock n) (c n (heard n).router p) w old))
          | inr t ↦
              let parts = same_parts laws (t.0.network, (heard n).source) p t.2.same in
              let h = honest n t.0 t.1 (parts.0 ∙ of) in
              let h' : WasHeard (heard n).router p w = record {
                n = n;
                source = (heard n).source;
                from_it = parts.1;
                told = h.0;
                e = t.0;
                named = parts.0;
                said = h.1;
                metric = ap (λ z. z.0) t.2.is;
                at = ap (λ z. z.1) t.2.is;
                ours = ours.0;
                router = ours.1;
                hears = t.2.heard;
                alive = t.2.alive;
              } in
              inr (h', omega arith)
        ])
    | inr other ↦ elim (run.others n r p (λ eq. let no : true ≡ false = sym (eq-eqb r (heard n).router eq) ∙ other in cc)) [
      | inl stays ↦ kept_later n r p w (kept n r p w of (sym stays ∙ is))
      | inr aged ↦ kept_later n r p w (kept n r p w of (still_was (clock n) (c n r p) w (sym aged ∙ is)))
    ]
  ]

  own : (t r : ℕ) (b : Route) → Owns net d r b → x t r ≡ Some b
  own t r b o =
      route_is laws o.ours (c t r) (clock t) d (x t r) b (are.of_router t r o.ours o.router)
      (subst (By (c t r) (clock t) d b) (sym o.direct) o.is)

  pub sourced : (t r : ℕ) (b : Route) → clock 0 + 180000 ≤ clock t → x t r ≡ Some b → Owns net d r b ⊎ WasAdvertised net d 180000 clock x t r b
  sourced t r b late has = by_router (slice_get net r) refl
    where
      by_offer : (ours : List Port) → slice_get net r ≡ Some ours → direct_route ours d ≡ None → IsHeardRoute (c t r) (clock t) d b → WasAdvertised net d 180000 clock x t r b
      by_offer ours at none h =
          let young = ltb-true (clock t - h.1.moment) 180000 h.1.counts in
          elim (kept t r (d, h.0.0) (h.0.1, h.1.moment) refl h.1.stands) [
            | inl old ↦ absurd (omega (arith, young, old, late))
            | inr heard_before ↦
                let w = heard_before.0 in
                let t' = w.told in
                let same_ours : w.ours ≡ t'.meet.ours = some_same w.ours t'.meet.ours (sym w.router ∙ t'.meet.hearer) in
                let ours_same : ours ≡ t'.meet.ours = some_same ours t'.meet.ours (sym at ∙ t'.meet.hearer) in
                let leads : IsRouteTo t'.meet.theirs (c t'.advertised_at t'.s) (clock t'.advertised_at) d w.said.route = subst (λ n. IsRouteTo t'.meet.theirs (c t'.advertised_at t'.s) (clock t'.advertised_at) n w.said.route) w.named w.said.leads in
                record {
                  who = t'.s;
                  route = w.said.route;
                  step = t'.advertised_at;
                  before = omega (arith, t'.before, heard_before.1);
                  recent = omega (arith, young, w.at, t'.same_time);
                  had = route_is laws t'.meet.theirs (c t'.advertised_at t'.s) (clock t'.advertised_at) d (x t'.advertised_at t'.s) w.said.route (are.of_router t'.advertised_at t'.s t'.meet.theirs t'.meet.teller) leads;
                  tells = record {
                    q = t'.q;
                    p = t'.p;
                    meet = t'.meet;
                    elsewhere = w.said.elsewhere;
                    foreign = subst (λ ports. is_foreign ports d ≡ true) same_ours (subst (λ n. is_foreign w.ours n ≡ true) w.named w.hears);
                    no_port = subst (λ ports. direct_route ports d ≡ None) ours_same none;
                    best = h.0;
                    from = sym w.from_it ∙ t'.is;
                    metric = sym w.metric ∙ ap route_metric w.said.is;
                    alive = subst (λ m. route_dead m ≡ false) w.metric w.alive;
                    is = h.2;
                  };
                }
          ]

      by_ports : (ours : List Port) → slice_get net r ≡ Some ours → (o : Option ℕ) → direct_route ours d ≡ o → By (c t r) (clock t) d b o → Owns net d r b ⊎ WasAdvertised net d 180000 clock x t r b
      by_ports ours at (Some place) direct is = inl (record { ours = ours; place = place; router = at; direct = direct; is = is })
      by_ports ours at None direct h = inr (by_offer ours at direct h)

      by_router : (o : Option (List Port)) → slice_get net r ≡ o → Owns net d r b ⊎ WasAdvertised net d 180000 clock x t r b
      by_router None at = let no : None ≡ Some b = sym (are.no_router t r at) ∙ has in cc
      by_router (Some ours) at =
          by_ports ours at (direct_route ours d) refl
          (subst (λ o. IsRouteOrNone ours (c t r) (clock t) d o) has (are.of_router t r ours at))

  later_on : (n m : ℕ) → n ≤ m → clock n ≤ clock m
  later_on n zero low = omega (arith, ap clock (let z : n ≡ 0 = omega (arith, low) in z))
  later_on n (suc m) low = elim (bool_cases (nat_lt m n)) [
    | inl high ↦ let is : n ≡ suc m = omega (arith, low, ltb-true m n high) in omega (arith, ap clock is)
    | inr other ↦ omega (arith, later_on n m (ltb-false m n other), run.rises m)
  ]

  module _ (from : ℕ) (differ : NodesDiffer net) (often : AllIsHeard net clock c heard d from) (t s r : ℕ) (a b : Route) (late : from + 180000 ≤ clock t) (tells : TellsRoute net d s a r b)
      (still_has : (u : ℕ) → u ≤ t → clock t < clock u + 180000 → x u s ≡ Some a) where
    abbrev v : RouteMetric
    v = tells.best.1

    abbrev pt : Network × Source
    pt = (d, tells.best.0)

    -- everything that is learned from the same source within the window is the same
    agree : (n : ℕ) → n ≤ t → clock t < clock n + 180000 → (heard n).router ≡ r → (e : RipEntry) → Contains (heard n).entries e
        → is_same network_cmp (e.network, (heard n).source) pt ≡ true → route_metric e ≡ v
    agree n within recent at e m same =
        let parts = same_parts laws (e.network, (heard n).source) pt same in
        let h = honest n e m parts.0 in
        let t' = h.0 in
        let one : Source = record { port = t'.p; neighbour = t'.meet.far.node } in
        let two : Source = record { port = tells.p; neighbour = tells.meet.far.node } in
        let sources : one ≡ two = sym t'.is ∙ parts.1 ∙ tells.from in
        let who = differ t'.s t'.q s tells.q (heard n).router t'.p r tells.p t'.meet tells.meet at (ap (λ (z : Source). z.port) sources) (ap (λ (z : Source). z.neighbour) sources) in
        let has : x t'.advertised_at s ≡ Some a = still_has t'.advertised_at (omega (arith, within, t'.before)) (omega (arith, recent, t'.same_time)) in
        let leads : IsRouteTo t'.meet.theirs (c t'.advertised_at t'.s) (clock t'.advertised_at) d h.1.route = subst (λ n. IsRouteTo t'.meet.theirs (c t'.advertised_at t'.s) (clock t'.advertised_at) n h.1.route) parts.0 h.1.leads in
        let was = route_is laws t'.meet.theirs (c t'.advertised_at t'.s) (clock t'.advertised_at) d (x t'.advertised_at t'.s) h.1.route (are.of_router t'.advertised_at t'.s t'.meet.theirs t'.meet.teller) leads in
        let route : h.1.route ≡ a = some_same h.1.route a (sym was ∙ ap (x t'.advertised_at) who.0 ∙ has) in
        let theirs : t'.meet.theirs ≡ tells.meet.theirs = some_same t'.meet.theirs tells.meet.theirs (sym t'.meet.teller ∙ ap (slice_get net) who.0 ∙ tells.meet.teller) in
        let far : t'.meet.far ≡ tells.meet.far = some_same t'.meet.far tells.meet.far (sym t'.meet.at_far.1 ∙ ap (λ ports. slice_get ports (t'.q - 1)) theirs ∙ ap (λ k. slice_get tells.meet.theirs (k - 1)) who.1 ∙ tells.meet.at_far.1) in
        ap route_metric h.1.is ∙ ap (λ (f : Port). advertised_metric f.cost h.1.route.metric) far ∙ ap (λ (m : Route). advertised_metric tells.meet.far.cost m.metric) route ∙ sym tells.metric

    aged_holds : (k n : ℕ) (o : Option Word) → clock t < clock k + 180000 → n ≤ t → IsPresent v (clock k) o → IsPresent v (clock k) (still (clock n) o)
    aged_holds k n o recent high st =
        let young : is_young (clock n) st.moment ≡ true = lt-ltb (clock n - st.moment) 180000 (omega (arith, recent, later_on n t high, st.since)) in
        record { moment = st.moment; is = ap (still (clock n)) st.is ∙ still_is (clock n) (v, st.moment) young; since = st.since }

    stands_on : (k n : ℕ) → clock t < clock k + 180000 → k < n → suc n ≤ t → IsPresent v (clock k) (c n r pt) → IsPresent v (clock k) (c (suc n) r pt)
    stands_on k n recent low high st = elim (bool_cases (r == (heard n).router)) [
      | inl same ↦
          let eq : r ≡ (heard n).router = eqb-true r (heard n).router same in
          let ours = run.hearer n in
          let since = later_on k n (omega (arith, low)) in
          let there : IsPresent v (clock k) (c n (heard n).router pt) = subst (λ z. IsPresent v (clock k) (c n z pt)) eq st in
          let kept_on = keeps ours.0 (heard n).source (clock n) pt v tells.alive (clock k) since (heard n).entries (after_age (c n (heard n).router) (clock n)) (agree n (omega (arith, high)) (omega (arith, recent, since)) (sym eq)) (aged_holds k n (c n (heard n).router pt) recent (omega (arith, high)) there) in
          subst (λ z. IsPresent v (clock k) (c (suc n) z pt)) (sym eq) (subst (IsPresent v (clock k)) (sym (run.hears n ours.0 ours.1 pt)) kept_on)
      | inr other ↦ elim (run.others n r pt (λ eq. let no : true ≡ false = sym (eq-eqb r (heard n).router eq) ∙ other in cc)) [
        | inl stays ↦ subst (IsPresent v (clock k)) (sym stays) st
        | inr aged ↦ subst (IsPresent v (clock k)) (sym aged) (aged_holds k n (c n r pt) recent (omega (arith, high)) st)
      ]
    ]

    holds_to : (k n : ℕ) → clock t < clock k + 180000 → IsPresent v (clock k) (c (suc k) r pt) → k < n → n ≤ t → IsPresent v (clock k) (c n r pt)
    holds_to k zero recent base low high = absurd (omega (arith, low))
    holds_to k (suc n) recent base low high = elim (bool_cases (nat_lt k n)) [
      | inl before ↦ stands_on k n recent (ltb-true k n before) high (holds_to k n recent base (ltb-true k n before) (omega (arith, high)))
      | inr other ↦
          let is : k ≡ n = omega (arith, low, ltb-false k n other) in
          subst (λ m. IsPresent v (clock k) (c (suc m) r pt)) is base
    ]

    as_good : IsPresent v 0 (c t r pt) → (moment : ℕ) → c t r pt ≡ Some (v, moment) → is_young (clock t) moment ≡ true → HasAsGood net d 180000 clock x t r b
    as_good st moment stands young = by_route (x t r) refl
      where
        by_route : (o : Option Route) → x t r ≡ o → HasAsGood net d 180000 clock x t r b
        by_route None has =
            let none : IsRouteOrNone tells.meet.ours (c t r) (clock t) d None = subst (λ o. IsRouteOrNone tells.meet.ours (c t r) (clock t) d o) has (are.of_router t r tells.meet.ours tells.meet.hearer) in
            let old = none.1 tells.best.0 v moment stands in
            let no : true ≡ false = sym young ∙ old in cc
        by_route (Some g) has =
            let leads : IsRouteTo tells.meet.ours (c t r) (clock t) d g = subst (λ o. IsRouteOrNone tells.meet.ours (c t r) (clock t) d o) has (are.of_router t r tells.meet.ours tells.meet.hearer) in
            let h : IsHeardRoute (c t r) (clock t) d g = subst (By (c t r) (clock t) d g) tells.no_port leads in
            let least : better_route (over_neighbour tells.best) (over_neighbour h.0) ≡ false = h.1.least tells.best.0 v moment stands young in
            record {
              best = g;
              has = has;
              not_worse = subst (λ z. better_route z g ≡ false) (sym tells.is) (subst (λ z. better_route (over_neighbour tells.best) z ≡ false) (sym h.2) least);
            }

    leads : (m : ℕ) → x m s ≡ Some a → IsRouteTo tells.meet.theirs (c m s) (clock m) d a
    leads m has = subst (λ o. IsRouteOrNone tells.meet.theirs (c m s) (clock m) d o) has (are.of_router m s tells.meet.theirs tells.meet.teller)

    pub good : HasAsGood net d 180000 clock x t r b
    good =
        let at : PortNow = record { number = tells.q; port = tells.meet.far; now = 0 } in
        let e : RipEntry = advertised_route d a.metric at in
        let w = often t s tells.q r tells.p late tells.meet e refl (λ m high recent. record { route = a; leads = leads m (still_has m high recent); elsewhere = tells.elsewhere; is = refl }) in
        let k = w.0 in
        let recent = w.2 in
        let m = w.5 in
        let ours = run.hearer k in
        let ours_same : tells.meet.ours ≡ ours.0 = some_same tells.meet.ours ours.0 (sym tells.meet.hearer ∙ ap (slice_get net) (sym w.3) ∙ ours.1) in
        let hears : is_heard ours.0 e ≡ true = subst (λ ports. is_foreign ports d ≡ true) ours_same tells.foreign in
        let source : (heard k).source ≡ tells.best.0 = w.4 ∙ sym tells.from in
        let same : is_same network_cmp (d, (heard k).source) pt ≡ true = ap (λ z. is_same network_cmp (d, z) pt) source ∙ same_itself pt in
        let made = makes ours.0 (heard k).source (clock k) pt v tells.alive (clock k) (omega arith) (heard k).entries (after_age (c k (heard k).router) (clock k)) (agree k (omega (arith, w.1)) recent w.3) e m (sym tells.metric) hears same in
        let base : IsPresent v (clock k) (c (suc k) r pt) = subst (λ z. IsPresent v (clock k) (c (suc k) z pt)) w.3 (subst (IsPresent v (clock k)) (sym (run.hears k ours.0 ours.1 pt)) made) in
        let st = holds_to k t recent base w.1 (omega arith) in
        as_good (record { moment = st.moment; is = st.is; since = omega arith }) st.moment st.is (lt-ltb (clock t - st.moment) 180000 (omega (arith, recent, st.since)))

  pub history : (from : ℕ) → NodesDiffer net → AllIsHeard net clock c heard d from → IsHistory net d 180000 clock x (clock 0) from
  history from differ often = record { own = own; sourced = sourced; heard = λ t s r a b late tells still_has. good from differ often t s r a b late tells still_has }
