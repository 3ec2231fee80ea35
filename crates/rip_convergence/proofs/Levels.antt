-- Paths have few ticks, so routes settle soon: by levels of ticks, and by levels of ticks and hops.
use Rattle.std.proofs.Common.{ℕ, ◌+◌, ◌*◌, ◌<◌, ◌≤◌, ◌≡◌, true, false, min, nat_le, refl, sym, ap, ◌∙◌, subst, inl, inr, arith}
use Rattle.std.proofs.lemmas.Bool.{leb-true, leb-false}
use Rattle.std.specs.Cmp.{nat_cmp_is}
use Rattle.std.specs.Ordering.{nat_cmp}
use Rattle.std.specs.declared.cmp.Ordering.TheVariants.{Less, Equal, Greater}
use Rattle.std.proofs.Math.Nat.{suc-mul, add-mul, mul-le-mul_right}
use Rattle.ipx_wire.specs.declared.address.Network.{Network}
use Rattle.ipx_tables.specs.declared.route.RouteMetric.{RouteMetric}
use Rattle.ipx_tables.specs.declared.source.Source.{Source}
use Rattle.ipx_tables.specs.Best.{is_better}
use Rattle.ipx_tables.specs.Route.{route_before}
use Rattle.ipx_router.specs.declared.route.Route.{Route}
use Rattle.rip_convergence.specs.Histories.{Clock, Internet, IsHistory, Owns, Routing, TellsRoute, as_offer, better_route}
use Rattle.rip_convergence.specs.Ways.{CostsUpTo, CostsWithin, Way, own, over}
use Rattle.rip_convergence.specs.TableLaws.{LawsOfTables}
use Rattle.rip_convergence.proofs.Order.{better_ticks, told_separate}
use Rattle.rip_convergence.proofs.Roots.{are_ways, hops_told}
use Rattle.rip_convergence.proofs.Settling as settling
use Rattle.rip_convergence.proofs.Settling.{bool_cases}

more_hops : (a b : Source × RouteMetric) → nat_cmp a.1.ticks b.1.ticks ≡ Equal
    → nat_cmp b.1.ticks a.1.ticks ≡ Equal → nat_cmp a.1.hops b.1.hops ≡ Greater
    → nat_cmp b.1.hops a.1.hops ≡ Less → is_better route_before a b ≡ false
more_hops a b same back more less = simp (same, back, more, less) refl

-- 16 for a tick and 1 for a hop
abbrev steep : Route → ℕ
steep b = 16 * b.metric.ticks + min b.metric.hops 15

better_steep : (a b : Route) → better_route a b ≡ true → steep a ≤ steep b
better_steep a b h =
    let ticks = better_ticks a b h in
    elim (bool_cases (nat_le b.metric.ticks a.metric.ticks)) [
      | inr fewer ↦ omega (arith, leb-false b.metric.ticks a.metric.ticks fewer)
      | inl is ↦
          let same : a.metric.ticks ≡ b.metric.ticks = omega (arith, ticks, leb-true b.metric.ticks a.metric.ticks is) in
          elim (bool_cases (nat_le a.metric.hops b.metric.hops)) [
            | inl low ↦ omega (arith, same, leb-true a.metric.hops b.metric.hops low)
            | inr high ↦
                let more = leb-false a.metric.hops b.metric.hops high in
                let worse = more_hops (as_offer a) (as_offer b) (sym (nat_cmp_is a.metric.ticks b.metric.ticks Equal same)) (sym (nat_cmp_is b.metric.ticks a.metric.ticks Equal (sym same))) (sym (nat_cmp_is a.metric.hops b.metric.hops Greater more)) (sym (nat_cmp_is b.metric.hops a.metric.hops Less more)) in
                let never : true ≡ false = sym h ∙ worse in cc
          ]
    ]

module _ (net : Internet) (d : Network) (most : ℕ) (costs : CostsUpTo most net) where
  -- an advertisement adds its port's cost
  ticks_told : (s r : ℕ) (a b : Route) (t : TellsRoute net d s a r b)
      → (t.meet.far.cost ≤ most) × (b.metric.ticks ≡ min (a.metric.ticks + t.meet.far.cost) 65535)
  ticks_told s r a b t =
      (costs s t.q t.meet.theirs t.meet.far t.meet.teller t.meet.at_far, ap (λ (c : Route). c.metric.ticks) t.is ∙ ap (λ m. m.ticks) t.metric)

  few : (r : ℕ) (b : Route) → Way net d r b
      → (b.metric.ticks ≤ b.metric.hops * most) × (b.metric.hops ≤ 15)
  few r b (own o) = (subst (λ (c : Route). c.metric.ticks ≤ c.metric.hops * most) (sym o.is) (omega arith), omega (arith, ap (λ (c : Route). c.metric.hops) o.is))
  few r b (over {s = s} {a = a} way tells) =
      let so = few s a way in
      let h = hops_told net d s r a b tells in
      let c = ticks_told s r a b tells in
      let step : b.metric.hops * most ≡ a.metric.hops * most + most = ap (λ n. n * most) (omega (arith, h.0)) ∙ suc-mul a.metric.hops most in
      (omega (arith, so.0, c.0, c.1, step), omega (arith, h.1))

  abbrev IsFew : Route → Type 0
  IsFew b = b.metric.ticks ≤ 15 * most

  ways_are_few : (r : ℕ) (b : Route) → Way net d r b → IsFew b
  ways_are_few r b way =
      let so = few r b way in
      let high : b.metric.hops * most ≤ 15 * most = mul-le-mul_right most so.1 in
      omega (arith, so.0, high)

  -- whatever the levels count, if an advertised route has a higher level and a better route no higher one
  module _ (laws : LawsOfTables) (window : ℕ) (level : Route → ℕ)
      (rises : (s r : ℕ) (a b : Route) → IsFew a → TellsRoute net d s a r b → level a < level b)
      (in_order : (a b : Route) → better_route a b ≡ true → level a ≤ level b)
      (top : ℕ) (within : (b : Route) → IsFew b → level b < top) (after : ℕ) (is : after ≡ 16 + top) where
    order : settling.Order (Owns net d) (TellsRoute net d) better_route IsFew level window
    order = record {
      irreflexive = λ a. laws.strict.irreflexive (as_offer a);
      total = λ r s u a b c e. told_separate laws net d r s u a b c e;
      rises = rises;
      in_order = λ r s a b tells c. in_order c b;
    }

    as_history : (clock : Clock) (x : Routing) (start : ℕ) → IsHistory net d window clock x start (start + 16 * window)
        → settling.History (Owns net d) (TellsRoute net d) better_route IsFew level window (start + 16 * window) clock x
    as_history clock x start h = record {
      own_stays = h.own;
      are_real = λ t r b late has. ways_are_few r b (are_ways net d window clock x start h.sourced t r b late has);
      sourced = λ t r b late has. elim (h.sourced t r b (omega (arith, late)) has) [
        | inl mine ↦ inl mine
        | inr w ↦ inr (record { who = w.who; route = w.route; step = w.step; recent = w.recent; had = w.had; offered = w.tells })
      ];
      told = λ t s r a b late tells still.
          let g = h.heard t s r a b late tells still in
          record { best = g.best; has = g.has; not_worse = g.not_worse };
    }

    settled : (clock clock' : Clock) (x y : Routing) (start start' : ℕ) → IsHistory net d window clock x start (start + 16 * window)
        → IsHistory net d window clock' y start' (start' + 16 * window) → (t t' r : ℕ)
        → start + after * window ≤ clock t → start' + after * window ≤ clock' t' → x t r ≡ y t' r
    settled clock clock' x y start start' one two t t' r late late' =
        let split = ap (λ n. n * window) is ∙ add-mul 16 top window in
        settling.settled (Owns net d) (TellsRoute net d) better_route IsFew level window order
        (start + 16 * window) (start' + 16 * window) top clock clock' x y (as_history clock x start one) (as_history clock' y start' two)
        within t t' r (omega (arith, split, late)) (omega (arith, split, late'))

abbrev Settled : Internet → Network → ℕ → ℕ → Type 0
Settled net d window after = (clock clock' : Clock) (x y : Routing) (start start' : ℕ) → IsHistory net d window clock x start (start + 16 * window)
    → IsHistory net d window clock' y start' (start' + 16 * window) → (t t' r : ℕ)
    → start + after * window ≤ clock t → start' + after * window ≤ clock' t' → x t r ≡ y t' r

pub settled_by_ticks : (laws : LawsOfTables) (net : Internet) (d : Network) (most : ℕ) → CostsWithin most net → most ≤ 4368
    → (window : ℕ) → Settled net d window (17 + 15 * most)
settled_by_ticks laws net d most costs within window =
    let few : CostsUpTo most net = λ s q ports port at is. (costs s q ports port at is).1 in
    settled net d most few laws window (λ b. b.metric.ticks)
    (λ s r a b low t. omega (arith, within, low, (costs s t.q t.meet.theirs t.meet.far t.meet.teller t.meet.at_far).0, (ticks_told net d most few s r a b t).1))
    better_ticks (1 + 15 * most) (λ b low. omega (arith, low)) (17 + 15 * most) (omega arith)

pub settled_at_any_cost : (laws : LawsOfTables) (net : Internet) (d : Network) (most : ℕ) → CostsUpTo most net → most ≤ 4368
    → (window : ℕ) → Settled net d window (32 + 240 * most)
settled_at_any_cost laws net d most costs within window =
    settled net d most costs laws window steep
    (λ s r a b low t. let c = ticks_told net d most costs s r a b t in let h = hops_told net d s r a b t in omega (arith, within, low, c.1, h.0, h.1))
    better_steep (16 + 240 * most) (λ b low. omega (arith, low)) (32 + 240 * most) (omega arith)
