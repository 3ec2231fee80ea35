-- The theorems of histories, applied to runs.
use Rattle.std.proofs.Common.{ℕ, ◌+◌, ◌-◌, ◌*◌, ◌≤◌, ◌≡◌, Option, Some, None, refl, sym, ◌∙◌, inl, inr, arith}
use Rattle.ipx_wire.specs.declared.address.Network.{Network}
use Rattle.ipx_router.specs.declared.route.Route.{Route}
use Rattle.rip_convergence.specs.TableLaws.{LawsOfTables}
use Rattle.rip_convergence.specs.Fair.{IsFairRun, IsSolution, RunsForget, RunsSettle, RunsSettleAtAnyCost, RunsSolve, RunsTakeLeastWays, RunsTakeWays, SolutionsAreOne}
use Rattle.rip_convergence.specs.Histories.{Clock, Internet, IsHistory, Routing}
use Rattle.rip_convergence.specs.RouterRuns.{NodesDiffer, RunsAreHistories}
use Rattle.rip_convergence.proofs.RunRoutes as runs
use Rattle.rip_convergence.proofs.Least as least
use Rattle.rip_convergence.proofs.Levels.{settled_at_any_cost, settled_by_ticks}
use Rattle.rip_convergence.proofs.Roots.{are_ways}

module _ (laws : LawsOfTables) where
  pub are_histories : RunsAreHistories
  are_histories net d clock says heard x from differ run honest often are =
      runs.history laws net d clock says heard x run honest are from differ often

  of : (net : Internet) (d : Network) (clock : Clock) (x : Routing) → NodesDiffer net → IsFairRun net d clock x → IsHistory net d 180000 clock x (clock 0) (clock 0 + 16 * 180000)
  of net d clock x differ f =
      are_histories net d clock f.one.says f.one.heard x (clock 0 + 16 * 180000) differ f.one.run f.one.honest f.often f.one.routes

  pub take_ways : RunsTakeWays
  take_ways net d clock x f n r b late has =
      are_ways net d 180000 clock x (clock 0) (runs.sourced laws net d clock f.says f.heard x f.run f.honest f.routes) n r b late has

  pub forget : RunsForget
  forget net d clock x f none n r late = left (x n r) refl
    where
      left : (a : Option Route) → x n r ≡ a → x n r ≡ None
      left None is = is
      left (Some b) is = absurd (none r b (take_ways net d clock x f n r b late is))

  pub settle : RunsSettle
  settle net d most clock clock' x y differ costs within f g n n' r late late' =
      settled_by_ticks laws net d most costs within 180000 clock clock' x y (clock 0) (clock' 0)
      (of net d clock x differ f) (of net d clock' y differ g) n n' r late late'

  pub settle_at_any_cost : RunsSettleAtAnyCost
  settle_at_any_cost net d most clock clock' x y differ costs within f g n n' r late late' =
      settled_at_any_cost laws net d most costs within 180000 clock clock' x y (clock 0) (clock' 0)
      (of net d clock x differ f) (of net d clock' y differ g) n n' r late late'

  pub take_least : RunsTakeLeastWays
  take_least net d clock x differ extend f n r b is late =
      least.taken_within laws net d 180000 clock x (clock 0) (of net d clock x differ f) extend b.metric.hops n r b is (omega arith) late

  pub solve : RunsSolve
  solve net d most clock x differ costs within f n late =
      let h = of net d clock x differ f in
      let step : (18 + 15 * most) * 180000 ≡ (17 + 15 * most) * 180000 + 180000 = omega arith in
      let base : 16 * 180000 ≤ (17 + 15 * most) * 180000 = omega arith in
      let same : (m r : ℕ) → clock 0 + (17 + 15 * most) * 180000 ≤ clock m → x m r ≡ x n r = λ m r by. settle net d most clock clock x x differ costs within f f m n r by (omega (arith, step, late)) in
      record {
        own = λ r b mine. h.own n r b mine;
        told = λ r b has. elim (h.sourced n r b (omega (arith, step, late)) has) [
          | inl mine ↦ inl mine
          | inr w ↦ inr (w.who, w.route, sym (same w.step w.who (omega (arith, step, late, w.recent))) ∙ w.had, w.tells)
        ];
        best = λ s r a b has tells.
            let g = h.heard n s r a b (omega (arith, step, base, late)) tells (λ u past recent. same u s (omega (arith, step, late, recent)) ∙ has) in
            (g.best, g.has, g.not_worse);
      }

  -- a solution that does not change from the first step on is a history, with windows of two steps
  as_history : (net : Internet) (d : Network) (x : ℕ → Option Route) → IsSolution net d x
      → IsHistory net d 2 (λ n. n) (λ n. x) 0 32
  as_history net d x is = record {
    own = λ t r b mine. is.own r b mine;
    sourced = λ t r b late has. elim (is.told r b has) [
      | inl mine ↦ inl mine
      | inr h ↦ inr (record { who = h.0; route = h.1; step = t - 1; before = omega (arith, late); recent = omega (arith, late); had = h.2; tells = h.3 })
    ];
    heard = λ t s r a b late tells still.
        let g = is.best s r a b (still t (omega arith) (omega arith)) tells in
        record { best = g.0; has = g.1; not_worse = g.2 };
  }

  pub one_solution : SolutionsAreOne
  one_solution net d most x y costs within one two r =
      let late : 0 + (32 + 240 * most) * 2 ≤ 64 + 480 * most = omega arith in
      settled_at_any_cost laws net d most costs within 2 (λ n. n) (λ n. n) (λ n. x) (λ n. y) 0 0
      (as_history net d x one) (as_history net d y two) (64 + 480 * most) (64 + 480 * most) r late late
