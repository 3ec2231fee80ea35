-- Routers take the shortest paths, one window for each hop.
use Rattle.std.proofs.Common.{ℕ, zero, suc, ◌+◌, ◌*◌, ◌≤◌, ◌≡◌, Some, None, sym, ap, ◌∙◌, inl, inr, arith}
use Rattle.std.proofs.Math.Nat.{suc-mul, mul-le-mul_right}
use Rattle.ipx_wire.specs.declared.address.Network.{Network}
use Rattle.ipx_router.specs.declared.route.Route.{Route}
use Rattle.rip_convergence.specs.Histories.{Clock, Internet, Owns, TellsRoute, Routing, HasAsGood, IsHistory}
use Rattle.rip_convergence.specs.Ways.{IsLeastWay, LeastWaysExtend}
use Rattle.rip_convergence.specs.TableLaws.{LawsOfTables}
use Rattle.rip_convergence.proofs.Order.{told_separate}
use Rattle.ipx_router.specs.RouteChoice.{direct_route}
use Rattle.rip_convergence.proofs.Settling.{some_same}
use Rattle.rip_convergence.proofs.Roots.{hops_told, are_ways}

module _ (laws : LawsOfTables) (net : Internet) (d : Network) (window : ℕ) (clock : Clock) (x : Routing) (start : ℕ)
    (history : IsHistory net d window clock x start (start + 16 * window)) (extend : LeastWaysExtend net d) where
  -- what was advertised through a window is on the shortest path
  settle : (t r s : ℕ) (a b : Route) → IsLeastWay net d r b → TellsRoute net d s a r b
      → start + 16 * window + window ≤ clock t → HasAsGood net d window clock x t r b → x t r ≡ Some b
  settle t r s a b least tells late g =
      elim (history.sourced t r g.best (omega (arith, late)) g.has) [
        | inl mine ↦ absurd (own_is mine)
        | inr w ↦ g.has ∙ ap (λ c. Some c) (told_separate laws net d r w.who s g.best b w.route a w.tells tells (least.least g.best (are_ways net d window clock x start history.sourced t r g.best (omega (arith, late)) g.has)) g.not_worse)
      ]
    where
      own_is : Owns net d r g.best → ⊥
      own_is mine =
          let same : mine.ours ≡ tells.meet.ours = some_same mine.ours tells.meet.ours (sym mine.router ∙ tells.meet.hearer) in
          let no : Some mine.place ≡ None = sym mine.direct ∙ ap (λ ports. direct_route ports d) same ∙ tells.no_port in
          cc

  pub taken_within : (h t r : ℕ) (b : Route) → IsLeastWay net d r b → b.metric.hops ≤ h
      → start + (16 + h) * window ≤ clock t → x t r ≡ Some b
  taken_within zero t r b least few late =
      elim (extend r b least) [
        | inl mine ↦ history.own t r b mine
        | inr p ↦ absurd (omega (arith, few, (hops_told net d p.0 r p.1 b p.3).0))
      ]
  taken_within (suc h) t r b least few late =
      elim (extend r b least) [
        | inl mine ↦ history.own t r b mine
        | inr p ↦
            let step : (16 + suc h) * window ≡ (16 + h) * window + window = ap (λ n. n * window) (omega arith) ∙ suc-mul (16 + h) window in
            let base : 16 * window ≤ (16 + h) * window = mul-le-mul_right window (omega arith) in
            let there : start + 16 * window + window ≤ clock t = omega (arith, step, base, late) in
            settle t r p.0 p.1 b least p.3 there
            (history.heard t p.0 r p.1 b there p.3
            (λ u past recent. taken_within h u p.0 p.1 p.2 (omega (arith, few, (hops_told net d p.0 r p.1 b p.3).0)) (omega (arith, step, late, recent))))
      ]
