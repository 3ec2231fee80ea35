-- The order of routes is strict and total.
use Rattle.std.proofs.Common.{ℕ, ◌≤◌, ◌≡◌, true, false, nat_le, refl, sym, ap, ◌∙◌, inl, inr}
use Rattle.std.proofs.lemmas.Bool.{leb-true, leb-false}
use Rattle.std.proofs.lemmas.Cmp.{nat_cmp_total, nat_list_cmp_total, on_total, then_total}
use Rattle.std.specs.Cmp.{IsTotalOrder, nat_cmp_is}
use Rattle.std.specs.Ordering.{nat_cmp}
use Rattle.std.specs.declared.cmp.Ordering.TheVariants.{Less, Greater}
use Rattle.ipx_wire.specs.declared.address.Network.{Network}
use Rattle.ipx_tables.specs.declared.route.RouteMetric.{RouteMetric}
use Rattle.ipx_tables.specs.declared.source.Source.{Source}
use Rattle.ipx_tables.specs.Best.{is_better}
use Rattle.ipx_tables.specs.Content.{source_cmp}
use Rattle.ipx_tables.specs.Route.{route_before}
use Rattle.ipx_router.specs.declared.route.Route.{Route}
use Rattle.ipx_router.specs.RouteChoice.{over_neighbour}
use Rattle.rip_convergence.specs.TableLaws.{LawsOfTables}
use Rattle.rip_convergence.specs.Histories.{Internet, TellsRoute, as_offer, better_route}
use Rattle.rip_convergence.proofs.Settling.{bool_cases}

pub source_total : IsTotalOrder source_cmp
source_total = then_total (on_total (λ s. s.port) nat_cmp_total) (on_total (λ s. s.neighbour.0) nat_list_cmp_total)

-- of two advertised routes, one is better unless they are the same
pub told_separate : (laws : LawsOfTables) (net : Internet) (d : Network) (r s u : ℕ) (a b c e : Route) → TellsRoute net d s c r a
    → TellsRoute net d u e r b → better_route a b ≡ false → better_route b a ≡ false → a ≡ b
told_separate laws net d r s u a b c e one two lesser other =
    let la : as_offer a ≡ one.best = ap as_offer one.is in
    let lb : as_offer b ≡ two.best = ap as_offer two.is in
    let same : as_offer a ≡ as_offer b = laws.strict.total (as_offer a) (as_offer b) lesser other in
    one.is ∙ ap over_neighbour (sym la ∙ same ∙ lb) ∙ sym two.is

more_ticks : (a b : Source × RouteMetric) → nat_cmp a.1.ticks b.1.ticks ≡ Greater
    → nat_cmp b.1.ticks a.1.ticks ≡ Less → is_better route_before a b ≡ false
more_ticks a b more less = simp (more, less) refl

-- a better route has no more ticks
pub better_ticks : (a b : Route) → better_route a b ≡ true → a.metric.ticks ≤ b.metric.ticks
better_ticks a b h = elim (bool_cases (nat_le a.metric.ticks b.metric.ticks)) [
  | inl is ↦ leb-true a.metric.ticks b.metric.ticks is
  | inr not ↦
      let low = leb-false a.metric.ticks b.metric.ticks not in
      let no = more_ticks (as_offer a) (as_offer b) (sym (nat_cmp_is a.metric.ticks b.metric.ticks Greater low)) (sym (nat_cmp_is b.metric.ticks a.metric.ticks Less low)) in
      cc
]
