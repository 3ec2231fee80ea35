-- The metric of a route as the Novell IPX Router Specification defines it for RIP: ticks first, then hops; 16
-- hops are unreachable.
use Rattle.std.specs.Prelude.{ℕ, ◌+◌, Bool, nat_le, min}
use Rattle.std.proofs.Common.{ap}
use Rattle.std.specs.declared.cmp.Ordering.{Ordering}
use Rattle.std.specs.Ordering.{nat_cmp, on, then_cmp, is_lt}
use Rattle.std.proofs.lemmas.Cmp.{nat_cmp_total, on_total, then_total}
use Rattle.std.proofs.lemmas.Map.Lookups.{exact_unsigned, exact_pairs}
use Rattle.ipx_wire.specs.declared.address.Network.{Network}
use Rattle.ipx_tables.specs.declared.route.RouteMetric.{RouteMetric}
use Rattle.ipx_tables.specs.Order.{IsStrictTotal, EqualOnlyIfSame, strict_from_cmp}

-- by number
abbrev pub network_cmp : Network → Network → Ordering
network_cmp = on (λ n. n.0) nat_cmp

pub network_exact : EqualOnlyIfSame network_cmp
network_exact a b h =
    ap (λ (n : ℕ). let network : Network = record { 0 = n } in network)
    (exact_unsigned a.0 b.0 h)

-- by ticks, and then by hops
abbrev pub route_cmp : RouteMetric → RouteMetric → Ordering
route_cmp = then_cmp (on (λ m. m.ticks) nat_cmp) (on (λ m. m.hops) nat_cmp)

-- the first is the better one
abbrev pub route_before : RouteMetric → RouteMetric → Bool
route_before a b = is_lt (route_cmp a b)

-- unreachable
abbrev pub route_dead : RouteMetric → Bool
route_dead m = nat_le 16 m.hops

-- one hop more, at most 16
abbrev pub route_one_more : RouteMetric → RouteMetric
route_one_more m = record { ticks = m.ticks; hops = min (m.hops + 1) 16 }

route_exact : EqualOnlyIfSame route_cmp
route_exact a b h =
    ap (λ (p : ℕ × ℕ). let m : RouteMetric = record { ticks = p.0; hops = p.1 } in m)
    (exact_pairs nat_cmp nat_cmp exact_unsigned exact_unsigned
    (a.ticks, a.hops) (b.ticks, b.hops) h)

pub route_strict : IsStrictTotal route_before
route_strict =
    strict_from_cmp
    (then_total (on_total (λ m. m.ticks) nat_cmp_total) (on_total (λ m. m.hops) nat_cmp_total))
    route_exact
