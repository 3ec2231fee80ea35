-- The laws of tables that the proofs here use. Each field is a clause of a public function of `ipx_tables`.
use Rattle.std.specs.Prelude.{◌≡◌, ℕ}
use Rattle.ipx_wire.specs.declared.address.Network.{Network}
use Rattle.ipx_tables.specs.declared.route.RouteMetric.{RouteMetric}
use Rattle.ipx_tables.specs.declared.source.Source.{Source}
use Rattle.ipx_tables.specs.Best.{IsBest, is_better}
use Rattle.ipx_tables.specs.Content.{source_cmp}
use Rattle.ipx_tables.specs.Order.{IsStrictTotal, EqualOnlyIfSame}
use Rattle.ipx_tables.specs.Route.{route_before}
use Rattle.ipx_router.specs.Knowledge.{Routes}

pub record LawsOfTables : Type 0 where
  -- a network has at most one best offer
  pub one_best : (c : Routes) (network : Network) (now : ℕ) (a b : Source × RouteMetric)
      → IsBest route_before c network now a → IsBest route_before c network now b → a ≡ b
  -- of two different offers exactly one is better
  pub strict : IsStrictTotal (is_better route_before)
  -- no two sources compare as equal
  pub apart : EqualOnlyIfSame source_cmp
