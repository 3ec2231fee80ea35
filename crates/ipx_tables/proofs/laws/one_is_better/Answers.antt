use Rattle.ipx_tables.proofs.Unique.{rank_exact, rank_strict}
use Rattle.ipx_tables.proofs.laws.one_is_better.Goals as goal

pub returns : goal.returns
returns g c = record { apart = rank_exact g.met.M.Metric.strict; strict = rank_strict g.met.M.Metric.strict }
