use Rattle.ipx_tables.proofs.Unique.{best_is_one}
use Rattle.ipx_tables.proofs.laws.one_best.Goals as goal

pub returns : goal.returns
returns g c content key now a b = best_is_one g.met.M.Metric.strict content key now a b
