use Rattle.std.proofs.Common.{arith}
use Rattle.ipx_tables.proofs.Walks.{lone_walk}
use Rattle.ipx_tables.proofs.walk.lone_at.Goals as goal

pub returns-then-is_lone-clause-within : goal.returns-then-is_lone-clause-within
returns-then-is_lone-clause-within g c =
    let lone = c.is_lone.ensures c.if-is_lone.true in
    omega (arith, lone.in_range, c.len-offers.ensures.len, c.len-offers.ensures.few)

pub returns-then-is_lone-clause-found : goal.returns-then-is_lone-clause-found
returns-then-is_lone-clause-found g c =
    lone_walk g.met.K.Ord.total g.met.M.Metric.strict c.args.now c.args.offer_store.now c.len-offers.ensures.rising c.args.at c.get.result.now c.get.ensures (c.is_lone.ensures c.if-is_lone.true)
