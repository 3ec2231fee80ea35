use Rattle.std.proofs.Common.{◌∙◌}
use Rattle.ipx_tables.proofs.ageing.expire.Goals as goal

pub loop-preserved : goal.loop-preserved
loop-preserved g c = c.take_old.ensures.same ∙ c.loop.invariant

pub returns-in-Some-clause-young : goal.returns-in-Some-clause-young
returns-in-Some-clause-young g c = c.in-Some.ensures.young ∙ c.take_old.ensures.same ∙ c.loop.invariant

pub returns-clause-young : goal.returns-clause-young
returns-clause-young g c = c.keep_all_young.ensures.young ∙ c.loop.invariant
