use Rattle.ipx_tables.proofs.Unique.{source_exact}
use Rattle.ipx_tables.proofs.laws.sources_are_distinct.Goals as goal

pub returns : goal.returns
returns c = source_exact
