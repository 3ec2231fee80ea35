use Rattle.ipx_inspect.proofs.Outputs.{show_writes_one}
use Rattle.ipx_inspect.proofs.laws.show_is_one.Goals as goal

pub returns : goal.returns
returns c = show_writes_one c.reading_is_one.ensures
