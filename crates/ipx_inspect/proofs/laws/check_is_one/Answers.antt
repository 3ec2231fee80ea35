use Rattle.ipx_inspect.proofs.Outputs.{check_writes_one}
use Rattle.ipx_inspect.proofs.laws.check_is_one.Goals as goal

pub returns : goal.returns
returns c = check_writes_one c.reading_is_one.ensures
