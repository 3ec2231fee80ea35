use Rattle.ipx_inspect.proofs.HopOutputs.{hop_writes_one}
use Rattle.ipx_inspect.proofs.laws.hop_is_one.Goals as goal

pub returns : goal.returns
returns c = hop_writes_one c.answer_is_one.ensures
