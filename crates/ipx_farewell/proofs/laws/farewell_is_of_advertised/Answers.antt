use Rattle.ipx_farewell.proofs.Advertised.{all_advertised}
use Rattle.ipx_farewell.proofs.laws.farewell_is_of_advertised.Goals as goal

pub returns : goal.returns
returns c = all_advertised c.one_best.ensures c.one_best-2.ensures
