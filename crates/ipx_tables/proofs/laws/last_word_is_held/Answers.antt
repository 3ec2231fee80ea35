use Rattle.ipx_tables.proofs.LastWord.{last_word}
use Rattle.ipx_tables.proofs.laws.last_word_is_held.Goals as goal

pub returns : goal.returns
returns g c calls p metric moment = last_word g.K.Ord.cmp g.M.Metric.dead p metric moment calls
