use Rattle.ipx_tables.proofs.Lists.{same_equiv}
use Rattle.ipx_tables.proofs.Counting.{same_content_same_count}
use Rattle.ipx_tables.proofs.laws.content_counts.Goals as goal

pub returns : goal.returns
returns g c a b valid_a valid_b same = same_content_same_count (same_equiv g.met.K.Ord.total) a.offers b.offers valid_a.apart valid_b.apart same
