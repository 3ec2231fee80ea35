use Rattle.spx_theory.proofs.EntriesOfEnds.{entries_tell_ends}
use Rattle.spx_theory.proofs.ends.entries_tell_ends.Goals as goal

pub returns : goal.returns
returns c = λ s reached. entries_tell_ends c.laws_below.ensures s reached
