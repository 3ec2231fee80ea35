use Rattle.spx_theory.proofs.EndStateLemmas.{ends_are_summarized}
use Rattle.spx_theory.proofs.ends.ends_are_summarized.Goals as goal

pub returns : goal.returns
returns c = λ s reached. ends_are_summarized c.laws_below.ensures s reached
