use Rattle.spx_link.proofs.Distances.{mark_carried, marks_separate, distance_ahead, distance_after, distance_base}
use Rattle.spx_link.proofs.laws.marks.Goals as goal

pub returns-clause-carried : goal.returns-clause-carried
returns-clause-carried c = mark_carried

pub returns-clause-apart : goal.returns-clause-apart
returns-clause-apart c = marks_separate

pub returns-clause-ahead : goal.returns-clause-ahead
returns-clause-ahead c = distance_ahead

pub returns-clause-behind : goal.returns-clause-behind
returns-clause-behind c = distance_after

pub returns-clause-base : goal.returns-clause-base
returns-clause-base c = distance_base
