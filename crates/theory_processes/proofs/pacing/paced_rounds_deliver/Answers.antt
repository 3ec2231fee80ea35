use Rattle.theory_processes.proofs.Turns as turns
use Rattle.theory_processes.proofs.pacing.paced_rounds_deliver.Goals as goal

pub returns : goal.returns
returns c = turns.delivers c.laws_below.ensures
