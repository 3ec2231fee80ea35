use Rattle.theory_processes.proofs.ManyRounds as many
use Rattle.theory_processes.proofs.Usable as usable
use Rattle.theory_processes.proofs.pacing.paced_rounds_exist.Goals as goal

pub returns : goal.returns
returns c = record { stays = usable.stays; exist = λ a b p moments is. many.rounds_exist a b p moments is }
