use Rattle.theory_processes.proofs.Minutes as minutes
use Rattle.theory_processes.proofs.pacing.minutes_are_ripe.Goals as goal

pub returns : goal.returns
returns c = record { stays = minutes.stays_waiting; ripe = minutes.are_ripe c.laws_below.ensures }
