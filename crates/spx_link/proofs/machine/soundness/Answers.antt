use Rattle.spx_link.proofs.MachineSound.{got_sound, start_sound, step_sound}
use Rattle.spx_link.proofs.machine.soundness.Goals as goal

pub returns-clause-start : goal.returns-clause-start
returns-clause-start c = start_sound

pub returns-clause-step : goal.returns-clause-step
returns-clause-step c = step_sound

pub returns-clause-gets : goal.returns-clause-gets
returns-clause-gets c = got_sound
