use Rattle.spx_theory.specs.World.{scene_of}
use Rattle.spx_theory.proofs.Beginning.{came_to}
use Rattle.spx_theory.proofs.step_laws.peers_of_worlds_are_in_step.Goals as goal

pub returns-clause-reached : goal.returns-clause-reached
returns-clause-reached c = came_to

pub returns-clause-in_step : goal.returns-clause-in_step
returns-clause-in_step c = λ w came. c.peers_are_in_step.ensures (scene_of w) (came_to w came).1
