use Rattle.theory_processes.proofs.Taking.{drops, passes}
use Rattle.theory_processes.proofs.Working.{closes, hands, probes, releases}
use Rattle.theory_processes.proofs.hosts.work_between_turns_is_calls.Goals as goal

pub returns-clause-hands_on : goal.returns-clause-hands_on
returns-clause-hands_on c = hands

pub returns-clause-closes : goal.returns-clause-closes
returns-clause-closes c = closes

pub returns-clause-drops : goal.returns-clause-drops
returns-clause-drops c = drops

pub returns-clause-passes : goal.returns-clause-passes
returns-clause-passes c = passes

pub returns-clause-probes : goal.returns-clause-probes
returns-clause-probes c = probes

pub returns-clause-releases : goal.returns-clause-releases
returns-clause-releases c = releases
