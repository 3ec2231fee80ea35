use Rattle.ipx_host.proofs.Fed.{took}
use Rattle.ipx_host.proofs.handing.drop_first.Goals as goal

pub returns-clause-queue : goal.returns-clause-queue
returns-clause-queue c =
    let at = c.take-taken.ensures in
    (took c.args.endpoint.now c.take-taken.new.self c.args.id c.take-taken.result at.takes at.memory at.unchanged).0

pub returns-clause-others : goal.returns-clause-others
returns-clause-others c =
    let at = c.take-taken.ensures in
    (took c.args.endpoint.now c.take-taken.new.self c.args.id c.take-taken.result at.takes at.memory at.unchanged).1

pub returns-clause-host : goal.returns-clause-host
returns-clause-host c =
    let at = c.take-taken.ensures in
    (took c.args.endpoint.now c.take-taken.new.self c.args.id c.take-taken.result at.takes at.memory at.unchanged).2

pub returns-clause-last : goal.returns-clause-last
returns-clause-last c =
    let at = c.take-taken.ensures in
    (took c.args.endpoint.now c.take-taken.new.self c.args.id c.take-taken.result at.takes at.memory at.unchanged).3

pub returns-clause-count : goal.returns-clause-count
returns-clause-count c =
    let at = c.take-taken.ensures in
    (took c.args.endpoint.now c.take-taken.new.self c.args.id c.take-taken.result at.takes at.memory at.unchanged).4
