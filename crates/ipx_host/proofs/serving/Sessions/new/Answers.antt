use Rattle.ipx_host.specs.HostOutput.{left_of}
use Rattle.ipx_host.proofs.Holding.{keeps_none}
use Rattle.ipx_host.proofs.serving.Sessions.new.Goals as goal

pub invariant_of-result-clause-one : goal.invariant_of-result-clause-one
invariant_of-result-clause-one c =
    keeps_none c.args.once c.in_ok-with_capacity.field-0.items (left_of c.new.result) c.in_ok-with_capacity.ensures.items
