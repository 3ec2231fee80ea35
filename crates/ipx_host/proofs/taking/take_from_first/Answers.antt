use Rattle.ipx_host.specs.HostOutput.{left_of}
use Rattle.ipx_host.proofs.Holding.{first_passed}
use Rattle.ipx_host.proofs.taking.take_from_first.Goals as goal

pub returns-clause-passes : goal.returns-clause-passes
returns-clause-passes g c =
    let held = g.W.Write.contents in
    first_passed c.args.endpoint.now c.take_some-took.new.endpoint (left_of c.args.output.now) (left_of c.take_some-took.new.output) (held c.args.writer.now) (held c.take_some-took.new.writer) c.args.sessions.now c.rotate_left.new.self _ c.take_some-took.new.session c.requires.some c.rotate_left.ensures.after c.take_some-took.ensures.one c.requires.empty
