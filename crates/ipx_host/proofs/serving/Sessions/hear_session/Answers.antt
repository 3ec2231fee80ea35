use Rattle.ipx_host.specs.HostOutput.{left_of}
use Rattle.ipx_host.proofs.Holding.{keeps_heard}
use Rattle.ipx_host.proofs.serving.Sessions.hear_session.Goals as goal

pub invariant_of-self : goal.invariant_of-self
invariant_of-self c =
    let old = c.args.self.now in
    record {
      room = c.hear_session.ensures.room;
      one = keeps_heard old.once old.held.items c.hear_session.new.sessions.items (left_of old.output) c.args.endpoint.now c.hear_session.new.endpoint c.args.id c.args.moment old.one c.hear_session.ensures.heard;
    }
