use Rattle.ipx_host.specs.HostOutput.{left_of}
use Rattle.ipx_host.proofs.Holding.{keeps_room}
use Rattle.ipx_host.proofs.Sparing.{spares_room}
use Rattle.ipx_host.proofs.serving.Sessions.make_space.Goals as goal

pub invariant_of-self : goal.invariant_of-self
invariant_of-self g c =
    let old = c.args.self.now in
    record {
      room = c.make_space-evicted.ensures.room;
      one = keeps_room old.once c.args.moment c.args.asker.now old.held.items c.make_space-evicted.new.sessions.items (left_of old.output) c.args.endpoint.now c.make_space-evicted.new.endpoint c.make_space-evicted.ensures.makes old.one;
    }

pub returns-clause-spares : goal.returns-clause-spares
returns-clause-spares g c =
    let old = c.args.self.now in
    rw c.count_evicted.ensures.held
    (spares_room old.once c.args.moment c.args.asker.now c.args.endpoint.now c.make_space-evicted.new.endpoint old.held.items c.make_space-evicted.new.sessions.items c.make_space-evicted.ensures.makes)
