use Rattle.spx_link.proofs.Pairing.{view_less}
use Rattle.spx_link.proofs.stamped.Sequence.drop_first.Goals as goal

pub returns : goal.returns
returns c =
    let f = c.self.inside in
    view_less f.units.items c.drop_front.new.queue.items f.stamps.items c.drop_front-2.new.queue.items c.args.self.now c.args.count c.self.view_is c.self.invariant c.drop_front.ensures c.drop_front-2.ensures
