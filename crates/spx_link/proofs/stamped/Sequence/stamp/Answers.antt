use Rattle.std.proofs.Common.{◌≡◌, List, ap, length, arith}
use Rattle.spx_link.specs.declared.queue.Queued.{Queued}
use Rattle.spx_link.proofs.Pairing.{length_paired, view_set}
use Rattle.spx_link.proofs.stamped.Sequence.stamp.Goals as goal

pub write-requires : goal.write-requires
write-requires c =
    let f = c.self.inside in
    let many = length_paired f.units.items f.stamps.items c.self.invariant in
    let view = ap (λ (qs : List Queued). length qs) c.self.view_is in
    omega (arith, c.requires, c.self.invariant)

pub returns : goal.returns
returns c =
    let f = c.self.inside in
    view_set f.units.items f.stamps.items c.write.new.stamps.items c.args.self.now c.args.place c.args.stamp c.self.view_is c.write.ensures
