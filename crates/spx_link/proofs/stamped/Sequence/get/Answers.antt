use Rattle.std.proofs.Common.{◌≡◌, ◌<◌, List, ap, length, refl, arith}
use Rattle.std.proofs.lemmas.Option.{slice_get_read}
use Rattle.spx_link.specs.declared.queue.Queued.{Queued}
use Rattle.spx_link.proofs.Pairing.{length_paired, view_at}
use Rattle.spx_link.proofs.stamped.Sequence.get.Goals as goal

pub index-requires : goal.index-requires
index-requires c =
    let f = c.self.inside in
    let many = length_paired f.units.items f.stamps.items c.self.invariant in
    let view = ap (λ (qs : List Queued). length qs) c.self.view_is in
    omega (arith, c.requires)

pub index-requires-2 : goal.index-requires-2
index-requires-2 c =
    let f = c.self.inside in
    let many = length_paired f.units.items f.stamps.items c.self.invariant in
    let view = ap (λ (qs : List Queued). length qs) c.self.view_is in
    omega (arith, c.requires, c.self.invariant)

pub returns : goal.returns
returns c =
    let us = c.self.inside.units.items in
    let ss = c.self.inside.stamps.items in
    let many = length_paired us ss c.self.invariant in
    let view = ap (λ (qs : List Queued). length qs) c.self.view_is in
    let in_units : c.args.place < length us = omega (arith, c.requires) in
    let in_stamps : c.args.place < length ss = omega (arith, c.requires, c.self.invariant) in
    let unit = slice_get_read us (length us) c.args.place c.index.result.now refl in_units c.index.ensures in
    let stamp = slice_get_read ss (length ss) c.args.place c.index-2.result.now refl in_stamps c.index-2.ensures in
    view_at us ss c.args.self.now c.args.place c.index.result.now c.index-2.result.now c.self.view_is unit stamp
