use Rattle.std.proofs.Common.{◌≡◌, ◌∙◌, Option, ap, arith, false, length, subst, sym, take, true, ℕ}
use Rattle.ipx_net.specs.EndSummaryChanges.{ChangesState, hosts_of}
use Rattle.ipx_net.proofs.NetKept.{not_spent}
use Rattle.ipx_net.proofs.NetTells.{range_on, tells_before, tells_err, tells_ok}
use Rattle.ipx_net.proofs.TellingCounts.{notes_length}
use Rattle.ipx_net.proofs.net.go_on.Goals as goal

pub stand-requires : goal.stand-requires
stand-requires c = not_spent c.args.course.now c.args.event c.requires.sound

pub tell-requires-clause-range : goal.tell-requires-clause-range
tell-requires-clause-range c =
    omega (arith, range_on c.args.course.now.now.world.log c.go_on.new.self.now.world.log c.in-Ok.ensures.behind, notes_length c.log-from.result.now, ap length c.log-from.ensures)

pub tell-requires-clause-room : goal.tell-requires-clause-room
tell-requires-clause-room c =
    omega (arith, c.in-Ok.ensures.room, notes_length c.log-from.result.now, ap length c.log-from.ensures)

pub tell-requires-clause-before : goal.tell-requires-clause-before
tell-requires-clause-before c =
    let from : length c.log-from.result.now ≡ length c.args.course.now.now.world.log = sym (notes_length c.log-from.result.now) ∙ ap length c.log-from.ensures in
    tells_before c.args.course.now c.touched-host.result c.args.told.now.infos.items c.stand.new.told.infos.items c.go_on.new.told.infos.items _
    c.requires.tells c.stand.ensures c.go_on.ensures.told
    (ap (λ n. take n c.go_on.new.self.now.world.log) from ∙ c.in-Ok.ensures.behind)

pub returns-in-Ok-clause-tells : goal.returns-in-Ok-clause-tells
returns-in-Ok-clause-tells c =
    let going = not_spent c.args.course.now c.args.event c.requires.sound in
    let host = c.touched-host.ensures in
    tells_ok c.args.event _ c.args.course.now c.go_on.new.self c.args.told.now.infos.items c.stand.new.told.infos.items c.go_on.new.told.infos.items c.tell.new.told.infos.items c.stand-in-Ok.new.told.infos.items
    going (c.holds.ensures.links going).order (c.holds-in-Ok.ensures.links c.in-Ok.ensures.going).order (c.holds.ensures.links going).told (c.holds-in-Ok.ensures.links c.in-Ok.ensures.going).told
    c.in-Ok.ensures.ok c.requires.tells (subst (λ (k : Option ℕ). ChangesState (hosts_of c.args.course.now.now.world) k true c.args.told.now.infos.items c.stand.new.told.infos.items) host c.stand.ensures) c.go_on.ensures.told c.tell.ensures.same c.tell.ensures.log (subst (λ (k : Option ℕ). ChangesState (hosts_of c.go_on.new.self.now.world) k false c.tell.new.told.infos.items c.stand-in-Ok.new.told.infos.items) host c.stand-in-Ok.ensures)

pub returns-in-Err-clause-tells : goal.returns-in-Err-clause-tells
returns-in-Err-clause-tells c =
    tells_err c.args.course.now c.go_on.new.self c.touched-host.result c.args.told.now.infos.items c.stand.new.told.infos.items c.go_on.new.told.infos.items
    c.requires.tells c.stand.ensures c.go_on.ensures.told c.in-Err.ensures.log c.in-Err.ensures.spent
