use Rattle.std.proofs.Common.{◌≡◌, ◌<◌, length, arith, get_or, refl, sym, subst, true}
use Rattle.spx_theory.specs.World.{EndNow}
use Rattle.ipx_net_hosts.proofs.Placing.{end_within, homes_set, known_held, released}
use Rattle.ipx_net_hosts.proofs.Marks.{marks_changed}
use Rattle.ipx_net_hosts.proofs.hosts.Hosts.release.Goals as goal

pub returns-in-Err-clause-done : goal.returns-in-Err-clause-done
returns-in-Err-clause-done c =
    known_held c.args.self.now c.self.inside.stations.items c.self.inside.ends.items c.args.who c.place-host.result.0 c.place-host.result.1 c.index_mut.result.now _ c.self.view_is c.index_mut.ensures.value c.place-host.ensures c.in-Err.ensures.done

pub index_mut-requires-2 : goal.index_mut-requires-2
index_mut-requires-2 c =
    let within : c.args.who < length c.self.inside.ends.items = end_within c.args.self.now c.self.inside.stations.items c.self.inside.ends.items c.args.who c.place-host.result.0 c.place-host.result.1 c.self.view_is c.place-host.ensures in
    omega (arith, within, c.self.inside.ends.ok)

pub returns-clause-ok : goal.returns-clause-ok
returns-clause-ok c =
    let e : EndNow = record { host = c.behind-self.inside.host; id = c.behind-self.inside.id; released = c.behind-self.inside.released; overlong = c.behind-self.inside.overlong } in
    let es = c.self.inside.ends.items in
    released c.args.self.now c.self.inside.stations.items es c.args.who c.place-host.result.0 c.place-host.result.1 c.index_mut.result.now c.release.new.self e c.args.now c.self.view_is c.index_mut.ensures.value
    (subst (λ (z : EndNow). z ≡ get_or es c.args.who z) (sym c.behind-self.view_is) c.index_mut-2.ensures.value) c.place-host.ensures c.in_default.ensures.ok

pub returns-clause-homes : goal.returns-clause-homes
returns-clause-homes c =
    homes_set c.args.self.now c.self.inside.stations.items c.self.inside.ends.items c.place-host.result.0 c.index_mut.result.now c.release.new.self c.self.view_is c.index_mut.ensures.value c.in_default.ensures.home

pub returns-clause-marks : goal.returns-clause-marks
returns-clause-marks c =
    let e : EndNow = record { host = c.behind-self.inside.host; id = c.behind-self.inside.id; released = c.behind-self.inside.released; overlong = c.behind-self.inside.overlong } in
    let es = c.self.inside.ends.items in
    marks_changed c.args.self.now c.self.inside.stations.items es c.args.who e (record e { released = true }) c.self.view_is
    (subst (λ (z : EndNow). z ≡ get_or es c.args.who z) (sym c.behind-self.view_is) c.index_mut-2.ensures.value) refl
