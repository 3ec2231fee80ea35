use Rattle.std.proofs.Common.{◌≡◌, get_or, sym, subst}
use Rattle.spx_theory.specs.World.{EndNow}
use Rattle.ipx_net_hosts.proofs.Placing.{standing}
use Rattle.ipx_net_hosts.proofs.hosts.Hosts.place.Goals as goal

pub returns : goal.returns
returns c =
    let e : EndNow = record { host = c.end.inside.host; id = c.end.inside.id; released = c.end.inside.released; overlong = c.end.inside.overlong } in
    let es = c.self.inside.ends.items in
    standing c.args.self.now c.self.inside.stations.items es c.args.who e c.self.view_is (subst (λ (z : EndNow). z ≡ get_or es c.args.who z) (sym c.end.view_is) c.index-end.ensures) c.requires.order c.requires.present
