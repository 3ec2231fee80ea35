use Rattle.std.proofs.Common.{◌≡◌, ◌-◌, arith, refl, Some, ap, length}
use Rattle.std.specs.Prelude.{slice_get}
use Rattle.std.proofs.lemmas.Option.{slice_get_read}
use Rattle.ipx_router.specs.Ports.{IsPort}
use Rattle.ipx_router.specs.RouterView.{RouterView}
use Rattle.ipx_router.proofs.router.Router.port_of.Goals as goal

pub returns : goal.returns
returns c =
    let place = c.args.number - 1 in
    let there : slice_get c.self.inside.ports.items place ≡ Some c.index.result.now = slice_get_read _ _ place _ refl (omega (arith, ap (λ (r : RouterView). length r.ports) c.self.view_is, c.requires.first, c.requires.last)) c.index.ensures in
    let is : IsPort c.self.inside.ports.items c.args.number c.index.result.now = (c.requires.first, there) in
    rw (← c.self.view_is) is
