use Rattle.std.proofs.Common.{◌≡◌, sym, subst}
use Rattle.ipx_control.specs.declared.rip.packet.RipEntry.{RipEntry}
use Rattle.ipx_router.specs.Knowledge.{routes_in}
use Rattle.ipx_router.specs.AdvertisedEntries.{IsAdvertisedRoute}
use Rattle.ipx_router.proofs.Picked.{elsewhere_told, itself_untold}
use Rattle.ipx_router.proofs.advertised.told_of.Goals as goal

pub returns-then-route-at : goal.returns-then-route-at
returns-then-route-at c =
    itself_untold c.one_best.ensures c.args.ports.now (routes_in c.args.routes.now) c.args.at c.args.network c.in-Some.route c.in-Some.ensures.route c.if-route-at.true

pub returns : goal.returns
returns c =
    let told = elsewhere_told c.one_best.ensures c.args.ports.now (routes_in c.args.routes.now) c.args.at c.args.network c.in-Some.route c.in-Some.ensures.route c.if-route-at.false in
    subst (λ (e : RipEntry). IsAdvertisedRoute c.args.ports.now (routes_in c.args.routes.now) c.args.at e × (e.network ≡ c.args.network)) (sym c.advertised_entry.ensures) told
