use Rattle.ipx_router.proofs.AdvertisedRoutes.{told_all}
use Rattle.ipx_router.proofs.advertised.routes_as_advertised.Goals as goal

pub returns : goal.returns
returns c = λ routes listed.
    told_all c.args.ports.now routes c.args.at c.args.heard.now listed c.one_best.ensures c.in_ok-told.told.items c.add_heard.new.told.items c.in_ok-told.ensures.told c.in_ok-add_heard.ensures
