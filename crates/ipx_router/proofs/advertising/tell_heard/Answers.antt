use Rattle.std.proofs.Common.{◌+◌, List, [], append-nil, refl, sym, subst}
use Rattle.std.proofs.lemmas.List.{drop_all, drop_more}
use Rattle.ipx_router.specs.declared.port.Port.{Port}
use Rattle.ipx_router.specs.RouterPackets.{SendingView, sendings}
use Rattle.ipx_router.specs.Advertisements.{AreAdvertisements}
use Rattle.ipx_router.proofs.Tellings.{tellings_more}
use Rattle.ipx_router.proofs.AdvertisedRoutes.{no_port}
use Rattle.ipx_router.proofs.advertising.tell_heard.Goals as goal

pub loop-i-preserved : goal.loop-i-preserved
loop-i-preserved c = λ routes services by_routes by_services.
    tellings_more c.args.ports.now c.loop-i.i _ (drop_more c.args.ports.now c.loop-i.i no_port c.loop-i-test.true) c.loop-i.told.items c.tell_on.new.told.items routes services c.args.now
    (c.loop-i.invariant routes services by_routes by_services) (c.in_ok-tell_on.ensures routes services by_routes by_services)

pub returns : goal.returns
returns c = λ routes services by_routes by_services.
    let over = drop_all c.loop-i.i c.args.ports.now c.loop-i-test.false in
    let P : List Port → List SendingView → Type 0 = AreAdvertisements c.args.ports.now routes services c.args.now (c.loop-i.i + 1) in
    subst (AreAdvertisements c.args.ports.now routes services c.args.now 1 c.args.ports.now) (append-nil (sendings c.loop-i.told.items))
    (c.loop-i.invariant routes services by_routes by_services [] (subst (λ (ps : List Port). P ps []) (sym over) refl))
