use Rattle.std.proofs.Common.{◌∙◌, refl}
use Rattle.ipx_tables.specs.Route.{network_cmp}
use Rattle.ipx_table_dump.specs.StillPresent.{is_among_best}
use Rattle.ipx_table_dump.specs.TableText.{route_offer_line}
use Rattle.ipx_table_dump.proofs.Rows.{offers_more}
use Rattle.ipx_table_dump.proofs.route_lines.put_routes.Goals as goal

pub loop-offer-preserved : goal.loop-offer-preserved
loop-offer-preserved c =
    c.in_ok-put_route.ensures
    ∙ offers_more (λ best o. route_offer_line best c.args.now o) (is_among_best network_cmp c.args.bests.now) c.args.offers.now c.loop-offer.offer-index _ _ _ _ _ c.loop-offer-test.true c.loop-offer.invariant refl c.is_among_best.ensures
