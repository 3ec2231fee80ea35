use Rattle.std.proofs.Common.{◌∙◌, refl}
use Rattle.ipx_tables.specs.Service.{service_key_cmp}
use Rattle.ipx_table_dump.specs.StillPresent.{is_among_best}
use Rattle.ipx_table_dump.specs.TableText.{service_offer_line}
use Rattle.ipx_table_dump.proofs.Rows.{offers_more}
use Rattle.ipx_table_dump.proofs.service_lines.put_offers.Goals as goal

pub loop-offer-preserved : goal.loop-offer-preserved
loop-offer-preserved c =
    c.in_ok-put_service.ensures
    ∙ offers_more (λ best o. service_offer_line best c.args.now o) (is_among_best service_key_cmp c.args.bests.now) c.args.offers.now c.loop-offer.offer-index _ _ _ _ _ c.loop-offer-test.true c.loop-offer.invariant refl c.is_among_best.ensures
