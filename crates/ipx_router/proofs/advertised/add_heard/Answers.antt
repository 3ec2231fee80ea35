use Rattle.std.proofs.Common.{◌∙◌, sym, subst}
use Rattle.ipx_control.specs.declared.rip.packet.RipEntry.{RipEntry}
use Rattle.ipx_router.specs.Placing.{PutsEntry}
use Rattle.ipx_router.proofs.AdvertisedRoutes.{no_item, item_more, item_skip}
use Rattle.ipx_router.proofs.advertised.add_heard.Goals as goal
use Rattle.ipx_router.proofs.advertised.add_heard.Goals.{then-is_over_other_neighbour+in_ok-put_entry, else-is_over_other_neighbour}

pub loop-item-preserved : goal.loop-item-preserved
loop-item-preserved c =
    let i = c.loop-item.item-index in
    let old = c.args.told.now.items in
    let told = c.loop-item.told.items in
    elim c.if-is_over_other_neighbour.branch [
      | then-is_over_other_neighbour+in_ok-put_entry w ↦
          rw w.told-is (item_more c.args.ports.now c.args.at c.args.heard.now i no_item c.loop-item-test.true old told c.loop-item.invariant w.put_entry.new.told.items (sym c.is_over_other_neighbour.ensures ∙ w.if-is_over_other_neighbour.true)
          (subst (λ (e : RipEntry). PutsEntry told e w.put_entry.new.told.items) w.advertised_entry.ensures w.in_ok-put_entry.ensures))
      | else-is_over_other_neighbour w ↦
          rw w.told-is (item_skip c.args.ports.now c.args.at c.args.heard.now i no_item c.loop-item-test.true old told c.loop-item.invariant (sym c.is_over_other_neighbour.ensures ∙ w.if-is_over_other_neighbour.false))
    ]
