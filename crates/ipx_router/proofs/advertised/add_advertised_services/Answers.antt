use Rattle.std.proofs.Common.{◌∙◌, ℕ, List, false, map, sym, subst}
use Rattle.std.specs.Prelude.{Option, IfSome, Vec}
use Rattle.std.specs.Global.{Global}
use Rattle.std.proofs.lemmas.Result.{on_ok_weaker}
use Rattle.ipx_control.specs.declared.sap.packet.ServiceEntry.{ServiceEntry}
use Rattle.ipx_router.specs.declared.packets.Recipient.{Recipient}
use Rattle.ipx_router.specs.RouterPackets.{AreServicePackets}
use Rattle.ipx_router.specs.Adding.{AddsPackets, AreBodiesOf}
use Rattle.ipx_router.specs.Placing.{advertised_of_other_ports}
use Rattle.ipx_router.specs.AdvertisedEntries.{advertised_service}
use Rattle.ipx_router.proofs.Alike.{told_all_alike}
use Rattle.ipx_router.proofs.advertised.add_advertised_services.Goals as goal

pub returns-then-not-is_heard_at : goal.returns-then-not-is_heard_at
returns-then-not-is_heard_at c =
    let heard = c.args.heard.now in
    let number = c.args.at.number in
    let old = c.args.told.now.items in
    let new = c.add_bodies.new.replies.items in
    let given = subst (λ (o : Option (Vec (Vec ℕ Global) Global)). IfSome o (λ v. AreBodiesOf (map advertised_service heard) v.items)) c.in-Some.is c.requires in
    let are = subst (λ (bs : List (Vec ℕ Global)). AreBodiesOf (map advertised_service heard) bs) (sym c.deref.ensures.value) given in
    on_ok_weaker c.add_bodies.result (λ h.
    let there = h (map advertised_service heard) are in
    let alike = subst (λ (services : List ServiceEntry). AddsPackets (AreServicePackets c.everyone-to.result false services) old new) (told_all_alike number heard (sym c.is_heard_at.ensures ∙ c.if-not-is_heard_at.true)) there in
    subst (λ (to : Recipient). AddsPackets (AreServicePackets to false (advertised_of_other_ports number heard)) old new) c.everyone-to.ensures alike) c.add_bodies.ensures
