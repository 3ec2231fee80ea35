use Rattle.std.proofs.Common.{◌∙◌, ◌++◌, List, [], ◌∷◌, ap, get_or, subst, sym, take}
use Rattle.std.proofs.lemmas.List.{append_assoc, take_more}
use Rattle.ipx_control.specs.declared.rip.packet.RipEntry.{RipEntry}
use Rattle.ipx_router.specs.declared.packets.Recipient.{Recipient}
use Rattle.ipx_router.specs.RouterPackets.{AreRoutePackets}
use Rattle.ipx_router.specs.Adding.{ArePacked}
use Rattle.ipx_router.proofs.AllRoutes.{no_route}
use Rattle.ipx_router.proofs.packing.RoutePackets.put_all.Goals as goal

pub loop-route-preserved : goal.loop-route-preserved
loop-route-preserved c = record {
  to = c.in_ok-put.ensures.to ∙ c.loop-route.invariant.to;
  put = λ routes h.
      let i = c.loop-route.route-index in
      let list = c.args.list.now in
      let same = c.loop-route.invariant.to in
      let sent = c.put.new.self.sent.items in
      let hand = c.put.new.self.hand.items in
      let before = subst (λ (to : Recipient). ArePacked (AreRoutePackets to) (routes ++ take i list) c.loop-route.self.sent.items c.loop-route.self.hand.items) (sym same) (c.loop-route.invariant.put routes h) in
      let after = subst (λ (to : Recipient). ArePacked (AreRoutePackets to) (routes ++ take i list ++ get_or list i no_route ∷ []) sent hand) same (c.in_ok-put.ensures.put (routes ++ take i list) before) in
      subst (λ (es : List RipEntry). ArePacked (AreRoutePackets c.args.self.now.to) es sent hand)
      (append_assoc routes (take i list) (get_or list i no_route ∷ []) ∙ ap (λ (l : List RipEntry). routes ++ l) (sym (take_more list i no_route c.loop-route-test.true))) after;
}
