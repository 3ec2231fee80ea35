use Rattle.std.proofs.Common.{◌≡◌, ◌∙◌, ◌<◌, ◌++◌, List, [], ◌∷◌, length, refl, sym, subst, arith}
use Rattle.std.specs.Prelude.{Contains, take_while}
use Rattle.std.proofs.lemmas.Grind.{common_steps}
use Rattle.std.proofs.lemmas.List.Elements.{Contains-append_right}
use Rattle.std.proofs.lemmas.Result.{IfOk-weaker, on_err_weaker}
use Rattle.ipx_wire.specs.declared.address.Network.{Network}
use Rattle.ipx_control.specs.declared.rip.packet.RipEntry.{RipEntry}
use Rattle.ipx_tables.specs.declared.route.RouteMetric.{RouteMetric}
use Rattle.ipx_tables.specs.declared.source.Source.{Source}
use Rattle.ipx_tables.specs.Listing.{IsListing}
use Rattle.ipx_tables.specs.Route.{network_cmp, route_before}
use Rattle.ipx_router.specs.declared.packets.Recipient.{Recipient}
use Rattle.ipx_router.specs.Knowledge.{routes_in}
use Rattle.ipx_router.specs.RouterPackets.{AreRoutePackets, sendings}
use Rattle.ipx_router.specs.Adding.{ArePacked}
use Rattle.ipx_router.specs.Placing.{AreAdvertisedPorts, is_below}
use Rattle.ipx_router.specs.AdvertisedEntries.{advertised_route}
use Rattle.ipx_router.proofs.AllRoutes.{AreLeft, all_are_told, some_are_told, longer, told_items, walk_pass, walk_told}
use Rattle.ipx_router.proofs.Merging.{merged}
use Rattle.ipx_router.proofs.SomeAdvertised.{any_err, some_by_item}
use Rattle.ipx_router.proofs.AdvertisedRoutes.{port_told}
use Rattle.ipx_router.proofs.replying.route_replies.Goals as goal

pub loop-item-init : goal.loop-item-init
loop-item-init c = record {
  all = refl;
  to = c.new-packets.ensures.to;
  entries = [];
  packed = c.new-packets.ensures.none;
  left = refl;
}

pub returns-in_err-own-clause-refused : goal.returns-in_err-own-clause-refused
returns-in_err-own-clause-refused c =
    let t = c.in_err-own.ensures.refused in
    any_err c.from_residual.result (t.0, port_told c.args.ports.now (routes_in c.args.routes.now) c.args.at t.0 t.1)

pub returns-in_err-later-clause-refused : goal.returns-in_err-later-clause-refused
returns-in_err-later-clause-refused c =
    let item = c.in-Some.item in
    let all : c.loop-item.yielded ++ (item ∷ c.next.new.self) ≡ c.bests-item-items.result = grind (arith, common_steps) in
    let there = Contains-append_right c.loop-item.yielded (item ∷ c.next.new.self) item (0, omega arith, refl) in
    any_err c.from_residual-in_err-later.result
    (some_by_item c.args.ports.now (routes_in c.args.routes.now) c.args.at c.bests-item-items.result c.bests-item-items.ensures.listed item
    (subst (λ (items : List (Network × Source × RouteMetric)). Contains items item) all there) (sym c.is_over_other_neighbour.ensures ∙ c.if-is_over_other_neighbour.true))

pub returns-in_err-put-clause-refused : goal.returns-in_err-put-clause-refused
returns-in_err-put-clause-refused c =
    let item = c.in-Some.item in
    let all : c.loop-item.yielded ++ (item ∷ c.next.new.self) ≡ c.bests-item-items.result = grind (arith, common_steps) in
    let there = Contains-append_right c.loop-item.yielded (item ∷ c.next.new.self) item (0, omega arith, refl) in
    any_err c.from_residual-in_err-put.result
    (some_by_item c.args.ports.now (routes_in c.args.routes.now) c.args.at c.bests-item-items.result c.bests-item-items.ensures.listed item
    (subst (λ (items : List (Network × Source × RouteMetric)). Contains items item) all there) (sym c.is_over_other_neighbour.ensures ∙ c.if-is_over_other_neighbour.true))

pub loop-item-preserved-then-is_over_other_neighbour : goal.loop-item-preserved-then-is_over_other_neighbour
loop-item-preserved-then-is_over_other_neighbour c =
    let ports = c.args.ports.now in
    let at = c.args.at in
    let item = c.in-Some.item in
    let next = c.next.new.self in
    let old = c.loop-item.invariant in
    let rest = c.loop-item.rest.now in
    let all = merged c.as_slice-rest.result.now (told_items ports at c.into_iter-item-iterator.result) in
    let step : c.loop-item.item-iterator ≡ item ∷ next = grind (arith, common_steps) in
    let left = subst (λ (items : List (Network × Source × RouteMetric)). AreLeft ports at rest items all old.entries) step old.left in
    let told = sym c.is_over_other_neighbour.ensures ∙ c.if-is_over_other_neighbour.true in
    let low = old.entries ++ take_while (is_below item.0) rest in
    let first = c.put_below.new.self in
    let last = c.put.new.self in
    let before = subst (λ (to : Recipient). ArePacked (AreRoutePackets to) old.entries c.loop-item.packets.sent.items c.loop-item.packets.hand.items) (sym old.to) old.packed in
    let to_first = c.in_ok-later.ensures.to ∙ old.to in
    let mid = subst (λ (to : Recipient). ArePacked (AreRoutePackets to) low first.sent.items first.hand.items) (sym c.in_ok-later.ensures.to) (c.in_ok-later.ensures.put old.entries before) in
    let after = subst (λ (to : Recipient). ArePacked (AreRoutePackets to) (low ++ c.advertised_entry.result ∷ []) last.sent.items last.hand.items) to_first (c.in_ok-put.ensures.put low mid) in
    record {
      all = grind (arith, common_steps);
      to = c.in_ok-put.ensures.to ∙ to_first;
      entries = low ++ advertised_route item.0 item.2 at ∷ [];
      packed = subst (λ (e : RipEntry). ArePacked (AreRoutePackets c.args.to) (low ++ e ∷ []) last.sent.items last.hand.items) c.advertised_entry.ensures after;
      left = subst (λ (es : List RipEntry). AreLeft ports at es next all (low ++ advertised_route item.0 item.2 at ∷ [])) (sym c.in_ok-later.ensures.rest) (walk_told ports at rest item next all old.entries left told);
    }

pub loop-item-preserved : goal.loop-item-preserved
loop-item-preserved c =
    let ports = c.args.ports.now in
    let at = c.args.at in
    let item = c.in-Some.item in
    let next = c.next.new.self in
    let old = c.loop-item.invariant in
    let rest = c.loop-item.rest.now in
    let all = merged c.as_slice-rest.result.now (told_items ports at c.into_iter-item-iterator.result) in
    let step : c.loop-item.item-iterator ≡ item ∷ next = grind (arith, common_steps) in
    let left = subst (λ (items : List (Network × Source × RouteMetric)). AreLeft ports at rest items all old.entries) step old.left in
    record {
      all = grind (arith, common_steps);
      to = old.to;
      entries = old.entries;
      packed = old.packed;
      left = walk_pass ports at rest item next all old.entries left (sym c.is_over_other_neighbour.ensures ∙ c.if-is_over_other_neighbour.false);
    }

pub returns-in_err-put_all-clause-refused : goal.returns-in_err-put_all-clause-refused
returns-in_err-put_all-clause-refused c =
    let ports = c.args.ports.now in
    let at = c.args.at in
    let own = c.as_slice-rest.result.now in
    let heard = c.into_iter-item-iterator.result in
    let gives : heard ≡ c.bests-item-items.result = grind (arith, common_steps) in
    let listed = subst (λ (items : List (Network × Source × RouteMetric)). IsListing network_cmp route_before (routes_in c.args.routes.now) c.args.at.now items) (sym gives) c.bests-item-items.ensures.listed in
    let old = c.loop-item.invariant in
    let rest = c.loop-item.rest.now in
    let all = merged own (told_items ports at heard) in
    let over : c.loop-item.item-iterator ≡ [] = grind (arith, common_steps) in
    let whole : old.entries ++ rest ≡ all = subst (λ (items : List (Network × Source × RouteMetric)). AreLeft ports at rest items all old.entries) over old.left in
    let told : AreAdvertisedPorts ports at (length ports) own = rw c.as_slice-rest.ensures.value c.in_ok-own.ensures.told in
    let some : 0 < length all = subst (λ (es : List RipEntry). 0 < length es) whole (longer old.entries rest c.in_err-put_all.ensures.refused) in
    any_err c.from_residual-in_err-put_all.result (some_are_told ports at (routes_in c.args.routes.now) heard listed c.one_best.ensures own told some)

pub returns-clause-replies : goal.returns-clause-replies
returns-clause-replies c =
    let ports = c.args.ports.now in
    let at = c.args.at in
    let own = c.as_slice-rest.result.now in
    let heard = c.into_iter-item-iterator.result in
    let gives : heard ≡ c.bests-item-items.result = grind (arith, common_steps) in
    let listed = subst (λ (items : List (Network × Source × RouteMetric)). IsListing network_cmp route_before (routes_in c.args.routes.now) c.args.at.now items) (sym gives) c.bests-item-items.ensures.listed in
    let old = c.loop-item.invariant in
    let rest = c.loop-item.rest.now in
    let all = merged own (told_items ports at heard) in
    let over : c.loop-item.item-iterator ≡ [] = grind (arith, common_steps) in
    let whole : old.entries ++ rest ≡ all = subst (λ (items : List (Network × Source × RouteMetric)). AreLeft ports at rest items all old.entries) over old.left in
    let told : AreAdvertisedPorts ports at (length ports) own = rw c.as_slice-rest.ensures.value c.in_ok-own.ensures.told in
    let before = subst (λ (to : Recipient). ArePacked (AreRoutePackets to) old.entries c.loop-item.packets.sent.items c.loop-item.packets.hand.items) (sym old.to) old.packed in
    let last = c.put_all.new.self in
    let packed = subst (λ (to : Recipient). ArePacked (AreRoutePackets to) (old.entries ++ rest) last.sent.items last.hand.items) (sym c.in_ok-put_all.ensures.to) (c.in_ok-put_all.ensures.put old.entries before) in
    IfOk-weaker c.finish.result _ _ (λ v h. (
      all,
      all_are_told ports at (routes_in c.args.routes.now) heard listed c.one_best.ensures own told,
      subst (λ (es : List RipEntry). AreRoutePackets c.args.to es (sendings v.items)) whole
          (subst (λ (to : Recipient). AreRoutePackets to (old.entries ++ rest) (sendings v.items)) (c.in_ok-put_all.ensures.to ∙ old.to) (h (old.entries ++ rest) packed)),
    )) c.finish.ensures.packets

pub returns-clause-refused : goal.returns-clause-refused
returns-clause-refused c =
    let ports = c.args.ports.now in
    let at = c.args.at in
    let own = c.as_slice-rest.result.now in
    let heard = c.into_iter-item-iterator.result in
    let gives : heard ≡ c.bests-item-items.result = grind (arith, common_steps) in
    let listed = subst (λ (items : List (Network × Source × RouteMetric)). IsListing network_cmp route_before (routes_in c.args.routes.now) c.args.at.now items) (sym gives) c.bests-item-items.ensures.listed in
    let old = c.loop-item.invariant in
    let rest = c.loop-item.rest.now in
    let all = merged own (told_items ports at heard) in
    let over : c.loop-item.item-iterator ≡ [] = grind (arith, common_steps) in
    let whole : old.entries ++ rest ≡ all = subst (λ (items : List (Network × Source × RouteMetric)). AreLeft ports at rest items all old.entries) over old.left in
    let told : AreAdvertisedPorts ports at (length ports) own = rw c.as_slice-rest.ensures.value c.in_ok-own.ensures.told in
    let before = subst (λ (to : Recipient). ArePacked (AreRoutePackets to) old.entries c.loop-item.packets.sent.items c.loop-item.packets.hand.items) (sym old.to) old.packed in
    let last = c.put_all.new.self in
    let packed = subst (λ (to : Recipient). ArePacked (AreRoutePackets to) (old.entries ++ rest) last.sent.items last.hand.items) (sym c.in_ok-put_all.ensures.to) (c.in_ok-put_all.ensures.put old.entries before) in
    on_err_weaker c.finish.result (λ h.
    some_are_told ports at (routes_in c.args.routes.now) heard listed c.one_best.ensures own told
    (subst (λ (es : List RipEntry). 0 < length es) whole (h (old.entries ++ rest) packed))) c.finish.ensures.refused
