use Rattle.std.proofs.Common.{◌≡◌, ◌∙◌, ◌<◌, ◌++◌, List, [], ◌∷◌, append-nil, false, length, refl, sym, subst, arith}
use Rattle.std.specs.Prelude.{Contains}
use Rattle.std.proofs.lemmas.Grind.{common_steps}
use Rattle.std.proofs.lemmas.List.Elements.{Contains-append_right}
use Rattle.std.proofs.lemmas.Result.{IfOk-weaker, on_err_weaker}
use Rattle.ipx_control.specs.declared.sap.packet.ServiceEntry.{ServiceEntry}
use Rattle.ipx_tables.specs.declared.service.ServiceKey.{ServiceKey}
use Rattle.ipx_tables.specs.declared.service.ServiceMetric.{ServiceMetric}
use Rattle.ipx_tables.specs.declared.source.Source.{Source}
use Rattle.ipx_tables.specs.Listing.{IsListing}
use Rattle.ipx_tables.specs.Service.{service_before, service_key_cmp}
use Rattle.ipx_router.specs.declared.packets.Recipient.{Recipient}
use Rattle.ipx_router.specs.Knowledge.{services_in}
use Rattle.ipx_router.specs.RouterPackets.{AreServicePackets, sendings}
use Rattle.ipx_router.specs.Adding.{ArePacked}
use Rattle.ipx_router.specs.AdvertisedEntries.{advertised_service}
use Rattle.ipx_router.proofs.AllServices.{AreLeft, all_asked, asked_items, some_asked, walk_asked, walk_pass}
use Rattle.ipx_router.proofs.SomeAdvertised.{any_err}
use Rattle.ipx_router.proofs.AdvertisedServices.{item_replied}
use Rattle.ipx_router.proofs.replying.service_replies.Goals as goal

pub loop-item-init : goal.loop-item-init
loop-item-init c = record {
  all = refl;
  to = c.new-packets.ensures.to;
  entries = [];
  packed = c.new-packets.ensures.none;
  left = refl;
}

pub returns-in_err-put-clause-refused : goal.returns-in_err-put-clause-refused
returns-in_err-put-clause-refused c =
    let item = c.in-Some.item in
    let all : c.loop-item.yielded ++ (item ∷ c.next.new.self) ≡ c.bests-item-items.result = grind (arith, common_steps) in
    let there = Contains-append_right c.loop-item.yielded (item ∷ c.next.new.self) item (0, omega arith, refl) in
    any_err c.from_residual.result
    (item_replied (services_in c.args.services.now) c.args.at c.bests-item-items.result c.bests-item-items.ensures.listed c.one_best.ensures false c.args.kind item
    (subst (λ (items : List (ServiceKey × Source × ServiceMetric)). Contains items item) all there) (sym c.is_best_asked.ensures ∙ c.if-is_best_asked.true))

pub loop-item-preserved-in-Continue-1 : goal.loop-item-preserved-in-Continue-1
loop-item-preserved-in-Continue-1 c =
    let item = c.in-Some.item in
    let next = c.next.new.self in
    let old = c.loop-item.invariant in
    let all = asked_items c.args.at c.args.kind c.into_iter-item-iterator.result in
    let step : c.loop-item.item-iterator ≡ item ∷ next = grind (arith, common_steps) in
    let left = subst (λ (items : List (ServiceKey × Source × ServiceMetric)). AreLeft c.args.at c.args.kind items all old.entries) step old.left in
    let last = c.put.new.self in
    let before = subst (λ (to : Recipient). ArePacked (AreServicePackets to false) old.entries c.loop-item.packets.sent.items c.loop-item.packets.hand.items) (sym old.to) old.packed in
    let after = subst (λ (to : Recipient). ArePacked (AreServicePackets to false) (old.entries ++ c.advertised_service_of.result ∷ []) last.sent.items last.hand.items) old.to (c.in_ok-put.ensures.put old.entries before) in
    record {
      all = grind (arith, common_steps);
      to = c.in_ok-put.ensures.to ∙ old.to;
      entries = old.entries ++ advertised_service item ∷ [];
      packed = subst (λ (e : ServiceEntry). ArePacked (AreServicePackets c.args.to false) (old.entries ++ e ∷ []) last.sent.items last.hand.items) c.advertised_service_of.ensures after;
      left = walk_asked c.args.at c.args.kind item next all old.entries left (sym c.is_best_asked.ensures ∙ c.if-is_best_asked.true);
    }

pub loop-item-preserved : goal.loop-item-preserved
loop-item-preserved c =
    let item = c.in-Some.item in
    let next = c.next.new.self in
    let old = c.loop-item.invariant in
    let all = asked_items c.args.at c.args.kind c.into_iter-item-iterator.result in
    let step : c.loop-item.item-iterator ≡ item ∷ next = grind (arith, common_steps) in
    let left = subst (λ (items : List (ServiceKey × Source × ServiceMetric)). AreLeft c.args.at c.args.kind items all old.entries) step old.left in
    record {
      all = grind (arith, common_steps);
      to = old.to;
      entries = old.entries;
      packed = old.packed;
      left = walk_pass c.args.at c.args.kind item next all old.entries left (sym c.is_best_asked.ensures ∙ c.if-is_best_asked.false);
    }

pub returns-clause-replies : goal.returns-clause-replies
returns-clause-replies c =
    let old = c.loop-item.invariant in
    let heard = c.into_iter-item-iterator.result in
    let gives : heard ≡ c.bests-item-items.result = grind (arith, common_steps) in
    let listed = subst (λ (items : List (ServiceKey × Source × ServiceMetric)). IsListing service_key_cmp service_before (services_in c.args.services.now) c.args.at.now items) (sym gives) c.bests-item-items.ensures.listed in
    let all = asked_items c.args.at c.args.kind heard in
    let over : c.loop-item.item-iterator ≡ [] = grind (arith, common_steps) in
    let left : old.entries ++ [] ≡ all = subst (λ (items : List (ServiceKey × Source × ServiceMetric)). AreLeft c.args.at c.args.kind items all old.entries) over old.left in
    let whole : old.entries ≡ all = sym (append-nil old.entries) ∙ left in
    let packed = subst (λ (to : Recipient). ArePacked (AreServicePackets to false) old.entries c.loop-item.packets.sent.items c.loop-item.packets.hand.items) (sym old.to) old.packed in
    IfOk-weaker c.finish.result _ _ (λ v h. record {
      entries = all;
      are = all_asked c.args.at c.args.kind (services_in c.args.services.now) heard listed c.one_best.ensures;
      packets = subst (λ (es : List ServiceEntry). AreServicePackets c.args.to false es (sendings v.items)) whole
          (subst (λ (to : Recipient). AreServicePackets to false old.entries (sendings v.items)) old.to (h old.entries packed));
    }) c.finish.ensures.packets

pub returns-clause-refused : goal.returns-clause-refused
returns-clause-refused c =
    let old = c.loop-item.invariant in
    let heard = c.into_iter-item-iterator.result in
    let gives : heard ≡ c.bests-item-items.result = grind (arith, common_steps) in
    let listed = subst (λ (items : List (ServiceKey × Source × ServiceMetric)). IsListing service_key_cmp service_before (services_in c.args.services.now) c.args.at.now items) (sym gives) c.bests-item-items.ensures.listed in
    let all = asked_items c.args.at c.args.kind heard in
    let over : c.loop-item.item-iterator ≡ [] = grind (arith, common_steps) in
    let left : old.entries ++ [] ≡ all = subst (λ (items : List (ServiceKey × Source × ServiceMetric)). AreLeft c.args.at c.args.kind items all old.entries) over old.left in
    let whole : old.entries ≡ all = sym (append-nil old.entries) ∙ left in
    let packed = subst (λ (to : Recipient). ArePacked (AreServicePackets to false) old.entries c.loop-item.packets.sent.items c.loop-item.packets.hand.items) (sym old.to) old.packed in
    on_err_weaker c.finish.result (λ h.
    some_asked c.args.at c.args.kind (services_in c.args.services.now) heard listed c.one_best.ensures
    (subst (λ (es : List ServiceEntry). 0 < length es) whole (h old.entries packed))) c.finish.ensures.refused
