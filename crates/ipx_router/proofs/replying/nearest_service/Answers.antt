use Rattle.std.proofs.Common.{◌≡◌, ◌∙◌, List, sym, subst, arith}
use Rattle.std.proofs.lemmas.Grind.{common_steps}
use Rattle.ipx_tables.specs.declared.service.ServiceKey.{ServiceKey}
use Rattle.ipx_tables.specs.declared.service.ServiceMetric.{ServiceMetric}
use Rattle.ipx_tables.specs.declared.source.Source.{Source}
use Rattle.ipx_router.specs.Knowledge.{services_in}
use Rattle.ipx_router.proofs.NearestWalk.{IsNearestOf, walk_far, walk_near, walked_nearest}
use Rattle.ipx_router.proofs.replying.nearest_service.Goals as goal

pub loop-item-preserved-then-is_best_asked : goal.loop-item-preserved-then-is_best_asked
loop-item-preserved-then-is_best_asked c = record {
  all = grind (arith, common_steps);
  nearest = rw (c.nearer_of.ensures, c.advertised_service_of.ensures) (walk_near c.args.at c.args.kind c.loop-item.nearest c.loop-item.yielded c.in-Some.item c.loop-item.invariant.nearest (sym c.is_best_asked.ensures ∙ c.if-is_best_asked.true));
}

pub loop-item-preserved : goal.loop-item-preserved
loop-item-preserved c = record {
  all = grind (arith, common_steps);
  nearest = walk_far c.args.at c.args.kind c.loop-item.nearest c.loop-item.yielded c.in-Some.item c.loop-item.invariant.nearest (sym c.is_best_asked.ensures ∙ c.if-is_best_asked.false);
}

pub returns-clause-found : goal.returns-clause-found
returns-clause-found c =
    let all : c.loop-item.yielded ≡ c.bests-item-items.result = grind (arith, common_steps) in
    (walked_nearest c.args.at c.args.kind (services_in c.args.services.now) c.bests-item-items.result c.bests-item-items.ensures.listed c.one_best.ensures c.loop-item.nearest
    (subst (λ (items : List (ServiceKey × Source × ServiceMetric)). IsNearestOf c.args.at c.args.kind items c.loop-item.nearest) all c.loop-item.invariant.nearest)).0

pub returns-clause-none : goal.returns-clause-none
returns-clause-none c =
    let all : c.loop-item.yielded ≡ c.bests-item-items.result = grind (arith, common_steps) in
    (walked_nearest c.args.at c.args.kind (services_in c.args.services.now) c.bests-item-items.result c.bests-item-items.ensures.listed c.one_best.ensures c.loop-item.nearest
    (subst (λ (items : List (ServiceKey × Source × ServiceMetric)). IsNearestOf c.args.at c.args.kind items c.loop-item.nearest) all c.loop-item.invariant.nearest)).1
