use Rattle.std.proofs.Common.{◌≡◌, ◌∙◌, refl, Option, false, rules, sym, subst}
use Rattle.std.specs.Prelude.{IfErr, unwrap_or}
use Rattle.std.proofs.lemmas.Iterator.Consumers.{YieldsList-so_far, YieldsList-turn}
use Rattle.std.proofs.lemmas.Iterator.Adapters.{YieldsList-from_vec}
use Rattle.ipx_router.specs.declared.fault.NewFault.{NewFault}
use Rattle.ipx_router.specs.declared.fault.NewFault.TheVariants as NewFaults
use Rattle.ipx_net.proofs.Beginnings.{more_routers, refused_at, sound_more}
use Rattle.ipx_net.proofs.NetKept.{ok_holds}
use Rattle.ipx_net.proofs.making.routers_of.Goals as goal

pub returns-in_err-router-clause-fault : goal.returns-in_err-router-clause-fault
returns-in_err-router-clause-fault c =
    let all = c.args.routers.items in
    let into = c.into_iter-ports-iterator.ensures.into_iter_gives in
    let from = YieldsList-from_vec {s = c.into_iter-ports-iterator.result} all into.0 (into.1 ∙ c.args.routers.ok.0) in
    let so_far = YieldsList-so_far from c.loop-ports.yielded _ c.loop-ports.yielded_by in
    let there = YieldsList-turn from c.loop-ports.yielded _ c.loop-ports.yielded_by _ c.next.new.self c.in-Some.ports c.in-Some.is c.next.ensures.steps in
    let first = refused_at all c.loop-ports.yielded c.in-Some.ports c.in_err-router.field-0.0 so_far there c.loop-ports.invariant.sound c.in_err-router.ensures.fault in
    subst (λ (o : Option NewFault). IfErr c.from_residual.result (λ g. g ≡ unwrap_or o NewFaults.OutOfMemory)) (sym first) (search rules)

pub loop-ports-preserved-then-is_err : goal.loop-ports-preserved-then-is_err
loop-ports-preserved-then-is_err c =
    record {
      can = tt;
      finite = tt;
      sound = sound_more c.loop-ports.yielded c.in-Some.ports c.loop-ports.invariant.sound c.in_ok-router.ensures.sound;
      are = λ not. absurd (cc not);
    }

pub loop-ports-preserved : goal.loop-ports-preserved
loop-ports-preserved c =
    record {
      can = tt;
      finite = tt;
      sound = sound_more c.loop-ports.yielded c.in-Some.ports c.loop-ports.invariant.sound c.in_ok-router.ensures.sound;
      are = λ room. more_routers c.loop-ports.yielded c.in-Some.ports c.loop-ports.made.items _ (record { router = c.in_ok-router.router; started = false })
          (c.loop-ports.invariant.are room)
          (record {
            ports_are = c.in_ok-router.ensures.ports;
            routes = c.in_ok-router.ensures.knows_nothing.0;
            services = c.in_ok-router.ensures.knows_nothing.1;
            most_routes = c.in_ok-router.ensures.room.0;
            most_services = c.in_ok-router.ensures.room.1;
            told = c.in_ok-router.ensures.knows_nothing.2;
            started = refl;
          })
          (ok_holds c.add.result _ (sym c.is_err.ensures.value ∙ c.if-is_err.false) c.add.ensures);
    }
