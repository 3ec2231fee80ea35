use Rattle.std.proofs.Common.{◌∙◌, List, [], false, sym, subst}
use Rattle.ipx_control.specs.declared.sap.packet.ServiceEntry.{ServiceEntry}
use Rattle.ipx_control.specs.Sap.{IsSap}
use Rattle.ipx_control.specs.Sap as sap
use Rattle.ipx_router.proofs.Alike.{bodies_done, bodies_more}
use Rattle.ipx_router.proofs.Cuts.{none_left, some_left, take_fewer}
use Rattle.ipx_router.proofs.bodies.service_bodies.Goals as goal

pub loop-rest-preserved : goal.loop-rest-preserved
loop-rest-preserved c =
    let rest = c.loop-rest.rest.now in
    let body = c.in_ok-services_body.field-0 in
    let fewer = take_fewer 7 c.min.result rest c.min.ensures in
    let part = subst (λ (part : List ServiceEntry). IsSap (sap.Response false part) body.items []) (c.split_at.ensures.front ∙ fewer.0) c.in_ok-services_body.ensures.says in
    rw (c.in_ok-push.ensures.items, c.split_at.ensures.back, fewer.1)
    (bodies_more c.args.services.now rest c.loop-rest.bodies.items c.loop-rest.invariant body (some_left rest (sym c.is_empty.ensures ∙ c.loop-rest-test.true)) part c.in_ok-services_body.ensures.short)

pub returns : goal.returns
returns c = bodies_done c.args.services.now c.loop-rest.rest.now c.loop-rest.bodies.items c.loop-rest.invariant (none_left c.loop-rest.rest.now (sym c.is_empty.ensures ∙ c.loop-rest-test.false))
