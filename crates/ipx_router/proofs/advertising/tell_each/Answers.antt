use Rattle.std.proofs.lemmas.Result.{IfOk-weaker}
use Rattle.ipx_router.specs.Knowledge.{routes_in, services_in}
use Rattle.ipx_router.specs.RouterPackets.{sendings}
use Rattle.ipx_router.proofs.Tellings.{tellings_there}
use Rattle.ipx_router.proofs.advertising.tell_each.Goals as goal

pub tell_heard-requires-clause-bodies : goal.tell_heard-requires-clause-bodies
tell_heard-requires-clause-bodies c = rw c.deref-3.ensures.value (rw c.deref.ensures.value at c.in_ok-bodies.ensures)

pub returns-clause-tells : goal.returns-clause-tells
returns-clause-tells c =
    IfOk-weaker c.tell_heard.result _ _ (λ v h. h (routes_in c.args.routes.now) (services_in c.args.services.now) (rw c.deref-2.ensures.value c.in-Ok.ensures.listed) (rw c.deref-3.ensures.value c.in-Ok-list.ensures.listed)) c.tell_heard.ensures

pub returns-clause-there : goal.returns-clause-there
returns-clause-there c =
    IfOk-weaker c.tell_heard.result _ _ (λ v h. tellings_there c.args.ports.now (routes_in c.args.routes.now) (services_in c.args.services.now) c.args.now (sendings v.items)
    (h (routes_in c.args.routes.now) (services_in c.args.services.now) (rw c.deref-2.ensures.value c.in-Ok.ensures.listed) (rw c.deref-3.ensures.value c.in-Ok-list.ensures.listed))) c.tell_heard.ensures
