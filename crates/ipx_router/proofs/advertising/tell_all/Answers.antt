use Rattle.std.proofs.Common.{Result, Ok, Err, arith}
use Rattle.std.specs.Prelude.{OnErr}
use Rattle.ipx_router.specs.Knowledge.{routes_in, services_in}
use Rattle.ipx_router.proofs.LonePort.{nothing_to_tell, something_to_tell}
use Rattle.ipx_router.proofs.advertising.tell_all.Goals as goal

pub returns-then-ports-lt2-clause-tells : goal.returns-then-ports-lt2-clause-tells
returns-then-ports-lt2-clause-tells c =
    rw c.new.ensures.items (nothing_to_tell c.args.ports.now (routes_in c.args.routes.now) (services_in c.args.services.now) c.args.now c.if-ports-lt2.true c.requires.routes_from c.requires.services_from)

on_err : {A E P : Type 0} (r : Result A E) → P → OnErr r P
on_err (Ok x) p = tt
on_err (Err e) p = p

pub returns-clause-refused : goal.returns-clause-refused
returns-clause-refused c =
    on_err c.tell_each.result (something_to_tell c.args.ports.now (routes_in c.args.routes.now) (services_in c.args.services.now) c.args.now (omega arith))
