use Rattle.std.proofs.Common.{◌∷◌, List, Some, [], length, rules, take, ℕ}
use Rattle.std.proofs.lemmas.Result.{err_from_is_err_and}
use Rattle.ipx_carrier.specs.Device.{Passes}
use Rattle.ipx_carrier.proofs.Asking.{poll_out_of_memory}
use Rattle.ipx_carrier.proofs.Draining.{takes_nothing}
use Rattle.ipx_carrier.proofs.hearing.hear_port.Goals as goal

pub returns-in_err-count-clause-waiting : goal.returns-in_err-count-clause-waiting
returns-in_err-count-clause-waiting g c =
    takes_nothing _ _ _ _ _ c.in_err-count.ensures.refused c.in_err-count.ensures.waiting

pub returns-in_err-hear-clause-fault : goal.returns-in_err-hear-clause-fault
returns-in_err-hear-clause-fault g c =
    let p = err_from_is_err_and c.from_residual-in_err-hear.result c.from_residual-in_err-hear.ensures.1 in
    let bytes : List ℕ = take c.in-Some.count c.receive.new.room in
    let passes : Passes (g.S.PortDriver.traffic c.args.driver.now) (g.S.PortDriver.traffic c.receive.new.self) (record { port = c.args.port; bytes = Some bytes } ∷ []) [] = search rules in
    let gave : g.S.PortDriver.receives c.args.driver.now c.args.port (length c.args.room.now) (Some bytes) c.receive.new.self = search rules in
    let lost : g.C.Core.hear_out_of_memory c.args.core.now c.args.port bytes c.args.now c.hear.new.self = search rules in
    rw (p.1, p.2)
    (poll_out_of_memory g.C.Core.hear_out_of_memory g.S.PortDriver.receives g.S.PortDriver.fails_to_receive c.args.now (length c.args.room.now) c.args.port bytes _ _ c.args.driver.now c.receive.new.self c.args.core.now c.hear.new.self passes gave lost)
