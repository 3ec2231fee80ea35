use Rattle.std.proofs.Common.{refl, rules, take, Some}
use Rattle.std.proofs.lemmas.Result.{err_from_is_err_and}
use Rattle.ipx_carrier.specs.Turns.{Given}
use Rattle.ipx_carrier.proofs.Sends.{none_sent, one_sent_in_part}
use Rattle.ipx_carrier.proofs.sending.send_next.Goals as goal

pub returns-in_err-sent-clause-fault : goal.returns-in_err-sent-clause-fault
returns-in_err-sent-clause-fault g c =
    let p = err_from_is_err_and c.from_residual-in_err-sent.result c.from_residual-in_err-sent.ensures.1 in
    let i = c.in-Some in
    let given : Given = record { port = i.port; node = i.node; bytes = take i.count c.next.new.room } in
    let gave : g.C.Core.gives c.args.core.now c.args.now (Some given) c.next.new.self = search rules in
    rw (p.1, p.2)
    (one_sent_in_part g.C.Core.gives g.C.Core.next_out_of_memory g.S.PortDriver.sends g.S.PortDriver.fails_to_send c.args.now (g.S.PortDriver.transmissions c.args.driver.now) given _ _ c.args.driver.now c.send.new.self _ c.next.new.self gave c.in_err-sent.ensures.refused c.in_err-sent.ensures.fails_to_send)

pub returns-in_err-port-clause-fault : goal.returns-in_err-port-clause-fault
returns-in_err-port-clause-fault g c =
    let p = err_from_is_err_and c.from_residual.result c.from_residual.ensures.1 in
    rw (p.1, p.2)
    (none_sent g.C.Core.gives g.C.Core.next_out_of_memory g.S.PortDriver.sends g.S.PortDriver.fails_to_send c.args.now (g.S.PortDriver.transmissions c.args.driver.now) _ _ _ _ _ _ c.in_err-port.ensures.refused refl refl)
