use Rattle.std.proofs.Common.{arith, sym, ap, ◌∙◌}
use Rattle.std.proofs.lemmas.Result.{err_from_is_err_and}
use Rattle.ipx_wire.specs.Ipx.{ipx_fault}
use Rattle.ipx_ethernet.specs.FrameFault.{kind_fault, of_packet}
use Rattle.ipx_ethernet.proofs.Faults.{comes_to_kind, first_none, first_some}
use Rattle.ipx_ethernet.proofs.OneFrame.{frame_read, held_alike}
use Rattle.ipx_ethernet.proofs.reading.frame_in.Goals as goal

pub returns-in_err-hears-clause-fault : goal.returns-in_err-hears-clause-fault
returns-in_err-hears-clause-fault c =
    let bytes = c.args.bytes.now in
    let come = comes_to_kind c.args.own c.station_at-to.result c.station_at-from.result bytes (omega arith) (omega arith) (sym c.station_at-to.ensures) (sym c.station_at-from.ensures) in
    let p = err_from_is_err_and c.from_residual.result c.from_residual.ensures.1 in
    rw (p.1, p.2) (come ∙ first_some _ (kind_fault bytes) _ c.in_err-hears.ensures.fault)

pub returns-in_err-encapsulation-clause-fault : goal.returns-in_err-encapsulation-clause-fault
returns-in_err-encapsulation-clause-fault c =
    let bytes = c.args.bytes.now in
    let come = comes_to_kind c.args.own c.station_at-to.result c.station_at-from.result bytes (omega arith) (omega arith) (sym c.station_at-to.ensures) (sym c.station_at-from.ensures) in
    let p = err_from_is_err_and c.from_residual-in_err-encapsulation.result c.from_residual-in_err-encapsulation.ensures.1 in
    rw (p.1, p.2) (come ∙ first_none _ (kind_fault bytes) c.in_ok-hears.ensures.whole ∙ c.in_err-encapsulation.ensures.fault)

pub returns-in_err-packet-clause-fault : goal.returns-in_err-packet-clause-fault
returns-in_err-packet-clause-fault c =
    let bytes = c.args.bytes.now in
    let e = c.in_ok-encapsulation.encapsulation in
    let come = comes_to_kind c.args.own c.station_at-to.result c.station_at-from.result bytes (omega arith) (omega arith) (sym c.station_at-to.ensures) (sym c.station_at-from.ensures) in
    let held = held_alike e bytes c.link.result.now c.in_ok-encapsulation.end c.link.ensures c.in_ok-encapsulation.ensures.end in
    let p = err_from_is_err_and c.from_residual-in_err-packet.result c.from_residual-in_err-packet.ensures.1 in
    rw (p.1, p.2) (come ∙ first_none _ (kind_fault bytes) c.in_ok-hears.ensures.whole ∙ c.in_ok-encapsulation.ensures.whole ∙ ap of_packet (ap ipx_fault (sym held) ∙ c.in_err-packet.ensures.fault))

pub returns-clause-found : goal.returns-clause-found
returns-clause-found c =
    frame_read c.in_ok-encapsulation.encapsulation c.station_at-to.result c.station_at-from.result c.in_ok-packet.packet.now c.args.bytes.now c.link.result.now c.in_ok-encapsulation.end
    (sym c.station_at-to.ensures) (sym c.station_at-from.ensures) c.in_ok-encapsulation.ensures.kind c.link.ensures c.in_ok-encapsulation.ensures.end c.in_ok-encapsulation.ensures.begins (omega arith)
    c.in_ok-packet.ensures.packet c.in_ok-packet.ensures.front c.in_ok-packet.ensures.within

pub returns-clause-heard : goal.returns-clause-heard
returns-clause-heard c = c.in_ok-hears.ensures.heard c.in_ok-packet.packet.now
