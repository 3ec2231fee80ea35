use Rattle.std.proofs.Common.{◌≡◌, ◌∙◌, ap, arith, false, true, List, ◌++◌, ◌∷◌, [], drop, take, refl}
use Rattle.spx_link.specs.declared.unit.Unit.{Unit}
use Rattle.spx_messages.specs.Cut.{cut_of, unit_with}
use Rattle.spx_messages.proofs.Pieces.{cut_done, cut_step}
use Rattle.spx_messages.proofs.cutting.cut_bytes.Goals as goal

pub loop-rest-preserved : goal.loop-rest-preserved
loop-rest-preserved c =
    let unit : unit_with c.args.stream false c.split_at.result.0.now ≡ unit_with c.args.stream false (take 534 c.loop-rest.rest.now) = ap (unit_with c.args.stream false) c.split_at.ensures.front in
    rw (c.in_ok-push_unit.ensures, c.split_at.ensures.back)
    (cut_step c.args.stream c.args.bytes.now c.loop-rest.rest.now c.loop-rest.units.items (unit_with c.args.stream false c.split_at.result.0.now) unit (omega (arith, c.loop-rest-test.true)) c.loop-rest.invariant)

pub returns-clause-ok : goal.returns-clause-ok
returns-clause-ok c =
    rw (c.in_ok-push_unit-2.ensures)
    (cut_done c.args.stream c.args.bytes.now c.loop-rest.rest.now c.loop-rest.units.items (unit_with c.args.stream true c.loop-rest.rest.now) refl (omega (arith, c.loop-rest-test.false)) c.loop-rest.invariant)
