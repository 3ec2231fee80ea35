use Rattle.std.proofs.Common.{arith, ◌∙◌}
use Rattle.ipx_sim.proofs.Numerals.{one_more, stopped}
use Rattle.ipx_sim.proofs.fields.numeral_of.Goals as goal

pub returns-in_err-number : goal.returns-in_err-number
returns-in_err-number c =
    c.from_residual.ensures ∙ stopped c.args.most c.args.radix c.args.field.now c.loop-byte.byte-index c.loop-byte.number (omega arith) (omega arith) c.loop-byte-test.true c.loop-byte.invariant.0 c.in_err-number.ensures

pub loop-byte-preserved : goal.loop-byte-preserved
loop-byte-preserved c =
    one_more c.args.radix c.args.field.now c.loop-byte.byte-index c.loop-byte.number c.in_ok-number.number c.loop-byte-test.true c.loop-byte.invariant c.in_ok-number.ensures
