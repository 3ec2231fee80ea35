use Rattle.std.proofs.Common.{◌∙◌, arith, refl}
use Rattle.ipx_table_dump.proofs.Rows.{owns_more}
use Rattle.ipx_table_dump.proofs.route_lines.put_owns.Goals as goal

pub loop-port-preserved : goal.loop-port-preserved
loop-port-preserved c =
    let i = c.loop-port.invariant in
    record {
      text = c.in_ok-put_own.ensures ∙ owns_more c.args.ports.now c.loop-port.port-index c.loop-port.number _ _ _ _ c.loop-port-test.true i.many i.text refl;
      many = omega (arith, i.many);
    }
