use Rattle.std.proofs.Common.{refl, rules, []}
use Rattle.ipx_wire.specs.Ipx.{IsWritten}
use Rattle.ipx_tunnels.proofs.header.put_vxlan.Goals as goal

pub returns-clause-written : goal.returns-clause-written
returns-clause-written c =
    let old = c.args.out.now in
    let none : IsWritten old [] old 0 = record { is = search rules; count = refl } in
    let begin = c.put_field-begin.ensures.written old _ none in
    let network = c.put_field-network.ensures.written old _ begin in
    c.put_field.ensures.written old _ network
