use Rattle.std.proofs.Common.{arith}
use Rattle.std.proofs.lemmas.Bool.{eq-eqb, eqb-true}
use Rattle.ipx_host.proofs.Written.{left_none}
use Rattle.ipx_host.proofs.output.Outlet.is_empty.Goals as goal

pub returns : goal.returns
returns c =
    let output = c.args.self.now in
    let none = left_none output.written output.bytes.items output.within in (
      λ t. none.0 (omega (arith, eqb-true output.written c.len.result t, c.len.ensures, output.bytes.ok.0)),
      λ t. eq-eqb output.written c.len.result (omega (arith, none.1 t, c.len.ensures, output.bytes.ok.0)),
    )
