use Rattle.std.proofs.Common.{arith}
use Rattle.ipx_sim.proofs.Telling.{not_long}
use Rattle.ipx_sim.proofs.sim.do_sim.Goals as goal

pub returns-clause-long : goal.returns-clause-long
returns-clause-long g c =
    not_long c.run_script.result (g.R.Read.remaining c.args.reader.now) c.in-Ok.input.items _ c.in-Ok.ensures (omega (arith, c.if-len-gt-MAX_INPUT.false, c.len.ensures))
