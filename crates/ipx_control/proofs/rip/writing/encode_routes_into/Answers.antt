use Rattle.ipx_control.specs.Rip.{Response}
use Rattle.ipx_control.proofs.RipPackets.{rip_written}
use Rattle.ipx_control.proofs.rip.writing.encode_routes_into.Goals as goal

pub returns-clause-written : goal.returns-clause-written
returns-clause-written c =
    rip_written (Response c.args.routes.now) c.args.out.now c.put_rip.new.out _ (record { entries = c.put_rip.ensures.range; limit = c.requires.limit }) c.put_rip.ensures.written
