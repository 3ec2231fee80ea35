use Rattle.ipx_site.specs.IpxnetFile.{ipxnet_file_text}
use Rattle.ipx_site.proofs.RanRounds.{not_well}
use Rattle.ipx_site.proofs.TextRuns.{routes_by_text}
use Rattle.ipx_site.proofs.players.do_ipxnet.Goals as goal

pub returns-in-Ok-clause-well : goal.returns-in-Ok-clause-well
returns-in-Ok-clause-well g c =
    routes_by_text (ipxnet_file_text c.args.port) c.in-Ok.router c.run_router.new.router c.run_router.result c.in-Ok.ensures.starts c.run_router.ensures.runs

pub returns-in-Err-clause-well : goal.returns-in-Err-clause-well
returns-in-Err-clause-well g c = not_well c.in-Err.status c.in-Err.ensures.refused
