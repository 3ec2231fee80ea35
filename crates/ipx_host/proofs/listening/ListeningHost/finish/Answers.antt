use Rattle.ipx_host.proofs.Polled.{failed_or_well}
use Rattle.ipx_host.proofs.listening.ListeningHost.finish.Goals as goal

pub returns-clause-waits : goal.returns-clause-waits
returns-clause-waits g c =
    failed_or_well c.serve-stopped.result c.args.self.now.station.poller c.serve-stopped.new.self.station.poller c.serve-stopped.ensures.unwaited c.serve-stopped.ensures.waits
