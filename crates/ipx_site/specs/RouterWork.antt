-- What a running router notes of its work besides its turns. Defined by this project.
use Rattle.std.specs.Prelude.{◌≡◌, ℕ}
use Rattle.ipx_carrier.specs.declared.datagrams.Datagrams as OfDevice
use Rattle.ipx_carrier.specs.declared.report.Batch.{Batch}
use Rattle.ipx_ethernet_ports.specs.declared.end_sockets.EndSockets as OfSockets
use Rattle.ipx_ethernet_ports.specs.declared.sockets.EthernetSockets.{EthernetSockets}
use Rattle.ipx_ipxnet_ports.specs.declared.place_sockets.PlaceSockets as OfPlaces
use Rattle.ipx_ipxnet_ports.specs.declared.sockets.ServerSockets.{ServerSockets}
use Rattle.ipx_sockets.specs.declared.source_filter.SourceFilter.{SourceFilter}
use Rattle.ipx_sockets.specs.declared.sockets.UdpSockets.{UdpSockets}
use Rattle.ipx_sockets.specs.Moments.{AreLoggedIfDue}
use Rattle.ipx_site.specs.DropLog.{AreDropsLogged}
use Rattle.ipx_site.specs.IdleTime.{counts_to_log, happened}
use Rattle.ipx_site.specs.PortsView.{SitePortsRun}
use Rattle.ipx_site.specs.RouterMetrics.{with_batch}
use Rattle.ipx_site.specs.RouterRounds.{AsksAgain}
use Rattle.ipx_site.specs.SiteCore.{SiteCore}
use Rattle.ipx_site.specs.TunnelLog.{drop_counts}
use Rattle.ipx_site.specs.WorkRefusals.{DoesUnless, IsDoneIfDue, Refusals, WorkNotes, with_refusals}
use Rattle.ipx_site.specs.declared.running_router.RunningRouter.{RunningRouter}

-- what a running router notes of its work
abbrev pub notes_of : {R : Type 0} → RunningRouter R → WorkNotes
notes_of r = record {
  totals = r.totals;
  warnings = r.warnings;
  drops = r.drops;
  written = r.written;
  looked = r.looked;
  responses = r.responses;
  known = r.route_changes;
  client_log = r.client_log;
  clients_file = r.clients_file;
  tables_file = r.tables_file;
  metrics_file = r.metrics_file;
}

-- before the turns of a round, at its time, a router looks and writes its files if that is due. It notes each warning
-- and each drop that is due as logged, and no other. It notes that time for its files exactly if ten seconds have passed
-- since it last did. What is due is by what its core, its ports and its totals count then, with what was refused to this
-- work. Its totals are those of before with just these refusals, and then its batch
pub record WorksInRound {gd : OfDevice.Ghosts (SourceFilter UdpSockets)} {ge : OfSockets.Ghosts EthernetSockets} {gl : OfPlaces.Ghosts ServerSockets} (ports : SitePortsRun gd ge gl) (core : SiteCore) (now asked asked_after : ℕ) (b : Batch) (before after : WorkNotes) : Type 0 where
  pub mid : SiteCore
  pub asks : AsksAgain now asked asked_after core mid
  pub refused : Refusals
  pub works : DoesUnless refused ports mid now before after
  pub totals : after.totals ≡ with_batch b (with_refusals refused before.totals)
  pub warns : AreLoggedIfDue (counts_to_log (happened (with_refusals refused before.totals) mid ports)) now
      before.warnings.causes after.warnings.causes
  pub logs : AreDropsLogged mid.core.core.core.outcomes mid.drops (drop_counts ports.ethernet.sockets.ethernet.items ports.port_indices.items)
      ports.ethernet.switches.items ports.port_indices.items now before.drops after.drops
  pub writes : IsDoneIfDue 10000 now before.written after.written
