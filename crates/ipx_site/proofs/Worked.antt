-- What a running router does in a round besides its turns.
use Rattle.std.proofs.Common.{◌≡◌, ℕ, true, false, Result, Ok, Err, subst, sym}
use Rattle.std.specs.Prelude.{OnErr, OnOk, is_err}
use Rattle.ipx_carrier.specs.declared.datagrams.Datagrams as OfDevice
use Rattle.ipx_carrier.specs.declared.report.Batch.{Batch}
use Rattle.ipx_ethernet_ports.specs.declared.end_sockets.EndSockets as OfSockets
use Rattle.ipx_ethernet_ports.specs.declared.sockets.EthernetSockets.{EthernetSockets}
use Rattle.ipx_ipxnet_ports.specs.declared.place_sockets.PlaceSockets as OfPlaces
use Rattle.ipx_ipxnet_ports.specs.declared.sockets.ServerSockets.{ServerSockets}
use Rattle.ipx_sockets.specs.declared.source_filter.SourceFilter.{SourceFilter}
use Rattle.ipx_sockets.specs.declared.sockets.UdpSockets.{UdpSockets}
use Rattle.ipx_site.specs.PortsView.{SitePortsRun}
use Rattle.ipx_site.specs.RouterWork.{WorksInRound}
use Rattle.ipx_site.specs.SiteCore.{SiteCore}
use Rattle.ipx_site.specs.WorkRefusals.{DoesUnless, Refusals, WorkNotes}
use Rattle.ipx_site.specs.declared.drop_log.DropLog.{DropLog}
use Rattle.ipx_site.specs.declared.router_counts.RouterCounts.{RouterCounts}
use Rattle.ipx_site.specs.declared.warnings.Warnings.{Warnings}

-- what a router did is not of what it counted and logged then
pub does_then : {gd : OfDevice.Ghosts (SourceFilter UdpSockets)} {ge : OfSockets.Ghosts EthernetSockets} {gl : OfPlaces.Ghosts ServerSockets} (refused : Refusals) (ports : SitePortsRun gd ge gl) (core : SiteCore) (now now' : ℕ) (before after : WorkNotes)
    (t : RouterCounts) (w : Warnings) (d : DropLog) → now' ≡ now → DoesUnless refused ports core now before after
    → DoesUnless refused ports core now' before (record after { totals = t; warnings = w; drops = d })
does_then refused ports core now now' before after t w d en h =
    subst (λ (n : ℕ). DoesUnless refused ports core n before (record after { totals = t; warnings = w; drops = d })) (sym en) (record {
      clients = h.clients;
      known = h.known;
      tables = h.tables;
      metrics = h.metrics;
      secret = h.secret;
      tables_file = h.tables_file;
      metrics_file = h.metrics_file;
    })

module _ {gd : OfDevice.Ghosts (SourceFilter UdpSockets)} {ge : OfSockets.Ghosts EthernetSockets} {gl : OfPlaces.Ghosts ServerSockets} (ports : SitePortsRun gd ge gl) (core : SiteCore) (asked : ℕ) (b : Batch) (before : WorkNotes) where
  -- what holds of a round does not depend on what stays the same after it
  pub works_then : (now now' times times' : ℕ) (after after' : WorkNotes) → now' ≡ now → times' ≡ times → after' ≡ after
      → WorksInRound ports core now asked times b before after → WorksInRound ports core now' asked times' b before after'
  works_then now now' times times' after after' en ex ea h =
      subst (λ (n : ℕ). WorksInRound ports core n asked times' b before after') (sym en)
      (subst (λ (x : ℕ). WorksInRound ports core now asked x b before after') (sym ex)
      (subst (λ (a : WorkNotes). WorksInRound ports core now asked times b before a) (sym ea) h))

-- what holds of a result by what it is
pub on_well : {T E P : Type 0} (r : Result T E) → OnOk r P → is_err r ≡ false → P
on_well (Ok t) p h = p
on_well (Err e) p h = absurd (let differ : true ≡ false = h in cc)

pub on_refused : {T E P : Type 0} (r : Result T E) → OnErr r P → is_err r ≡ true → P
on_refused (Ok t) p h = absurd (let differ : false ≡ true = h in cc)
on_refused (Err e) p h = p
