use Rattle.std.proofs.Common.{inl, inr}
use Rattle.ipx_query_cmd.proofs.services.list_services.Goals as goal

pub returns-in-Ok-Host-clause-listed : goal.returns-in-Ok-Host-clause-listed
returns-in-Ok-Host-clause-listed g c = λ zero.
    let station = rw c.in-Ok-Host.field-0-is at c.in-Ok-Host.ensures.station in
    let l = c.services_by_host.ensures.listed zero in
    (station.0, l.2, station.1, inl (c.in-Ok-Host.file, l.0, l.1, station.2, l.3, l.4, l.5), l.6)

pub returns-in-Ok-Router-clause-listed : goal.returns-in-Ok-Router-clause-listed
returns-in-Ok-Router-clause-listed g c = λ zero.
    let station = rw c.in-Ok-Router.field-0-is at c.in-Ok-Router.ensures.station in
    let l = c.services_by_router.ensures.listed zero in
    (station.0, l.0, station.1, inr (c.in-Ok-Router.site, station.2, l.1), l.2)
