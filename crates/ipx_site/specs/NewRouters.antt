-- What the parts of a router have counted and logged at its start: nothing. Defined by this project. The whole is
-- `HasDoneNothing` of RoutingRuns.
use Rattle.std.specs.Prelude.{◌≡◌, [], length, replicate, None}
use Rattle.ipx_carrier.specs.OutcomeCounters.{none}
use Rattle.ipx_metrics.specs.LastDrops.{nothing_dropped}
use Rattle.ipx_metrics.specs.MeteredRouter.{CountedView}
use Rattle.ipx_metrics.specs.PortCounts.{no_traffic}
use Rattle.ipx_rate_limits.specs.DirectedBroadcasts.{no_directed_drops}
use Rattle.ipx_rate_limits.specs.RateLimiter.{no_query_drops}
use Rattle.ipx_site.specs.SiteCore.{SiteCore}
use Rattle.ipx_site.specs.declared.client_log.ClientLog.{ClientLog}
use Rattle.ipx_site.specs.declared.route_change_log.RouteChangeLog.{RouteChangeLog}
use Rattle.ipx_sockets.specs.Moments.{never_logged}
use Rattle.ipx_sockets.specs.PortFilterDrops.{nothing_at_port}
use Rattle.ipx_sockets.specs.SourceFilter.{no_filter_drops}
use Rattle.ipx_sockets.specs.declared.source_filter.SourceFilter.{SourceFilter}
use Rattle.ipx_sockets.specs.declared.sockets.UdpSockets.{UdpSockets}

-- a router that counts at its ports has counted no datagram, no packet and no drop
abbrev pub CountsNothing : CountedView → Type 0
CountsNothing c = (c.outcomes ≡ none) × (c.port_counters ≡ replicate (length c.router.ports) no_traffic)
    × (c.last ≡ nothing_dropped) × (c.dropped ≡ 0)

-- neither has its core, which limits queries and directed broadcasts
abbrev pub IsUncounted : SiteCore → Type 0
IsUncounted c = CountsNothing c.core.core.core × (c.core.kept ≡ no_query_drops) × (c.core.directed ≡ no_directed_drops)

-- access lists have dropped and refused nothing
abbrev pub HasFilteredNothing : SourceFilter UdpSockets → Type 0
HasFilteredNothing f = (f.kept ≡ no_filter_drops) × (f.refused ≡ 0) × (f.last_refused ≡ None)
    × (f.port_counters ≡ replicate 16 nothing_at_port)

-- no network and no service was known at a last look
abbrev pub HasSeenNothing : RouteChangeLog → Type 0
HasSeenNothing l = (l.networks.items ≡ []) × (l.services.items ≡ [])

-- no client was logged, and nobody looked at them
abbrev pub HasLoggedNobody : ClientLog → Type 0
HasLoggedNobody l = (l.logged.items ≡ []) × (l.looked ≡ None) × (l.repeats.ports ≡ replicate 16 never_logged)
