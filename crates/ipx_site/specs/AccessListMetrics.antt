-- The metric families of what access lists drop. Defined by this project. The entry point is
-- `access_list_families`.
use Rattle.std.specs.Prelude.{ℕ, Bool, List, [], ◌∷◌, Option, Some, None, codes, if◌then◌else◌, is_some, option_map, slice_get}
use Rattle.std.specs.List.{enumerate_from, flat_map, list_any}
use Rattle.ipx_site.specs.MetricsText.{MetricFamily, Sample, at_port, counter}
use Rattle.ipx_site.specs.declared.access_list_metrics.FilterDropKind.{FilterDropKind}
use Rattle.ipx_site.specs.declared.access_list_metrics.FilterDropKind.TheVariants.{UnknownSenders, Refused}
use Rattle.ipx_sockets.specs.declared.port_filter_drops.PortFilterDrops.{PortFilterDrops}
use Rattle.ipx_site.specs.declared.router_ports.PortIndex.{PortIndex}
use Rattle.ipx_site.specs.declared.router_ports.PortIndex.TheVariants.{Datagrams, Ethernet, IpxnetServer}

-- what the access list of a port dropped, by the index of an RFC 1234 port in its device; other ports have
-- none
abbrev pub drops_at_port_index : List PortFilterDrops → PortIndex → Option PortFilterDrops
drops_at_port_index kept (Datagrams place) = slice_get kept place
drops_at_port_index kept (Ethernet place) = None
drops_at_port_index kept (IpxnetServer place) = None

abbrev pub access_list_count : FilterDropKind → PortFilterDrops → ℕ
access_list_count UnknownSenders k = k.unknown_senders
access_list_count Refused k = k.refused

-- the metric of the port with this number, if there is a count
abbrev pub at_port_if : ℕ → Option ℕ → List Sample
at_port_if number None = []
at_port_if number (Some count) = at_port number count ∷ []

-- a count of each port that has an access list, with its number among all ports of the router
abbrev pub access_list_samples : FilterDropKind → List PortIndex → List PortFilterDrops → List Sample
access_list_samples count port_indices kept =
    flat_map (λ p. at_port_if p.0 (option_map (access_list_count count) (drops_at_port_index kept p.1)))
    (enumerate_from 1 port_indices)

-- whether any port has an access list
abbrev pub is_any_guarded : List PortIndex → List PortFilterDrops → Bool
is_any_guarded port_indices kept = list_any (λ s. is_some (drops_at_port_index kept s)) port_indices

-- the datagrams from unknown senders, and those that were to go to no peer, at each port that has an access
-- list
abbrev pub unknown_senders_family : List PortIndex → List PortFilterDrops → MetricFamily
unknown_senders_family port_indices kept =
    counter (codes "ipx_port_unknown_senders_total") (codes "Datagrams from unknown senders, by port")
    (access_list_samples UnknownSenders port_indices kept)

abbrev pub refused_family : List PortIndex → List PortFilterDrops → MetricFamily
refused_family port_indices kept =
    counter (codes "ipx_port_egress_filtered_total")
    (codes "Datagrams not sent because the destination is not a peer, by port")
    (access_list_samples Refused port_indices kept)

-- both; none if no port has an access list
abbrev pub access_list_families : List PortIndex → List PortFilterDrops → List MetricFamily
access_list_families port_indices kept =
    if is_any_guarded port_indices kept
    then unknown_senders_family port_indices kept ∷ refused_family port_indices kept ∷ [] else []
