-- The metric families of the ports of a router. Defined by this project. The entry point is `port_families`.
use Rattle.std.specs.Prelude.{ℕ, List, [], ◌∷◌, codes, map}
use Rattle.std.specs.Fmt.{decimal}
use Rattle.std.specs.List.{enumerate_from, flat_map, zip}
use Rattle.ipx_carrier.specs.Counting.{counted}
use Rattle.ipx_carrier.specs.OutcomeCounters.{outcomes_in}
use Rattle.ipx_metrics.specs.declared.port_counts.PortCounts.{PortCounts}
use Rattle.ipx_router.specs.declared.port.Port.{Port}
use Rattle.ipx_table_dump.specs.TableText.{network_word}
use Rattle.ipx_site.specs.MetricsText.{MetricFamily, Sample, at_port_by, counter}
use Rattle.ipx_site.specs.TotalFamilies.{dropped_outcomes}
use Rattle.ipx_site.specs.declared.port_metrics.Traffic.{Traffic}
use Rattle.ipx_site.specs.declared.port_metrics.Traffic.TheVariants.{Heard, HeardBytes, Sent, SentBytes}

-- what is counted of the traffic at a port
abbrev pub count_of : Traffic → PortCounts → ℕ
count_of Heard c = counted (outcomes_in c.outcomes)
count_of HeardBytes c = c.heard_bytes
count_of Sent c = c.sent
count_of SentBytes c = c.sent_bytes

-- a metric of the port with this number, with its network
abbrev pub port_sample : ℕ → Port → ℕ → Sample
port_sample number port count =
    ((codes "port", decimal number) ∷ (codes "network", network_word port.network) ∷ [], count)

-- a count of each port, in order. The first port has the number 1
abbrev pub port_samples : Traffic → List Port → List PortCounts → List Sample
port_samples passed ports counters =
    map (λ p. port_sample p.0 p.1.0 (count_of passed p.1.1)) (enumerate_from 1 (zip ports counters))

-- the datagrams dropped at each port, by reason
abbrev pub port_dropped_family : List PortCounts → MetricFamily
port_dropped_family counters =
    counter (codes "ipx_port_dropped_total") (codes "Datagrams dropped, by port of arrival and reason")
    (flat_map (λ p. at_port_by p.0 (codes "reason") (dropped_outcomes p.1.outcomes)) (enumerate_from 1 counters))

abbrev pub port_families : List Port → List PortCounts → List MetricFamily
port_families ports counters =
    counter (codes "ipx_port_receive_packets_total")
    (codes "Datagrams that the router itself processed, by port of arrival")
    (port_samples Heard ports counters)
    ∷ counter (codes "ipx_port_receive_bytes_total")
    (codes "Bytes of ipx_port_receive_packets_total, from the IPX header on")
    (port_samples HeardBytes ports counters)
    ∷ counter (codes "ipx_port_transmit_packets_total")
    (codes "Packets that the router itself gave to a port, each counted once")
    (port_samples Sent ports counters)
    ∷ counter (codes "ipx_port_transmit_bytes_total")
    (codes "Bytes of ipx_port_transmit_packets_total, from the IPX header on")
    (port_samples SentBytes ports counters)
    ∷ port_dropped_family counters ∷ []
