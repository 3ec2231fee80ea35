-- The metric families of the counters of a whole router. Defined by this project. The entry point is
-- `total_families`.
use Rattle.std.specs.Prelude.{ℕ, List, [], ◌∷◌, ◌++◌, codes}
use Rattle.ipx_carrier.specs.declared.outcome_counters.OutcomeCounters.{OutcomeCounters}
use Rattle.ipx_site.specs.declared.metrics.Metrics.{Metrics}
use Rattle.ipx_site.specs.MetricsText.{MetricFamily, by_label, counter, gauge, unlabelled}

-- what became of the datagrams that were not dropped
abbrev pub outcomes_family : OutcomeCounters → MetricFamily
outcomes_family o =
    counter (codes "ipx_outcomes_total") (codes "Datagrams received and not dropped, by outcome") (by_label (codes "outcome")
    ((codes "forwarded", o.forwarded) ∷ (codes "answered", o.answered) ∷ (codes "heard", o.heard) ∷ []))

-- the datagrams that were dropped, by reason
abbrev pub dropped_outcomes : OutcomeCounters → List (List ℕ × ℕ)
dropped_outcomes o =
    (codes "bad", o.bad) ∷ (codes "propagated", o.propagated) ∷ (codes "not_ours", o.not_ours)
    ∷ (codes "no_route", o.no_route) ∷ (codes "hop_limit", o.hop_limit)
    ∷ (codes "bad_control", o.bad_control) ∷ (codes "table_full", o.table_full) ∷ []

-- these, and the packets that were not sent
abbrev pub dropped_family : Metrics → MetricFamily
dropped_family m =
    counter (codes "ipx_dropped_total") (codes "Packets dropped, by reason") (by_label (codes "reason")
    (dropped_outcomes m.outcomes ++ (codes "queue_full", m.queue_full) ∷ (codes "unmapped", m.unmapped) ∷ []))

-- what was filtered besides the datagrams from unknown senders
abbrev pub filtered_family : Metrics → MetricFamily
filtered_family m =
    counter (codes "ipx_filtered_total") (codes "Other datagrams filtered, by reason") (by_label (codes "reason")
    ((codes "spoofed_source", m.kept.spoofed.count) ∷ (codes "not_a_router", m.kept.not_a_router.count)
    ∷ (codes "rate_limited", m.rate_limited.count) ∷ (codes "directed_broadcast", m.directed.count)
    ∷ (codes "forwarded_control", m.source_drops.forwarded_control.count)
    ∷ (codes "group_source", m.source_drops.group_source.count)
    ∷ (codes "looped_source", m.source_drops.looped_source.count) ∷ []))

abbrev pub faults_family : Metrics → MetricFamily
faults_family m =
    counter (codes "ipx_errors_total") (codes "Errors of the system, by kind") (by_label (codes "kind")
    ((codes "device", m.device_faults) ∷ (codes "memory", m.memory_faults)
    ∷ (codes "file", m.file_faults) ∷ []))

-- the families of a whole router, in their order
abbrev pub total_families : Metrics → List MetricFamily
total_families m =
    counter (codes "ipx_receive_packets_total")
    (codes "Datagrams that the router itself processed, none between two players or two remotes")
    (unlabelled m.heard)
    ∷ counter (codes "ipx_transmit_packets_total")
    (codes "Datagrams sent at RFC 1234 ports, one for each peer that a packet goes to")
    (unlabelled m.sent)
    ∷ outcomes_family m.outcomes ∷ dropped_family m
    ∷ counter (codes "ipx_unknown_senders_total") (codes "Datagrams to RFC 1234 ports from unknown senders")
    (unlabelled m.kept.unknown_senders.count)
    ∷ filtered_family m
    ∷ counter (codes "ipx_egress_filtered_total")
    (codes "Datagrams not sent because the destination is not a peer") (unlabelled m.refused)
    ∷ faults_family m
    ∷ gauge (codes "ipx_send_queue_packets") (codes "Packets in the send queue") (unlabelled m.queue)
    ∷ gauge (codes "ipx_routes") (codes "Known networks that are not at a port") (unlabelled m.routes)
    ∷ gauge (codes "ipx_services") (codes "Known services") (unlabelled m.services)
    ∷ gauge (codes "ipx_uptime_seconds") (codes "Seconds since the start") (unlabelled m.seconds) ∷ []
