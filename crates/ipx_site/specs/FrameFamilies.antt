-- The metric families of the Ethernet ports of a router. Defined by this project. The entry point is
-- `frame_families`.
use Rattle.std.specs.Prelude.{ℕ, List, [], ◌∷◌, ◌==◌, codes, if◌then◌else◌, map, vec_len}
use Rattle.std.specs.List.{flat_map}
use Rattle.ipx_ethernet.specs.declared.frame_counters.FrameCounters.{FrameCounters}
use Rattle.ipx_site.specs.MetricsText.{MetricFamily, at_port, at_port_by, counter, unlabelled}
use Rattle.ipx_site.specs.declared.frame_metrics.EthernetMetrics.{EthernetMetrics}
use Rattle.ipx_site.specs.declared.frame_metrics.EthernetPortMetrics.{EthernetPortMetrics}

-- the outcomes of frames. A packet in another encapsulation than the port's is counted by its own
abbrev pub frame_outcomes : FrameCounters → List (List ℕ × ℕ)
frame_outcomes c =
    (codes "handed_on", c.handed_on) ∷ (codes "broken", c.broken) ∷ (codes "own", c.own)
    ∷ (codes "not_ours", c.not_ours) ∷ (codes "tagged", c.tagged) ∷ (codes "other_type", c.other_type)
    ∷ (codes "other_llc", c.other_llc) ∷ (codes "no_packet", c.no_packet)
    ∷ (codes "other_network", c.other_network) ∷ (codes "in_802.3", c.in_raw)
    ∷ (codes "in_802.2", c.in_llc) ∷ (codes "in_snap", c.in_snap)
    ∷ (codes "in_ethernet-ii", c.in_ethernet_ii) ∷ []

abbrev pub frames_family : List EthernetPortMetrics → MetricFamily
frames_family ports =
    counter (codes "ipx_frames_total") (codes "Frames received on an Ethernet port, by outcome")
    (flat_map (λ p. at_port_by p.number (codes "outcome") (frame_outcomes p.frames)) ports)

abbrev pub passed_family : List EthernetPortMetrics → MetricFamily
passed_family ports =
    counter (codes "ipx_frames_forwarded_total") (codes "Frames from one remote that the switch forwards to others")
    (map (λ p. at_port p.number p.passed) ports)

abbrev pub unfitting_family : List EthernetPortMetrics → MetricFamily
unfitting_family ports =
    counter (codes "ipx_frames_refused_total") (codes "Packets that do not fit into a frame")
    (map (λ p. at_port p.number p.refused) ports)

abbrev pub ethernet_families : EthernetMetrics → List MetricFamily
ethernet_families m =
    frames_family m.ports.items ∷ passed_family m.ports.items ∷ unfitting_family m.ports.items
    ∷ counter (codes "ipx_frames_unknown_senders_total")
    (codes "Datagrams to an Ethernet port from unknown senders") (unlabelled m.unknown_senders)
    ∷ counter (codes "ipx_transmit_frames_total") (codes "Frames that the system accepted for sending")
    (unlabelled m.sent) ∷ []

-- the families of the Ethernet ports; none if the router has no such port
abbrev pub frame_families : EthernetMetrics → List MetricFamily
frame_families m = if vec_len m.ports == 0 then [] else ethernet_families m
