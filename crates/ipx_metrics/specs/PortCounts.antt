-- What a router counts at each of its ports. Defined by this project.
use Rattle.std.specs.Prelude.{ℕ, ◌+◌, ◌-◌, List, slice_index_or, slice_set}
use Rattle.std.specs.List.{sum_by}
use Rattle.ipx_carrier.specs.Counting.{counted, raised}
use Rattle.ipx_carrier.specs.OutcomeCounters.{none}
use Rattle.ipx_carrier.specs.declared.outcome_counters.OutcomeCounters.{OutcomeCounters}
use Rattle.ipx_metrics.specs.declared.port_counts.PortCounts.{PortCounts}

-- nothing has passed
abbrev pub no_traffic : PortCounts
no_traffic = record { outcomes = none; heard_bytes = 0; sent = 0; sent_bytes = 0 }

-- these counts, each of which rises as the router's count does
abbrev pub outcomes_moved : OutcomeCounters → OutcomeCounters → OutcomeCounters → OutcomeCounters
outcomes_moved here before after = record {
  forwarded = counted (here.forwarded + (after.forwarded - before.forwarded));
  answered = counted (here.answered + (after.answered - before.answered));
  heard = counted (here.heard + (after.heard - before.heard));
  bad = counted (here.bad + (after.bad - before.bad));
  propagated = counted (here.propagated + (after.propagated - before.propagated));
  not_ours = counted (here.not_ours + (after.not_ours - before.not_ours));
  no_route = counted (here.no_route + (after.no_route - before.no_route));
  hop_limit = counted (here.hop_limit + (after.hop_limit - before.hop_limit));
  bad_control = counted (here.bad_control + (after.bad_control - before.bad_control));
  table_full = counted (here.table_full + (after.table_full - before.table_full));
}

-- this many bytes came here; what the router counted of them is counted here, given its counts before and
-- after
abbrev pub with_heard_there : OutcomeCounters → OutcomeCounters → ℕ → PortCounts → PortCounts
with_heard_there before after bytes p = record p {
  outcomes = outcomes_moved p.outcomes before after;
  heard_bytes = counted (p.heard_bytes + bytes);
}

-- a packet of this many bytes is given to be sent here
abbrev pub with_sent_there : ℕ → PortCounts → PortCounts
with_sent_there bytes p = record p {
  sent = raised p.sent;
  sent_bytes = counted (p.sent_bytes + bytes);
}

-- the counts of one port change by `change`, and those of no other
abbrev pub changed_at : List PortCounts → ℕ → (PortCounts → PortCounts) → List PortCounts
changed_at ports port change = slice_set ports port (change (slice_index_or ports port no_traffic))

-- a count, summed over the ports
abbrev pub over_ports : (OutcomeCounters → ℕ) → List PortCounts → ℕ
over_ports of ports = sum_by (λ p. of p.outcomes) ports

-- the outcomes of what came by all ports together
abbrev pub outcomes_over : List PortCounts → OutcomeCounters
outcomes_over ports = record {
  forwarded = over_ports (λ f. f.forwarded) ports;
  answered = over_ports (λ f. f.answered) ports;
  heard = over_ports (λ f. f.heard) ports;
  bad = over_ports (λ f. f.bad) ports;
  propagated = over_ports (λ f. f.propagated) ports;
  not_ours = over_ports (λ f. f.not_ours) ports;
  no_route = over_ports (λ f. f.no_route) ports;
  hop_limit = over_ports (λ f. f.hop_limit) ports;
  bad_control = over_ports (λ f. f.bad_control) ports;
  table_full = over_ports (λ f. f.table_full) ports;
}
