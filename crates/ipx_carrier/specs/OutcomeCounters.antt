-- Counts of what became of the datagrams that a router received. Defined by this project.
use Rattle.std.specs.Prelude.{ℕ, ◌+◌}
use Rattle.ipx_router.specs.declared.reason.Reason.{Reason}
use Rattle.ipx_router.specs.declared.reason.Reason.TheVariants.{Bad, Propagated, NotOurs, NoRoute, HopLimit, BadControl, TableFull}
use Rattle.ipx_router.specs.OutcomeView.{OutcomeView, Forward, Replies, Heard, Dropped}
use Rattle.ipx_carrier.specs.Counting.{raised}
use Rattle.ipx_carrier.specs.declared.outcome_counters.OutcomeCounters.{OutcomeCounters}

-- counts of no datagram
abbrev pub none : OutcomeCounters
none = record {
  forwarded = 0;
  answered = 0;
  heard = 0;
  bad = 0;
  propagated = 0;
  not_ours = 0;
  no_route = 0;
  hop_limit = 0;
  bad_control = 0;
  table_full = 0;
}

-- how many datagrams were counted, whatever became of them
abbrev pub outcomes_in : OutcomeCounters → ℕ
outcomes_in f = f.forwarded + f.answered + f.heard + f.bad + f.propagated + f.not_ours + f.no_route
    + f.hop_limit + f.bad_control + f.table_full

-- one more datagram was dropped, for this reason
abbrev pub outcomes_after : Reason → OutcomeCounters → OutcomeCounters
outcomes_after (Bad fault) f = record f { bad = raised f.bad }
outcomes_after Propagated f = record f { propagated = raised f.propagated }
outcomes_after NotOurs f = record f { not_ours = raised f.not_ours }
outcomes_after (NoRoute network) f = record f { no_route = raised f.no_route }
outcomes_after HopLimit f = record f { hop_limit = raised f.hop_limit }
outcomes_after (BadControl fault) f = record f { bad_control = raised f.bad_control }
outcomes_after TableFull f = record f { table_full = raised f.table_full }

-- one more datagram had this outcome
abbrev pub outcome_counted : OutcomeView → OutcomeCounters → OutcomeCounters
outcome_counted (Forward port next bytes) f = record f { forwarded = raised f.forwarded }
outcome_counted (Replies sent) f = record f { answered = raised f.answered }
outcome_counted (Heard n) f = record f { heard = raised f.heard }
outcome_counted (Dropped reason) f = outcomes_after reason f
