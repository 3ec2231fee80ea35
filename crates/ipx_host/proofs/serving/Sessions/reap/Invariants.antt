use Rattle.std.proofs.Common.{◌≡◌}
use Rattle.std.specs.Prelude.{IsTrue}
use Rattle.ipx_host.specs.Midway.{counts_at}
use Rattle.ipx_host.specs.Sessions.{CountsUnheard, OnlyEnded}
use Rattle.ipx_host.specs.Tending.{TendsOn}
use Rattle.ipx_host.proofs.serving.Sessions.reap.Given as goal

-- so many were tended; what is left to write, what a core notes, and how many were evicted or turned away is
-- as it was; with `once` the only connection is ended just where it was
abbrev pub invariant-loop-tended : goal.invariant-loop-tended
invariant-loop-tended g l = record {
  tends : TendsOn l._tended l.fn.self.once l.fn.station.core l.station.core l.fn.self.held.items l.self.held.items (counts_at l.fn.station.refused l.fn.self) (counts_at l.station.refused l.self);
  core : l.station.core ≡ record l.fn.station.core { endpoint = l.station.core.endpoint };
  clock : l.station.clock ≡ l.fn.station.clock;
  host_socket : l.station.host_socket ≡ l.fn.station.host_socket;
  poller : l.station.poller ≡ l.fn.station.poller;
  evicted : l.self.evicted ≡ l.fn.self.evicted;
  turned_away : l.self.turned_away ≡ l.fn.self.turned_away;
  output : l.self.output ≡ l.fn.self.output;
  unheard : CountsUnheard l.fn.self.held.items l.self.held.items l.fn.self.never_heard l.self.never_heard;
  before : IsTrue l.self.once → OnlyEnded l.self.held.items → OnlyEnded l.fn.self.held.items;
  once : l.self.once ≡ l.fn.self.once;
}
