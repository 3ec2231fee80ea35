use Rattle.std.proofs.Common.{◌≡◌, ◌≤◌, ◌+◌, ◌⊎◌, ℕ, List}
use Rattle.ipx_host.specs.AckedBytes.{CountsAcknowledged, IsFirstOpen}
use Rattle.ipx_host.proofs.acked_bytes.Ledger.acknowledge.Given as goal

-- removing messages changes none of the first three, nor what they count. At most as many messages are
-- removed as units were acknowledged
abbrev pub invariant-loop : goal.invariant-loop
invariant-loop l = record {
  base : l.self.base ≡ l.initial.self.base;
  ahead : l.self.ahead ≡ l.initial.self.ahead;
  given : l.self.given ≡ l.initial.self.given;
  counts : (given : List ℕ) (units : ℕ) → CountsAcknowledged given units l.initial.self.messages.items l.initial.self.units l.initial.self.whole → CountsAcknowledged given units l.self.messages.items l.self.units l.self.whole;
  few : IsFirstOpen l.fn.self.messages.items l.fn.self.units → ((l.self.messages.items ≡ l.initial.self.messages.items) × (l.self.units ≡ l.initial.self.units) × (l.counter ≡ 0)) ⊎ (l.self.units + l.counter ≤ l.count);
}
