-- A device in memory: what it received and sent, what waits at its ports, and which of its calls fail.
use Rattle.std.specs.Prelude.{Vec, ◌≡◌, ℕ, ◌+◌, ◌-◌, Bool, true, false, List, [], ◌∷◌, ◌++◌, Option, Some, None, MatchBool, map, option_map, slice_get, slice_set, ◌==◌, if◌then◌else◌}
use Rattle.std.specs.Global.{Global}
use Rattle.ipx_carrier.specs.declared.memory.KeptAnswer.{KeptAnswer}
use Rattle.ipx_carrier.specs.declared.memory.SentDatagram.{SentDatagram}
use Rattle.ipx_carrier.specs.declared.memory.MemoryDatagrams.{MemoryDatagrams}
use Rattle.ipx_carrier.specs.Device.{Datagram, Reception, Traffic, with_more}
use Rattle.ipx_carrier.specs.Counting.{raised}
use Rattle.ipx_carrier.specs.Waits.{LeavesPort, WaitingDatagrams}

abbrev pub memory_sent : SentDatagram → Datagram
memory_sent d = record { port = d.port; to = d.to; bytes = d.bytes.items }

abbrev pub memory_received : KeptAnswer → Reception
memory_received a = record { port = a.port; bytes = option_map (λ v. v.items) a.bytes }

abbrev pub traffic_of : MemoryDatagrams → Traffic
traffic_of m = record {
  received = map memory_received m.answers.items;
  sent = map memory_sent m.sent.items;
}

abbrev pub datagram_bytes : Vec ℕ Global → List ℕ
datagram_bytes v = v.items

-- the datagrams that wait at each port, in order
abbrev pub waiting_of : MemoryDatagrams → WaitingDatagrams
waiting_of m = map (λ q. map datagram_bytes q.items) m.waiting.items

-- a datagram waits after those of its port, and each other port is as it was
abbrev pub WaitsLast : WaitingDatagrams → ℕ → List ℕ → WaitingDatagrams → Type 0
WaitsLast old port bytes new = (here : List (List ℕ)) × (slice_get old port ≡ Some here)
    × (new ≡ slice_set old port (here ++ bytes ∷ []))

-- only what waits changes
pub record KeepsAllButWaiting (old new : MemoryDatagrams) : Type 0 where
  pub traffic : traffic_of new ≡ traffic_of old
  pub failures : new.failures ≡ old.failures
  pub fails_after : new.fails_after ≡ old.fails_after
  pub refusals : new.refusals ≡ old.refusals

-- the next call is the one that is to fail
abbrev pub fails_next : Option ℕ → Bool
fails_next None = false
fails_next (Some k) = k == 1

-- which call is to fail, after one more was made: none once that call has failed
abbrev pub named_after : Option ℕ → Option ℕ
named_after named = if fails_next named then None else option_map (λ k. k - 1) named

-- a call of `send` or `receive`, and whether it failed. The named call fails; another fails only if memory is
-- refused, which is counted
abbrev pub FailsAsNamed : MemoryDatagrams → Bool → MemoryDatagrams → Type 0
FailsAsNamed old failed new = (new.fails_after ≡ named_after old.fails_after)
    × MatchBool (fails_next old.fails_after)
    ((failed ≡ true) × (new.refusals ≡ old.refusals))
    (new.refusals ≡ (if failed then raised old.refusals else old.refusals))

-- a call that did not fail, after which these receptions and datagrams are recorded too
abbrev pub Records : List Reception → List Datagram → MemoryDatagrams → MemoryDatagrams → Type 0
Records received sent old new = (traffic_of new ≡ with_more (traffic_of old) received sent)
    × (new.failures ≡ old.failures) × FailsAsNamed old false new

-- a port was asked, and gave the first datagram that waited there, cut to this size
abbrev pub MemoryReceives : MemoryDatagrams → ℕ → ℕ → Option (List ℕ) → MemoryDatagrams → Type 0
MemoryReceives old port size answer new = Records (record { port = port; bytes = answer } ∷ []) [] old new
    × LeavesPort size port (Some (waiting_of old)) answer (Some (waiting_of new))

-- a datagram was sent, and the same still waits
abbrev pub MemorySends : MemoryDatagrams → Datagram → MemoryDatagrams → Type 0
MemorySends old datagram new = Records [] (datagram ∷ []) old new × (waiting_of new ≡ waiting_of old)

-- a call failed, which is counted. Nothing was received or sent, and the same still waits
abbrev pub MemoryFails : MemoryDatagrams → MemoryDatagrams → Type 0
MemoryFails old new = (traffic_of new ≡ traffic_of old) × (waiting_of new ≡ waiting_of old)
    × (new.failures ≡ old.failures + 1) × FailsAsNamed old true new
