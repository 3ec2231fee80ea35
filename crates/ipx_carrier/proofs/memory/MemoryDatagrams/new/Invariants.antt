use Rattle.std.proofs.Common.{◌≡◌, [], length, map}
use Rattle.std.specs.Prelude.{replicate}
use Rattle.ipx_carrier.specs.Memory.{datagram_bytes}
use Rattle.ipx_carrier.proofs.memory.MemoryDatagrams.new.Given as goal

abbrev pub invariant-loop-port : goal.invariant-loop-port
invariant-loop-port l = record {
  ports : length l.waiting.items ≡ l._port;
  empty : map (λ q. map datagram_bytes q.items) l.waiting.items ≡ replicate l._port [];
}
