use Rattle.std.proofs.Common.{◌↔◌, ◌<◌, ◌≤◌, length}
use Rattle.std.specs.Prelude.{IsTrue}
use Rattle.ipx_host.specs.HostOutput.{Writes, left_of}
use Rattle.ipx_host.proofs.output.Outlet.write.Given as goal

-- what was written so far, and then what is left, is what was left before
abbrev pub invariant-loop : goal.invariant-loop
invariant-loop g l = record {
  writes : Writes (left_of l.fn.self) (left_of l.self) (g.W.Write.contents l.fn.writer) (g.W.Write.contents l.writer);
  wrote : IsTrue l.wrote ↔ (length (left_of l.self) < length (left_of l.fn.self));
  less : length (left_of l.self) ≤ length (left_of l.fn.self);
}
