use Rattle.std.proofs.Common.{◌≡◌, length}
use Rattle.ipx_carrier.specs.Traces.{failed_to_receive}
use Rattle.ipx_carrier.proofs.placed_socket.PlacedSocket.receive_in_tries.Given as goal

-- each try before failed
abbrev pub invariant-loop-failed : goal.invariant-loop-failed
invariant-loop-failed l = (l.self ≡ failed_to_receive l.failed (length l.fn.room) l.fn.self) × (length l.room ≡ length l.fn.room)
