-- What is around the core of a host, by its clock and its socket.
use Rattle.std.proofs.Common.{◌≡◌}
use Rattle.ipx_host.specs.Midway.{around_of}
use Rattle.ipx_host.specs.declared.running_host.RunningHost.{RunningHost}

pub same_around : {R : Type 0} (a b : RunningHost R) → b.clock ≡ a.clock → b.host_socket ≡ a.host_socket → around_of b ≡ around_of a
same_around a b e f = cc
