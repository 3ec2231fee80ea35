use Rattle.std.proofs.Common.{◌≡◌, take}
use Rattle.ipx_site.specs.ClientLog.{all_clients}
use Rattle.ipx_site.proofs.client_log.clients_there.Given as goal

abbrev pub invariant-loop-place : goal.invariant-loop-place
invariant-loop-place l = l.all.items ≡ all_clients 1 (take l.place l.port_indices) l.servers
