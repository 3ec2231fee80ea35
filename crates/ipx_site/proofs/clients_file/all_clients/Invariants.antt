use Rattle.std.proofs.Common.{◌≡◌, take}
use Rattle.std.specs.List.{flat_map}
use Rattle.ipx_site.specs.ClientsFile.{heard_of}
use Rattle.ipx_site.proofs.clients_file.all_clients.Given as goal

abbrev pub invariant-loop-server : goal.invariant-loop-server
invariant-loop-server l = l.all.items ≡ flat_map heard_of (take l.server-index l.servers)
