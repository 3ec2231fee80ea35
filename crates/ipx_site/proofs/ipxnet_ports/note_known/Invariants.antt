use Rattle.std.proofs.Common.{◌≡◌, take}
use Rattle.ipxnet_server.specs.Restarts.{server_noting_all}
use Rattle.ipx_site.specs.KnownPlaces.{places_known}
use Rattle.ipx_site.proofs.ipxnet_ports.note_known.Given as goal

abbrev pub invariant-loop-client : goal.invariant-loop-client
invariant-loop-client l = l.server ≡ server_noting_all 0 (places_known l.network (take l.client-index l.known)) l.fn.server
