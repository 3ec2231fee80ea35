use Rattle.std.proofs.Common.{◌≡◌, ◌++◌, take}
use Rattle.std.specs.Prelude.{string_bytes}
use Rattle.std.specs.List.{flat_map}
use Rattle.ipx_table_dump.specs.ClientsText.{client_line}
use Rattle.ipx_table_dump.proofs.client_places.put_clients.Given as goal

abbrev pub invariant-loop-client : goal.invariant-loop-client
invariant-loop-client l = string_bytes l.text ≡ string_bytes l.initial.text ++ flat_map client_line (take l.client-index l.clients)
