use Rattle.std.proofs.Common.{◌≡◌, string_bytes, take}
use Rattle.std.specs.List.{flat_map}
use Rattle.ipx_config.specs.Checked.{peer_line}
use Rattle.ipx_config.proofs.peer_lines.peers_to_lines.Given as goal

abbrev pub invariant-loop-peer : goal.invariant-loop-peer
invariant-loop-peer l = string_bytes l.lines ≡ flat_map (peer_line l.whose) (take l.peer-index l.peers)
