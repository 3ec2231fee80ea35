use Rattle.std.proofs.Common.{◌≡◌, take, string_bytes}
use Rattle.std.specs.List.{flat_map}
use Rattle.ipx_net.specs.Parcels.{parcel_views}
use Rattle.ipx_sim.specs.ActLine.{line_at}
use Rattle.ipx_sim.proofs.lines.parcels_to_lines.Given as goal

abbrev pub invariant-loop-number : goal.invariant-loop-number
invariant-loop-number l = string_bytes l.lines ≡ flat_map (line_at (parcel_views l.parcels)) (take l.number-index l.numbers)
