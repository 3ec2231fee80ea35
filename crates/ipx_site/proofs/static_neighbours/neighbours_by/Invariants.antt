use Rattle.std.proofs.Common.{take}
use Rattle.std.specs.List.{AllZip}
use Rattle.ipx_site.specs.StaticNeighbours.{IsStaticNeighbour}
use Rattle.ipx_site.proofs.static_neighbours.neighbours_by.Given as goal

abbrev pub invariant-loop-by : goal.invariant-loop-by
invariant-loop-by l = AllZip (IsStaticNeighbour l.entries) (take l.by-index l.sources) l.neighbours.items
