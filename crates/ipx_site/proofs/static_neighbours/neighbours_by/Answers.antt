use Rattle.std.proofs.Common.{List, subst}
use Rattle.std.proofs.lemmas.List.{take_all}
use Rattle.std.specs.List.{AllZip}
use Rattle.ipx_tables.specs.declared.source.Source.{Source}
use Rattle.ipx_site.specs.StaticNeighbours.{IsStaticNeighbour}
use Rattle.ipx_site.proofs.StaticNeighbourLists.{one_more_neighbour}
use Rattle.ipx_site.proofs.static_neighbours.neighbours_by.Goals as goal

pub loop-by-preserved : goal.loop-by-preserved
loop-by-preserved c =
    one_more_neighbour c.args.entries.now c.args.sources.now c.loop-by.by-index _ c.loop-by-test.true
    c.loop-by.neighbours.items c.push.new.self.items c.in_ok-neighbour.neighbour c.in_ok-push.ensures.items c.loop-by.invariant c.in_ok-neighbour.ensures

pub returns : goal.returns
returns c =
    subst (λ (ss : List Source). AllZip (IsStaticNeighbour c.args.entries.now) ss c.loop-by.neighbours.items)
    (take_all c.loop-by.by-index c.args.sources.now c.loop-by-test.false) c.loop-by.invariant
