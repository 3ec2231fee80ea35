use Rattle.std.proofs.Common.{◌∙◌, [], List, All, subst, sym}
use Rattle.std.proofs.lemmas.List.Elements.{All-nil}
use Rattle.std.specs.List.{AllZip}
use Rattle.ipx_router.specs.Ports.{IsPortNumber}
use Rattle.ipx_tables.specs.declared.source.Source.{Source}
use Rattle.ipx_site.specs.StaticNeighbours.{IsStaticNeighbour}
use Rattle.ipx_site.proofs.StaticNeighbourLists.{neighbours_have, sources_have}
use Rattle.ipx_site.proofs.static_neighbours.static_neighbours_of.Goals as goal

pub returns-clause-neighbours : goal.returns-clause-neighbours
returns-clause-neighbours c =
    subst (λ (ss : List Source). AllZip (IsStaticNeighbour c.args.entries.now) ss c.in_ok-neighbours.neighbours.items)
    (c.deref.ensures.value ∙ c.in_ok-sources.ensures) c.in_ok-neighbours.ensures

pub returns-clause-there : goal.returns-clause-there
returns-clause-there c = λ count there.
    let named = sources_have (λ s. IsPortNumber count s.port) [] c.args.entries.now (All-nil (λ (s : Source). IsPortNumber count s.port)) there in
    neighbours_have (λ s. IsPortNumber count s.port) c.args.entries.now c.deref.result.now c.in_ok-neighbours.neighbours.items c.in_ok-neighbours.ensures
    (subst (All (λ (s : Source). IsPortNumber count s.port)) (sym (c.deref.ensures.value ∙ c.in_ok-sources.ensures)) named)
