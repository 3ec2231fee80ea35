-- The neighbours of the static entries of a router's file. Defined by this project. The entry point is
-- `AreStaticNeighbours`.
use Rattle.std.specs.Prelude.{◌≡◌, List, [], None}
use Rattle.std.specs.List.{AllZip, filter_map}
use Rattle.ipx_tables.specs.declared.source.Source.{Source}
use Rattle.ipx_static.specs.declared.neighbour.StaticNeighbour.{StaticNeighbour}
use Rattle.ipx_static.specs.WithStatics.{WithStaticsView}
use Rattle.ipx_static.specs.StaticOffers.{static_source}
use Rattle.ipx_static.specs.StaticAdvertisements.{AreStaticAdvertisements}
use Rattle.ipx_config.specs.declared.statics.StaticEntry.{StaticEntry}
use Rattle.ipx_config.specs.StaticLists.{route_by, service_by, named_sources}

-- a neighbour is to advertise all routes and all services of its entries, in order
pub record IsStaticNeighbour (es : List StaticEntry) (s : Source) (n : StaticNeighbour) : Type 0 where
  pub source : static_source n ≡ s
  pub routes : n.routes.items ≡ filter_map (route_by s) es
  pub services : n.services.items ≡ filter_map (service_by s) es

-- a neighbour for each source of entries
abbrev pub AreStaticNeighbours : List StaticEntry → List StaticNeighbour → Type 0
AreStaticNeighbours es ns = AllZip (IsStaticNeighbour es) (named_sources [] es) ns

-- a core is to hear the advertisements of these, and has not yet
abbrev pub IsToHear : {C : Type 0} → List StaticEntry → WithStaticsView C → Type 0
IsToHear es c = (neighbours : List StaticNeighbour) × AreStaticNeighbours es neighbours × AreStaticAdvertisements neighbours c.advertisements
    × (c.refreshed_at ≡ None)
