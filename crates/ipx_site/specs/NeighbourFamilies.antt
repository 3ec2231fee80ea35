-- The metric families of the neighbours of a router. Defined by this project. The entry point is
-- `neighbour_families`.
use Rattle.std.specs.Prelude.{ℕ, List, [], ◌∷◌, codes, map}
use Rattle.std.specs.Fmt.{decimal}
use Rattle.hex.specs.Hex.{encode_lower}
use Rattle.ipx_table_dump.specs.TableText.{seconds_since}
use Rattle.ipx_table_dump.specs.declared.advertisers.Advertiser.{Advertiser}
use Rattle.ipx_tables.specs.declared.source.Source.{Source}
use Rattle.ipx_site.specs.MetricsText.{MetricFamily, Sample, gauge}
use Rattle.ipx_site.specs.declared.neighbour_metrics.NeighbourMetric.{NeighbourMetric}
use Rattle.ipx_site.specs.declared.neighbour_metrics.NeighbourMetric.TheVariants.{Networks, Services, Heard}

-- how much a neighbour advertises, and how long ago it was heard
abbrev pub figure_of : NeighbourMetric → Advertiser → ℕ
figure_of Networks a = a.networks
figure_of Services a = a.services
figure_of (Heard now) a = seconds_since now a.heard

-- a metric of a neighbour, by its port and its node
abbrev pub neighbour_sample : Source → ℕ → Sample
neighbour_sample source figure =
    ((codes "port", decimal source.port) ∷ (codes "node", encode_lower source.neighbour.0) ∷ [], figure)

abbrev pub neighbour_samples : NeighbourMetric → List (Source × Advertiser) → List Sample
neighbour_samples metric neighbours = map (λ n. neighbour_sample n.0 (figure_of metric n.1)) neighbours

abbrev pub neighbour_families : ℕ → List (Source × Advertiser) → List MetricFamily
neighbour_families now neighbours =
    gauge (codes "ipx_neighbour_networks") (codes "Networks learned from a neighbour that are still valid")
    (neighbour_samples Networks neighbours)
    ∷ gauge (codes "ipx_neighbour_services") (codes "Services learned from a neighbour that are still valid")
    (neighbour_samples Services neighbours)
    ∷ gauge (codes "ipx_neighbour_last_heard_seconds")
    (codes "Seconds since the neighbour last advertised a network or service")
    (neighbour_samples (Heard now) neighbours) ∷ []
