-- What a router knows at a time, as text. Defined by this project. The entry point is `IsTables`.
use Rattle.std.specs.Prelude.{◌≡◌, ℕ, ◌+◌, ◌-◌, ◌/◌, Bool, true, false, List, [], ◌∷◌, ◌++◌, codes, if◌then◌else◌, length}
use Rattle.std.specs.Fmt.{decimal}
use Rattle.std.specs.Int.{w32, to_be_bytes}
use Rattle.std.specs.List.{flat_map}
use Rattle.hex.specs.Hex.{encode_lower}
use Rattle.ipx_wire.specs.declared.address.Network.{Network}
use Rattle.ipx_tables.specs.declared.offer.Offer.{Offer}
use Rattle.ipx_tables.specs.declared.route.RouteMetric.{RouteMetric}
use Rattle.ipx_tables.specs.declared.service.ServiceKey.{ServiceKey}
use Rattle.ipx_tables.specs.declared.service.ServiceMetric.{ServiceMetric}
use Rattle.ipx_tables.specs.declared.source.Source.{Source}
use Rattle.ipx_tables.specs.Content.{Table}
use Rattle.ipx_tables.specs.Listing.{IsListing}
use Rattle.ipx_tables.specs.Route.{network_cmp, route_before}
use Rattle.ipx_tables.specs.Service.{service_before, service_key_cmp}
use Rattle.ipx_router.specs.declared.port.Port.{Port}
use Rattle.ipx_router.specs.Knowledge.{routes_in, services_in}
use Rattle.ipx_inspect.specs.ShowLine.{address_text, name_text, word_text}
use Rattle.ipx_table_dump.specs.declared.advertisers.Advertiser.{Advertiser}
use Rattle.ipx_table_dump.specs.StillPresent.{ArePresent, is_among_best}
use Rattle.ipx_table_dump.specs.Advertisers.{AreAdvertisers, advertisements}

-- the whole seconds between two times in milliseconds
abbrev pub seconds_since : ℕ → ℕ → ℕ
seconds_since now moment = (now - moment) / 1000

abbrev pub network_word : Network → List ℕ
network_word network = encode_lower (to_be_bytes w32 network.0)

-- the port where an offer was heard, and the neighbour
abbrev pub by_text : Source → List ℕ
by_text s = codes " port " ++ (decimal s.port ++ (codes " next " ++ encode_lower s.neighbour.0))

-- how long ago an offer was heard, and whether another offer of its key is better
abbrev pub heard_text : Bool → ℕ → List ℕ
heard_text best seconds =
    codes " heard " ++ (decimal seconds ++ (if best then codes "\n" else codes " spare\n"))

-- a port's own network
abbrev pub own_line : ℕ → Port → List ℕ
own_line number p =
    network_word p.network ++ (codes " own port " ++ (decimal number
    ++ (codes " cost " ++ (decimal p.cost ++ codes "\n"))))

-- the networks of ports, numbered from this number on
abbrev pub own_lines : ℕ → List Port → List ℕ
own_lines number [] = []
own_lines number (p ∷ ports) = own_line number p ++ own_lines (number + 1) ports

-- a network that a neighbour advertised, and a service
abbrev pub route_offer_line : Bool → ℕ → Offer Network RouteMetric → List ℕ
route_offer_line best now o =
    network_word o.key ++ (by_text o.source ++ (codes " hops " ++ (decimal o.metric.hops
    ++ (codes " ticks " ++ (decimal o.metric.ticks
    ++ heard_text best (seconds_since now o.heard))))))

abbrev pub service_offer_line : Bool → ℕ → Offer ServiceKey ServiceMetric → List ℕ
service_offer_line best now o =
    word_text o.key.kind ++ (codes " " ++ (name_text o.key.name ++ (codes " at "
    ++ (address_text o.metric.at ++ (by_text o.source ++ (codes " hops "
    ++ (decimal o.metric.hops ++ heard_text best (seconds_since now o.heard))))))))

-- a neighbour, how many of its offers count, and how long ago the last of those was heard
abbrev pub advertiser_line : ℕ → Source × Advertiser → List ℕ
advertiser_line now t =
    codes "port " ++ (decimal t.0.port ++ (codes " " ++ (encode_lower t.0.neighbour.0
    ++ (codes " networks " ++ (decimal t.1.networks ++ (codes " services "
    ++ (decimal t.1.services ++ (codes " heard "
    ++ (decimal (seconds_since now t.1.heard) ++ codes "\n")))))))))

-- the line above each section has its number of lines
abbrev pub head_line : List ℕ → ℕ → List ℕ
head_line title count = title ++ (codes " " ++ (decimal count ++ codes "\n"))

-- the networks of ports, and those that neighbours advertised, of which these are best
abbrev pub network_lines : List Port → ℕ → List (Network × Source × RouteMetric)
    → List (Offer Network RouteMetric) → List ℕ
network_lines ports now bests offers =
    head_line (codes "networks") (length ports + length offers) ++ (own_lines 1 ports
    ++ flat_map (λ o. route_offer_line (is_among_best network_cmp bests o) now o) offers)

abbrev pub service_lines : ℕ → List (ServiceKey × Source × ServiceMetric)
    → List (Offer ServiceKey ServiceMetric) → List ℕ
service_lines now bests offers =
    head_line (codes "services") (length offers)
    ++ flat_map (λ o. service_offer_line (is_among_best service_key_cmp bests o) now o) offers

abbrev pub advertiser_lines : ℕ → List (Source × Advertiser) → List ℕ
advertiser_lines now advertisers =
    head_line (codes "neighbours") (length advertisers) ++ flat_map (advertiser_line now) advertisers

-- the offers that count at a time, by key and source; the best of them, by key; and their neighbours
pub record KnownThen : Type 0 where
  pub networks : List (Offer Network RouteMetric)
  pub best_networks : List (Network × Source × RouteMetric)
  pub services : List (Offer ServiceKey ServiceMetric)
  pub best_services : List (ServiceKey × Source × ServiceMetric)
  pub advertisers : List (Source × Advertiser)

abbrev pub tables_text : List Port → ℕ → KnownThen → List ℕ
tables_text ports now k =
    network_lines ports now k.best_networks k.networks
    ++ (service_lines now k.best_services k.services ++ advertiser_lines now k.advertisers)

-- what tables know at this time
pub record IsKnownThen (routes : Table Network RouteMetric) (services : Table ServiceKey ServiceMetric)
    (now : ℕ) (k : KnownThen) : Type 0 where
  pub heard_networks : ArePresent network_cmp (routes_in routes) now k.networks
  pub best_networks : IsListing network_cmp route_before (routes_in routes) now k.best_networks
  pub heard_services : ArePresent service_key_cmp (services_in services) now k.services
  pub best_services : IsListing service_key_cmp service_before (services_in services) now
      k.best_services
  pub advertisers : AreAdvertisers (advertisements true k.networks ++ advertisements false k.services) k.advertisers

-- a text says what a router with these ports and tables knows at this time, in milliseconds
pub record IsTables (ports : List Port) (routes : Table Network RouteMetric)
    (services : Table ServiceKey ServiceMetric) (now : ℕ) (text : List ℕ) : Type 0 where
  pub known : KnownThen
  pub is_known : IsKnownThen routes services now known
  pub spelled : text ≡ tables_text ports now known
