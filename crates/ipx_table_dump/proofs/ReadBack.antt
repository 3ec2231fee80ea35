-- What is read again of the text of what a router knows.
use Rattle.std.proofs.Common.{◌≡◌, ℕ, ◌+◌, Bool, true, false, cond, List, ◌++◌, [], ◌∷◌, Option, length, map, sym, ap, ◌∙◌, refl}
use Rattle.std.specs.Prelude.{codes, filter}
use Rattle.std.specs.List.{flat_map}
use Rattle.std.proofs.lemmas.List.{append-nil, append_assoc}
use Rattle.ipx_wire.specs.declared.address.Network.{Network}
use Rattle.ipx_tables.specs.declared.offer.Offer.{Offer}
use Rattle.ipx_tables.specs.declared.route.RouteMetric.{RouteMetric}
use Rattle.ipx_tables.specs.declared.service.ServiceKey.{ServiceKey}
use Rattle.ipx_tables.specs.declared.service.ServiceMetric.{ServiceMetric}
use Rattle.ipx_tables.specs.declared.source.Source.{Source}
use Rattle.ipx_tables.specs.Route.{network_cmp}
use Rattle.ipx_tables.specs.Service.{service_key_cmp}
use Rattle.ipx_router.specs.declared.port.Port.{Port}
use Rattle.ipx_table_dump.specs.StillPresent.{is_among_best}
use Rattle.ipx_table_dump.specs.TableRead.{best_network_in, network_in_words, networks_read, best_service_in, service_in_words, services_read}
use Rattle.ipx_table_dump.specs.TableText.{KnownThen, head_line, own_line, own_lines, route_offer_line, service_lines, service_offer_line, tables_text, advertiser_line, advertiser_lines}
use Rattle.ipx_table_dump.proofs.LineWords.{best_route_read, best_service_read, neighbours_head_read, networks_head_read, own_read, read_of, services_head_read, spare_route_read, spare_service_read, advertiser_read}

module _ {Y : Type 0} (h : List (List ℕ) → Option Y) where
  -- lines of which nothing is read
  pub skip_all : {X : Type 0} (f : X → List ℕ) → ((x : X) (rest : List ℕ) → read_of h (f x ++ rest) ≡ read_of h rest) → (xs : List X) (rest : List ℕ) → read_of h (flat_map f xs ++ rest) ≡ read_of h rest
  skip_all f skips [] rest = refl
  skip_all f skips (x ∷ xs) rest = ap (read_of h) (append_assoc (f x) (flat_map f xs) rest) ∙ skips x (flat_map f xs ++ rest) ∙ skip_all f skips xs rest

  pub skip_owns : ((number : ℕ) (p : Port) (rest : List ℕ) → read_of h (own_line number p ++ rest) ≡ read_of h rest) → (number : ℕ) (ports : List Port) (rest : List ℕ) → read_of h (own_lines number ports ++ rest) ≡ read_of h rest
  skip_owns skips number [] rest = refl
  skip_owns skips number (p ∷ ports) rest =
      ap (read_of h) (append_assoc (own_line number p) (own_lines (number + 1) ports) rest)
      ∙ skips number p (own_lines (number + 1) ports ++ rest) ∙ skip_owns skips (number + 1) ports rest

-- ---- networks

networks_of_lines : (bests : List (Network × Source × RouteMetric)) (now : ℕ) (os : List (Offer Network RouteMetric)) (rest : List ℕ)
    → read_of best_network_in (flat_map (λ o. route_offer_line (is_among_best network_cmp bests o) now o) os ++ rest)
    ≡ map (λ o. network_in_words (o.key, o.source, o.metric)) (filter (is_among_best network_cmp bests) os) ++ read_of best_network_in rest
networks_of_lines bests now [] rest = refl
networks_of_lines bests now (o ∷ os) rest =
    let line = λ (x : Offer Network RouteMetric). route_offer_line (is_among_best network_cmp bests x) now x in
    let kept = filter (is_among_best network_cmp bests) os in
    let told = λ (x : Offer Network RouteMetric). network_in_words (x.key, x.source, x.metric) in
    let later = networks_of_lines bests now os rest in
    ap (read_of best_network_in) (append_assoc (line o) (flat_map line os) rest)
    ∙ elim (is_among_best network_cmp bests o) as (λ b. read_of best_network_in (route_offer_line b now o ++ (flat_map line os ++ rest)) ≡ map told (cond b (o ∷ kept) kept) ++ read_of best_network_in rest) [
      | true ↦ best_route_read best_network_in now o (flat_map line os ++ rest) ∙ ap (λ r. told o ∷ r) later
      | false ↦ spare_route_read best_network_in now o (flat_map line os ++ rest) ∙ later
    ]

no_network_of_service : (b : Bool) (now : ℕ) (o : Offer ServiceKey ServiceMetric) (rest : List ℕ) → read_of best_network_in (service_offer_line b now o ++ rest) ≡ read_of best_network_in rest
no_network_of_service true now o rest = best_service_read best_network_in now o rest
no_network_of_service false now o rest = spare_service_read best_network_in now o rest

no_network_after : (now : ℕ) (k : KnownThen) → read_of best_network_in (service_lines now k.best_services k.services ++ advertiser_lines now k.advertisers) ≡ []
no_network_after now k =
    let line = λ (o : Offer ServiceKey ServiceMetric). service_offer_line (is_among_best service_key_cmp k.best_services o) now o in
    ap (read_of best_network_in) (append_assoc (head_line (codes "services") (length k.services)) (flat_map line k.services) (advertiser_lines now k.advertisers))
    ∙ services_head_read best_network_in (length k.services) (flat_map line k.services ++ advertiser_lines now k.advertisers)
    ∙ skip_all best_network_in line (λ o rest. no_network_of_service (is_among_best service_key_cmp k.best_services o) now o rest) k.services (advertiser_lines now k.advertisers)
    ∙ neighbours_head_read best_network_in (length k.advertisers) (flat_map (advertiser_line now) k.advertisers)
    ∙ ap (read_of best_network_in) (sym (append-nil (flat_map (advertiser_line now) k.advertisers)))
    ∙ skip_all best_network_in (advertiser_line now) (λ t rest. advertiser_read best_network_in now t rest) k.advertisers []

pub networks_read_back : (ports : List Port) (now : ℕ) (k : KnownThen)
    → networks_read (tables_text ports now k) ≡ map (λ o. network_in_words (o.key, o.source, o.metric)) (filter (is_among_best network_cmp k.best_networks) k.networks)
networks_read_back ports now k =
    let line = λ (o : Offer Network RouteMetric). route_offer_line (is_among_best network_cmp k.best_networks o) now o in
    let head = head_line (codes "networks") (length ports + length k.networks) in
    let routes = flat_map line k.networks in
    let behind = service_lines now k.best_services k.services ++ advertiser_lines now k.advertisers in
    ap (read_of best_network_in) (append_assoc head (own_lines 1 ports ++ routes) behind)
    ∙ networks_head_read best_network_in (length ports + length k.networks) ((own_lines 1 ports ++ routes) ++ behind)
    ∙ ap (read_of best_network_in) (append_assoc (own_lines 1 ports) routes behind)
    ∙ skip_owns best_network_in (λ number p rest. own_read best_network_in number p rest) 1 ports (routes ++ behind)
    ∙ networks_of_lines k.best_networks now k.networks behind
    ∙ ap (λ r. map (λ o. network_in_words (o.key, o.source, o.metric)) (filter (is_among_best network_cmp k.best_networks) k.networks) ++ r) (no_network_after now k)
    ∙ append-nil _

-- ---- services

services_of_lines : (bests : List (ServiceKey × Source × ServiceMetric)) (now : ℕ) (os : List (Offer ServiceKey ServiceMetric)) (rest : List ℕ)
    → read_of best_service_in (flat_map (λ o. service_offer_line (is_among_best service_key_cmp bests o) now o) os ++ rest)
    ≡ map (λ o. service_in_words (o.key, o.source, o.metric)) (filter (is_among_best service_key_cmp bests) os) ++ read_of best_service_in rest
services_of_lines bests now [] rest = refl
services_of_lines bests now (o ∷ os) rest =
    let line = λ (x : Offer ServiceKey ServiceMetric). service_offer_line (is_among_best service_key_cmp bests x) now x in
    let kept = filter (is_among_best service_key_cmp bests) os in
    let told = λ (x : Offer ServiceKey ServiceMetric). service_in_words (x.key, x.source, x.metric) in
    let later = services_of_lines bests now os rest in
    ap (read_of best_service_in) (append_assoc (line o) (flat_map line os) rest)
    ∙ elim (is_among_best service_key_cmp bests o) as (λ b. read_of best_service_in (service_offer_line b now o ++ (flat_map line os ++ rest)) ≡ map told (cond b (o ∷ kept) kept) ++ read_of best_service_in rest) [
      | true ↦ best_service_read best_service_in now o (flat_map line os ++ rest) ∙ ap (λ r. told o ∷ r) later
      | false ↦ spare_service_read best_service_in now o (flat_map line os ++ rest) ∙ later
    ]

no_service_of_route : (b : Bool) (now : ℕ) (o : Offer Network RouteMetric) (rest : List ℕ) → read_of best_service_in (route_offer_line b now o ++ rest) ≡ read_of best_service_in rest
no_service_of_route true now o rest = best_route_read best_service_in now o rest
no_service_of_route false now o rest = spare_route_read best_service_in now o rest

no_service_of_advertisers : (now : ℕ) (k : KnownThen) → read_of best_service_in (advertiser_lines now k.advertisers) ≡ []
no_service_of_advertisers now k =
    neighbours_head_read best_service_in (length k.advertisers) (flat_map (advertiser_line now) k.advertisers)
    ∙ ap (read_of best_service_in) (sym (append-nil (flat_map (advertiser_line now) k.advertisers)))
    ∙ skip_all best_service_in (advertiser_line now) (λ t rest. advertiser_read best_service_in now t rest) k.advertisers []

pub services_read_back : (ports : List Port) (now : ℕ) (k : KnownThen)
    → services_read (tables_text ports now k) ≡ map (λ o. service_in_words (o.key, o.source, o.metric)) (filter (is_among_best service_key_cmp k.best_services) k.services)
services_read_back ports now k =
    let line = λ (o : Offer Network RouteMetric). route_offer_line (is_among_best network_cmp k.best_networks o) now o in
    let service = λ (o : Offer ServiceKey ServiceMetric). service_offer_line (is_among_best service_key_cmp k.best_services o) now o in
    let head = head_line (codes "networks") (length ports + length k.networks) in
    let routes = flat_map line k.networks in
    let services = service_lines now k.best_services k.services in
    let advertisers = advertiser_lines now k.advertisers in
    ap (read_of best_service_in) (append_assoc head (own_lines 1 ports ++ routes) (services ++ advertisers))
    ∙ networks_head_read best_service_in (length ports + length k.networks) ((own_lines 1 ports ++ routes) ++ (services ++ advertisers))
    ∙ ap (read_of best_service_in) (append_assoc (own_lines 1 ports) routes (services ++ advertisers))
    ∙ skip_owns best_service_in (λ number p rest. own_read best_service_in number p rest) 1 ports (routes ++ (services ++ advertisers))
    ∙ skip_all best_service_in line (λ o rest. no_service_of_route (is_among_best network_cmp k.best_networks o) now o rest) k.networks (services ++ advertisers)
    ∙ ap (read_of best_service_in) (append_assoc (head_line (codes "services") (length k.services)) (flat_map service k.services) advertisers)
    ∙ services_head_read best_service_in (length k.services) (flat_map service k.services ++ advertisers)
    ∙ services_of_lines k.best_services now k.services advertisers
    ∙ ap (λ r. map (λ o. service_in_words (o.key, o.source, o.metric)) (filter (is_among_best service_key_cmp k.best_services) k.services) ++ r) (no_service_of_advertisers now k)
    ∙ append-nil _
