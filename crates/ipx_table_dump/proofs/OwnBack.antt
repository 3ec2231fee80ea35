-- Of the text of what a router knows the networks of its ports are read again, and the titles of its parts.
use Rattle.std.proofs.Common.{◌≡◌, ℕ, ◌+◌, Bool, true, false, List, ◌++◌, [], ◌∷◌, length, sym, ap, ◌∙◌, refl}
use Rattle.std.specs.Prelude.{codes}
use Rattle.std.specs.List.{flat_map}
use Rattle.std.proofs.lemmas.List.{append-nil, append_assoc}
use Rattle.ipx_wire.specs.declared.address.Network.{Network}
use Rattle.ipx_tables.specs.declared.offer.Offer.{Offer}
use Rattle.ipx_tables.specs.declared.route.RouteMetric.{RouteMetric}
use Rattle.ipx_tables.specs.declared.service.ServiceKey.{ServiceKey}
use Rattle.ipx_tables.specs.declared.service.ServiceMetric.{ServiceMetric}
use Rattle.ipx_tables.specs.Route.{network_cmp}
use Rattle.ipx_tables.specs.Service.{service_key_cmp}
use Rattle.ipx_router.specs.declared.port.Port.{Port}
use Rattle.ipx_table_dump.specs.StillPresent.{is_among_best}
use Rattle.ipx_table_dump.specs.TableParts.{own_in_words, port_network_in, own_networks_read, owns_in_words, title_in, titles_read}
use Rattle.ipx_table_dump.specs.TableText.{KnownThen, head_line, own_line, own_lines, route_offer_line, service_lines, service_offer_line, tables_text, advertiser_line, advertiser_lines}
use Rattle.ipx_table_dump.proofs.LineWords.{best_route_read, best_service_read, neighbours_head_read, networks_head_read, own_read, read_of, services_head_read, spare_route_read, spare_service_read, advertiser_read}
use Rattle.ipx_table_dump.proofs.ReadBack.{skip_all, skip_owns}

abbrev route_line_of : KnownThen → ℕ → Offer Network RouteMetric → List ℕ
route_line_of k now o = route_offer_line (is_among_best network_cmp k.best_networks o) now o

abbrev service_line_of : KnownThen → ℕ → Offer ServiceKey ServiceMetric → List ℕ
service_line_of k now o = service_offer_line (is_among_best service_key_cmp k.best_services o) now o

-- ---- networks of ports

no_own_of_route : (b : Bool) (now : ℕ) (o : Offer Network RouteMetric) (rest : List ℕ) → read_of port_network_in (route_offer_line b now o ++ rest) ≡ read_of port_network_in rest
no_own_of_route true now o rest = best_route_read port_network_in now o rest
no_own_of_route false now o rest = spare_route_read port_network_in now o rest

no_own_of_service : (b : Bool) (now : ℕ) (o : Offer ServiceKey ServiceMetric) (rest : List ℕ) → read_of port_network_in (service_offer_line b now o ++ rest) ≡ read_of port_network_in rest
no_own_of_service true now o rest = best_service_read port_network_in now o rest
no_own_of_service false now o rest = spare_service_read port_network_in now o rest

owns_of_lines : (number : ℕ) (ports : List Port) (rest : List ℕ) → read_of port_network_in (own_lines number ports ++ rest) ≡ owns_in_words number ports ++ read_of port_network_in rest
owns_of_lines number [] rest = refl
owns_of_lines number (p ∷ ports) rest =
    ap (read_of port_network_in) (append_assoc (own_line number p) (own_lines (number + 1) ports) rest)
    ∙ own_read port_network_in number p (own_lines (number + 1) ports ++ rest)
    ∙ ap (λ r. own_in_words number p ∷ r) (owns_of_lines (number + 1) ports rest)

no_own_after : (now : ℕ) (k : KnownThen) → read_of port_network_in (service_lines now k.best_services k.services ++ advertiser_lines now k.advertisers) ≡ []
no_own_after now k =
    let line = service_line_of k now in
    ap (read_of port_network_in) (append_assoc (head_line (codes "services") (length k.services)) (flat_map line k.services) (advertiser_lines now k.advertisers))
    ∙ services_head_read port_network_in (length k.services) (flat_map line k.services ++ advertiser_lines now k.advertisers)
    ∙ skip_all port_network_in line (λ o rest. no_own_of_service (is_among_best service_key_cmp k.best_services o) now o rest) k.services (advertiser_lines now k.advertisers)
    ∙ neighbours_head_read port_network_in (length k.advertisers) (flat_map (advertiser_line now) k.advertisers)
    ∙ ap (read_of port_network_in) (sym (append-nil (flat_map (advertiser_line now) k.advertisers)))
    ∙ skip_all port_network_in (advertiser_line now) (λ t rest. advertiser_read port_network_in now t rest) k.advertisers []

pub owns_read_back : (ports : List Port) (now : ℕ) (k : KnownThen) → own_networks_read (tables_text ports now k) ≡ owns_in_words 1 ports
owns_read_back ports now k =
    let line = route_line_of k now in
    let head = head_line (codes "networks") (length ports + length k.networks) in
    let routes = flat_map line k.networks in
    let behind = service_lines now k.best_services k.services ++ advertiser_lines now k.advertisers in
    ap (read_of port_network_in) (append_assoc head (own_lines 1 ports ++ routes) behind)
    ∙ networks_head_read port_network_in (length ports + length k.networks) ((own_lines 1 ports ++ routes) ++ behind)
    ∙ ap (read_of port_network_in) (append_assoc (own_lines 1 ports) routes behind)
    ∙ owns_of_lines 1 ports (routes ++ behind)
    ∙ ap (λ r. owns_in_words 1 ports ++ r) (skip_all port_network_in line (λ o rest. no_own_of_route (is_among_best network_cmp k.best_networks o) now o rest) k.networks behind ∙ no_own_after now k)
    ∙ append-nil (owns_in_words 1 ports)

-- ---- titles

no_title_of_route : (b : Bool) (now : ℕ) (o : Offer Network RouteMetric) (rest : List ℕ) → read_of title_in (route_offer_line b now o ++ rest) ≡ read_of title_in rest
no_title_of_route true now o rest = best_route_read title_in now o rest
no_title_of_route false now o rest = spare_route_read title_in now o rest

no_title_of_service : (b : Bool) (now : ℕ) (o : Offer ServiceKey ServiceMetric) (rest : List ℕ) → read_of title_in (service_offer_line b now o ++ rest) ≡ read_of title_in rest
no_title_of_service true now o rest = best_service_read title_in now o rest
no_title_of_service false now o rest = spare_service_read title_in now o rest

titles_after : (now : ℕ) (k : KnownThen) → read_of title_in (service_lines now k.best_services k.services ++ advertiser_lines now k.advertisers) ≡ codes "services" ∷ codes "neighbours" ∷ []
titles_after now k =
    let line = service_line_of k now in
    let advertisers = flat_map (advertiser_line now) k.advertisers in
    ap (read_of title_in) (append_assoc (head_line (codes "services") (length k.services)) (flat_map line k.services) (advertiser_lines now k.advertisers))
    ∙ services_head_read title_in (length k.services) (flat_map line k.services ++ advertiser_lines now k.advertisers)
    ∙ ap (λ r. codes "services" ∷ r) (skip_all title_in line (λ o rest. no_title_of_service (is_among_best service_key_cmp k.best_services o) now o rest) k.services (advertiser_lines now k.advertisers)
    ∙ neighbours_head_read title_in (length k.advertisers) advertisers
    ∙ ap (λ r. codes "neighbours" ∷ r) (ap (read_of title_in) (sym (append-nil advertisers))
    ∙ skip_all title_in (advertiser_line now) (λ t rest. advertiser_read title_in now t rest) k.advertisers []))

pub titles_read_back : (ports : List Port) (now : ℕ) (k : KnownThen) → titles_read (tables_text ports now k) ≡ codes "networks" ∷ codes "services" ∷ codes "neighbours" ∷ []
titles_read_back ports now k =
    let line = route_line_of k now in
    let head = head_line (codes "networks") (length ports + length k.networks) in
    let routes = flat_map line k.networks in
    let behind = service_lines now k.best_services k.services ++ advertiser_lines now k.advertisers in
    ap (read_of title_in) (append_assoc head (own_lines 1 ports ++ routes) behind)
    ∙ networks_head_read title_in (length ports + length k.networks) ((own_lines 1 ports ++ routes) ++ behind)
    ∙ ap (λ r. codes "networks" ∷ r) (ap (read_of title_in) (append_assoc (own_lines 1 ports) routes behind)
    ∙ skip_owns title_in (λ number p rest. own_read title_in number p rest) 1 ports (routes ++ behind)
    ∙ skip_all title_in line (λ o rest. no_title_of_route (is_among_best network_cmp k.best_networks o) now o rest) k.networks behind
    ∙ titles_after now k)
