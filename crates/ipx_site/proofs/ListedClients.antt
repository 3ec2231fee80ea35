-- A client is sought by its key.
use Rattle.std.proofs.Common.{◌≡◌, ◌&&◌, ◌||◌, ◌==◌, List, [], ◌∷◌, Bool, true, false, map, refl, ap}
use Rattle.std.specs.List.{list_any}
use Rattle.std.specs.Net.Addr.{ipv4_octets}
use Rattle.std.specs.Net.Socket.{v4_ip, v4_port}
use Rattle.std.specs.Str.{bytes_eq}
use Rattle.ipx_site.specs.ClientLog.{client_key, is_listed_client, is_one_client, is_same_key}
use Rattle.ipx_site.specs.declared.client_log.PortClient.{PortClient}

regrouped : (a b c : Bool) → (a && (b && c)) ≡ ((a && b) && c)
regrouped true b c = refl
regrouped false b c = refl

-- two clients are the same exactly if their keys are
same_by_key : (a b : PortClient) → is_same_key (client_key a) (client_key b) ≡ is_one_client a b
same_by_key a b = ap (λ rest. (a.port == b.port) && rest)
    (regrouped (bytes_eq (ipv4_octets (v4_ip a.place)) (ipv4_octets (v4_ip b.place))) (v4_port a.place == v4_port b.place) (bytes_eq a.node.0 b.node.0))

-- a client is listed exactly if its key is one of theirs
pub listed_by_key : (client : PortClient) (clients : List PortClient)
    → list_any (is_same_key (client_key client)) (map client_key clients) ≡ is_listed_client clients client
listed_by_key client [] = refl
listed_by_key client (c ∷ clients) = λ i. same_by_key client c i || listed_by_key client clients i
