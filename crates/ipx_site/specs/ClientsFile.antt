-- Which clients the file of a router's secret lists. Defined by this project.
use Rattle.std.specs.Prelude.{◌≡◌, ◌==◌, ◌&&◌, [], ◌∷◌, ◌⊎◌, Bool, true, false, IsPermutation, IsSome, IsSortedByKey, List, None, Option, Some, length, map, take, ℕ}
use Rattle.std.specs.List.{flat_map, list_all, list_any}
use Rattle.std.specs.Ordering.{nat_cmp}
use Rattle.ipx_config.specs.EthernetValues.{is_same_place}
use Rattle.ipx_table_dump.specs.ClientsText.{max_client_places}
use Rattle.ipx_table_dump.specs.declared.client_places.ClientPlace.{ClientPlace}
use Rattle.ipxnet_server.specs.ServerHears.{ServerView}
use Rattle.ipx_sockets.specs.Moments.{HasPassed}
use Rattle.ipx_site.specs.declared.clients_file.ClientsFile.{ClientsFile}
use Rattle.ipx_site.specs.declared.clients_file.HeardClient.{HeardClient}
use Rattle.ipx_site.specs.declared.written_files.WriteFault.{WriteFault}
use Rattle.ipx_site.specs.declared.written_files.WriteFault.TheVariants.{File, OutOfMemory}

-- the clients of a server, each with the time at which it was heard last
abbrev pub heard_of : ServerView → List HeardClient
heard_of l = map (λ c. record {
  client = record { network = l.port.network; place = c.place };
  heard = c.heard;
}) l.clients

-- no client was heard later than the one before it
abbrev pub IsLatestFirst : List HeardClient → Type 0
IsLatestFirst clients = IsSortedByKey (λ c. c.heard) (λ a b. nat_cmp b a) clients

-- the clients of these servers that were heard last, at most 1,024: the first ones of all, in such an order
pub record AreHeardLast (servers : List ServerView) (listed : List ClientPlace) : Type 0 where
  pub ordered : List HeardClient
  pub all : IsPermutation (flat_map heard_of servers) ordered
  pub order : IsLatestFirst ordered
  pub first : listed ≡ take max_client_places (map (λ c. c.client) ordered)

-- one of these is a client of the same network with the same IP address and UDP port
abbrev pub is_listed : List ClientPlace → ClientPlace → Bool
is_listed clients c = list_any (λ one. (one.network.0 == c.network.0) && is_same_place c.place one.place) clients

-- two lists have as many clients, and each of the first is in the second
abbrev pub have_same_clients : List ClientPlace → List ClientPlace → Bool
have_same_clients one other = (length one == length other) && list_all (is_listed other) one

-- when the file counts as written at the start: then, if clients were read from it, and else never
abbrev pub written_at_start : List ClientPlace → Option ℕ
written_at_start [] = None
written_at_start (c ∷ cs) = Some 0

-- the clients are to be compared with the file: there is one, and a second has passed since they last were, and a
-- minute since it was written
abbrev pub IsClientsFileDue : ClientsFile → ℕ → Type 0
IsClientsFileDue f now = IsSome f.path × HasPassed 1000 f.looked now × HasPassed 60000 f.written now

-- the file lists those of these servers that were heard last, and was not written; or it listed others, was written
-- at this time, and lists these
abbrev pub IsListKept : List ServerView → ℕ → ClientsFile → ClientsFile → Type 0
IsListKept servers now old new = (heard : List ClientPlace) × AreHeardLast servers heard
    × (((have_same_clients heard old.listed.items ≡ true) × (new.listed ≡ old.listed) × (new.written ≡ old.written))
    ⊎ ((have_same_clients heard old.listed.items ≡ false) × (new.listed.items ≡ heard) × (new.written ≡ Some now)))

-- the system refused a file
abbrev pub IsRefusedFile : WriteFault → Type 0
IsRefusedFile OutOfMemory = ⊥
IsRefusedFile (File error) = Unit {0}
