-- The addresses of a router's ipxnet clients, as text, and what is read of it. The entry point is `IsClientsText`.
-- Defined by this project.
use Rattle.std.specs.Prelude.{◌≡◌, ◌≤◌, ◌<◌, ◌^◌, ℕ, ◌==◌, ◌&&◌, List, ◌++◌, All, Option, Some, None, codes, if◌then◌else◌, length}
use Rattle.std.specs.List.{filter_map, flat_map}
use Rattle.std.specs.Net.Socket.{IsSocketAddrV4}
use Rattle.std.specs.Net.Text.{socket_v4_text}
use Rattle.ipx_table_dump.specs.declared.client_places.ClientPlace.{ClientPlace}
use Rattle.ipx_table_dump.specs.declared.client_words.ClientWords.{ClientWords}
use Rattle.ipx_table_dump.specs.TableRead.{has_word, lines_in, word_at, words_in}
use Rattle.ipx_table_dump.specs.TableText.{head_line, network_word}

-- a text lists so many clients at most
abbrev pub max_client_places : ℕ
max_client_places = 1024

-- the line of a client: the network of its port, and its address
abbrev pub client_line : ClientPlace → List ℕ
client_line c = codes "client " ++ (network_word c.network ++ (codes " " ++ (socket_v4_text c.place ++ codes "\n")))

-- a line for each, and one with their number
abbrev pub clients_text : List ClientPlace → List ℕ
clients_text clients = flat_map client_line clients ++ head_line (codes "end") (length clients)

-- a text lists these clients
pub record IsClientsText (clients : List ClientPlace) (text : List ℕ) : Type 0 where
  pub few : length clients ≤ max_client_places
  pub spelled : text ≡ clients_text clients

-- the numbers of an address fit their types, as those of a program's value do
abbrev pub IsClientPlace : ClientPlace → Type 0
IsClientPlace c = (c.network.0 < 2 ^ 32) × IsSocketAddrV4 c.place

-- ---- what follows

-- a text that lists clients has at most 65,000 bytes
abbrev pub ClientsTextsAreShort : Type 0
ClientsTextsAreShort = (clients : List ClientPlace) (text : List ℕ) → All IsClientPlace clients
    → IsClientsText clients text → length text ≤ 65000

-- ---- definitions for private functions

-- a client in words
pub record ClientSpelled : Type 0 where
  pub network : List ℕ
  pub place : List ℕ

abbrev pub client_spelled : ClientWords → ClientSpelled
client_spelled w = record { network = w.network.now; place = w.place.now }

abbrev pub client_in_words : ClientPlace → ClientSpelled
client_in_words c = record { network = network_word c.network; place = socket_v4_text c.place }

-- the client that the words of a line give, and all clients of a text
abbrev pub client_words_in : List (List ℕ) → Option ClientSpelled
client_words_in words =
    if (length words == 3) && has_word words 0 (codes "client")
    then Some (record { network = word_at words 1; place = word_at words 2 })
    else None

abbrev pub clients_spelled : List ℕ → List ClientSpelled
clients_spelled text = filter_map (λ line. client_words_in (words_in line)) (lines_in text)
