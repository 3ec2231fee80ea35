-- What is read back from a table file: the best networks and services, in words. Defined by this project.
-- Lines of another form are skipped.
use Rattle.std.specs.Prelude.{ℕ, Bool, ◌==◌, ◌&&◌, List, [], Option, Some, None, codes, if◌then◌else◌, length, map, slice_index_or}
use Rattle.std.specs.Borrow.{Bor}
use Rattle.std.specs.Fmt.{decimal}
use Rattle.std.specs.List.{filter_map, slice_split}
use Rattle.std.specs.Str.{bytes_eq}
use Rattle.hex.specs.Hex.{encode_lower}
use Rattle.ipx_wire.specs.declared.address.Network.{Network}
use Rattle.ipx_tables.specs.declared.route.RouteMetric.{RouteMetric}
use Rattle.ipx_tables.specs.declared.service.ServiceKey.{ServiceKey}
use Rattle.ipx_tables.specs.declared.service.ServiceMetric.{ServiceMetric}
use Rattle.ipx_tables.specs.declared.source.Source.{Source}
use Rattle.ipx_inspect.specs.ShowLine.{name_text, word_text}
use Rattle.ipx_table_dump.specs.declared.reading.NetworkWords.{NetworkWords}
use Rattle.ipx_table_dump.specs.declared.reading.ServiceWords.{ServiceWords}
use Rattle.ipx_table_dump.specs.TableText.{network_word}

-- parts of a text, without the memory where they are stored
abbrev pub parts_view : List (Bor (List ℕ)) → List (List ℕ)
parts_view parts = map (λ p. p.now) parts

-- the word at an index of a line, and whether it is this one
abbrev pub word_at : List (List ℕ) → ℕ → List ℕ
word_at words i = slice_index_or words i []

abbrev pub has_word : List (List ℕ) → ℕ → List ℕ → Bool
has_word words i word = bytes_eq (word_at words i) word

-- a network in words, with its neighbour and its distance
pub record NetworkSpelled : Type 0 where
  pub network : List ℕ
  pub port : List ℕ
  pub next : List ℕ
  pub hops : List ℕ
  pub ticks : List ℕ

abbrev pub network_spelled : NetworkWords → NetworkSpelled
network_spelled w = record {
  network = w.network.now;
  port = w.port.now;
  next = w.next.now;
  hops = w.hops.now;
  ticks = w.ticks.now;
}

-- the best offer of a network, in words
abbrev pub network_in_words : Network × Source × RouteMetric → NetworkSpelled
network_in_words best = record {
  network = network_word best.0;
  port = decimal best.1.port;
  next = encode_lower best.1.neighbour.0;
  hops = decimal best.2.hops;
  ticks = decimal best.2.ticks;
}

-- a service in words, with its address
pub record ServiceSpelled : Type 0 where
  pub kind : List ℕ
  pub name : List ℕ
  pub network : List ℕ
  pub node : List ℕ
  pub socket : List ℕ
  pub port : List ℕ
  pub next : List ℕ
  pub hops : List ℕ

abbrev pub service_spelled : ServiceWords → ServiceSpelled
service_spelled w = record {
  kind = w.kind.now;
  name = w.name.now;
  network = w.network.now;
  node = w.node.now;
  socket = w.socket.now;
  port = w.port.now;
  next = w.next.now;
  hops = w.hops.now;
}

abbrev pub service_in_words : ServiceKey × Source × ServiceMetric → ServiceSpelled
service_in_words best = record {
  kind = word_text best.0.kind;
  name = name_text best.0.name;
  network = network_word best.2.at.network;
  node = encode_lower best.2.at.node.0;
  socket = word_text best.2.at.socket.0;
  port = decimal best.1.port;
  next = encode_lower best.1.neighbour.0;
  hops = decimal best.2.hops;
}

-- the best offer of a network that the words of a line give
abbrev pub best_network_in : List (List ℕ) → Option NetworkSpelled
best_network_in words =
    if (length words == 11) && (has_word words 1 (codes "port") && (has_word words 3 (codes "next")
    && (has_word words 5 (codes "hops") && (has_word words 7 (codes "ticks")
    && has_word words 9 (codes "heard")))))
    then Some (record {
      network = word_at words 0;
      port = word_at words 2;
      next = word_at words 4;
      hops = word_at words 6;
      ticks = word_at words 8;
    })
    else None

-- the same for a service
abbrev pub best_service_in : List (List ℕ) → Option ServiceSpelled
best_service_in words =
    if (length words == 14) && (has_word words 2 (codes "at") && (has_word words 6 (codes "port")
    && (has_word words 8 (codes "next") && (has_word words 10 (codes "hops")
    && has_word words 12 (codes "heard")))))
    then Some (record {
      kind = word_at words 0;
      name = word_at words 1;
      network = word_at words 3;
      node = word_at words 4;
      socket = word_at words 5;
      port = word_at words 7;
      next = word_at words 9;
      hops = word_at words 11;
    })
    else None

-- lines are separated by a byte 0a, and words by a space
abbrev pub lines_in : List ℕ → List (List ℕ)
lines_in text = slice_split (λ b. b == 10) text

abbrev pub words_in : List ℕ → List (List ℕ)
words_in line = slice_split (λ b. b == 32) line

-- all networks that are read, and all services
abbrev pub networks_read : List ℕ → List NetworkSpelled
networks_read text = filter_map (λ line. best_network_in (words_in line)) (lines_in text)

abbrev pub services_read : List ℕ → List ServiceSpelled
services_read text = filter_map (λ line. best_service_in (words_in line)) (lines_in text)
