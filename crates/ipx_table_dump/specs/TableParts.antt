-- What is read back from a table file besides its best offers: the networks of ports, and the section titles.
-- Defined by this project.
use Rattle.std.specs.Prelude.{ℕ, ◌+◌, Bool, false, ◌==◌, ◌&&◌, List, [], ◌∷◌, Option, Some, None, codes, if◌then◌else◌, length}
use Rattle.std.specs.Fmt.{decimal}
use Rattle.std.specs.List.{filter_map}
use Rattle.std.specs.Str.{bytes_eq}
use Rattle.ipx_router.specs.declared.port.Port.{Port}
use Rattle.ipx_table_dump.specs.declared.direct_networks.OwnWords.{OwnWords}
use Rattle.ipx_table_dump.specs.TableRead.{has_word, lines_in, word_at, words_in}
use Rattle.ipx_table_dump.specs.TableText.{network_word}

-- the network of a port in words, and the cost of sending there
pub record OwnSpelled : Type 0 where
  pub network : List ℕ
  pub port : List ℕ
  pub cost : List ℕ

abbrev pub own_spelled : OwnWords → OwnSpelled
own_spelled w = record { network = w.network.now; port = w.port.now; cost = w.cost.now }

-- the network of a port with this number, in words
abbrev pub own_in_words : ℕ → Port → OwnSpelled
own_in_words number p = record {
  network = network_word p.network;
  port = decimal number;
  cost = decimal p.cost;
}

-- the networks of ports, numbered from this number on
abbrev pub owns_in_words : ℕ → List Port → List OwnSpelled
owns_in_words number [] = []
owns_in_words number (p ∷ ports) = own_in_words number p ∷ owns_in_words (number + 1) ports

-- the network of a port that the words of a line give
abbrev pub port_network_in : List (List ℕ) → Option OwnSpelled
port_network_in words =
    if (length words == 6) && (has_word words 1 (codes "own")
    && (has_word words 2 (codes "port") && has_word words 4 (codes "cost")))
    then Some (record {
      network = word_at words 0;
      port = word_at words 3;
      cost = word_at words 5;
    })
    else None

abbrev pub own_networks_read : List ℕ → List OwnSpelled
own_networks_read text = filter_map (λ line. port_network_in (words_in line)) (lines_in text)

-- the title in the words of the line above a section
abbrev pub title_in : List (List ℕ) → Option (List ℕ)
title_in words = if length words == 2 then Some (word_at words 0) else None

abbrev pub titles_read : List ℕ → List (List ℕ)
titles_read text = filter_map (λ line. title_in (words_in line)) (lines_in text)

-- the titles of the three sections, in order
abbrev pub are_all_titles : List (List ℕ) → Bool
are_all_titles titles =
    (length titles == 3) && (has_word titles 0 (codes "networks")
    && (has_word titles 1 (codes "services") && has_word titles 2 (codes "neighbours")))

abbrev pub has_all_titles : List ℕ → Bool
has_all_titles text = are_all_titles (titles_read text)
