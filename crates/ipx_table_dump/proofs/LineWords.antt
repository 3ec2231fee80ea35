-- What is read of each line of a text of tables.
use Rattle.std.proofs.Common.{◌≡◌, ℕ, true, false, List, ◌++◌, [], ◌∷◌, Option, ap, ◌∙◌, refl, arith}
use Rattle.std.specs.Prelude.{◌==◌, ◌&&◌, codes, not}
use Rattle.std.specs.Fmt.{decimal}
use Rattle.std.specs.List.{cons_option, filter_map, list_all}
use Rattle.hex.specs.Hex.{encode_lower, lower_digits}
use Rattle.ipx_wire.specs.declared.address.Network.{Network}
use Rattle.ipx_tables.specs.declared.offer.Offer.{Offer}
use Rattle.ipx_tables.specs.declared.route.RouteMetric.{RouteMetric}
use Rattle.ipx_tables.specs.declared.service.ServiceKey.{ServiceKey}
use Rattle.ipx_tables.specs.declared.service.ServiceMetric.{ServiceMetric}
use Rattle.ipx_tables.specs.declared.source.Source.{Source}
use Rattle.ipx_router.specs.declared.port.Port.{Port}
use Rattle.ipx_inspect.specs.ShowLine.{address_text, name_text, word_text}
use Rattle.ipx_table_dump.specs.declared.advertisers.Advertiser.{Advertiser}
use Rattle.ipx_table_dump.specs.TableRead.{lines_in, words_in}
use Rattle.ipx_table_dump.specs.TableText.{head_line, network_word, own_line, route_offer_line, seconds_since, service_offer_line, advertiser_line}
use Rattle.ipx_table_dump.proofs.Clean.{IsFree, free_decimal, free_hex, free_name}
use Rattle.ipx_table_dump.proofs.Parted.{cat, cat_append, last_word, one_word, read_line}

pub free_test : (c : ℕ) (bs : List ℕ) → list_all (λ b. not (b == c)) bs ≡ true → IsFree c bs
free_test c [] h = tt
free_test c (b ∷ bs) h = elim (b == c) as (λ t. (b == c) ≡ t → (not t && list_all (λ b. not (b == c)) bs) ≡ true → IsFree c (b ∷ bs)) [
  | true ↦ λ e k. cc
  | false ↦ λ e k. (e, free_test c bs k)
] refl h

-- no word has a line end in it, and none has a blank
abbrev pub n10 : (n : ℕ) → IsFree 10 (decimal n)
n10 n = free_decimal 10 (omega arith) refl (free_test 10 lower_digits refl) n

abbrev pub n32 : (n : ℕ) → IsFree 32 (decimal n)
n32 n = free_decimal 32 (omega arith) refl (free_test 32 lower_digits refl) n

abbrev pub h10 : (bytes : List ℕ) → IsFree 10 (encode_lower bytes)
h10 bytes = free_hex 10 (omega arith) refl (free_test 10 lower_digits refl) bytes

abbrev pub h32 : (bytes : List ℕ) → IsFree 32 (encode_lower bytes)
h32 bytes = free_hex 32 (omega arith) refl (free_test 32 lower_digits refl) bytes

abbrev m10 : (name : List ℕ) → IsFree 10 (name_text name)
m10 name = free_name 10 (omega arith) refl (free_test 10 lower_digits refl) refl refl refl name

abbrev m32 : (name : List ℕ) → IsFree 32 (name_text name)
m32 name = free_name 32 (omega arith) refl (free_test 32 lower_digits refl) refl refl refl name

module _ {Y : Type 0} (h : List (List ℕ) → Option Y) where
  -- what is read of a text
  abbrev pub read_of : List ℕ → List Y
  read_of text = filter_map (λ l. h (words_in l)) (lines_in text)

  abbrev best_route_pieces : ℕ → Offer Network RouteMetric → List (List ℕ)
  best_route_pieces now o = network_word o.key ∷ codes " port " ∷ decimal o.source.port ∷ codes " next " ∷ encode_lower o.source.neighbour.0 ∷ codes " hops " ∷ decimal o.metric.hops ∷ codes " ticks " ∷ decimal o.metric.ticks ∷ codes " heard " ∷ decimal (seconds_since now o.heard) ∷ []

  abbrev best_route_words : ℕ → Offer Network RouteMetric → List (List ℕ)
  best_route_words now o = network_word o.key ∷ codes "port" ∷ decimal o.source.port ∷ codes "next" ∷ encode_lower o.source.neighbour.0 ∷ codes "hops" ∷ decimal o.metric.hops ∷ codes "ticks" ∷ decimal o.metric.ticks ∷ codes "heard" ∷ decimal (seconds_since now o.heard) ∷ []

  best_route_parts : (now : ℕ) (o : Offer Network RouteMetric) → words_in (cat (best_route_pieces now o) []) ≡ best_route_words now o
  best_route_parts now o =
      one_word (network_word o.key) (codes "port " ++ cat (decimal o.source.port ∷ codes " next " ∷ encode_lower o.source.neighbour.0 ∷ codes " hops " ∷ decimal o.metric.hops ∷ codes " ticks " ∷ decimal o.metric.ticks ∷ codes " heard " ∷ decimal (seconds_since now o.heard) ∷ []) []) (h32 _)
      ∙ ap (λ l. network_word o.key ∷ codes "port" ∷ l) (one_word (decimal o.source.port) (codes "next " ++ cat (encode_lower o.source.neighbour.0 ∷ codes " hops " ∷ decimal o.metric.hops ∷ codes " ticks " ∷ decimal o.metric.ticks ∷ codes " heard " ∷ decimal (seconds_since now o.heard) ∷ []) []) (n32 _)
      ∙ ap (λ l. decimal o.source.port ∷ codes "next" ∷ l) (one_word (encode_lower o.source.neighbour.0) (codes "hops " ++ cat (decimal o.metric.hops ∷ codes " ticks " ∷ decimal o.metric.ticks ∷ codes " heard " ∷ decimal (seconds_since now o.heard) ∷ []) []) (h32 _)
      ∙ ap (λ l. encode_lower o.source.neighbour.0 ∷ codes "hops" ∷ l) (one_word (decimal o.metric.hops) (codes "ticks " ++ cat (decimal o.metric.ticks ∷ codes " heard " ∷ decimal (seconds_since now o.heard) ∷ []) []) (n32 _)
      ∙ ap (λ l. decimal o.metric.hops ∷ codes "ticks" ∷ l) (one_word (decimal o.metric.ticks) (codes "heard " ++ cat (decimal (seconds_since now o.heard) ∷ []) []) (n32 _)
      ∙ ap (λ l. decimal o.metric.ticks ∷ codes "heard" ∷ l) (last_word (decimal (seconds_since now o.heard)) (n32 _))))))

  pub best_route_read : (now : ℕ) (o : Offer Network RouteMetric) (rest : List ℕ) → read_of (route_offer_line true now o ++ rest) ≡ cons_option (h (best_route_words now o)) (read_of rest)
  best_route_read now o rest =
      read_line h (best_route_pieces now o) (best_route_words now o) (route_offer_line true now o) rest
      (h10 _, (free_test 10 (codes " port ") refl, (n10 _, (free_test 10 (codes " next ") refl, (h10 _, (free_test 10 (codes " hops ") refl, (n10 _, (free_test 10 (codes " ticks ") refl, (n10 _, (free_test 10 (codes " heard ") refl, (n10 _, tt)))))))))))
      (ap (λ t. network_word o.key ++ t) (cat_append (codes " port " ∷ decimal o.source.port ∷ codes " next " ∷ []) (encode_lower o.source.neighbour.0) (cat (codes " hops " ∷ decimal o.metric.hops ∷ codes " ticks " ∷ decimal o.metric.ticks ∷ codes " heard " ∷ decimal (seconds_since now o.heard) ∷ []) (10 ∷ [])))) (best_route_parts now o)

  abbrev spare_route_pieces : ℕ → Offer Network RouteMetric → List (List ℕ)
  spare_route_pieces now o = network_word o.key ∷ codes " port " ∷ decimal o.source.port ∷ codes " next " ∷ encode_lower o.source.neighbour.0 ∷ codes " hops " ∷ decimal o.metric.hops ∷ codes " ticks " ∷ decimal o.metric.ticks ∷ codes " heard " ∷ decimal (seconds_since now o.heard) ∷ codes " " ∷ codes "spare" ∷ []

  abbrev spare_route_words : ℕ → Offer Network RouteMetric → List (List ℕ)
  spare_route_words now o = network_word o.key ∷ codes "port" ∷ decimal o.source.port ∷ codes "next" ∷ encode_lower o.source.neighbour.0 ∷ codes "hops" ∷ decimal o.metric.hops ∷ codes "ticks" ∷ decimal o.metric.ticks ∷ codes "heard" ∷ decimal (seconds_since now o.heard) ∷ codes "spare" ∷ []

  spare_route_parts : (now : ℕ) (o : Offer Network RouteMetric) → words_in (cat (spare_route_pieces now o) []) ≡ spare_route_words now o
  spare_route_parts now o =
      one_word (network_word o.key) (codes "port " ++ cat (decimal o.source.port ∷ codes " next " ∷ encode_lower o.source.neighbour.0 ∷ codes " hops " ∷ decimal o.metric.hops ∷ codes " ticks " ∷ decimal o.metric.ticks ∷ codes " heard " ∷ decimal (seconds_since now o.heard) ∷ codes " " ∷ codes "spare" ∷ []) []) (h32 _)
      ∙ ap (λ l. network_word o.key ∷ codes "port" ∷ l) (one_word (decimal o.source.port) (codes "next " ++ cat (encode_lower o.source.neighbour.0 ∷ codes " hops " ∷ decimal o.metric.hops ∷ codes " ticks " ∷ decimal o.metric.ticks ∷ codes " heard " ∷ decimal (seconds_since now o.heard) ∷ codes " " ∷ codes "spare" ∷ []) []) (n32 _)
      ∙ ap (λ l. decimal o.source.port ∷ codes "next" ∷ l) (one_word (encode_lower o.source.neighbour.0) (codes "hops " ++ cat (decimal o.metric.hops ∷ codes " ticks " ∷ decimal o.metric.ticks ∷ codes " heard " ∷ decimal (seconds_since now o.heard) ∷ codes " " ∷ codes "spare" ∷ []) []) (h32 _)
      ∙ ap (λ l. encode_lower o.source.neighbour.0 ∷ codes "hops" ∷ l) (one_word (decimal o.metric.hops) (codes "ticks " ++ cat (decimal o.metric.ticks ∷ codes " heard " ∷ decimal (seconds_since now o.heard) ∷ codes " " ∷ codes "spare" ∷ []) []) (n32 _)
      ∙ ap (λ l. decimal o.metric.hops ∷ codes "ticks" ∷ l) (one_word (decimal o.metric.ticks) (codes "heard " ++ cat (decimal (seconds_since now o.heard) ∷ codes " " ∷ codes "spare" ∷ []) []) (n32 _)
      ∙ ap (λ l. decimal o.metric.ticks ∷ codes "heard" ∷ l) (one_word (decimal (seconds_since now o.heard)) (cat (codes "spare" ∷ []) []) (n32 _)
      ∙ ap (λ l. decimal (seconds_since now o.heard) ∷ l) (last_word (codes "spare") (free_test 32 (codes "spare") refl)))))))

  pub spare_route_read : (now : ℕ) (o : Offer Network RouteMetric) (rest : List ℕ) → read_of (route_offer_line false now o ++ rest) ≡ cons_option (h (spare_route_words now o)) (read_of rest)
  spare_route_read now o rest =
      read_line h (spare_route_pieces now o) (spare_route_words now o) (route_offer_line false now o) rest
      (h10 _, (free_test 10 (codes " port ") refl, (n10 _, (free_test 10 (codes " next ") refl, (h10 _, (free_test 10 (codes " hops ") refl, (n10 _, (free_test 10 (codes " ticks ") refl, (n10 _, (free_test 10 (codes " heard ") refl, (n10 _, (free_test 10 (codes " ") refl, (free_test 10 (codes "spare") refl, tt)))))))))))))
      (ap (λ t. network_word o.key ++ t) (cat_append (codes " port " ∷ decimal o.source.port ∷ codes " next " ∷ []) (encode_lower o.source.neighbour.0) (cat (codes " hops " ∷ decimal o.metric.hops ∷ codes " ticks " ∷ decimal o.metric.ticks ∷ codes " heard " ∷ decimal (seconds_since now o.heard) ∷ codes " " ∷ codes "spare" ∷ []) (10 ∷ [])))) (spare_route_parts now o)

  abbrev best_service_pieces : ℕ → Offer ServiceKey ServiceMetric → List (List ℕ)
  best_service_pieces now o = word_text o.key.kind ∷ codes " " ∷ name_text o.key.name ∷ codes " at " ∷ network_word o.metric.at.network ∷ codes " " ∷ encode_lower o.metric.at.node.0 ∷ codes " " ∷ word_text o.metric.at.socket.0 ∷ codes " port " ∷ decimal o.source.port ∷ codes " next " ∷ encode_lower o.source.neighbour.0 ∷ codes " hops " ∷ decimal o.metric.hops ∷ codes " heard " ∷ decimal (seconds_since now o.heard) ∷ []

  abbrev best_service_words : ℕ → Offer ServiceKey ServiceMetric → List (List ℕ)
  best_service_words now o = word_text o.key.kind ∷ name_text o.key.name ∷ codes "at" ∷ network_word o.metric.at.network ∷ encode_lower o.metric.at.node.0 ∷ word_text o.metric.at.socket.0 ∷ codes "port" ∷ decimal o.source.port ∷ codes "next" ∷ encode_lower o.source.neighbour.0 ∷ codes "hops" ∷ decimal o.metric.hops ∷ codes "heard" ∷ decimal (seconds_since now o.heard) ∷ []

  best_service_parts : (now : ℕ) (o : Offer ServiceKey ServiceMetric) → words_in (cat (best_service_pieces now o) []) ≡ best_service_words now o
  best_service_parts now o =
      one_word (word_text o.key.kind) (cat (name_text o.key.name ∷ codes " at " ∷ network_word o.metric.at.network ∷ codes " " ∷ encode_lower o.metric.at.node.0 ∷ codes " " ∷ word_text o.metric.at.socket.0 ∷ codes " port " ∷ decimal o.source.port ∷ codes " next " ∷ encode_lower o.source.neighbour.0 ∷ codes " hops " ∷ decimal o.metric.hops ∷ codes " heard " ∷ decimal (seconds_since now o.heard) ∷ []) []) (h32 _)
      ∙ ap (λ l. word_text o.key.kind ∷ l) (one_word (name_text o.key.name) (codes "at " ++ cat (network_word o.metric.at.network ∷ codes " " ∷ encode_lower o.metric.at.node.0 ∷ codes " " ∷ word_text o.metric.at.socket.0 ∷ codes " port " ∷ decimal o.source.port ∷ codes " next " ∷ encode_lower o.source.neighbour.0 ∷ codes " hops " ∷ decimal o.metric.hops ∷ codes " heard " ∷ decimal (seconds_since now o.heard) ∷ []) []) (m32 o.key.name)
      ∙ ap (λ l. name_text o.key.name ∷ codes "at" ∷ l) (one_word (network_word o.metric.at.network) (cat (encode_lower o.metric.at.node.0 ∷ codes " " ∷ word_text o.metric.at.socket.0 ∷ codes " port " ∷ decimal o.source.port ∷ codes " next " ∷ encode_lower o.source.neighbour.0 ∷ codes " hops " ∷ decimal o.metric.hops ∷ codes " heard " ∷ decimal (seconds_since now o.heard) ∷ []) []) (h32 _)
      ∙ ap (λ l. network_word o.metric.at.network ∷ l) (one_word (encode_lower o.metric.at.node.0) (cat (word_text o.metric.at.socket.0 ∷ codes " port " ∷ decimal o.source.port ∷ codes " next " ∷ encode_lower o.source.neighbour.0 ∷ codes " hops " ∷ decimal o.metric.hops ∷ codes " heard " ∷ decimal (seconds_since now o.heard) ∷ []) []) (h32 _)
      ∙ ap (λ l. encode_lower o.metric.at.node.0 ∷ l) (one_word (word_text o.metric.at.socket.0) (codes "port " ++ cat (decimal o.source.port ∷ codes " next " ∷ encode_lower o.source.neighbour.0 ∷ codes " hops " ∷ decimal o.metric.hops ∷ codes " heard " ∷ decimal (seconds_since now o.heard) ∷ []) []) (h32 _)
      ∙ ap (λ l. word_text o.metric.at.socket.0 ∷ codes "port" ∷ l) (one_word (decimal o.source.port) (codes "next " ++ cat (encode_lower o.source.neighbour.0 ∷ codes " hops " ∷ decimal o.metric.hops ∷ codes " heard " ∷ decimal (seconds_since now o.heard) ∷ []) []) (n32 _)
      ∙ ap (λ l. decimal o.source.port ∷ codes "next" ∷ l) (one_word (encode_lower o.source.neighbour.0) (codes "hops " ++ cat (decimal o.metric.hops ∷ codes " heard " ∷ decimal (seconds_since now o.heard) ∷ []) []) (h32 _)
      ∙ ap (λ l. encode_lower o.source.neighbour.0 ∷ codes "hops" ∷ l) (one_word (decimal o.metric.hops) (codes "heard " ++ cat (decimal (seconds_since now o.heard) ∷ []) []) (n32 _)
      ∙ ap (λ l. decimal o.metric.hops ∷ codes "heard" ∷ l) (last_word (decimal (seconds_since now o.heard)) (n32 _)))))))))

  pub best_service_read : (now : ℕ) (o : Offer ServiceKey ServiceMetric) (rest : List ℕ) → read_of (service_offer_line true now o ++ rest) ≡ cons_option (h (best_service_words now o)) (read_of rest)
  best_service_read now o rest =
      read_line h (best_service_pieces now o) (best_service_words now o) (service_offer_line true now o) rest
      (h10 _, (free_test 10 (codes " ") refl, (m10 o.key.name, (free_test 10 (codes " at ") refl, (h10 _, (free_test 10 (codes " ") refl, (h10 _, (free_test 10 (codes " ") refl, (h10 _, (free_test 10 (codes " port ") refl, (n10 _, (free_test 10 (codes " next ") refl, (h10 _, (free_test 10 (codes " hops ") refl, (n10 _, (free_test 10 (codes " heard ") refl, (n10 _, tt)))))))))))))))))
      (ap (λ t. word_text o.key.kind ++ (codes " " ++ (name_text o.key.name ++ (codes " at " ++ t)))) (ap (λ t. address_text o.metric.at ++ t) (cat_append (codes " port " ∷ decimal o.source.port ∷ codes " next " ∷ []) (encode_lower o.source.neighbour.0) (cat (codes " hops " ∷ decimal o.metric.hops ∷ codes " heard " ∷ decimal (seconds_since now o.heard) ∷ []) (10 ∷ []))) ∙ cat_append (network_word o.metric.at.network ∷ codes " " ∷ encode_lower o.metric.at.node.0 ∷ codes " " ∷ []) (word_text o.metric.at.socket.0) (cat (codes " port " ∷ decimal o.source.port ∷ codes " next " ∷ []) (encode_lower o.source.neighbour.0 ++ cat (codes " hops " ∷ decimal o.metric.hops ∷ codes " heard " ∷ decimal (seconds_since now o.heard) ∷ []) (10 ∷ []))))) (best_service_parts now o)

  abbrev spare_service_pieces : ℕ → Offer ServiceKey ServiceMetric → List (List ℕ)
  spare_service_pieces now o = word_text o.key.kind ∷ codes " " ∷ name_text o.key.name ∷ codes " at " ∷ network_word o.metric.at.network ∷ codes " " ∷ encode_lower o.metric.at.node.0 ∷ codes " " ∷ word_text o.metric.at.socket.0 ∷ codes " port " ∷ decimal o.source.port ∷ codes " next " ∷ encode_lower o.source.neighbour.0 ∷ codes " hops " ∷ decimal o.metric.hops ∷ codes " heard " ∷ decimal (seconds_since now o.heard) ∷ codes " " ∷ codes "spare" ∷ []

  abbrev spare_service_words : ℕ → Offer ServiceKey ServiceMetric → List (List ℕ)
  spare_service_words now o = word_text o.key.kind ∷ name_text o.key.name ∷ codes "at" ∷ network_word o.metric.at.network ∷ encode_lower o.metric.at.node.0 ∷ word_text o.metric.at.socket.0 ∷ codes "port" ∷ decimal o.source.port ∷ codes "next" ∷ encode_lower o.source.neighbour.0 ∷ codes "hops" ∷ decimal o.metric.hops ∷ codes "heard" ∷ decimal (seconds_since now o.heard) ∷ codes "spare" ∷ []

  spare_service_parts : (now : ℕ) (o : Offer ServiceKey ServiceMetric) → words_in (cat (spare_service_pieces now o) []) ≡ spare_service_words now o
  spare_service_parts now o =
      one_word (word_text o.key.kind) (cat (name_text o.key.name ∷ codes " at " ∷ network_word o.metric.at.network ∷ codes " " ∷ encode_lower o.metric.at.node.0 ∷ codes " " ∷ word_text o.metric.at.socket.0 ∷ codes " port " ∷ decimal o.source.port ∷ codes " next " ∷ encode_lower o.source.neighbour.0 ∷ codes " hops " ∷ decimal o.metric.hops ∷ codes " heard " ∷ decimal (seconds_since now o.heard) ∷ codes " " ∷ codes "spare" ∷ []) []) (h32 _)
      ∙ ap (λ l. word_text o.key.kind ∷ l) (one_word (name_text o.key.name) (codes "at " ++ cat (network_word o.metric.at.network ∷ codes " " ∷ encode_lower o.metric.at.node.0 ∷ codes " " ∷ word_text o.metric.at.socket.0 ∷ codes " port " ∷ decimal o.source.port ∷ codes " next " ∷ encode_lower o.source.neighbour.0 ∷ codes " hops " ∷ decimal o.metric.hops ∷ codes " heard " ∷ decimal (seconds_since now o.heard) ∷ codes " " ∷ codes "spare" ∷ []) []) (m32 o.key.name)
      ∙ ap (λ l. name_text o.key.name ∷ codes "at" ∷ l) (one_word (network_word o.metric.at.network) (cat (encode_lower o.metric.at.node.0 ∷ codes " " ∷ word_text o.metric.at.socket.0 ∷ codes " port " ∷ decimal o.source.port ∷ codes " next " ∷ encode_lower o.source.neighbour.0 ∷ codes " hops " ∷ decimal o.metric.hops ∷ codes " heard " ∷ decimal (seconds_since now o.heard) ∷ codes " " ∷ codes "spare" ∷ []) []) (h32 _)
      ∙ ap (λ l. network_word o.metric.at.network ∷ l) (one_word (encode_lower o.metric.at.node.0) (cat (word_text o.metric.at.socket.0 ∷ codes " port " ∷ decimal o.source.port ∷ codes " next " ∷ encode_lower o.source.neighbour.0 ∷ codes " hops " ∷ decimal o.metric.hops ∷ codes " heard " ∷ decimal (seconds_since now o.heard) ∷ codes " " ∷ codes "spare" ∷ []) []) (h32 _)
      ∙ ap (λ l. encode_lower o.metric.at.node.0 ∷ l) (one_word (word_text o.metric.at.socket.0) (codes "port " ++ cat (decimal o.source.port ∷ codes " next " ∷ encode_lower o.source.neighbour.0 ∷ codes " hops " ∷ decimal o.metric.hops ∷ codes " heard " ∷ decimal (seconds_since now o.heard) ∷ codes " " ∷ codes "spare" ∷ []) []) (h32 _)
      ∙ ap (λ l. word_text o.metric.at.socket.0 ∷ codes "port" ∷ l) (one_word (decimal o.source.port) (codes "next " ++ cat (encode_lower o.source.neighbour.0 ∷ codes " hops " ∷ decimal o.metric.hops ∷ codes " heard " ∷ decimal (seconds_since now o.heard) ∷ codes " " ∷ codes "spare" ∷ []) []) (n32 _)
      ∙ ap (λ l. decimal o.source.port ∷ codes "next" ∷ l) (one_word (encode_lower o.source.neighbour.0) (codes "hops " ++ cat (decimal o.metric.hops ∷ codes " heard " ∷ decimal (seconds_since now o.heard) ∷ codes " " ∷ codes "spare" ∷ []) []) (h32 _)
      ∙ ap (λ l. encode_lower o.source.neighbour.0 ∷ codes "hops" ∷ l) (one_word (decimal o.metric.hops) (codes "heard " ++ cat (decimal (seconds_since now o.heard) ∷ codes " " ∷ codes "spare" ∷ []) []) (n32 _)
      ∙ ap (λ l. decimal o.metric.hops ∷ codes "heard" ∷ l) (one_word (decimal (seconds_since now o.heard)) (cat (codes "spare" ∷ []) []) (n32 _)
      ∙ ap (λ l. decimal (seconds_since now o.heard) ∷ l) (last_word (codes "spare") (free_test 32 (codes "spare") refl))))))))))

  pub spare_service_read : (now : ℕ) (o : Offer ServiceKey ServiceMetric) (rest : List ℕ) → read_of (service_offer_line false now o ++ rest) ≡ cons_option (h (spare_service_words now o)) (read_of rest)
  spare_service_read now o rest =
      read_line h (spare_service_pieces now o) (spare_service_words now o) (service_offer_line false now o) rest
      (h10 _, (free_test 10 (codes " ") refl, (m10 o.key.name, (free_test 10 (codes " at ") refl, (h10 _, (free_test 10 (codes " ") refl, (h10 _, (free_test 10 (codes " ") refl, (h10 _, (free_test 10 (codes " port ") refl, (n10 _, (free_test 10 (codes " next ") refl, (h10 _, (free_test 10 (codes " hops ") refl, (n10 _, (free_test 10 (codes " heard ") refl, (n10 _, (free_test 10 (codes " ") refl, (free_test 10 (codes "spare") refl, tt)))))))))))))))))))
      (ap (λ t. word_text o.key.kind ++ (codes " " ++ (name_text o.key.name ++ (codes " at " ++ t)))) (ap (λ t. address_text o.metric.at ++ t) (cat_append (codes " port " ∷ decimal o.source.port ∷ codes " next " ∷ []) (encode_lower o.source.neighbour.0) (cat (codes " hops " ∷ decimal o.metric.hops ∷ codes " heard " ∷ decimal (seconds_since now o.heard) ∷ codes " " ∷ codes "spare" ∷ []) (10 ∷ []))) ∙ cat_append (network_word o.metric.at.network ∷ codes " " ∷ encode_lower o.metric.at.node.0 ∷ codes " " ∷ []) (word_text o.metric.at.socket.0) (cat (codes " port " ∷ decimal o.source.port ∷ codes " next " ∷ []) (encode_lower o.source.neighbour.0 ++ cat (codes " hops " ∷ decimal o.metric.hops ∷ codes " heard " ∷ decimal (seconds_since now o.heard) ∷ codes " " ∷ codes "spare" ∷ []) (10 ∷ []))))) (spare_service_parts now o)

  abbrev own_pieces : ℕ → Port → List (List ℕ)
  own_pieces number p = network_word p.network ∷ codes " own port " ∷ decimal number ∷ codes " cost " ∷ decimal p.cost ∷ []

  abbrev own_words : ℕ → Port → List (List ℕ)
  own_words number p = network_word p.network ∷ codes "own" ∷ codes "port" ∷ decimal number ∷ codes "cost" ∷ decimal p.cost ∷ []

  own_parts : (number : ℕ) (p : Port) → words_in (cat (own_pieces number p) []) ≡ own_words number p
  own_parts number p =
      one_word (network_word p.network) (codes "own port " ++ cat (decimal number ∷ codes " cost " ∷ decimal p.cost ∷ []) []) (h32 _)
      ∙ ap (λ l. network_word p.network ∷ codes "own" ∷ codes "port" ∷ l) (one_word (decimal number) (codes "cost " ++ cat (decimal p.cost ∷ []) []) (n32 _)
      ∙ ap (λ l. decimal number ∷ codes "cost" ∷ l) (last_word (decimal p.cost) (n32 _)))

  pub own_read : (number : ℕ) (p : Port) (rest : List ℕ) → read_of (own_line number p ++ rest) ≡ cons_option (h (own_words number p)) (read_of rest)
  own_read number p rest =
      read_line h (own_pieces number p) (own_words number p) (own_line number p) rest
      (h10 _, (free_test 10 (codes " own port ") refl, (n10 _, (free_test 10 (codes " cost ") refl, (n10 _, tt)))))
      (refl) (own_parts number p)

  abbrev advertiser_pieces : ℕ → Source × Advertiser → List (List ℕ)
  advertiser_pieces now t = codes "port" ∷ codes " " ∷ decimal t.0.port ∷ codes " " ∷ encode_lower t.0.neighbour.0 ∷ codes " networks " ∷ decimal t.1.networks ∷ codes " services " ∷ decimal t.1.services ∷ codes " heard " ∷ decimal (seconds_since now t.1.heard) ∷ []

  abbrev advertiser_words : ℕ → Source × Advertiser → List (List ℕ)
  advertiser_words now t = codes "port" ∷ decimal t.0.port ∷ encode_lower t.0.neighbour.0 ∷ codes "networks" ∷ decimal t.1.networks ∷ codes "services" ∷ decimal t.1.services ∷ codes "heard" ∷ decimal (seconds_since now t.1.heard) ∷ []

  advertiser_parts : (now : ℕ) (t : Source × Advertiser) → words_in (cat (advertiser_pieces now t) []) ≡ advertiser_words now t
  advertiser_parts now t =
      one_word (codes "port") (cat (decimal t.0.port ∷ codes " " ∷ encode_lower t.0.neighbour.0 ∷ codes " networks " ∷ decimal t.1.networks ∷ codes " services " ∷ decimal t.1.services ∷ codes " heard " ∷ decimal (seconds_since now t.1.heard) ∷ []) []) (free_test 32 (codes "port") refl)
      ∙ ap (λ l. codes "port" ∷ l) (one_word (decimal t.0.port) (cat (encode_lower t.0.neighbour.0 ∷ codes " networks " ∷ decimal t.1.networks ∷ codes " services " ∷ decimal t.1.services ∷ codes " heard " ∷ decimal (seconds_since now t.1.heard) ∷ []) []) (n32 _)
      ∙ ap (λ l. decimal t.0.port ∷ l) (one_word (encode_lower t.0.neighbour.0) (codes "networks " ++ cat (decimal t.1.networks ∷ codes " services " ∷ decimal t.1.services ∷ codes " heard " ∷ decimal (seconds_since now t.1.heard) ∷ []) []) (h32 _)
      ∙ ap (λ l. encode_lower t.0.neighbour.0 ∷ codes "networks" ∷ l) (one_word (decimal t.1.networks) (codes "services " ++ cat (decimal t.1.services ∷ codes " heard " ∷ decimal (seconds_since now t.1.heard) ∷ []) []) (n32 _)
      ∙ ap (λ l. decimal t.1.networks ∷ codes "services" ∷ l) (one_word (decimal t.1.services) (codes "heard " ++ cat (decimal (seconds_since now t.1.heard) ∷ []) []) (n32 _)
      ∙ ap (λ l. decimal t.1.services ∷ codes "heard" ∷ l) (last_word (decimal (seconds_since now t.1.heard)) (n32 _))))))

  pub advertiser_read : (now : ℕ) (t : Source × Advertiser) (rest : List ℕ) → read_of (advertiser_line now t ++ rest) ≡ cons_option (h (advertiser_words now t)) (read_of rest)
  advertiser_read now t rest =
      read_line h (advertiser_pieces now t) (advertiser_words now t) (advertiser_line now t) rest
      (free_test 10 (codes "port") refl, (free_test 10 (codes " ") refl, (n10 _, (free_test 10 (codes " ") refl, (h10 _, (free_test 10 (codes " networks ") refl, (n10 _, (free_test 10 (codes " services ") refl, (n10 _, (free_test 10 (codes " heard ") refl, (n10 _, tt)))))))))))
      (refl) (advertiser_parts now t)

  abbrev networks_head_pieces : ℕ → List (List ℕ)
  networks_head_pieces count = codes "networks" ∷ codes " " ∷ decimal count ∷ []

  abbrev networks_head_words : ℕ → List (List ℕ)
  networks_head_words count = codes "networks" ∷ decimal count ∷ []

  networks_head_parts : (count : ℕ) → words_in (cat (networks_head_pieces count) []) ≡ networks_head_words count
  networks_head_parts count =
      one_word (codes "networks") (cat (decimal count ∷ []) []) (free_test 32 (codes "networks") refl)
      ∙ ap (λ l. codes "networks" ∷ l) (last_word (decimal count) (n32 _))

  pub networks_head_read : (count : ℕ) (rest : List ℕ) → read_of (head_line (codes "networks") count ++ rest) ≡ cons_option (h (networks_head_words count)) (read_of rest)
  networks_head_read count rest =
      read_line h (networks_head_pieces count) (networks_head_words count) (head_line (codes "networks") count) rest
      (free_test 10 (codes "networks") refl, (free_test 10 (codes " ") refl, (n10 _, tt)))
      (refl) (networks_head_parts count)

  abbrev services_head_pieces : ℕ → List (List ℕ)
  services_head_pieces count = codes "services" ∷ codes " " ∷ decimal count ∷ []

  abbrev services_head_words : ℕ → List (List ℕ)
  services_head_words count = codes "services" ∷ decimal count ∷ []

  services_head_parts : (count : ℕ) → words_in (cat (services_head_pieces count) []) ≡ services_head_words count
  services_head_parts count =
      one_word (codes "services") (cat (decimal count ∷ []) []) (free_test 32 (codes "services") refl)
      ∙ ap (λ l. codes "services" ∷ l) (last_word (decimal count) (n32 _))

  pub services_head_read : (count : ℕ) (rest : List ℕ) → read_of (head_line (codes "services") count ++ rest) ≡ cons_option (h (services_head_words count)) (read_of rest)
  services_head_read count rest =
      read_line h (services_head_pieces count) (services_head_words count) (head_line (codes "services") count) rest
      (free_test 10 (codes "services") refl, (free_test 10 (codes " ") refl, (n10 _, tt)))
      (refl) (services_head_parts count)

  abbrev neighbours_head_pieces : ℕ → List (List ℕ)
  neighbours_head_pieces count = codes "neighbours" ∷ codes " " ∷ decimal count ∷ []

  abbrev neighbours_head_words : ℕ → List (List ℕ)
  neighbours_head_words count = codes "neighbours" ∷ decimal count ∷ []

  neighbours_head_parts : (count : ℕ) → words_in (cat (neighbours_head_pieces count) []) ≡ neighbours_head_words count
  neighbours_head_parts count =
      one_word (codes "neighbours") (cat (decimal count ∷ []) []) (free_test 32 (codes "neighbours") refl)
      ∙ ap (λ l. codes "neighbours" ∷ l) (last_word (decimal count) (n32 _))

  pub neighbours_head_read : (count : ℕ) (rest : List ℕ) → read_of (head_line (codes "neighbours") count ++ rest) ≡ cons_option (h (neighbours_head_words count)) (read_of rest)
  neighbours_head_read count rest =
      read_line h (neighbours_head_pieces count) (neighbours_head_words count) (head_line (codes "neighbours") count) rest
      (free_test 10 (codes "neighbours") refl, (free_test 10 (codes " ") refl, (n10 _, tt)))
      (refl) (neighbours_head_parts count)
