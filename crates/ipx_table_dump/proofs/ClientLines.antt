-- The text of clients: what is read of it again, and how long it is.
use Rattle.std.proofs.Common.{◌≡◌, ◌≤◌, ◌<◌, ◌+◌, ◌*◌, ◌^◌, ℕ, zero, suc, List, ◌++◌, [], ◌∷◌, Option, Some, None, Ok, length, map, take, get_or, sym, ap, subst, ◌∙◌, refl, arith}
use Rattle.std.specs.Prelude.{All, codes, slice_index}
use Rattle.std.specs.Fmt.{decimal}
use Rattle.std.specs.Int.{w32, to_be_bytes}
use Rattle.std.specs.List.{flat_map}
use Rattle.std.specs.Net.Addr.{ipv4_octets}
use Rattle.std.specs.Net.Socket.{v4_ip, v4_port, IsSocketAddrV4}
use Rattle.std.specs.Net.Text.{dotted_text, ipv4_text, socket_v4_text}
use Rattle.std.specs.Option.{option_map}
use Rattle.std.specs.Result.{result_ok}
use Rattle.std.specs.declared.net.socket_addr.SocketAddrV4.{SocketAddrV4}
use Rattle.std.proofs.lemmas.Fmt.{length-decimal-le}
use Rattle.std.proofs.lemmas.List.{append-nil, append_assoc, length-append, length-map, take_more}
use Rattle.std.proofs.lemmas.List.Elements.{All-head, All-tail}
use Rattle.byteorder.specs.Endian.{big_number}
use Rattle.byteorder.specs.Numbers.{big_number-reads_back}
use Rattle.hex.specs.Hex.{decode_sized, encode_lower, lower_digits}
use Rattle.hex.proofs.HexLemmas.{decode_sized-encode_lower, length-encode_with}
use Rattle.ipx_wire.specs.AddressText.{spelled_network}
use Rattle.ipx_wire.specs.declared.address.Network.{Network}
use Rattle.ipx_table_dump.specs.declared.client_places.ClientPlace.{ClientPlace}
use Rattle.ipx_table_dump.specs.declared.client_words.ClientWords.{ClientWords}
use Rattle.ipx_table_dump.specs.ClientsText.{ClientsTextsAreShort, IsClientPlace, IsClientsText, client_in_words, client_line, client_spelled, client_words_in, clients_spelled, clients_text}
use Rattle.ipx_table_dump.specs.TableRead.{words_in}
use Rattle.ipx_table_dump.specs.TableText.{head_line, network_word}
use Rattle.ipx_table_dump.proofs.Clean.{IsFree, free_append}
use Rattle.ipx_table_dump.proofs.LineWords.{free_test, h10, h32, n10, n32}
use Rattle.ipx_table_dump.proofs.Parted.{cat, last_word, one_word, read_line}

-- ---- an address has neither byte at which words and lines are parted

module _ (c : ℕ) (each : (n : ℕ) → IsFree c (decimal n)) (dot : IsFree c (codes ".")) (colon : IsFree c (codes ":")) where
  free_dotted : (p q r s : ℕ) → IsFree c (dotted_text p q r s)
  free_dotted p q r s =
      let one = free_append c (decimal p) (codes ".") (each p) dot in
      let two = free_append c (decimal p ++ codes ".") (decimal q) one (each q) in
      let three = free_append c (decimal p ++ codes "." ++ decimal q) (codes ".") two dot in
      let four = free_append c (decimal p ++ codes "." ++ decimal q ++ codes ".") (decimal r) three (each r) in
      let five = free_append c (decimal p ++ codes "." ++ decimal q ++ codes "." ++ decimal r) (codes ".") four dot in
      free_append c (decimal p ++ codes "." ++ decimal q ++ codes "." ++ decimal r ++ codes ".") (decimal s) five (each s)

  free_place : (a : SocketAddrV4) → IsFree c (socket_v4_text a)
  free_place a =
      let ip = ipv4_text (ipv4_octets (v4_ip a)) in
      let front = free_append c ip (codes ":") (free_dotted _ _ _ _) colon in
      free_append c (ip ++ codes ":") (decimal (v4_port a)) front (each (v4_port a))

p10 : (a : SocketAddrV4) → IsFree 10 (socket_v4_text a)
p10 = free_place 10 n10 (free_test 10 (codes ".") refl) (free_test 10 (codes ":") refl)

p32 : (a : SocketAddrV4) → IsFree 32 (socket_v4_text a)
p32 = free_place 32 n32 (free_test 32 (codes ".") refl) (free_test 32 (codes ":") refl)

-- ---- one line

abbrev client_pieces : ClientPlace → List (List ℕ)
client_pieces c = codes "client" ∷ codes " " ∷ network_word c.network ∷ codes " " ∷ socket_v4_text c.place ∷ []

abbrev client_parts : ClientPlace → List (List ℕ)
client_parts c = codes "client" ∷ network_word c.network ∷ socket_v4_text c.place ∷ []

parted : (c : ClientPlace) → words_in (cat (client_pieces c) []) ≡ client_parts c
parted c =
    one_word (codes "client") (cat (network_word c.network ∷ codes " " ∷ socket_v4_text c.place ∷ []) []) (free_test 32 (codes "client") refl)
    ∙ ap (λ l. codes "client" ∷ l) (one_word (network_word c.network) (cat (socket_v4_text c.place ∷ []) []) (h32 _)
    ∙ ap (λ l. network_word c.network ∷ l) (last_word (socket_v4_text c.place) (p32 c.place)))

client_read : (c : ClientPlace) (rest : List ℕ) → clients_spelled (client_line c ++ rest) ≡ client_in_words c ∷ clients_spelled rest
client_read c rest =
    read_line client_words_in (client_pieces c) (client_parts c) (client_line c) rest
    (free_test 10 (codes "client") refl, (free_test 10 (codes " ") refl, (h10 _, (free_test 10 (codes " ") refl, (p10 c.place, tt)))))
    refl (parted c)

abbrev end_pieces : ℕ → List (List ℕ)
end_pieces count = codes "end" ∷ codes " " ∷ decimal count ∷ []

abbrev end_parts : ℕ → List (List ℕ)
end_parts count = codes "end" ∷ decimal count ∷ []

end_parted : (count : ℕ) → words_in (cat (end_pieces count) []) ≡ end_parts count
end_parted count =
    one_word (codes "end") (cat (decimal count ∷ []) []) (free_test 32 (codes "end") refl)
    ∙ ap (λ l. codes "end" ∷ l) (last_word (decimal count) (n32 _))

end_read : (count : ℕ) (rest : List ℕ) → clients_spelled (head_line (codes "end") count ++ rest) ≡ clients_spelled rest
end_read count rest =
    read_line client_words_in (end_pieces count) (end_parts count) (head_line (codes "end") count) rest
    (free_test 10 (codes "end") refl, (free_test 10 (codes " ") refl, (n10 _, tt)))
    refl (end_parted count)

-- ---- all lines

lines_back : (count : ℕ) (cs : List ClientPlace) → clients_spelled (flat_map client_line cs ++ head_line (codes "end") count) ≡ map client_in_words cs
lines_back count [] = ap clients_spelled (sym (append-nil (head_line (codes "end") count))) ∙ end_read count []
lines_back count (c ∷ cs) =
    ap clients_spelled (append_assoc (client_line c) (flat_map client_line cs) (head_line (codes "end") count))
    ∙ client_read c (flat_map client_line cs ++ head_line (codes "end") count)
    ∙ ap (λ r. client_in_words c ∷ r) (lines_back count cs)

pub spelled_back : (cs : List ClientPlace) → clients_spelled (clients_text cs) ≡ map client_in_words cs
spelled_back cs = lines_back (length cs) cs

-- ---- a network is read again

bytes_small : (n i : ℕ) → get_or (to_be_bytes w32 n) i 0 < 256
bytes_small n zero = omega arith
bytes_small n (suc zero) = omega arith
bytes_small n (suc (suc zero)) = omega arith
bytes_small n (suc (suc (suc zero))) = omega arith
bytes_small n (suc (suc (suc (suc i)))) = omega arith

pub network_back : (n : Network) → n.0 < 2 ^ 32 → spelled_network (network_word n) ≡ Some n
network_back n fits =
    let bytes = to_be_bytes w32 n.0 in
    let decoded : decode_sized (encode_lower bytes) 4 ≡ Ok bytes = decode_sized-encode_lower bytes 4 refl (bytes_small n.0) in
    let same : big_number 4 bytes ≡ n.0 = ap (big_number 4) (sym (append-nil bytes)) ∙ big_number-reads_back 4 n.0 [] (omega (arith, fits)) in
    ap (λ r. option_map (λ b. record { 0 = big_number 4 b }) (result_ok r)) decoded ∙ ap (λ (x : ℕ). Some (record { 0 = x })) same

-- ---- one more of a list

-- of two lists that say the same, each element has its own at the same index
pub one_more : {A B Y : Type 0} (f : A → Y) (g : B → Y) (xs : List A) (ys : List B) (i : ℕ) (d : A) → i < length xs → map f xs ≡ map g ys
    → (y : B) × (f (get_or xs i d) ≡ g y) × (i < length ys) × ((e : B) → get_or ys i e ≡ y)
one_more f g [] ys i d lt same = absurd (omega (arith, lt))
one_more f g (x ∷ xs) [] i d lt same = absurd (let no : ⊥ = cc in no)
one_more f g (x ∷ xs) (y ∷ ys) zero d lt same = (y, (let e : f x ≡ g y = cc in e), omega arith, λ e. refl)
one_more f g (x ∷ xs) (y ∷ ys) (suc i) d lt same =
    let rest : map f xs ≡ map g ys = cc in
    let next = one_more f g xs ys i d (omega (arith, lt)) rest in
    (next.0, next.1, omega (arith, next.2), next.3)

-- what was found is pushed, and something is
pub found_more : (words : List ClientWords) (i : ℕ) (d : ClientWords) (items new : List ClientPlace) (found : ClientPlace) (o : Option ClientPlace) → i < length words
    → ((c : ClientPlace) → IsClientPlace c → client_spelled (get_or words i d) ≡ client_in_words c → o ≡ Some c) → o ≡ Some found → new ≡ items ++ found ∷ []
    → ((cs : List ClientPlace) → All IsClientPlace cs → map client_spelled words ≡ map client_in_words cs → items ≡ take i cs)
    → (cs : List ClientPlace) → All IsClientPlace cs → map client_spelled words ≡ map client_in_words cs → new ≡ take (i + 1) cs
found_more words i d items new found o lt told is pushed before cs each same =
    let m = one_more client_spelled client_in_words words cs i d lt same in
    let fits : IsClientPlace m.0 = subst IsClientPlace (m.3 m.0) (each i m.0 m.2) in
    let one : o ≡ Some m.0 = told m.0 fits m.1 in
    let it : found ≡ m.0 = cc in
    pushed ∙ ap (λ (l : List ClientPlace). l ++ found ∷ []) (before cs each same) ∙ ap (λ (c : ClientPlace). take i cs ++ c ∷ []) (it ∙ sym (m.3 m.0)) ∙ sym (take_more cs i m.0 m.2)

pub found_none : (words : List ClientWords) (i : ℕ) (d : ClientWords) (items : List ClientPlace) (o : Option ClientPlace) → i < length words
    → ((c : ClientPlace) → IsClientPlace c → client_spelled (get_or words i d) ≡ client_in_words c → o ≡ Some c) → o ≡ None
    → (cs : List ClientPlace) → All IsClientPlace cs → map client_spelled words ≡ map client_in_words cs → items ≡ take (i + 1) cs
found_none words i d items o lt told none cs each same =
    let m = one_more client_spelled client_in_words words cs i d lt same in
    let fits : IsClientPlace m.0 = subst IsClientPlace (m.3 m.0) (each i m.0 m.2) in
    let one : o ≡ Some m.0 = told m.0 fits m.1 in
    absurd (let no : ⊥ = cc in no)

pub text_back : (cs clients : List ClientPlace) (text : List ℕ) → All IsClientPlace cs → IsClientsText cs text
    → ((cs : List ClientPlace) → All IsClientPlace cs → clients_spelled text ≡ map client_in_words cs → clients ≡ cs) → clients ≡ cs
text_back cs clients text each is told = told cs each (ap clients_spelled is.spelled ∙ spelled_back cs)

pub same_length : {A B Y : Type 0} (f : A → Y) (g : B → Y) (xs : List A) (ys : List B) → map f xs ≡ map g ys → length xs ≡ length ys
same_length f g xs ys same = sym (length-map xs f) ∙ ap length same ∙ length-map ys g

-- ---- how long it is

short_dotted : (p q r s : ℕ) → p < 256 → q < 256 → r < 256 → s < 256 → length (dotted_text p q r s) ≤ 15
short_dotted p q r s a b c d =
    let one = length-decimal-le 3 p (omega arith) (omega (arith, a)) (omega (arith, a)) in
    let two = length-decimal-le 3 q (omega arith) (omega (arith, b)) (omega (arith, b)) in
    let three = length-decimal-le 3 r (omega arith) (omega (arith, c)) (omega (arith, c)) in
    let four = length-decimal-le 3 s (omega arith) (omega (arith, d)) (omega (arith, d)) in
    simp length-append (omega (arith, one, two, three, four))

short_place : (a : SocketAddrV4) → IsSocketAddrV4 a → length (socket_v4_text a) ≤ 21
short_place a fits =
    let o = ipv4_octets (v4_ip a) in
    let ip = short_dotted (slice_index o 0) (slice_index o 1) (slice_index o 2) (slice_index o 3) (fits.0.1 0) (fits.0.1 1) (fits.0.1 2) (fits.0.1 3) in
    let port = length-decimal-le 5 (v4_port a) (omega arith) (omega (arith, fits.1)) (omega (arith, fits.1)) in
    omega (arith, length-append (ipv4_text o ++ codes ":") (decimal (v4_port a)), length-append (ipv4_text o) (codes ":"), ip, port)

short_line : (c : ClientPlace) → IsClientPlace c → length (client_line c) ≤ 38
short_line c fits =
    let place = socket_v4_text c.place in
    omega (arith, length-append (network_word c.network) (codes " " ++ (place ++ codes "\n")), length-append place (codes "\n"), length-encode_with lower_digits (to_be_bytes w32 c.network.0), short_place c.place fits.1)

short_lines : (cs : List ClientPlace) → All IsClientPlace cs → length (flat_map client_line cs) ≤ 38 * length cs
short_lines [] each = omega arith
short_lines (c ∷ cs) each =
    let one = short_line c (All-head IsClientPlace c cs each) in
    let rest = short_lines cs (All-tail IsClientPlace c cs each) in
    omega (arith, length-append (client_line c) (flat_map client_line cs), one, rest)

pub short_texts : ClientsTextsAreShort
short_texts cs text each is =
    let n = length cs in
    let number = length-decimal-le 4 n (omega arith) (omega (arith, is.few)) (omega (arith, is.few)) in
    omega (arith, ap length is.spelled, length-append (flat_map client_line cs) (head_line (codes "end") n), short_lines cs each, length-append (decimal n) (codes "\n"), number, is.few)
