-- The bytes of a SAP packet hold it, with any tail that may follow them, and hold no other.
use Rattle.std.proofs.Common.{◌≡◌, ◌≢◌, ◌≤◌, ◌<◌, ◌/◌, ◌^◌, ℕ, ◌-◌, ◌*◌, suc, Bool, true, false, List, ◌++◌, ◌∷◌, [], length, take, drop, arith, sym, ap, ◌∙◌, refl, subst, append_assoc, take-append-drop, ◌⊎◌, inl, inr}
use Rattle.std.specs.Prelude.{nat_lt, ◌==◌, ◌||◌, None}
use Rattle.std.specs.List.{flat_map}
use Rattle.std.proofs.lemmas.List.{drop-append-le, drop-drop, length-append, length-drop, take-append-le, take_at, drop_at, append-nil}
use Rattle.byteorder.specs.Endian.{big_bytes, big_number}
use Rattle.byteorder.specs.Numbers.{big_number-reads_back}
use Rattle.ipx_wire.specs.declared.address.Address.{Address}
use Rattle.ipx_wire.specs.FieldLaws.{FieldLaws}
use Rattle.ipx_wire.specs.Ipx.{IsAddress, IsBytes, IsWritten, address_bytes, number}
use Rattle.ipx_control.specs.declared.sap.packet.ServiceEntry.{ServiceEntry}
use Rattle.ipx_control.specs.Entries.{AreEntries}
use Rattle.ipx_control.specs.Lent.{first_entries, service_in, service_entries_in}
use Rattle.ipx_control.specs.Sap.{IsSap, IsSapQuery, IsSapResponse, IsSapInRange, IsSapTail, AreServicesInRange, IsServiceEntry, IsServiceEntryInRange, SapView, Query, Response, query_operation, response_operation, sap_fault, service_bytes}
use Rattle.std.proofs.lemmas.Bool.{eqb-true, le-ltb, ltb-false}
use Rattle.ipx_control.specs.declared.fault.ControlFault.TheVariants.{NoOperation, QueryShort, TooManyEntries, UnknownOperation}
use Rattle.ipx_control.proofs.Faults.{either_true, no_query_fault, no_response_fault, no_sap_fault_here}
use Rattle.ipx_control.proofs.Parts.{written-front}
use Rattle.ipx_control.proofs.EntryLists.{AreEntries-append, entries_alike, entries_read, first_are, length-entries, same_entries}

pub length-address : (a : Address) → length a.node.0 ≡ 6 → length (address_bytes a) ≡ 12
length-address a e = omega (arith, e, length-append a.node.0 (big_bytes 2 a.socket.0))

-- the next n elements are equal
part_alike : (n : ℕ) (xs ys : List ℕ) → take n xs ≡ take n ys → drop n xs ≡ drop n ys → xs ≡ ys
part_alike n xs ys e r =
    sym (take-append-drop n xs) ∙ ap (λ (t : List ℕ). t ++ drop n xs) e ∙ ap (λ (t : List ℕ). take n ys ++ t) r ∙ take-append-drop n ys

-- ---- one service

pub length-service : (e : ServiceEntry) → IsServiceEntryInRange e → length (service_bytes e) ≡ 64
length-service e r =
    let front = big_bytes 2 e.kind ++ e.name in
    omega (arith, r.name, length-address e.at r.at.node, length-append (front ++ address_bytes e.at) (big_bytes 2 e.hops), length-append front (address_bytes e.at))

pub service_read : FieldLaws → (e : ServiceEntry) (rest : List ℕ) → IsServiceEntryInRange e → IsServiceEntry e (service_bytes e ++ rest)
service_read laws e rest r =
    let kind = big_bytes 2 e.kind in
    let at = address_bytes e.at in
    let hops = big_bytes 2 e.hops in
    let parts : service_bytes e ++ rest ≡ kind ++ (e.name ++ (at ++ (hops ++ rest))) =
    append_assoc (kind ++ e.name ++ at) hops rest ∙ append_assoc (kind ++ e.name) at (hops ++ rest) ∙ append_assoc kind e.name (at ++ (hops ++ rest)) in
    let at_name : drop 2 (service_bytes e ++ rest) ≡ e.name ++ (at ++ (hops ++ rest)) = ap (drop 2) parts in
    let at_address : drop 50 (service_bytes e ++ rest) ≡ at ++ (hops ++ rest) = ap (drop 50) parts ∙ drop_at e.name (at ++ (hops ++ rest)) 48 r.name in
    let at_hops : drop 62 (service_bytes e ++ rest) ≡ hops ++ rest = sym (drop-drop 12 50 (service_bytes e ++ rest)) ∙ ap (drop 12) at_address ∙ drop_at at (hops ++ rest) 12 (length-address e.at r.at.node) in
    record {
      kind = ap (big_number 2) parts ∙ big_number-reads_back 2 e.kind (e.name ++ (at ++ (hops ++ rest))) (omega (arith, r.kind));
      name = ap (take 48) at_name ∙ take_at e.name (at ++ (hops ++ rest)) 48 r.name;
      at = subst (IsAddress e.at) (sym at_address) (laws.addresses.is_read e.at (hops ++ rest) r.at);
      hops = ap (big_number 2) at_hops ∙ big_number-reads_back 2 e.hops rest (omega (arith, r.hops));
    }

service_of : ℕ → List ℕ → Address → ℕ → ServiceEntry
service_of kind name at hops = record { kind = kind; name = name; at = at; hops = hops }

pub same_service : FieldLaws → (a b : ServiceEntry) (bytes : List ℕ) → IsServiceEntry a bytes → IsServiceEntry b bytes → a ≡ b
unfolding service_of
same_service laws a b bytes p q =
    let kind : a.kind ≡ b.kind = sym p.kind ∙ q.kind in
    let name : a.name ≡ b.name = sym p.name ∙ q.name in
    let at : a.at ≡ b.at = laws.addresses.is_one a.at b.at (drop 50 bytes) p.at q.at in
    let hops : a.hops ≡ b.hops = sym p.hops ∙ q.hops in
    let one : service_of a.kind a.name a.at a.hops ≡ service_of b.kind b.name b.at b.hops = rw (kind, name, at, hops) refl in
    one

IsServiceEntry-append : FieldLaws → (e : ServiceEntry) (bytes tail : List ℕ) → 64 ≤ length bytes → IsServiceEntry e bytes → IsServiceEntry e (bytes ++ tail)
IsServiceEntry-append laws e bytes tail le p = record {
  kind = laws.numbers.before_any_bytes 2 0 bytes tail (omega arith) ∙ p.kind;
  name = ap (take 48) (drop-append-le 2 bytes tail (omega arith)) ∙ take-append-le 48 (drop 2 bytes) tail (omega (arith, length-drop 2 bytes)) ∙ p.name;
  at = subst (IsAddress e.at) (sym (drop-append-le 50 bytes tail (omega arith))) (laws.addresses.before_any_bytes e.at (drop 50 bytes) tail (omega (arith, length-drop 50 bytes)) p.at);
  hops = laws.numbers.before_any_bytes 2 62 bytes tail (omega arith) ∙ p.hops;
}

service_alike : FieldLaws → (e : ServiceEntry) (xs ys : List ℕ) → IsBytes xs → IsBytes ys → 64 ≤ length xs → 64 ≤ length ys → IsServiceEntry e xs → IsServiceEntry e ys → drop 64 xs ≡ drop 64 ys → xs ≡ ys
service_alike laws e xs ys p q l m x y r =
    let at62 : drop 62 xs ≡ drop 62 ys = laws.numbers.two_are_one_list (drop 62 xs) (drop 62 ys) (laws.bytes.behind 62 xs p) (laws.bytes.behind 62 ys q) (omega (arith, length-drop 62 xs)) (omega (arith, length-drop 62 ys)) (x.hops ∙ sym y.hops) (drop-drop 2 62 xs ∙ r ∙ sym (drop-drop 2 62 ys)) in
    let at50 : drop 50 xs ≡ drop 50 ys = laws.addresses.are_one_list e.at (drop 50 xs) (drop 50 ys) (laws.bytes.behind 50 xs p) (laws.bytes.behind 50 ys q) (omega (arith, length-drop 50 xs)) (omega (arith, length-drop 50 ys)) x.at y.at (drop-drop 12 50 xs ∙ at62 ∙ sym (drop-drop 12 50 ys)) in
    let at2 : drop 2 xs ≡ drop 2 ys = part_alike 48 (drop 2 xs) (drop 2 ys) (x.name ∙ sym y.name) (drop-drop 48 2 xs ∙ at50 ∙ sym (drop-drop 48 2 ys)) in
    laws.numbers.two_are_one_list xs ys p q (omega arith) (omega arith) (x.kind ∙ sym y.kind) at2

-- ---- a packet

abbrev pub query_bytes : Bool → ℕ → List ℕ
query_bytes nearest kind = big_bytes 2 (query_operation nearest) ++ big_bytes 2 kind

abbrev pub response_bytes : Bool → List ServiceEntry → List ℕ
response_bytes nearest services = big_bytes 2 (response_operation nearest) ++ flat_map service_bytes services

pub query_read : (nearest : Bool) (kind : ℕ) (tail : List ℕ) → kind < 2 ^ 16 → IsSapQuery nearest kind (query_bytes nearest kind ++ tail) tail
query_read nearest kind tail r = record {
  has_query = omega arith;
  operation = elim nearest as (λ b. number 2 0 (big_bytes 2 (query_operation b) ++ (big_bytes 2 kind ++ tail)) ≡ query_operation b) [ true ↦ refl | false ↦ refl ];
  service = big_number-reads_back 2 kind tail (omega (arith, r));
  rest = refl;
}

pub response_read : FieldLaws → (nearest : Bool) (services : List ServiceEntry) (tail : List ℕ) → AreServicesInRange services → length tail < 64
    → IsSapResponse nearest services (response_bytes nearest services ++ tail) tail
response_read laws nearest services tail r short = record {
  has_operation = omega arith;
  operation = elim nearest as (λ b. number 2 0 (big_bytes 2 (response_operation b) ++ (flat_map service_bytes services ++ tail)) ≡ response_operation b) [ true ↦ refl | false ↦ refl ];
  entries = entries_read IsServiceEntry 64 IsServiceEntryInRange service_bytes length-service (service_read laws) services tail r.each;
  limit = r.limit;
  short_tail = short;
}

abbrev pub sap_bytes : SapView → List ℕ
sap_bytes (Query nearest kind) = query_bytes nearest kind
sap_bytes (Response nearest services) = response_bytes nearest services

pub sap_read : FieldLaws → (m : SapView) (tail : List ℕ) → IsSapInRange m → IsSapTail m tail → IsSap m (sap_bytes m ++ tail) tail
sap_read laws (Query nearest kind) tail r fits = query_read nearest kind tail r
sap_read laws (Response nearest services) tail r fits = response_read laws nearest services tail r fits

same_flag_query : (a b : Bool) → query_operation a ≡ query_operation b → a ≡ b
same_flag_query true true e = refl
same_flag_query true false e = absurd (omega (arith, e))
same_flag_query false true e = absurd (omega (arith, e))
same_flag_query false false e = refl

same_flag_response : (a b : Bool) → response_operation a ≡ response_operation b → a ≡ b
same_flag_response true true e = refl
same_flag_response true false e = absurd (omega (arith, e))
same_flag_response false true e = absurd (omega (arith, e))
same_flag_response false false e = refl

query_is_no_response : (a b : Bool) → query_operation a ≡ response_operation b → ⊥
query_is_no_response true true e = omega (arith, e)
query_is_no_response true false e = omega (arith, e)
query_is_no_response false true e = omega (arith, e)
query_is_no_response false false e = omega (arith, e)

pub same_sap : FieldLaws → (m n : SapView) (bytes s t : List ℕ) → IsSap m bytes s → IsSap n bytes t → (m ≡ n) × (s ≡ t)
same_sap laws (Query a j) (Query b k) bytes s t x y =
    let flag : a ≡ b = same_flag_query a b (sym x.operation ∙ y.operation) in
    let kind : j ≡ k = sym x.service ∙ y.service in
    (rw (flag, kind) refl, sym x.rest ∙ y.rest)
same_sap laws (Query a j) (Response b services) bytes s t x y = absurd (query_is_no_response a b (sym x.operation ∙ y.operation))
same_sap laws (Response a services) (Query b k) bytes s t x y = absurd (query_is_no_response b a (sym y.operation ∙ x.operation))
same_sap laws (Response a es) (Response b fs) bytes s t x y =
    let flag : a ≡ b = same_flag_response a b (sym x.operation ∙ y.operation) in
    let same = same_entries IsServiceEntry 64 (same_service laws) es fs (drop 2 bytes) s t x.short_tail y.short_tail x.entries y.entries in
    (rw (flag, same.0) refl, same.1)

pub sap_more : FieldLaws → (m : SapView) (bytes tail : List ℕ) → IsSapTail m tail → IsSap m bytes [] → IsSap m (bytes ++ tail) tail
sap_more laws (Query nearest kind) bytes tail fits x = record {
  has_query = omega (arith, x.has_query, length-append bytes tail);
  operation = laws.numbers.before_any_bytes 2 0 bytes tail (omega (arith, x.has_query)) ∙ x.operation;
  service = laws.numbers.before_any_bytes 2 2 bytes tail x.has_query ∙ x.service;
  rest = drop-append-le 4 bytes tail x.has_query ∙ ap (λ (t : List ℕ). t ++ tail) x.rest;
}
sap_more laws (Response nearest services) bytes tail fits x = record {
  has_operation = omega (arith, x.has_operation, length-append bytes tail);
  operation = laws.numbers.before_any_bytes 2 0 bytes tail x.has_operation ∙ x.operation;
  entries = subst (λ (b : List ℕ). AreEntries IsServiceEntry 64 services b tail) (sym (drop-append-le 2 bytes tail x.has_operation))
      (AreEntries-append IsServiceEntry 64 (IsServiceEntry-append laws) services (drop 2 bytes) [] tail x.entries);
  limit = x.limit;
  short_tail = fits;
}

pub sap_alike : FieldLaws → (m : SapView) (xs ys tail : List ℕ) → IsBytes xs → IsBytes ys → IsSap m xs tail → IsSap m ys tail → xs ≡ ys
sap_alike laws (Query nearest kind) xs ys tail p q x y =
    let at2 : drop 2 xs ≡ drop 2 ys = laws.numbers.two_are_one_list (drop 2 xs) (drop 2 ys) (laws.bytes.behind 2 xs p) (laws.bytes.behind 2 ys q) (omega (arith, x.has_query, length-drop 2 xs)) (omega (arith, y.has_query, length-drop 2 ys)) (x.service ∙ sym y.service) (drop-drop 2 2 xs ∙ x.rest ∙ sym y.rest ∙ sym (drop-drop 2 2 ys)) in
    laws.numbers.two_are_one_list xs ys p q (omega (arith, x.has_query)) (omega (arith, y.has_query)) (x.operation ∙ sym y.operation) at2
sap_alike laws (Response nearest services) xs ys tail p q x y =
    let rest = entries_alike laws IsServiceEntry 64 (service_alike laws) services (drop 2 xs) (drop 2 ys) tail (laws.bytes.behind 2 xs p) (laws.bytes.behind 2 ys q) x.entries y.entries in
    laws.numbers.two_are_one_list xs ys p q x.has_operation y.has_operation (x.operation ∙ sym y.operation) rest

-- how many services a response has
pub service_count : (nearest : Bool) (services : List ServiceEntry) (bytes tail : List ℕ) → IsSapResponse nearest services bytes tail → (length bytes - 2) / 64 ≡ length services
service_count nearest services bytes tail x =
    omega (arith, x.short_tail, length-entries IsServiceEntry 64 services (drop 2 bytes) tail x.entries, length-drop 2 bytes)

-- the operation of a response, by whether it is 4
pub response_operation_is : (n : ℕ) → (n ≡ 4) ⊎ (n ≡ 2) → n ≡ response_operation (n == 4)
response_operation_is n (inl four) = rw four refl
response_operation_is n (inr two) = rw two refl

-- bytes with the operation of a response and too many services are no packet
pub too_many_services : (m : SapView) (bytes tail : List ℕ) → IsSap m bytes tail → number 2 0 bytes ≢ 1 → number 2 0 bytes ≢ 3 → 7 < (length bytes - 2) / 64 → ⊥
too_many_services (Query true kind) bytes tail x one three many = three x.operation
too_many_services (Query false kind) bytes tail x one three many = one x.operation
too_many_services (Response nearest services) bytes tail x one three many = omega (arith, x.limit, many, service_count nearest services bytes tail x)

-- what was read is the packet
pub response_found : (nearest : Bool) (services : List ServiceEntry) (bytes tail : List ℕ) → 2 ≤ length bytes → number 2 0 bytes ≡ response_operation nearest
    → AreEntries IsServiceEntry 64 services (drop 2 bytes) tail → length tail < 64 → (length bytes - 2) / 64 ≤ 7 → IsSapResponse nearest services bytes tail
response_found nearest services bytes tail room operation entries short few = record {
  has_operation = room;
  operation = operation;
  entries = entries;
  limit = omega (arith, few, short, length-entries IsServiceEntry 64 services (drop 2 bytes) tail entries, length-drop 2 bytes);
  short_tail = short;
}

-- what was written is the packet
pub response_written : FieldLaws → (nearest : Bool) (services : List ServiceEntry) (old xs : List ℕ) (k : ℕ) → AreServicesInRange services → IsWritten old (response_bytes nearest services) xs k
    → IsSapResponse nearest services (take k xs) []
response_written laws nearest services old xs k r was =
    let bytes = response_bytes nearest services in
    subst (λ (t : List ℕ). IsSapResponse nearest services t []) (append-nil bytes ∙ sym (written-front old bytes xs k was)) (response_read laws nearest services [] r (omega arith))

-- ---- faults

service_in_is : (bytes : List ℕ) → IsServiceEntry (service_in bytes) bytes
service_in_is bytes = record { kind = refl; name = refl; at = record { network = refl; node = refl; socket = refl }; hops = refl }

-- the services that are read from bytes are the whole ones in them
pub services_are : (bytes : List ℕ) → (tail : List ℕ) × AreEntries IsServiceEntry 64 (service_entries_in bytes) bytes tail × (length tail < 64)
services_are bytes =
    let count = length bytes / 64 in
    (drop (count * 64) bytes, first_are service_in 64 IsServiceEntry service_in_is count bytes (omega arith), omega (arith, length-drop (count * 64) bytes))

-- the first of them, and those after it
pub services_more : FieldLaws → (e : ServiceEntry) (bytes : List ℕ) → 64 ≤ length bytes → IsServiceEntry e bytes → service_entries_in bytes ≡ e ∷ service_entries_in (drop 64 bytes)
services_more laws e bytes fits is =
    let rest = drop 64 bytes in
    let count : length bytes / 64 ≡ suc (length rest / 64) = omega (arith, length-drop 64 bytes) in
    let first : service_in bytes ≡ e = same_service laws (service_in bytes) e bytes (service_in_is bytes) is in
    ap (λ (n : ℕ). first_entries service_in 64 n bytes) count ∙ ap (λ (x : ServiceEntry). x ∷ service_entries_in rest) first

query_of : (nearest : Bool) (bytes : List ℕ) → 4 ≤ length bytes → number 2 0 bytes ≡ query_operation nearest → (m : SapView) × (tail : List ℕ) × IsSap m bytes tail
query_of nearest bytes room said = (Query nearest (number 2 2 bytes), drop 4 bytes, record { has_query = room; operation = said; service = refl; rest = refl })

response_of : (nearest : Bool) (bytes : List ℕ) → 2 ≤ length bytes → number 2 0 bytes ≡ response_operation nearest → (length bytes - 2) / 64 ≤ 7
    → (m : SapView) × (tail : List ℕ) × IsSap m bytes tail
response_of nearest bytes room said few =
    let behind = drop 2 bytes in
    let count = (length bytes - 2) / 64 in
    let services : List ServiceEntry = first_entries service_in 64 count behind in
    let there = first_are service_in 64 IsServiceEntry service_in_is count behind (omega (arith, length-drop 2 bytes)) in
    let tail = drop (count * 64) behind in
    (Response nearest services, tail, response_found nearest services bytes tail room said there (omega (arith, length-drop 2 bytes, length-drop (count * 64) behind)) few)

pub sap_without_fault : (bytes : List ℕ) → sap_fault bytes ≡ None → (m : SapView) × (tail : List ℕ) × IsSap m bytes tail
sap_without_fault bytes none =
    let said = number 2 0 bytes in
    let count = (length bytes - 2) / 64 in
    let tests = no_sap_fault_here (nat_lt (length bytes) 2) ((said == 1) || (said == 3)) (nat_lt (length bytes) 4) ((said == 2) || (said == 4)) (nat_lt 7 count)
    NoOperation (QueryShort (length bytes)) (TooManyEntries count) (UnknownOperation said) none in
    let room = ltb-false (length bytes) 2 tests.0 in
    elim tests.1 [
      | inl query ↦
          elim (either_true (said == 1) (said == 3) query.0) [
            | inl general ↦ query_of false bytes (ltb-false (length bytes) 4 query.1) (eqb-true said 1 general)
            | inr nearest ↦ query_of true bytes (ltb-false (length bytes) 4 query.1) (eqb-true said 3 nearest)
          ]
      | inr response ↦
          elim (either_true (said == 2) (said == 4) response.0) [
            | inl general ↦ response_of false bytes room (eqb-true said 2 general) (ltb-false 7 count response.1)
            | inr nearest ↦ response_of true bytes room (eqb-true said 4 nearest) (ltb-false 7 count response.1)
          ]
    ]

query_tests : (nearest : Bool) (n : ℕ) → n ≡ query_operation nearest → ((n == 1) || (n == 3)) ≡ true
query_tests true n e = rw e refl
query_tests false n e = rw e refl

response_tests : (nearest : Bool) (n : ℕ) → n ≡ response_operation nearest → (((n == 1) || (n == 3)) ≡ false) × (((n == 2) || (n == 4)) ≡ true)
response_tests true n e = rw e (refl, refl)
response_tests false n e = rw e (refl, refl)

pub no_fault_of_sap : (m : SapView) (bytes tail : List ℕ) → IsSap m bytes tail → sap_fault bytes ≡ None
no_fault_of_sap (Query nearest kind) bytes tail x =
    let room = le-ltb (length bytes) 2 (omega (arith, x.has_query)) in
    no_query_fault (nat_lt (length bytes) 2) _ _ _ _ _ _ _ _ room (query_tests nearest (number 2 0 bytes) x.operation) (le-ltb (length bytes) 4 x.has_query)
no_fault_of_sap (Response nearest services) bytes tail x =
    let room = le-ltb (length bytes) 2 x.has_operation in
    let few = le-ltb 7 ((length bytes - 2) / 64) (omega (arith, x.limit, service_count nearest services bytes tail x)) in
    let tests = response_tests nearest (number 2 0 bytes) x.operation in
    no_response_fault (nat_lt (length bytes) 2) _ _ _ _ _ _ _ _ room tests.0 tests.1 few
