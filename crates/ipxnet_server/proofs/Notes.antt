-- Few notes are of one IP address, and registrations from one keep those of the others.
use Rattle.std.proofs.Common.{◌≡◌, ◌≤◌, ◌<◌, ◌+◌, ◌-◌, ℕ, List, [], ◌∷◌, ◌++◌, Bool, true, false, Option, Some, None, length, drop, filter, find, not, cond, arith, refl, sym, ap, ◌∙◌, ltb-true}
use Rattle.std.specs.Prelude.{All, ◌&&◌, ◌==◌, nat_le, nat_lt, if◌then◌else◌}
use Rattle.std.specs.Net.Addr.{ipv4_octets}
use Rattle.std.specs.Net.Socket.{v4_ip, v4_port}
use Rattle.std.specs.Str.{bytes_eq}
use Rattle.std.proofs.lemmas.Bool.{and_parts, leb-false, leb-true}
use Rattle.std.proofs.lemmas.List.{append-nil, length-append, length-drop}
use Rattle.std.proofs.lemmas.List.Elements.{All-head, All-tail, filter-append}
use Rattle.std.proofs.lemmas.List.Filters.{length-filter_both}
use Rattle.std.proofs.lemmas.Slice.Eq.{bytes_eq-Decides}
use Rattle.std.specs.declared.net.socket_addr.SocketAddrV4.{SocketAddrV4}
use Rattle.ipxnet_server.specs.declared.ask_times.NoteCause.TheVariants.{Registration, Restart}
use Rattle.ipxnet_server.specs.declared.noted.Noted.{Noted}
use Rattle.ipxnet_server.specs.NotedPlaces.{AreFewNotesOfEachIp, RegistrationsKeepOtherNotes, all_noted, has_note_room, is_note_of_ip, is_noted, is_noted_at, max_address_noted, max_noted, note_that_goes, noted_again, noted_but, noted_with, noted_without, notes_of_ip, notes_of_other_ips, places_noted}
use Rattle.ipxnet_server.specs.ServerInside.{AreNoted}
use Rattle.ipxnet_server.proofs.Once.{counted, fewer, fewer_behind, fewer_both, found_passes, none_counted, same_place, some_is}

-- ---- one of an IP address goes

gone_by : (p : Noted → Bool) (x : Noted) (test : Noted → Bool) (xs : List Noted) (b : Bool) → p x ≡ false → length (filter p (filter test xs)) + 1 ≤ length (filter p xs) → length (filter p (cond b (x ∷ filter test xs) (filter test xs))) + 1 ≤ length (filter p xs)
gone_by p x test xs true isnt le =
    omega (arith, le, ap (λ (b : Bool). length (cond b (x ∷ filter p (filter test xs)) (filter p (filter test xs)))) isnt)
gone_by p x test xs false isnt le = omega (arith, le)

gone_if : (p : Noted → Bool) (x n : Noted) (xs : List Noted) (b : Bool) → p x ≡ b → (find p xs ≡ Some n → length (filter p (noted_without n.place xs)) + 1 ≤ length (filter p xs)) → cond b (Some x) (find p xs) ≡ Some n
    → length (filter p (noted_without n.place (x ∷ xs))) + 1 ≤ length (cond b (x ∷ filter p xs) (filter p xs))
gone_if p x n xs true is rest found =
    let test = λ (k : Noted). not (is_noted_at n.place k) in
    let here : is_noted_at n.place x ≡ true = ap (λ (k : Noted). is_noted_at k.place x) (sym (some_is x n found)) ∙ same_place x.place in
    let same : length (filter p (filter test (x ∷ xs))) ≡ length (filter p (filter test xs)) = ap (λ (b : Bool). length (filter p (cond (not b) (x ∷ filter test xs) (filter test xs)))) here in
    omega (arith, same, fewer_both p test xs)
gone_if p x n xs false is rest found = gone_by p x (λ k. not (is_noted_at n.place k)) xs (not (is_noted_at n.place x)) is (rest found)

gone_fewer : (p : Noted → Bool) (n : Noted) (xs : List Noted) → find p xs ≡ Some n → length (filter p (noted_without n.place xs)) + 1 ≤ length (filter p xs)
gone_fewer p n [] found = cc
gone_fewer p n (x ∷ xs) found = gone_if p x n xs (p x) refl (gone_fewer p n xs) found

found_goes : (place : SocketAddrV4) (noted : List Noted) (o : Option Noted) → find (is_note_of_ip place) noted ≡ o → max_address_noted ≤ length (notes_of_ip place noted) → length (notes_of_ip place noted) ≤ max_address_noted
    → length (notes_of_ip place (noted_but o noted)) + 1 ≤ max_address_noted
found_goes place noted None is many few = absurd (omega (arith, many, none_counted (is_note_of_ip place) noted is))
found_goes place noted (Some n) is many few = omega (arith, few, gone_fewer (is_note_of_ip place) n noted is)

goes_by : (place : SocketAddrV4) (noted : List Noted) (b : Bool) → nat_le max_address_noted (length (notes_of_ip place noted)) ≡ b → length (notes_of_ip place noted) ≤ max_address_noted
    → length (notes_of_ip place (noted_but (if b then find (is_note_of_ip place) noted else None) noted)) + 1 ≤ max_address_noted
goes_by place noted true is few = found_goes place noted (find (is_note_of_ip place) noted) refl (leb-true max_address_noted (length (notes_of_ip place noted)) is) few
goes_by place noted false is few = omega (arith, leb-false max_address_noted (length (notes_of_ip place noted)) is)

room_made : (place : SocketAddrV4) (noted : List Noted) → AreFewNotesOfEachIp noted → length (notes_of_ip place (noted_but (note_that_goes place noted) noted)) + 1 ≤ max_address_noted
room_made place noted each =
    goes_by place noted (nat_le max_address_noted (length (notes_of_ip place noted))) refl (each place)

but_fewer : (p : Noted → Bool) (o : Option Noted) (noted : List Noted) → length (filter p (noted_but o noted)) ≤ length (filter p noted)
but_fewer p None noted = omega arith
but_fewer p (Some n) noted = fewer_both p (λ k. not (is_noted_at n.place k)) noted

but_short : (o : Option Noted) (noted : List Noted) → length (noted_but o noted) ≤ length noted
but_short None noted = omega arith
but_short (Some n) noted = fewer (λ k. not (is_noted_at n.place k)) noted

-- ---- few are of each IP address

-- an address has one more, if the new note has it
each_by : (place q : SocketAddrV4) (d : Noted) (kept : List Noted) (b : Bool) → bytes_eq (ipv4_octets (v4_ip place)) (ipv4_octets (v4_ip q)) ≡ b → length (notes_of_ip place kept) + 1 ≤ max_address_noted → length (notes_of_ip q kept) ≤ max_address_noted
    → length (notes_of_ip q kept) + length (cond b (d ∷ []) []) ≤ max_address_noted
each_by place q d kept true is few all =
    let same : ipv4_octets (v4_ip place) ≡ ipv4_octets (v4_ip q) = (bytes_eq-Decides (ipv4_octets (v4_ip place)) (ipv4_octets (v4_ip q))).0 is in
    let one : length (notes_of_ip place kept) ≡ length (notes_of_ip q kept) = ap (λ (ip : List ℕ). length (filter (λ (k : Noted). bytes_eq (ipv4_octets (v4_ip k.place)) ip) kept)) same in
    omega (arith, one, few)
each_by place q d kept false is few all = omega (arith, all)

pub few_left : (p : Noted → Bool) (room : ℕ) (noted : List Noted) → AreNoted noted room → AreNoted (filter p noted) room
few_left p room noted are = record {
  within = omega (arith, are.within, fewer p noted);
  each = λ q. omega (arith, are.each q, fewer_both (is_note_of_ip q) p noted);
  all = are.all;
}

each_with : (now : ℕ) (place : SocketAddrV4) (noted : List Noted) → AreFewNotesOfEachIp noted → AreFewNotesOfEachIp (noted_with place now noted)
each_with now place noted each q =
    let goes : Option Noted = note_that_goes place noted in
    let kept : List Noted = noted_but goes noted in
    let d : Noted = record { place = place; since = now; cause = Registration } in
    let n = length kept + 1 - max_noted in
    let p = is_note_of_ip q in
    let all : length (notes_of_ip q kept) ≤ max_address_noted = omega (arith, each q, but_fewer p goes noted) in
    let more = each_by place q d kept (bytes_eq (ipv4_octets (v4_ip place)) (ipv4_octets (v4_ip q))) refl (room_made place noted each) all in
    omega (arith, counted p (drop n kept) d, fewer_behind p n kept, more)

pub few_with : (room now : ℕ) (place : SocketAddrV4) (noted : List Noted) → AreNoted noted room → AreNoted (noted_with place now noted) room
few_with room now place noted are =
    let goes : Option Noted = note_that_goes place noted in
    let kept : List Noted = noted_but goes noted in
    let d : Noted = record { place = place; since = now; cause = Registration } in
    let n = length kept + 1 - max_noted in
    let within : length noted ≤ max_noted = are.within in
    let few : length kept ≤ length noted = but_short goes noted in
    record {
      within = omega (arith, within, few, length-append (drop n kept) (d ∷ []), length-drop n kept);
      each = each_with now place noted are.each;
      all = are.all;
    }

pub few_again : (room now : ℕ) (place : SocketAddrV4) (noted : List Noted) → AreNoted noted room → has_note_room place noted ≡ true → AreNoted (noted_again place now noted) room
few_again room now place noted are has =
    let d : Noted = record { place = place; since = now; cause = Restart (length noted) } in
    let both = and_parts (nat_lt (length noted) max_noted) (nat_lt (length (notes_of_ip place noted)) max_address_noted) has in
    let within : length noted < max_noted = ltb-true (length noted) max_noted both.0 in
    let few : length (notes_of_ip place noted) < max_address_noted = ltb-true (length (notes_of_ip place noted)) max_address_noted both.1 in
    record {
      within = omega (arith, within, length-append noted (d ∷ []));
      each = λ q.
          let more = each_by place q d noted (bytes_eq (ipv4_octets (v4_ip place)) (ipv4_octets (v4_ip q))) refl (omega (arith, few)) (are.each q) in
          omega (arith, counted (is_note_of_ip q) noted d, more);
      all = are.all;
    }

each_if : (b : Bool) (now : ℕ) (place : SocketAddrV4) (noted : List Noted) → AreFewNotesOfEachIp noted → AreFewNotesOfEachIp (if b then noted else noted_with place now noted)
each_if true now place noted each = each
each_if false now place noted each = each_with now place noted each

-- ---- the notes of other IP addresses stay

abbrev is_other : SocketAddrV4 → Noted → Bool
is_other place n = not (is_note_of_ip place n)

-- no other is at a place of that IP address
apart_by : (a b : Bool) → (a ≡ false → b ≡ false) → not a ≡ true → not b ≡ true
apart_by true b so e = cc
apart_by false b so e = ap not (so refl)

not_there : (q : SocketAddrV4) (x : Noted) → is_note_of_ip q x ≡ false → is_noted_at q x ≡ false
not_there q x isnt = ap (λ (b : Bool). b && (v4_port x.place == v4_port q)) isnt

of_same : (place q : SocketAddrV4) (x : Noted) → bytes_eq (ipv4_octets (v4_ip q)) (ipv4_octets (v4_ip place)) ≡ true → is_note_of_ip q x ≡ is_note_of_ip place x
of_same place q x same =
    ap (bytes_eq (ipv4_octets (v4_ip x.place))) ((bytes_eq-Decides (ipv4_octets (v4_ip q)) (ipv4_octets (v4_ip place))).0 same)

stays_there : (place q : SocketAddrV4) (x : Noted) → bytes_eq (ipv4_octets (v4_ip q)) (ipv4_octets (v4_ip place)) ≡ true → is_other place x ≡ true → not (is_noted_at q x) ≡ true
stays_there place q x same other =
    apart_by (is_note_of_ip q x) (is_noted_at q x) (not_there q x) (ap not (of_same place q x same) ∙ other)

kept_by : (p : Noted → Bool) (x : Noted) (ks : List Noted) (a b : Bool) → p x ≡ a → (a ≡ true → b ≡ true) → filter p (cond b (x ∷ ks) ks) ≡ cond a (x ∷ filter p ks) (filter p ks)
kept_by p x ks true true is so = ap (λ (a : Bool). cond a (x ∷ filter p ks) (filter p ks)) is
kept_by p x ks true false is so = cc (so refl)
kept_by p x ks false true is so = ap (λ (a : Bool). cond a (x ∷ filter p ks) (filter p ks)) is
kept_by p x ks false false is so = refl

all_kept : (p test : Noted → Bool) (xs : List Noted) → ((x : Noted) → p x ≡ true → test x ≡ true) → filter p (filter test xs) ≡ filter p xs
all_kept p test [] so = refl
all_kept p test (x ∷ xs) so =
    kept_by p x (filter test xs) (p x) (test x) refl (so x) ∙ ap (λ (ks : List Noted). cond (p x) (x ∷ ks) ks) (all_kept p test xs so)

without_keeps : (place q : SocketAddrV4) (xs : List Noted) → bytes_eq (ipv4_octets (v4_ip q)) (ipv4_octets (v4_ip place)) ≡ true → notes_of_other_ips place (noted_without q xs) ≡ notes_of_other_ips place xs
without_keeps place q xs same = all_kept (is_other place) (λ k. not (is_noted_at q k)) xs (λ x other. stays_there place q x same other)

but_keeps : (place : SocketAddrV4) (xs : List Noted) (o : Option Noted) → find (is_note_of_ip place) xs ≡ o → notes_of_other_ips place (noted_but o xs) ≡ notes_of_other_ips place xs
but_keeps place xs None is = refl
but_keeps place xs (Some n) is = without_keeps place n.place xs (found_passes (is_note_of_ip place) xs n is)

goes_keeps : (place : SocketAddrV4) (xs : List Noted) (b : Bool) → notes_of_other_ips place (noted_but (if b then find (is_note_of_ip place) xs else None) xs) ≡ notes_of_other_ips place xs
goes_keeps place xs true = but_keeps place xs (find (is_note_of_ip place) xs) refl
goes_keeps place xs false = refl

same_ip : (place : SocketAddrV4) → bytes_eq (ipv4_octets (v4_ip place)) (ipv4_octets (v4_ip place)) ≡ true
same_ip place = (bytes_eq-Decides (ipv4_octets (v4_ip place)) (ipv4_octets (v4_ip place))).1 refl

with_keeps : (place : SocketAddrV4) (now : ℕ) (noted : List Noted) → AreFewNotesOfEachIp noted → length (notes_of_other_ips place noted) + max_address_noted ≤ max_noted
    → notes_of_other_ips place (noted_with place now noted) ≡ notes_of_other_ips place noted
with_keeps place now noted each few =
    let kept : List Noted = noted_but (note_that_goes place noted) noted in
    let d : Noted = record { place = place; since = now; cause = Registration } in
    let p = is_other place in
    let same : filter p kept ≡ filter p noted = goes_keeps place noted (nat_le max_address_noted (length (notes_of_ip place noted))) in
    let size = length-filter_both (is_note_of_ip place) p (λ x. refl) kept in
    let none : length kept + 1 - max_noted ≡ 0 = omega (arith, size, room_made place noted each, ap length same, few) in
    let last : filter p (d ∷ []) ≡ [] = ap (λ (b : Bool). cond (not b) (d ∷ []) []) (same_ip place) in
    ap (λ (n : ℕ). filter p (drop n kept ++ d ∷ [])) none ∙ filter-append p kept (d ∷ []) ∙ ap (λ (l : List Noted). filter p kept ++ l) last ∙ append-nil (filter p kept) ∙ same

if_keeps : (b : Bool) (place : SocketAddrV4) (now : ℕ) (noted : List Noted) → AreFewNotesOfEachIp noted → length (notes_of_other_ips place noted) + max_address_noted ≤ max_noted
    → notes_of_other_ips place (if b then noted else noted_with place now noted) ≡ notes_of_other_ips place noted
if_keeps true place now noted each few = refl
if_keeps false place now noted each few = with_keeps place now noted each few

-- ---- one registration after another

same_others : (place q : SocketAddrV4) (xs : List Noted) → bytes_eq (ipv4_octets (v4_ip q)) (ipv4_octets (v4_ip place)) ≡ true → notes_of_other_ips q xs ≡ notes_of_other_ips place xs
same_others place q xs same =
    ap (λ (ip : List ℕ). filter (λ (k : Noted). not (bytes_eq (ipv4_octets (v4_ip k.place)) ip)) xs) ((bytes_eq-Decides (ipv4_octets (v4_ip q)) (ipv4_octets (v4_ip place))).0 same)

one_keeps : (place q : SocketAddrV4) (now : ℕ) (noted : List Noted) → bytes_eq (ipv4_octets (v4_ip q)) (ipv4_octets (v4_ip place)) ≡ true → AreFewNotesOfEachIp noted → length (notes_of_other_ips place noted) + max_address_noted ≤ max_noted
    → notes_of_other_ips place (places_noted q now noted) ≡ notes_of_other_ips place noted
one_keeps place q now noted same each few =
    let others = same_others place q noted same in
    sym (same_others place q (places_noted q now noted) same) ∙ if_keeps (is_noted q noted) q now noted each (omega (arith, few, ap length others)) ∙ others

all_keep : (place : SocketAddrV4) (registrations noted : List Noted) → All (λ r. is_note_of_ip place r ≡ true) registrations → AreFewNotesOfEachIp noted → length (notes_of_other_ips place noted) + max_address_noted ≤ max_noted
    → notes_of_other_ips place (all_noted registrations noted) ≡ notes_of_other_ips place noted
all_keep place [] noted are each few = refl
all_keep place (r ∷ rest) noted are each few =
    let P = λ (k : Noted). is_note_of_ip place k ≡ true in
    let one = one_keeps place r.place r.since noted (All-head P r rest are) each few in
    let next : List Noted = places_noted r.place r.since noted in
    all_keep place rest next (All-tail P r rest are) (each_if (is_noted r.place noted) r.since r.place noted each) (omega (arith, few, ap length one)) ∙ one

pub others_stay : RegistrationsKeepOtherNotes
others_stay place registrations noted are each few = all_keep place registrations noted are each few
