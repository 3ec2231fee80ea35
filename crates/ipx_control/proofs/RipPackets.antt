-- The bytes of a RIP packet hold it, with any short tail after them, and hold no other.
use Rattle.std.proofs.Common.{◌≡◌, ◌≢◌, ◌≤◌, ◌<◌, ◌/◌, ℕ, ◌-◌, ◌*◌, suc, List, ◌++◌, ◌∷◌, [], length, take, drop, arith, sym, ap, ◌∙◌, refl, subst, None, inl, inr, eq-eqb}
use Rattle.std.specs.Prelude.{nat_lt, ◌==◌, ◌||◌}
use Rattle.std.specs.List.{flat_map}
use Rattle.std.proofs.lemmas.List.{drop-append-le, drop-drop, length-append, length-drop, append-nil}
use Rattle.byteorder.specs.Endian.{big_bytes}
use Rattle.byteorder.specs.Numbers.{big_number-reads_back}
use Rattle.ipx_wire.specs.FieldLaws.{FieldLaws}
use Rattle.ipx_wire.specs.Ipx.{IsBytes, IsWritten, number}
use Rattle.ipx_control.specs.declared.rip.packet.RipEntry.{RipEntry}
use Rattle.ipx_control.specs.Entries.{AreEntries}
use Rattle.ipx_control.specs.Lent.{first_entries, rip_entries_in, rip_entry_in}
use Rattle.ipx_control.specs.Rip.{IsRip, IsRipEntry, IsRipEntryInRange, IsRipInRange, RipView, Request, Response, rip_entries, rip_entry_bytes, rip_fault, rip_operation}
use Rattle.std.proofs.lemmas.Bool.{eqb-true, le-ltb, ltb-false}
use Rattle.ipx_control.specs.declared.fault.ControlFault.TheVariants.{NoOperation, TooManyEntries, UnknownOperation}
use Rattle.ipx_control.proofs.Faults.{either_true, first_true, no_fault_here, no_fault_there, second_true}
use Rattle.ipx_control.proofs.Parts.{written-front}
use Rattle.ipx_control.proofs.EntryLists.{AreEntries-append, entries_alike, entries_read, first_are, length-entries, same_entries}

-- ---- one entry

pub rip_entry_read : (e : RipEntry) (rest : List ℕ) → IsRipEntryInRange e → IsRipEntry e (rip_entry_bytes e ++ rest)
rip_entry_read e rest r = record {
  network = big_number-reads_back 4 e.network.0 (big_bytes 2 e.hops ++ (big_bytes 2 e.ticks ++ rest)) (omega (arith, r.network));
  hops = big_number-reads_back 2 e.hops (big_bytes 2 e.ticks ++ rest) (omega (arith, r.hops));
  ticks = big_number-reads_back 2 e.ticks rest (omega (arith, r.ticks));
}

rip_entry_of : ℕ → ℕ → ℕ → RipEntry
rip_entry_of network hops ticks = record { network = record { 0 = network }; hops = hops; ticks = ticks }

pub same_rip_entry : (a b : RipEntry) (bytes : List ℕ) → IsRipEntry a bytes → IsRipEntry b bytes → a ≡ b
unfolding rip_entry_of
same_rip_entry a b bytes p q =
    let network : a.network.0 ≡ b.network.0 = sym p.network ∙ q.network in
    let hops : a.hops ≡ b.hops = sym p.hops ∙ q.hops in
    let ticks : a.ticks ≡ b.ticks = sym p.ticks ∙ q.ticks in
    let one : rip_entry_of a.network.0 a.hops a.ticks ≡ rip_entry_of b.network.0 b.hops b.ticks = rw (network, hops, ticks) refl in
    one

IsRipEntry-append : FieldLaws → (e : RipEntry) (bytes tail : List ℕ) → 8 ≤ length bytes → IsRipEntry e bytes → IsRipEntry e (bytes ++ tail)
IsRipEntry-append laws e bytes tail le p = record {
  network = laws.numbers.before_any_bytes 4 0 bytes tail (omega arith) ∙ p.network;
  hops = laws.numbers.before_any_bytes 2 4 bytes tail (omega arith) ∙ p.hops;
  ticks = laws.numbers.before_any_bytes 2 6 bytes tail (omega arith) ∙ p.ticks;
}

rip_entry_alike : FieldLaws → (e : RipEntry) (xs ys : List ℕ) → IsBytes xs → IsBytes ys → 8 ≤ length xs → 8 ≤ length ys → IsRipEntry e xs → IsRipEntry e ys → drop 8 xs ≡ drop 8 ys → xs ≡ ys
rip_entry_alike laws e xs ys p q l m x y r =
    let at6 : drop 6 xs ≡ drop 6 ys = laws.numbers.two_are_one_list (drop 6 xs) (drop 6 ys) (laws.bytes.behind 6 xs p) (laws.bytes.behind 6 ys q) (omega (arith, length-drop 6 xs)) (omega (arith, length-drop 6 ys)) (x.ticks ∙ sym y.ticks) (drop-drop 2 6 xs ∙ r ∙ sym (drop-drop 2 6 ys)) in
    let at4 : drop 4 xs ≡ drop 4 ys = laws.numbers.two_are_one_list (drop 4 xs) (drop 4 ys) (laws.bytes.behind 4 xs p) (laws.bytes.behind 4 ys q) (omega (arith, length-drop 4 xs)) (omega (arith, length-drop 4 ys)) (x.hops ∙ sym y.hops) (drop-drop 2 4 xs ∙ at6 ∙ sym (drop-drop 2 4 ys)) in
    laws.numbers.four_are_one_list xs ys p q (omega arith) (omega arith) (x.network ∙ sym y.network) at4

-- ---- a packet

-- an operation is read back
operation_read : (m : RipView) (rest : List ℕ) → number 2 0 (big_bytes 2 (rip_operation m) ++ rest) ≡ rip_operation m
operation_read (Request es) rest = refl
operation_read (Response es) rest = refl

pub rip_read : (m : RipView) (tail : List ℕ) → IsRipInRange m → length tail < 8 → IsRip m ((big_bytes 2 (rip_operation m) ++ flat_map rip_entry_bytes (rip_entries m)) ++ tail) tail
rip_read m tail r short = record {
  has_operation = omega arith;
  operation = operation_read m (flat_map rip_entry_bytes (rip_entries m) ++ tail);
  entries = entries_read IsRipEntry 8 IsRipEntryInRange rip_entry_bytes (λ e _. refl) rip_entry_read (rip_entries m) tail r.entries;
  limit = r.limit;
  short_tail = short;
}

pub same_rip : (m n : RipView) (bytes s t : List ℕ) → IsRip m bytes s → IsRip n bytes t → (m ≡ n) × (s ≡ t)
same_rip (Request es) (Request fs) bytes s t x y =
    let same = same_entries IsRipEntry 8 same_rip_entry es fs (drop 2 bytes) s t x.short_tail y.short_tail x.entries y.entries in
    (ap Request same.0, same.1)
same_rip (Request es) (Response fs) bytes s t x y = absurd (omega (arith, x.operation, y.operation))
same_rip (Response es) (Request fs) bytes s t x y = absurd (omega (arith, x.operation, y.operation))
same_rip (Response es) (Response fs) bytes s t x y =
    let same = same_entries IsRipEntry 8 same_rip_entry es fs (drop 2 bytes) s t x.short_tail y.short_tail x.entries y.entries in
    (ap Response same.0, same.1)

pub rip_more : FieldLaws → (m : RipView) (bytes tail : List ℕ) → length tail < 8 → IsRip m bytes [] → IsRip m (bytes ++ tail) tail
rip_more laws m bytes tail short x = record {
  has_operation = omega (arith, x.has_operation, length-append bytes tail);
  operation = laws.numbers.before_any_bytes 2 0 bytes tail x.has_operation ∙ x.operation;
  entries = subst (λ (b : List ℕ). AreEntries IsRipEntry 8 (rip_entries m) b tail) (sym (drop-append-le 2 bytes tail x.has_operation))
      (AreEntries-append IsRipEntry 8 (IsRipEntry-append laws) (rip_entries m) (drop 2 bytes) [] tail x.entries);
  limit = x.limit;
  short_tail = short;
}

pub rip_alike : FieldLaws → (m : RipView) (xs ys tail : List ℕ) → IsBytes xs → IsBytes ys → IsRip m xs tail → IsRip m ys tail → xs ≡ ys
rip_alike laws m xs ys tail p q x y =
    let rest = entries_alike laws IsRipEntry 8 (rip_entry_alike laws) (rip_entries m) (drop 2 xs) (drop 2 ys) tail (laws.bytes.behind 2 xs p) (laws.bytes.behind 2 ys q) x.entries y.entries in
    laws.numbers.two_are_one_list xs ys p q x.has_operation y.has_operation (x.operation ∙ sym y.operation) rest

-- how many entries a packet has
pub rip_count : (m : RipView) (bytes tail : List ℕ) → IsRip m bytes tail → (length bytes - 2) / 8 ≡ length (rip_entries m)
rip_count m bytes tail x =
    omega (arith, x.short_tail, length-entries IsRipEntry 8 (rip_entries m) (drop 2 bytes) tail x.entries, length-drop 2 bytes)

-- an operation is one of two
pub rip_known : (m : RipView) (bytes tail : List ℕ) → IsRip m bytes tail → number 2 0 bytes ≢ 1 → number 2 0 bytes ≢ 2 → ⊥
rip_known (Request es) bytes tail x one two = one x.operation
rip_known (Response es) bytes tail x one two = two x.operation

-- what was read is the packet
pub rip_found : (m : RipView) (bytes tail : List ℕ) → 2 ≤ length bytes → number 2 0 bytes ≡ rip_operation m → AreEntries IsRipEntry 8 (rip_entries m) (drop 2 bytes) tail
    → length tail < 8 → (length bytes - 2) / 8 ≤ 50 → IsRip m bytes tail
rip_found m bytes tail room operation entries short few = record {
  has_operation = room;
  operation = operation;
  entries = entries;
  limit = omega (arith, few, short, length-entries IsRipEntry 8 (rip_entries m) (drop 2 bytes) tail entries, length-drop 2 bytes);
  short_tail = short;
}

-- what was written is the packet
pub rip_written : (m : RipView) (old xs : List ℕ) (k : ℕ) → IsRipInRange m → IsWritten old (big_bytes 2 (rip_operation m) ++ flat_map rip_entry_bytes (rip_entries m)) xs k → IsRip m (take k xs) []
rip_written m old xs k r was =
    let bytes = big_bytes 2 (rip_operation m) ++ flat_map rip_entry_bytes (rip_entries m) in
    subst (λ (t : List ℕ). IsRip m t []) (append-nil bytes ∙ sym (written-front old bytes xs k was)) (rip_read m [] r (omega arith))

-- ---- faults

rip_entry_in_is : (bytes : List ℕ) → IsRipEntry (rip_entry_in bytes) bytes
rip_entry_in_is bytes = record { network = refl; hops = refl; ticks = refl }

-- the entries that are read from bytes are the whole ones in them
pub rip_entries_are : (bytes : List ℕ) → (tail : List ℕ) × AreEntries IsRipEntry 8 (rip_entries_in bytes) bytes tail × (length tail < 8)
rip_entries_are bytes =
    let count = length bytes / 8 in
    (drop (count * 8) bytes, first_are rip_entry_in 8 IsRipEntry rip_entry_in_is count bytes (omega arith), omega (arith, length-drop (count * 8) bytes))

-- the first of them, and those after it
pub rip_entries_more : (e : RipEntry) (bytes : List ℕ) → 8 ≤ length bytes → IsRipEntry e bytes → rip_entries_in bytes ≡ e ∷ rip_entries_in (drop 8 bytes)
rip_entries_more e bytes fits is =
    let rest = drop 8 bytes in
    let count : length bytes / 8 ≡ suc (length rest / 8) = omega (arith, length-drop 8 bytes) in
    let first : rip_entry_in bytes ≡ e = same_rip_entry (rip_entry_in bytes) e bytes (rip_entry_in_is bytes) is in
    ap (λ (n : ℕ). first_entries rip_entry_in 8 n bytes) count ∙ ap (λ (x : RipEntry). x ∷ rip_entries_in rest) first

rip_of : (m : List RipEntry → RipView) (n : ℕ) → ((es : List RipEntry) → rip_operation (m es) ≡ n) → ((es : List RipEntry) → rip_entries (m es) ≡ es) → (bytes : List ℕ) → 2 ≤ length bytes
    → number 2 0 bytes ≡ n → (length bytes - 2) / 8 ≤ 50 → (p : RipView) × (tail : List ℕ) × IsRip p bytes tail
rip_of m n operation entries bytes room said few =
    let behind = drop 2 bytes in
    let count = (length bytes - 2) / 8 in
    let es : List RipEntry = first_entries rip_entry_in 8 count behind in
    let there = first_are rip_entry_in 8 IsRipEntry rip_entry_in_is count behind (omega (arith, length-drop 2 bytes)) in
    let tail = drop (count * 8) behind in
    let are = subst (λ (xs : List RipEntry). AreEntries IsRipEntry 8 xs behind tail) (sym (entries es)) there in
    (m es, tail, rip_found (m es) bytes tail room (said ∙ sym (operation es)) are (omega (arith, length-drop 2 bytes, length-drop (count * 8) behind)) few)

pub rip_without_fault : (bytes : List ℕ) → rip_fault bytes ≡ None → (m : RipView) × (tail : List ℕ) × IsRip m bytes tail
rip_without_fault bytes none =
    let said = number 2 0 bytes in
    let count = (length bytes - 2) / 8 in
    let tests = no_fault_here (nat_lt (length bytes) 2) ((said == 1) || (said == 2)) (nat_lt 50 count) NoOperation (TooManyEntries count) (UnknownOperation said) none in
    let room = ltb-false (length bytes) 2 tests.0 in
    let few = ltb-false 50 count tests.2 in
    elim (either_true (said == 1) (said == 2) tests.1) [
      | inl one ↦ rip_of Request 1 (λ _. refl) (λ _. refl) bytes room (eqb-true said 1 one) few
      | inr two ↦ rip_of Response 2 (λ _. refl) (λ _. refl) bytes room (eqb-true said 2 two) few
    ]

pub no_fault_of_rip : (m : RipView) (bytes tail : List ℕ) → IsRip m bytes tail → rip_fault bytes ≡ None
no_fault_of_rip (Request es) bytes tail x =
    let room = le-ltb (length bytes) 2 x.has_operation in
    let few = le-ltb 50 ((length bytes - 2) / 8) (omega (arith, x.limit, rip_count (Request es) bytes tail x)) in
    no_fault_there (nat_lt (length bytes) 2) _ _ _ _ _ room (first_true _ _ (eq-eqb (number 2 0 bytes) 1 x.operation)) few
no_fault_of_rip (Response es) bytes tail x =
    let room = le-ltb (length bytes) 2 x.has_operation in
    let few = le-ltb 50 ((length bytes - 2) / 8) (omega (arith, x.limit, rip_count (Response es) bytes tail x)) in
    no_fault_there (nat_lt (length bytes) 2) _ _ _ _ _ room (second_true _ _ (eq-eqb (number 2 0 bytes) 2 x.operation)) few
