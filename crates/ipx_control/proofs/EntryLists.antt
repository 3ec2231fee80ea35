-- Entries one after another: their size, one more of them, and that bytes hold one list of them.
use Rattle.std.proofs.Common.{◌≡◌, ◌≤◌, ◌<◌, ℕ, ◌+◌, ◌*◌, List, ◌++◌, ◌∷◌, [], length, drop, arith, sym, ap, ◌∙◌, refl, append_assoc, subst, zero, suc, take, get_or, ◌-◌}
use Rattle.std.specs.Prelude.{All}
use Rattle.std.specs.List.{flat_map}
use Rattle.std.proofs.lemmas.List.{drop-append-le, length-drop, length-append, drop-drop, drop_at, flat_map_more, take_more}
use Rattle.std.proofs.lemmas.List.Elements.{All-push}
use Rattle.ipx_wire.specs.FieldLaws.{FieldLaws}
use Rattle.ipx_wire.specs.Ipx.{IsBytes, IsWritten}
use Rattle.ipx_control.specs.Entries.{AreEntries}
use Rattle.ipx_control.specs.Lent.{first_entries}
use Rattle.ipx_control.proofs.Parts.{write-rest}
use borrow.Rule.Slice.PartMut.{put_mid}

All-head : {E : Type 0} (P : E → Type 0) (e : E) (es : List E) → All P (e ∷ es) → P e
All-head P e es all = all 0 e (omega arith)

All-tail : {E : Type 0} (P : E → Type 0) (e : E) (es : List E) → All P (e ∷ es) → All P es
All-tail P e es all = λ k d lt. all (suc k) d (omega arith)

pub length-entries : {E : Type 0} (IsEntry : E → List ℕ → Type 0) (size : ℕ) (es : List E) (bytes tail : List ℕ) → AreEntries IsEntry size es bytes tail
    → length bytes ≡ length es * size + length tail
length-entries IsEntry size [] bytes tail are = omega (arith, ap length are)
length-entries IsEntry size (e ∷ es) bytes tail are =
    omega (arith, length-entries IsEntry size es (drop size bytes) tail are.2, are.0, length-drop size bytes)

-- bytes are at most one list of entries and one tail, if the tail is shorter than an entry
pub same_entries : {E : Type 0} (IsEntry : E → List ℕ → Type 0) (size : ℕ) → ((a b : E) (bytes : List ℕ) → IsEntry a bytes → IsEntry b bytes → a ≡ b)
    → (es fs : List E) (bytes s t : List ℕ) → length s < size → length t < size → AreEntries IsEntry size es bytes s → AreEntries IsEntry size fs bytes t
    → (es ≡ fs) × (s ≡ t)
same_entries IsEntry size same [] [] bytes s t short_s short_t x y = (refl, sym x ∙ y)
same_entries IsEntry size same [] (f ∷ fs) bytes s t short_s short_t x y = absurd (omega (arith, ap length x, y.0))
same_entries IsEntry size same (e ∷ es) [] bytes s t short_s short_t x y = absurd (omega (arith, ap length y, x.0))
same_entries IsEntry size same (e ∷ es) (f ∷ fs) bytes s t short_s short_t x y =
    let first = same e f bytes x.1 y.1 in
    let rest = same_entries IsEntry size same es fs (drop size bytes) s t short_s short_t x.2 y.2 in
    (rw (first, rest.0) refl, rest.1)

-- one more entry, if the tail begins with it
pub AreEntries-push : {E : Type 0} (IsEntry : E → List ℕ → Type 0) (size : ℕ) (es : List E) (e : E) (bytes tail : List ℕ) → AreEntries IsEntry size es bytes tail
    → size ≤ length tail → IsEntry e tail → AreEntries IsEntry size (es ++ e ∷ []) bytes (drop size tail)
AreEntries-push IsEntry size [] e bytes tail are fits is =
    (subst (λ (b : List ℕ). size ≤ length b) (sym are) fits, subst (IsEntry e) (sym are) is, ap (drop size) are)
AreEntries-push IsEntry size (x ∷ xs) e bytes tail are fits is =
    (are.0, are.1, AreEntries-push IsEntry size xs e (drop size bytes) tail are.2 fits is)

-- more bytes after entries are more of the tail
pub AreEntries-append : {E : Type 0} (IsEntry : E → List ℕ → Type 0) (size : ℕ) → ((e : E) (bytes tail : List ℕ) → size ≤ length bytes → IsEntry e bytes → IsEntry e (bytes ++ tail))
    → (es : List E) (bytes s tail : List ℕ) → AreEntries IsEntry size es bytes s → AreEntries IsEntry size es (bytes ++ tail) (s ++ tail)
AreEntries-append IsEntry size more [] bytes s tail are = ap (λ (b : List ℕ). b ++ tail) are
AreEntries-append IsEntry size more (e ∷ es) bytes s tail are =
    let rest = AreEntries-append IsEntry size more es (drop size bytes) s tail are.2 in (
      omega (arith, are.0, length-append bytes tail),
      more e bytes tail are.0 are.1,
      subst (λ (b : List ℕ). AreEntries IsEntry size es b (s ++ tail)) (sym (drop-append-le size bytes tail are.0)) rest,
    )

-- the bytes of entries hold them, whatever follows
pub entries_read : {E : Type 0} (IsEntry : E → List ℕ → Type 0) (size : ℕ) (InRange : E → Type 0) (spelled : E → List ℕ) → ((e : E) → InRange e → length (spelled e) ≡ size)
    → ((e : E) (rest : List ℕ) → InRange e → IsEntry e (spelled e ++ rest)) → (es : List E) (tail : List ℕ) → All InRange es
    → AreEntries IsEntry size es (flat_map spelled es ++ tail) tail
entries_read IsEntry size InRange spelled len read [] tail r = refl
entries_read IsEntry size InRange spelled len read (e ∷ es) tail r =
    let rest = flat_map spelled es ++ tail in
    let next = entries_read IsEntry size InRange spelled len read es tail (All-tail InRange e es r) in
    let fits : size ≤ length (spelled e ++ rest) = omega (arith, len e (All-head InRange e es r), length-append (spelled e) rest) in
    let are : AreEntries IsEntry size (e ∷ es) (spelled e ++ rest) tail = (
      fits,
      read e rest (All-head InRange e es r),
      subst (λ (b : List ℕ). AreEntries IsEntry size es b tail) (sym (drop_at (spelled e) rest size (len e (All-head InRange e es r)))) next,
    ) in
    subst (λ (b : List ℕ). AreEntries IsEntry size (e ∷ es) b tail) (sym (append_assoc (spelled e) (flat_map spelled es) tail)) are

-- how many bytes entries take
pub length-spelled : {E : Type 0} (size : ℕ) (InRange : E → Type 0) (spelled : E → List ℕ) → ((e : E) → InRange e → length (spelled e) ≡ size)
    → (es : List E) → All InRange es → length (flat_map spelled es) ≡ length es * size
length-spelled size InRange spelled len [] r = omega arith
length-spelled size InRange spelled len (e ∷ es) r =
    omega (arith, length-spelled size InRange spelled len es (All-tail InRange e es r), len e (All-head InRange e es r), length-append (spelled e) (flat_map spelled es))

-- entries and their tail determine the bytes
pub entries_alike : FieldLaws → {E : Type 0} (IsEntry : E → List ℕ → Type 0) (size : ℕ)
    → ((e : E) (xs ys : List ℕ) → IsBytes xs → IsBytes ys → size ≤ length xs → size ≤ length ys → IsEntry e xs → IsEntry e ys → drop size xs ≡ drop size ys → xs ≡ ys)
    → (es : List E) (xs ys tail : List ℕ) → IsBytes xs → IsBytes ys → AreEntries IsEntry size es xs tail → AreEntries IsEntry size es ys tail → xs ≡ ys
entries_alike laws IsEntry size alike [] xs ys tail p q x y = x ∙ sym y
entries_alike laws IsEntry size alike (e ∷ es) xs ys tail p q x y =
    alike e xs ys p q x.0 y.0 x.1 y.1
    (entries_alike laws IsEntry size alike es (drop size xs) (drop size ys) tail (laws.bytes.behind size xs p) (laws.bytes.behind size ys q) x.2 y.2)

-- one more entry, written after the others
pub written_more : {E : Type 0} (spelled : E → List ℕ) (size : ℕ) (es : List E) (i : ℕ) (d : E) (old xs ys : List ℕ) → i < length es → length (spelled (get_or es i d)) ≡ size
    → IsWritten old (flat_map spelled (take i es)) xs (size * i) → ys ≡ spelled (get_or es i d) ++ drop size (take (length xs - size * i) (drop (size * i) xs))
    → IsWritten old (flat_map spelled (take (i + 1) es)) (put_mid (size * i) (length xs - size * i) xs ys) (size * (i + 1))
written_more spelled size es i d old xs ys lt len was e =
    let grown = write-rest old (flat_map spelled (take i es)) (spelled (get_or es i d)) xs ys (size * i) size was len e in
    let more : flat_map spelled (take i es) ++ spelled (get_or es i d) ≡ flat_map spelled (take (i + 1) es) =
    flat_map_more spelled [] (take i es) (get_or es i d) ∙ ap (flat_map spelled) (sym (take_more es i d lt)) in
    let place : size * i + size ≡ size * (i + 1) = omega arith in
    let ys_in : List ℕ = put_mid (size * i) (length xs - size * i) xs ys in
    subst (λ (t : List ℕ). IsWritten old t ys_in (size * (i + 1))) more
    (subst (λ (n : ℕ). IsWritten old (flat_map spelled (take i es) ++ spelled (get_or es i d)) ys_in n) place grown)

-- what holds of those before and of one more
pub All-take_more : {E : Type 0} (P : E → Type 0) (es : List E) (i : ℕ) (d : E) → i < length es → All P (take i es) → P (get_or es i d) → All P (take (i + 1) es)
All-take_more P es i d lt all one =
    subst (All P) (sym (take_more es i d lt)) (All-push P (take i es) (get_or es i d) all one)

module _ {E : Type 0} (entry_in : List ℕ → E) (size : ℕ) where
  -- bytes with space for n entries are the n that are read from them, followed by the rest
  pub first_are : (IsEntry : E → List ℕ → Type 0) → ((bytes : List ℕ) → IsEntry (entry_in bytes) bytes)
      → (n : ℕ) (bytes : List ℕ) → n * size ≤ length bytes → AreEntries IsEntry size (first_entries entry_in size n bytes) bytes (drop (n * size) bytes)
  first_are IsEntry is zero bytes fits =
      let none : zero * size ≡ 0 = omega arith in
      ap (λ (k : ℕ). drop k bytes) (sym none)
  first_are IsEntry is (suc n) bytes fits =
      let rest = first_are IsEntry is n (drop size bytes) (omega (arith, length-drop size bytes)) in
      let behind : drop (n * size) (drop size bytes) ≡ drop (suc n * size) bytes = drop-drop (n * size) size bytes ∙ ap (λ (k : ℕ). drop k bytes) (omega arith) in
      (omega arith, is bytes, subst (λ (t : List ℕ). AreEntries IsEntry size (first_entries entry_in size n (drop size bytes)) (drop size bytes) t) behind rest)

  pub length-first : (n : ℕ) (bytes : List ℕ) → length (first_entries entry_in size n bytes) ≡ n
  length-first zero bytes = refl
  length-first (suc n) bytes = ap suc (length-first n (drop size bytes))
