-- The index of a log, and the machine of a log, when entries and parcels are added.
use Rattle.std.proofs.Common.{◌≡◌, ◌+◌, ◌<◌, ◌==◌, ℕ, zero, suc, cond, List, [], ◌∷◌, ◌++◌, length, Some, refl, ◌∙◌, ap, arith}
use Rattle.std.specs.Prelude.{slice_index_or}
use Rattle.spx_theory.specs.Note.{Note, Opened, Accepted, Joined, HandsIn, HandsOut, TakesUnit, AsksEnd, Got, Released, SendsUnit, SendsAgain, SendsSystem, Told, Carried, Injected}
use Rattle.spx_theory.specs.Scan.{Scan, seen, seen_all}
use Rattle.ipx_wire.specs.Connection.{sequence_in}
use Rattle.spx_theory.specs.PairLog.{Half, Pair, half_after, not_mine, posted, position_of, pair_after, pair_from, pair_between, new_half}

pub seen_all-append : (s : Scan) (xs ys : List Note) → seen_all s (xs ++ ys) ≡ seen_all (seen_all s xs) ys
seen_all-append s [] ys = refl
seen_all-append s (x ∷ xs) ys = seen_all-append (seen s x) xs ys

pub pair_from-append : (parcels : List (List ℕ)) (c d : ℕ) (p : Pair) (xs ys : List Note) → pair_from parcels c d p (xs ++ ys) ≡ pair_from parcels c d (pair_from parcels c d p xs) ys
pair_from-append parcels c d p [] ys = refl
pair_from-append parcels c d p (x ∷ xs) ys = pair_from-append parcels c d (pair_after parcels c d p x) xs ys

-- the parcel of a unit that is sent again exists
abbrev pub NoteIn : ℕ → Note → Type 0
NoteIn count (SendsAgain who parcel) = parcel < count
NoteIn count n = Unit {0}

abbrev pub AreIn : ℕ → List Note → Type 0
AreIn count [] = Unit {0}
AreIn count (n ∷ ns) = NoteIn count n × AreIn count ns

note_more : (count more : ℕ) (n : Note) → NoteIn count n → NoteIn (count + more) n
note_more count more (SendsAgain who parcel) within = omega (arith, within)
note_more count more (Opened who host buffers) within = tt
note_more count more (Accepted who parcel buffers) within = tt
note_more count more (Joined who parcel) within = tt
note_more count more (HandsIn who m) within = tt
note_more count more (HandsOut who m) within = tt
note_more count more (TakesUnit who u) within = tt
note_more count more (AsksEnd who) within = tt
note_more count more (Got who parcel) within = tt
note_more count more (Released who) within = tt
note_more count more (SendsUnit who parcel) within = tt
note_more count more (SendsSystem who parcel) within = tt
note_more count more (Told router parcel) within = tt
note_more count more (Carried from parcel) within = tt
note_more count more (Injected parcel) within = tt

pub are_more : (count more : ℕ) (ns : List Note) → AreIn count ns → AreIn (count + more) ns
are_more count more [] are = tt
are_more count more (n ∷ ns) are = (note_more count more n are.0, are_more count more ns are.1)

pub are-append : (count : ℕ) (xs ys : List Note) → AreIn count xs → AreIn count ys → AreIn count (xs ++ ys)
are-append count [] ys one two = two
are-append count (x ∷ xs) ys one two = (one.0, are-append count xs ys one.1 two)

pub index_before : {A : Type 0} (xs ys : List A) (k : ℕ) (d : A) → k < length xs → slice_index_or (xs ++ ys) k d ≡ slice_index_or xs k d
index_before [] ys k d within = absurd (omega (arith, within))
index_before (x ∷ xs) ys zero d within = refl
index_before (x ∷ xs) ys (suc k) d within = index_before xs ys k d (omega (arith, within))

-- what an entry does depends on the parcels that it names
pub half_same : (parcels more : List (List ℕ)) (c : ℕ) (x y : Half) (n : Note) → NoteIn (length parcels) n → half_after (parcels ++ more) c x y n ≡ half_after parcels c x y n
half_same parcels more c x y (SendsAgain who parcel) within =
    ap (λ bs. cond (who == c) (posted (Some (position_of x.end.sent (sequence_in bs))) x y) (not_mine x)) (index_before parcels more parcel [] within)
half_same parcels more c x y (Opened who host buffers) within = refl
half_same parcels more c x y (Accepted who parcel buffers) within = refl
half_same parcels more c x y (Joined who parcel) within = refl
half_same parcels more c x y (HandsIn who m) within = refl
half_same parcels more c x y (HandsOut who m) within = refl
half_same parcels more c x y (TakesUnit who u) within = refl
half_same parcels more c x y (AsksEnd who) within = refl
half_same parcels more c x y (Got who parcel) within = refl
half_same parcels more c x y (Released who) within = refl
half_same parcels more c x y (SendsUnit who parcel) within = refl
half_same parcels more c x y (SendsSystem who parcel) within = refl
half_same parcels more c x y (Told router parcel) within = refl
half_same parcels more c x y (Carried from parcel) within = refl
half_same parcels more c x y (Injected parcel) within = refl

pub pair_same : (parcels more : List (List ℕ)) (c d : ℕ) (p : Pair) (ns : List Note) → AreIn (length parcels) ns → pair_from (parcels ++ more) c d p ns ≡ pair_from parcels c d p ns
pair_same parcels more c d p [] are = refl
pair_same parcels more c d p (n ∷ ns) are =
    let one = half_same parcels more c p.one p.two n are.0 in
    let two = half_same parcels more d p.two p.one n are.0 in
    let q : Pair = pair_after parcels c d p n in
    let e : pair_after (parcels ++ more) c d p n ≡ q = ap (λ h. record { one = h; two = half_after (parcels ++ more) d p.two p.one n }) one ∙ ap (λ h. record { one = half_after parcels c p.one p.two n; two = h }) two in
    ap (λ r. pair_from (parcels ++ more) c d r ns) e ∙ pair_same parcels more c d q ns are.1

-- entries and parcels are added
pub pair_grows : (c d a b : ℕ) (parcels more : List (List ℕ)) (log ns : List Note) → AreIn (length parcels) log
    → pair_between c d a b (parcels ++ more) (log ++ ns) ≡ pair_from (parcels ++ more) c d (pair_between c d a b parcels log) ns
pair_grows c d a b parcels more log ns are =
    let start : Pair = record { one = new_half a; two = new_half b } in
    pair_from-append (parcels ++ more) c d start log ns ∙ ap (λ p. pair_from (parcels ++ more) c d p ns) (pair_same parcels more c d start log are)

-- only entries are added
pub pair_noted : (c d a b : ℕ) (parcels : List (List ℕ)) (log ns : List Note) → pair_between c d a b parcels (log ++ ns) ≡ pair_from parcels c d (pair_between c d a b parcels log) ns
pair_noted c d a b parcels log ns = pair_from-append parcels c d (record { one = new_half a; two = new_half b }) log ns
