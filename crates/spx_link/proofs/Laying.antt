-- How the units of a link lie in its ring: those in order first, then those ahead.
use Rattle.std.proofs.Common.{◌≡◌, ℕ, zero, suc, ◌+◌, ◌-◌, ◌≤◌, ◌<◌, List, [], ◌∷◌, ◌++◌, map, length, take, drop, replicate, set, Option, None, Some, slice_get, is_some, Bool, true, false, if◌then◌else◌, ◌||◌, Bor, refl, sym, ap, subst, ◌∙◌, arith, append_assoc, length-append, length-drop}
use Rattle.std.proofs.Math.Seq.{take-append_seam, drop-append_seam, drop-nil}
use Rattle.std.specs.Option.{option_copied}
use Rattle.std.proofs.lemmas.List.{take-append-drop, length-take-le, length-map, map-append, append-nil}
use Rattle.spx_link.specs.declared.unit.Unit.{Unit}
use Rattle.spx_link.specs.LinkView.{is_end}
use Rattle.spx_link.specs.Receive.{put, is_taken, leading, any_end}
use Rattle.spx_link.specs.Buffers.{BuffersView, IsLaid, there, unit_there, left, held_in_order}

-- ---- a ring that is laid

there_some : (us : List Unit) → there (map Some us) ≡ us
there_some [] = refl
there_some (u ∷ us) = ap (λ (vs : List Unit). u ∷ vs) (there_some us)

abbrev lies : List Unit → List (Option Unit) → List (Option Unit)
lies us xs = map Some us ++ xs

take_lies : (us : List Unit) (xs : List (Option Unit)) → take (length us) (lies us xs) ≡ map Some us
take_lies us xs = ap (λ (n : ℕ). take n (lies us xs)) (sym (length-map us Some)) ∙ take-append_seam (map Some us) xs

drop_lies : (us : List Unit) (xs : List (Option Unit)) → drop (length us) (lies us xs) ≡ xs
drop_lies us xs = ap (λ (n : ℕ). drop n (lies us xs)) (sym (length-map us Some)) ∙ drop-append_seam (map Some us) xs

length_lies : (us : List Unit) (xs : List (Option Unit)) → length (lies us xs) ≡ length us + length xs
length_lies us xs = length-append (map Some us) xs ∙ ap (λ (n : ℕ). n + length xs) (length-map us Some)

-- what a ring with so many units in order looks like
pub record Lies (items : List (Option Unit)) (count : ℕ) (us : List Unit) (xs : List (Option Unit)) : Type 0 where
  pub items_are : items ≡ lies us xs
  pub count_is : count ≡ length us

pub lies_of : (items : List (Option Unit)) (capacity count size : ℕ) → IsLaid items capacity count size → Lies items count (there (take count items)) (drop count items)
lies_of items capacity count size laid =
    let whole : take count items ++ drop count items ≡ items = take-append-drop count items in
    let units : ℕ = length (there (take count items)) in
    let many : length (take count items) ≡ units = ap length laid.first ∙ length-map (there (take count items)) Some in
    record {
      items_are = sym whole ∙ ap (λ (ys : List (Option Unit)). ys ++ drop count items) laid.first;
      count_is = sym (length-take-le count items laid.within) ∙ many;
    }

pub held_of : (items : List (Option Unit)) (count : ℕ) (us : List Unit) (xs : List (Option Unit)) → Lies items count us xs → there (take count items) ≡ us
held_of items count us xs l =
    ap (λ (n : ℕ). there (take n items)) l.count_is ∙ ap (λ (ys : List (Option Unit)). there (take (length us) ys)) l.items_are ∙ ap there (take_lies us xs) ∙ there_some us

pub ahead_of : (items : List (Option Unit)) (count : ℕ) (us : List Unit) (xs : List (Option Unit)) → Lies items count us xs → drop count items ≡ xs
ahead_of items count us xs l =
    ap (λ (n : ℕ). drop n items) l.count_is ∙ ap (drop (length us)) l.items_are ∙ drop_lies us xs

abbrev pub seen : List (Option Unit) → ℕ → ℕ → BuffersView
seen items count size = record { held = there (take count items); ahead = drop count items; size = size }

abbrev with_held : List (Option Unit) → ℕ → List Unit → BuffersView
with_held ahead size held = record { held = held; ahead = ahead; size = size }

abbrev with_ahead : List Unit → ℕ → List (Option Unit) → BuffersView
with_ahead held size ahead = record { held = held; ahead = ahead; size = size }

pub seen_of : (items : List (Option Unit)) (count size : ℕ) (us : List Unit) (xs : List (Option Unit)) → Lies items count us xs → seen items count size ≡ record { held = us; ahead = xs; size = size }
seen_of items count size us xs l =
    ap (with_held (drop count items) size) (held_of items count us xs l) ∙ ap (with_ahead us size) (ahead_of items count us xs l)

pub laid_of : (items : List (Option Unit)) (capacity count size : ℕ) (us : List Unit) (xs : List (Option Unit)) → Lies items count us xs → capacity ≡ size → length us + length xs ≤ size → IsLaid items capacity count size
laid_of items capacity count size us xs l same within =
    let many : length items ≡ length us + length xs = ap length l.items_are ∙ length_lies us xs in
    let counted : count ≡ length us = l.count_is in
    record {
      sized = same;
      fits = omega arith;
      within = omega arith;
      first = ap (λ (n : ℕ). take n items) l.count_is ∙ ap (take (length us)) l.items_are ∙ take_lies us xs ∙ ap (map Some) (sym (held_of items count us xs l));
    }

-- how many there are of both
pub lengths_of : (items : List (Option Unit)) (capacity count size : ℕ) → IsLaid items capacity count size → length (there (take count items)) + length (drop count items) ≤ size
lengths_of items capacity count size laid =
    let l = lies_of items capacity count size laid in
    let many : length items ≡ length (there (take count items)) + length (drop count items) = ap length l.items_are ∙ length_lies (there (take count items)) (drop count items) in
    omega (arith, laid.fits)

-- ---- a unit is put

put_lies : (us : List Unit) (xs : List (Option Unit)) (k : ℕ) (u : Unit) → put (k + length us) u (lies us xs) ≡ lies us (put k u xs)
put_lies [] xs k u = ap (λ (n : ℕ). put n u xs) (omega arith)
put_lies (v ∷ us) xs k u =
    let next : k + length (v ∷ us) ≡ suc (k + length us) = omega arith in
    ap (λ (n : ℕ). put n u (lies (v ∷ us) xs)) next ∙ ap (λ (ys : List (Option Unit)). Some v ∷ ys) (put_lies us xs k u)

put_length : (k : ℕ) (u : Unit) (xs : List (Option Unit)) (n : ℕ) → k < n → length xs ≤ n → length (put k u xs) ≤ n
put_length zero u [] n less fits = omega arith
put_length zero u (x ∷ xs) n less fits = omega arith
put_length (suc k) u [] zero less fits = absurd (omega arith)
put_length (suc k) u [] (suc n) less fits =
    let more : length (put k u []) ≤ n = put_length k u [] n (omega arith) (omega arith) in
    omega arith
put_length (suc k) u (x ∷ xs) zero less fits = absurd (omega arith)
put_length (suc k) u (x ∷ xs) (suc n) less fits =
    let more : length (put k u xs) ≤ n = put_length k u xs n (omega arith) (omega arith) in
    omega arith

-- the ring after it
pub put_keeps : (items after : List (Option Unit)) (capacity count size place k : ℕ) (u : Unit) → IsLaid items capacity count size → after ≡ put place u items → place ≡ count + k → k < size - length (there (take count items)) → Lies after count (there (take count items)) (put k u (drop count items))
put_keeps items after capacity count size place k u laid is at less =
    let l = lies_of items capacity count size laid in
    let us : List Unit = there (take count items) in
    let xs : List (Option Unit) = drop count items in
    let counted : count ≡ length us = l.count_is in
    let here : place ≡ k + length us = omega arith in
    record {
      items_are = is ∙ ap (λ (n : ℕ). put n u items) here ∙ ap (put (k + length us) u) l.items_are ∙ put_lies us xs k u;
      count_is = l.count_is;
    }

pub put_fits : (items : List (Option Unit)) (capacity count size k : ℕ) (u : Unit) → IsLaid items capacity count size → k < size - length (there (take count items)) → length (there (take count items)) + length (put k u (drop count items)) ≤ size
put_fits items capacity count size k u laid less =
    let us : List Unit = there (take count items) in
    let xs : List (Option Unit) = drop count items in
    let both : length us + length xs ≤ size = lengths_of items capacity count size laid in
    let more : length (put k u xs) ≤ size - length us = put_length k u xs (size - length us) less (omega arith) in
    omega arith

-- a write at a place, with gaps up to it
pub put_written : (k : ℕ) (u : Unit) (xs : List (Option Unit)) → set (xs ++ replicate (k + 1 - length xs) None) k (Some u) ≡ put k u xs
put_written zero u [] = refl
put_written zero u (x ∷ xs) =
    let none : zero + 1 - length (x ∷ xs) ≡ 0 = omega arith in
    let tail : xs ++ replicate (zero + 1 - length (x ∷ xs)) None ≡ xs = ap (λ (n : ℕ). xs ++ replicate n None) none ∙ append-nil xs in
    ap (λ (ys : List (Option Unit)). Some u ∷ ys) tail
put_written (suc k) u [] =
    let more : suc k + 1 - length {A = Option Unit} [] ≡ suc (k + 1) = omega arith in
    let same : k + 1 - length {A = Option Unit} [] ≡ k + 1 = omega arith in
    ap (λ (n : ℕ). set (replicate n None) (suc k) (Some u)) more ∙ ap (λ (ys : List (Option Unit)). None ∷ ys) (ap (λ (n : ℕ). set (replicate n None) k (Some u)) (sym same) ∙ put_written k u [])
put_written (suc k) u (x ∷ xs) =
    let fewer : suc k + 1 - length (x ∷ xs) ≡ k + 1 - length xs = omega arith in
    ap (λ (n : ℕ). set ((x ∷ xs) ++ replicate n None) (suc k) (Some u)) fewer ∙ ap (λ (ys : List (Option Unit)). x ∷ ys) (put_written k u xs)

-- ---- a place is read

pub taken_read : (k : ℕ) (xs : List (Option Unit)) → is_taken k xs ≡ is_some (unit_there (slice_get xs k))
taken_read zero [] = refl
taken_read (suc k) [] = refl
taken_read zero (None ∷ xs) = refl
taken_read zero (Some u ∷ xs) = refl
taken_read (suc k) (x ∷ xs) = taken_read k xs

taken_lies : (us : List Unit) (xs : List (Option Unit)) (k : ℕ) → is_taken (k + length us) (lies us xs) ≡ is_taken k xs
taken_lies [] xs k = ap (λ (n : ℕ). is_taken n xs) (omega arith)
taken_lies (v ∷ us) xs k =
    let next : k + length (v ∷ us) ≡ suc (k + length us) = omega arith in
    ap (λ (n : ℕ). is_taken n (lies (v ∷ us) xs)) next ∙ taken_lies us xs k

pub taken_there : (items : List (Option Unit)) (capacity count size place k : ℕ) → IsLaid items capacity count size → place ≡ count + k → is_some (unit_there (slice_get items place)) ≡ is_taken k (drop count items)
taken_there items capacity count size place k laid at =
    let l = lies_of items capacity count size laid in
    let us : List Unit = there (take count items) in
    let xs : List (Option Unit) = drop count items in
    let counted : count ≡ length us = l.count_is in
    let here : place ≡ k + length us = omega arith in
    sym (taken_read place items) ∙ ap (λ (n : ℕ). is_taken n items) here ∙ ap (is_taken (k + length us)) l.items_are ∙ taken_lies us xs k

-- the place is a gap, or is not there
pub none_there : (xs : List (Option Unit)) (k : ℕ) → unit_there (slice_get xs k) ≡ None → leading (drop k xs) ≡ []
none_there [] k none = ap leading (drop-nil {A = Option Unit} k)
none_there (None ∷ xs) zero none = refl
none_there (Some u ∷ xs) zero some = cc
none_there (x ∷ xs) (suc k) none = none_there xs k none

-- the place has a unit
pub one_there : (xs : List (Option Unit)) (k : ℕ) (u : Unit) → unit_there (slice_get xs k) ≡ Some u → drop k xs ≡ Some u ∷ drop (k + 1) xs
one_there [] k u some = cc
one_there (x ∷ xs) zero u some = ap (λ (y : Option Unit). y ∷ xs) some
one_there (x ∷ xs) (suc k) u some =
    let next : suc k + 1 ≡ suc (k + 1) = omega arith in
    one_there xs k u some ∙ ap (λ (n : ℕ). Some u ∷ drop n (x ∷ xs)) (sym next)

leading_step : (u : Unit) (us : List Unit) (ends : Bool) → ends ≡ false → u ∷ (if ends then [] else us) ≡ u ∷ us
leading_step u us true e = cc
leading_step u us false e = refl

leading_stop : (u : Unit) (us : List Unit) (ends : Bool) → ends ≡ true → u ∷ (if ends then [] else us) ≡ u ∷ []
leading_stop u us true e = refl
leading_stop u us false e = cc

-- a unit that goes on, and one that ends
pub goes_on : (xs : List (Option Unit)) (k : ℕ) (u : Unit) → unit_there (slice_get xs k) ≡ Some u → is_end u ≡ false → leading (drop k xs) ≡ u ∷ leading (drop (k + 1) xs)
goes_on xs k u some goes = ap leading (one_there xs k u some) ∙ leading_step u (leading (drop (k + 1) xs)) (is_end u) goes

pub stops : (xs : List (Option Unit)) (k : ℕ) (u : Unit) → unit_there (slice_get xs k) ≡ Some u → is_end u ≡ true → leading (drop k xs) ≡ u ∷ []
stops xs k u some ends = ap leading (one_there xs k u some) ∙ leading_stop u (leading (drop (k + 1) xs)) (is_end u) ends

pub ended_goes : (u : Unit) (us : List Unit) → is_end u ≡ false → any_end (u ∷ us) ≡ any_end us
ended_goes u us goes = ap (λ (b : Bool). b || any_end us) goes

pub ended_stops : (u : Unit) → is_end u ≡ true → any_end (u ∷ []) ≡ true
ended_stops u ends = ap (λ (b : Bool). b || false) ends

-- ---- units that stand in order are held

leading_more : (u : Unit) (xs : List (Option Unit)) (ends : Bool) → take (length (leading xs)) xs ≡ map Some (leading xs) → take (length (u ∷ (if ends then [] else leading xs))) (Some u ∷ xs) ≡ map Some (u ∷ (if ends then [] else leading xs))
leading_more u xs true same = refl
leading_more u xs false same = ap (λ (ys : List (Option Unit)). Some u ∷ ys) same

pub leading_first : (xs : List (Option Unit)) → take (length (leading xs)) xs ≡ map Some (leading xs)
leading_first [] = refl
leading_first (None ∷ xs) = refl
leading_first (Some u ∷ xs) = leading_more u xs (is_end u) (leading_first xs)

leading_less : (u : Unit) (xs : List (Option Unit)) (ends : Bool) → length (leading xs) ≤ length xs → length (u ∷ (if ends then [] else leading xs)) ≤ length (Some u ∷ xs)
leading_less u xs true fewer = omega arith
leading_less u xs false fewer = omega arith

pub leading_within : (xs : List (Option Unit)) → length (leading xs) ≤ length xs
leading_within [] = omega arith
leading_within (None ∷ xs) = omega arith
leading_within (Some u ∷ xs) = leading_less u xs (is_end u) (leading_within xs)

-- those ahead are the units that stand in order, and the rest
leading_rest : (xs : List (Option Unit)) → xs ≡ lies (leading xs) (drop (length (leading xs)) xs)
leading_rest xs = sym (take-append-drop (length (leading xs)) xs) ∙ ap (λ (ys : List (Option Unit)). ys ++ drop (length (leading xs)) xs) (leading_first xs)

lies_more : (us vs : List Unit) (xs : List (Option Unit)) → lies us (lies vs xs) ≡ lies (us ++ vs) xs
lies_more us vs xs = sym (append_assoc (map Some us) (map Some vs) xs) ∙ ap (λ (ys : List (Option Unit)). ys ++ xs) (sym (map-append Some us vs))

pub settle_lies : (items : List (Option Unit)) (capacity count size more : ℕ) → IsLaid items capacity count size → more ≡ length (leading (drop count items)) → Lies items (count + more) (there (take count items) ++ leading (drop count items)) (drop (length (leading (drop count items))) (drop count items))
settle_lies items capacity count size more laid is =
    let l = lies_of items capacity count size laid in
    let us : List Unit = there (take count items) in
    let xs : List (Option Unit) = drop count items in
    let vs : List Unit = leading xs in
    let counted : count ≡ length us = l.count_is in
    let both : length (us ++ vs) ≡ length us + length vs = length-append us vs in
    record {
      items_are = l.items_are ∙ ap (lies us) (leading_rest xs) ∙ lies_more us vs (drop (length vs) xs);
      count_is = omega arith;
    }

-- those that are held now and those that stay ahead are all that was kept
pub leading_joins : (us : List Unit) (xs : List (Option Unit)) → lies (us ++ leading xs) (drop (length (leading xs)) xs) ≡ lies us xs
leading_joins us xs = sym (lies_more us (leading xs) (drop (length (leading xs)) xs)) ∙ ap (lies us) (sym (leading_rest xs))

pub after_held : (us : List Unit) (xs : List (Option Unit)) (k : ℕ) → slice_get (lies us xs) (length us + k) ≡ slice_get xs k
after_held [] xs k = ap (λ (n : ℕ). slice_get xs n) (omega arith)
after_held (u ∷ us) xs k =
    let next : length (u ∷ us) + k ≡ suc (length us + k) = omega arith in
    ap (λ (n : ℕ). slice_get (lies (u ∷ us) xs) n) next ∙ after_held us xs k

pub put_read : (k : ℕ) (u : Unit) (xs : List (Option Unit)) → slice_get (put k u xs) k ≡ Some (Some u)
put_read zero u [] = refl
put_read zero u (x ∷ xs) = refl
put_read (suc k) u [] = put_read k u []
put_read (suc k) u (x ∷ xs) = put_read k u xs

-- the ring is cut behind them
pub cut_lies : (items after : List (Option Unit)) (count : ℕ) (us : List Unit) (xs : List (Option Unit)) → Lies items count us xs → after ≡ take count items → Lies after count us []
cut_lies items after count us xs l is =
    record {
      items_are = is ∙ ap (λ (n : ℕ). take n items) l.count_is ∙ ap (take (length us)) l.items_are ∙ take_lies us xs ∙ sym (append-nil (map Some us));
      count_is = l.count_is;
    }

-- ---- what the calls leave

-- a ring that is laid, and what is seen of it
pub record Becomes (items : List (Option Unit)) (capacity count size : ℕ) (b : BuffersView) : Type 0 where
  pub laid : IsLaid items capacity count size
  pub is : seen items count size ≡ b

pub put_becomes : (items after : List (Option Unit)) (capacity same count size place k : ℕ) (u : Unit) (b : BuffersView) → IsLaid items capacity count size → seen items count size ≡ b → after ≡ put place u items → same ≡ capacity → place ≡ count + k → k < left b → Becomes after same count size (record b { ahead = put k u b.ahead })
put_becomes items after capacity same count size place k u b laid view is cap at less =
    let P : BuffersView → Type 0 = λ v. k < left v → Becomes after same count size (record v { ahead = put k u v.ahead }) in
    subst P view (λ fits.
    let l = put_keeps items after capacity count size place k u laid is at fits in
    let us : List Unit = there (take count items) in
    let xs : List (Option Unit) = put k u (drop count items) in
    record {
      laid = laid_of after same count size us xs l (cap ∙ laid.sized) (put_fits items capacity count size k u laid fits);
      is = seen_of after count size us xs l;
    }) less

-- the first unit goes
first_gone : (items after : List (Option Unit)) (count : ℕ) (us : List Unit) (xs : List (Option Unit)) → Lies items count us xs → after ≡ drop 1 items → (count ≡ 0 → ⊥) → Lies after (count - 1) (drop 1 us) xs
first_gone items after count [] xs l is some = absurd (some l.count_is)
first_gone items after count (u ∷ us) xs l is some =
    let counted : count ≡ suc (length us) = l.count_is in
    record { items_are = is ∙ ap (drop 1) l.items_are; count_is = omega arith }

pub take_becomes : (items after : List (Option Unit)) (capacity same count size : ℕ) (b : BuffersView) → IsLaid items capacity count size → seen items count size ≡ b → after ≡ drop 1 items → same ≡ capacity → (count ≡ 0 → ⊥) → Becomes after same (count - 1) size (record b { held = drop 1 b.held })
take_becomes items after capacity same count size b laid view is cap some =
    let P : BuffersView → Type 0 = λ v. Becomes after same (count - 1) size (record v { held = drop 1 v.held }) in
    let us : List Unit = there (take count items) in
    let xs : List (Option Unit) = drop count items in
    let l = first_gone items after count us xs (lies_of items capacity count size laid) is some in
    let both : length us + length xs ≤ size = lengths_of items capacity count size laid in
    let fewer : length (drop 1 us) ≡ length us - 1 = length-drop 1 us in
    subst P view (record {
      laid = laid_of after same (count - 1) size (drop 1 us) xs l (cap ∙ laid.sized) (omega arith);
      is = seen_of after (count - 1) size (drop 1 us) xs l;
    })

if_open : (xs : List (Option Unit)) (ends : Bool) → ends ≡ false → xs ≡ (if ends then [] else xs)
if_open xs true e = cc
if_open xs false e = refl

if_cut : (xs : List (Option Unit)) (ends : Bool) → ends ≡ true → [] ≡ (if ends then [] else xs)
if_cut xs true e = refl
if_cut xs false e = cc

-- so many units became held, and no end
pub open_becomes : (items : List (Option Unit)) (capacity count size more : ℕ) (b : BuffersView) → IsLaid items capacity count size → seen items count size ≡ b → more ≡ length (leading (drop count items)) → any_end (leading (drop count items)) ≡ false → Becomes items capacity (count + more) size (held_in_order b)
open_becomes items capacity count size more b laid view is goes =
    let P : BuffersView → Type 0 = λ v. Becomes items capacity (count + more) size (held_in_order v) in
    let us : List Unit = there (take count items) in
    let xs : List (Option Unit) = drop count items in
    let vs : List Unit = leading xs in
    let l = settle_lies items capacity count size more laid is in
    let both : length us + length xs ≤ size = lengths_of items capacity count size laid in
    let first : length vs ≤ length xs = leading_within xs in
    let all : length (us ++ vs) ≡ length us + length vs = length-append us vs in
    let rest : length (drop (length vs) xs) ≡ length xs - length vs = length-drop (length vs) xs in
    subst P view (record {
      laid = laid_of items capacity (count + more) size (us ++ vs) (drop (length vs) xs) l laid.sized (omega arith);
      is = seen_of items (count + more) size (us ++ vs) (drop (length vs) xs) l ∙ ap (with_ahead (us ++ vs) size) (if_open (drop (length vs) xs) (any_end vs) goes);
    })

-- so many units became held, the last of them an end
pub cut_becomes : (items after : List (Option Unit)) (capacity same count size more : ℕ) (b : BuffersView) → IsLaid items capacity count size → seen items count size ≡ b → more ≡ length (leading (drop count items)) → any_end (leading (drop count items)) ≡ true → after ≡ take (count + more) items → same ≡ capacity → Becomes after same (count + more) size (held_in_order b)
cut_becomes items after capacity same count size more b laid view is ends cut cap =
    let P : BuffersView → Type 0 = λ v. Becomes after same (count + more) size (held_in_order v) in
    let us : List Unit = there (take count items) in
    let xs : List (Option Unit) = drop count items in
    let vs : List Unit = leading xs in
    let l = cut_lies items after (count + more) (us ++ vs) (drop (length vs) xs) (settle_lies items capacity count size more laid is) cut in
    let both : length us + length xs ≤ size = lengths_of items capacity count size laid in
    let first : length vs ≤ length xs = leading_within xs in
    let all : length (us ++ vs) ≡ length us + length vs = length-append us vs in
    subst P view (record {
      laid = laid_of after same (count + more) size (us ++ vs) [] l (cap ∙ laid.sized) (omega arith);
      is = seen_of after (count + more) size (us ++ vs) [] l ∙ ap (with_ahead (us ++ vs) size) (if_cut (drop (length vs) xs) (any_end vs) ends);
    })

-- how many become held still fits
pub settle_fits : (items : List (Option Unit)) (capacity count size more : ℕ) → IsLaid items capacity count size → more ≡ length (leading (drop count items)) → count + more ≤ size
settle_fits items capacity count size more laid is =
    let l = lies_of items capacity count size laid in
    let us : List Unit = there (take count items) in
    let xs : List (Option Unit) = drop count items in
    let counted : count ≡ length us = l.count_is in
    let both : length us + length xs ≤ size = lengths_of items capacity count size laid in
    let first : length (leading xs) ≤ length xs = leading_within xs in
    omega arith

pub some_copied : {X : Type 0} (r : Option (Bor X)) (x : Option X) → option_copied r ≡ x → is_some r ≡ is_some x
some_copied None x e = ap is_some e
some_copied (Some b) x e = ap is_some e
