-- Gaps in front of a place of a ring.
use Rattle.std.proofs.Common.{Result, Ok, Err, IsOk, OnOk, ◌≡◌, ℕ, ◌==◌, Bool, true, false, if◌then◌else◌, sym, take, ◌+◌, ◌-◌, ◌<◌, ◌≤◌, List, [], ◌∷◌, ◌++◌, length, replicate, ap, refl, ◌∙◌, Option, None, Some, slice_get, slice_set, get_or, ◌⊎◌, inl, inr, arith}
use Rattle.std.proofs.lemmas.List.{length-append, length-replicate, take_all}
use Rattle.std.proofs.lemmas.Option.{slice_get_cases}
use Rattle.circular_buffer.specs.Buffer.{buffer}
use Rattle.ipx_wire.specs.declared.spx.packet.SpxHeader.{SpxHeader}
use Rattle.spx_link.specs.Limits.{end_stream}
use Rattle.spx_link.specs.Receive.{put}
use Rattle.spx_link.specs.Units.{unit_in}
use Rattle.spx_link.specs.declared.unit.Unit.{Unit}
use Rattle.spx_link.proofs.Laying.{put_written}

pub put_there : (old now : List (Option Unit)) (capacity capacity_ place count k : ℕ) (u : Unit) → now ≡ old ++ replicate k None → count - length old ≤ place + 1 - length old → place + 1 ≤ count → k ≡ count - length old → capacity ≡ capacity_ → buffer (slice_set now place (Some u)) capacity ≡ buffer (put place u old) capacity_
put_there old now capacity capacity_ place count k u is most least at same =
    let exact : k ≡ place + 1 - length old = omega arith in
    ap (λ c. buffer (slice_set now place (Some u)) c) same ∙ ap (λ xs. buffer (slice_set xs place (Some u)) capacity_) (is ∙ ap (λ n. old ++ replicate n None) exact) ∙ ap (λ xs. buffer xs capacity_) (put_written place u old)

-- the place is there
length_now : (old now : List (Option Unit)) (count : ℕ) → now ≡ old ++ replicate (count - length old) None → length old ≤ count → length now ≡ count
length_now old now count is long =
    let one : length now ≡ length old + length (replicate {A = Option Unit} (count - length old) None) = ap length is ∙ length-append old (replicate (count - length old) None) in
    let two : length (replicate {A = Option Unit} (count - length old) None) ≡ count - length old = length-replicate (count - length old) None in
    omega arith

pub place_is : {A : Type 0} (old now : List (Option Unit)) (place count : ℕ) → now ≡ old ++ replicate (count - length old) None → place + 1 ≤ count → length old ≤ count → slice_get now place ≡ None → A
place_is {A} old now place count is least long none = by (slice_get_cases now place).1
  where
    by : ((x : Option Unit) × (place < length now) × (slice_get now place ≡ Some x) × (get_or now place x ≡ x)) ⊎ ((length now ≤ place) × (slice_get now place ≡ None)) → A
    by (inl (x, lt, some, read)) = absurd (cc some)
    by (inr (past, nothing)) =
        let exact = length_now old now count is long in
        let never : ⊥ = omega arith in
        absurd never

-- behind all others
pub put_after : (u : Unit) (xs : List (Option Unit)) → put (length xs) u xs ≡ xs ++ Some u ∷ []
put_after u [] = refl
put_after u (x ∷ xs) = ap (λ (ys : List (Option Unit)). x ∷ ys) (put_after u xs)

-- what stands behind all others, and another in its place
pub last_read : (xs : List (Option Unit)) (y : Option Unit) → slice_get (xs ++ y ∷ []) (length xs) ≡ Some y
last_read [] y = refl
last_read (x ∷ xs) y = last_read xs y

pub last_written : (xs : List (Option Unit)) (y z : Option Unit) → slice_set (xs ++ y ∷ []) (length xs) z ≡ xs ++ z ∷ []
last_written [] y z = refl
last_written (x ∷ xs) y z = ap (λ (ys : List (Option Unit)). x ∷ ys) (last_written xs y z)

-- what came to a ring that had room
pub came : {A : Type 0} {E : Type 0} (r : Result A E) (P : Type 0) → IsOk r → OnOk r P → P
came (Ok a) P ok p = p
came (Err e) P ok p = cc

-- a unit that is no end, and has all the bytes that there may be
kept : (items : List ℕ) (ends : Bool) → ends ≡ false → items ≡ (if ends then [] else items)
kept items true e = cc
kept items false e = refl

abbrev pub unit_as : SpxHeader → List ℕ → Unit
unit_as h items = record { body = record { items = items }; stream = h.stream; last = h.last }

pub whole_unit : (h : SpxHeader) (body whole : List ℕ) → whole ≡ take 534 body → length body ≤ 534 → (h.stream == end_stream) ≡ false → unit_as h whole ≡ unit_in h body
whole_unit h body whole is fits goes =
    ap (unit_as h) (is ∙ take_all 534 body fits ∙ kept body (h.stream == end_stream) goes)
