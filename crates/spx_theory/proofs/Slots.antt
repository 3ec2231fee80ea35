-- Slots and marks.
use Rattle.std.proofs.Common.{ℕ, zero, suc, ◌+◌, ◌<◌, ◌≤◌, ◌≡◌, ◌||◌, Bool, true, false, max, List, [], ◌∷◌, ◌++◌, Option, Some, None, is_some, slice_get, length, map, drop, take, arith, refl, sym, ap, ◌∙◌, eqb-true, append_assoc, append-nil}
use Rattle.std.proofs.lemmas.Bool.{cond_both}
use Rattle.std.proofs.lemmas.List.{take_more, length-map}
use Rattle.std.proofs.lemmas.Option.{slice_get_within, get_or_from_slice_get}
use Rattle.spx_link.specs.declared.unit.Unit.{Unit}
use Rattle.spx_link.specs.LinkView.{is_end}
use Rattle.spx_link.specs.Offer.{the_end}
use Rattle.spx_link.specs.Receive.{put, is_taken, leading, any_end}
use Rattle.spx_link.specs.Machine.{put_mark, is_marked, lead}

pub length-put_mark : (k : ℕ) (xs : List Bool) → length (put_mark k xs) ≡ max (k + 1) (length xs)
length-put_mark zero [] = refl
length-put_mark zero (x ∷ xs) = omega arith
length-put_mark (suc k) [] = omega (arith, length-put_mark k [])
length-put_mark (suc k) (x ∷ xs) = omega (arith, length-put_mark k xs)

pub lead-le : (xs : List Bool) → lead xs ≤ length xs
lead-le [] = omega arith
lead-le (false ∷ xs) = omega arith
lead-le (true ∷ xs) = omega (arith, lead-le xs)

pub lead-drop : (xs : List Bool) → lead (drop (lead xs) xs) ≡ 0
lead-drop [] = refl
lead-drop (false ∷ xs) = refl
lead-drop (true ∷ xs) = lead-drop xs

pub map-put : (k : ℕ) (u : Unit) (xs : List (Option Unit)) → map is_some (put k u xs) ≡ put_mark k (map is_some xs)
map-put zero u [] = refl
map-put zero u (x ∷ xs) = refl
map-put (suc k) u [] = ap (λ ys. false ∷ ys) (map-put k u [])
map-put (suc k) u (x ∷ xs) = ap (λ ys. is_some x ∷ ys) (map-put k u xs)

pub marked-map : (k : ℕ) (xs : List (Option Unit)) → is_marked k (map is_some xs) ≡ is_taken k xs
marked-map zero [] = refl
marked-map (suc k) [] = refl
marked-map zero (x ∷ xs) = refl
marked-map (suc k) (x ∷ xs) = marked-map k xs

-- each slot that is full holds the unit of its position
abbrev pub Fill : List (Option Unit) → List Unit → ℕ → Type 0
Fill slots units read = (k : ℕ) (u : Unit) → slice_get slots k ≡ Some (Some u) → slice_get units (read + k) ≡ Some u

pub fill_put : (k : ℕ) (u : Unit) (slots : List (Option Unit)) (units : List Unit) (read : ℕ) → Fill slots units read → slice_get units (read + k) ≡ Some u
    → Fill (put k u slots) units read
fill_put zero u [] units read f is zero v at = is ∙ cc at
fill_put zero u [] units read f is (suc j) v at = absurd (cc at)
fill_put zero u (x ∷ xs) units read f is zero v at = is ∙ cc at
fill_put zero u (x ∷ xs) units read f is (suc j) v at = f (suc j) v at
fill_put (suc k) u [] units read f is zero v at = absurd (cc at)
fill_put (suc k) u [] units read f is (suc j) v at =
    ap (slice_get units) (omega arith) ∙ fill_put k u [] units (read + 1) (λ i w e. absurd (cc e)) (ap (slice_get units) (omega arith) ∙ is) j v at
fill_put (suc k) u (x ∷ xs) units read f is zero v at = f zero v at
fill_put (suc k) u (x ∷ xs) units read f is (suc j) v at =
    ap (slice_get units) (omega arith) ∙ fill_put k u xs units (read + 1) (λ i w e. ap (slice_get units) (omega arith) ∙ f (suc i) w e) (ap (slice_get units) (omega arith) ∙ is) j v at

pub fill_tail : (x : Option Unit) (xs : List (Option Unit)) (units : List Unit) (read : ℕ) → Fill (x ∷ xs) units read → Fill xs units (read + 1)
fill_tail x xs units read f k u at = ap (slice_get units) (omega arith) ∙ f (suc k) u at

pub fill_drop : (n : ℕ) (xs : List (Option Unit)) (units : List Unit) (read : ℕ) → Fill xs units read → Fill (drop n xs) units (read + n)
fill_drop zero xs units read f k u at = ap (slice_get units) (omega arith) ∙ f k u at
fill_drop (suc n) [] units read f k u at = absurd (cc at)
fill_drop (suc n) (x ∷ xs) units read f k u at = ap (slice_get units) (omega arith) ∙ fill_drop n xs units (read + 1) (fill_tail x xs units read f) k u at

-- the leading units are the next ones
pub leading_units : (slots : List (Option Unit)) (units : List Unit) (read : ℕ) → Fill slots units read
    → take (read + length (leading slots)) units ≡ take read units ++ leading slots
leading_units [] units read f = ap (λ k. take k units) (omega arith) ∙ sym (append-nil (take read units))
leading_units (None ∷ xs) units read f = ap (λ k. take k units) (omega arith) ∙ sym (append-nil (take read units))
leading_units (Some u ∷ xs) units read f =
    let is : slice_get units read ≡ Some u = ap (slice_get units) (omega arith) ∙ f zero u refl in
    let within : read < length units = slice_get_within units read u is in
    let one : take (read + 1) units ≡ take read units ++ u ∷ [] = take_more units read u within ∙ ap (λ x. take read units ++ x ∷ []) (get_or_from_slice_get units read u u is) in
    cond_both (is_end u) [] (leading xs) (λ us. take (read + suc (length us)) units ≡ take read units ++ u ∷ us)
    (λ yes. ap (λ k. take k units) (omega arith) ∙ one)
    (λ other.
    ap (λ k. take k units) (omega arith) ∙ (leading_units xs units (read + 1) (fill_tail (Some u) xs units read f)
    ∙ (ap (λ ys. ys ++ leading xs) one ∙ append_assoc (take read units) (u ∷ []) (leading xs))))

abbrev pub FormedUnits : List Unit → Bool → Type 0
FormedUnits units closed = (k : ℕ) (u : Unit) → slice_get units k ≡ Some u → (u.stream ≤ 254) × (u.stream ≡ 254 → (closed ≡ true) × (length units ≡ k + 1) × (u ≡ the_end))

-- if an end is among the leading units, it is the last of all units
pub leading_end : (slots : List (Option Unit)) (units : List Unit) (closed : Bool) (read : ℕ) → Fill slots units read → FormedUnits units closed
    → any_end (leading slots) ≡ true → (closed ≡ true) × (length units ≡ read + length (leading slots))
leading_end [] units closed read f form = λ is. absurd (cc is)
leading_end (None ∷ xs) units closed read f form = λ is. absurd (cc is)
leading_end (Some u ∷ xs) units closed read f form =
    cond_both (is_end u) [] (leading xs) (λ us. (is_end u || any_end us) ≡ true → (closed ≡ true) × (length units ≡ read + suc (length us)))
    (λ yes. λ is.
    let at : slice_get units read ≡ Some u = ap (slice_get units) (omega arith) ∙ f zero u refl in
    let facts = (form read u at).1 (eqb-true _ _ yes) in
    (facts.0, omega (arith, facts.1)))
    (λ other. λ is.
    let rest = leading_end xs units closed (read + 1) (fill_tail (Some u) xs units read f) form (ap (λ b. b || any_end (leading xs)) (sym other) ∙ is) in
    (rest.0, omega (arith, rest.1)))

-- there are as many leading marks as units
pub lead_leading : (slots : List (Option Unit)) (units : List Unit) (closed : Bool) (read : ℕ) → Fill slots units read → FormedUnits units closed
    → read + length slots ≤ length units → lead (map is_some slots) ≡ length (leading slots)
lead_leading [] units closed read f form fits = refl
lead_leading (None ∷ xs) units closed read f form fits = refl
lead_leading (Some u ∷ xs) units closed read f form fits =
    cond_both (is_end u) [] (leading xs) (λ us. suc (lead (map is_some xs)) ≡ suc (length us))
    (λ yes.
    let at : slice_get units read ≡ Some u = ap (slice_get units) (omega arith) ∙ f zero u refl in
    let facts = (form read u at).1 (eqb-true _ _ yes) in
    omega (arith, facts.1, lead-le (map is_some xs), length-map xs is_some))
    (λ other. ap suc (lead_leading xs units closed (read + 1) (fill_tail (Some u) xs units read f) form (omega arith)))

pub no_list : {A : Type 0} (xs : List A) → length xs ≡ 0 → xs ≡ []
no_list [] e = refl
no_list (x ∷ xs) e = absurd (omega arith)
