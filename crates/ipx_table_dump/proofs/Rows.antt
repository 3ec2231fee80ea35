-- A text grows by one more line.
use Rattle.std.proofs.Common.{◌≡◌, ◌<◌, ℕ, ◌+◌, Bool, List, ◌++◌, [], ◌∷◌, length, take, get_or, refl, sym, ap, ◌∙◌, arith}
use Rattle.std.specs.Prelude.{◌/◌, ◌%◌, OnOk, Result, Ok, Err, slice_index}
use Rattle.std.specs.List.{flat_map}
use Rattle.std.proofs.lemmas.List.{append-nil, append_assoc, flat_map_more, length-take, take_more}
use Rattle.hex.specs.Hex.{encode_lower, encode_with, lower_digits}
use Rattle.ipx_router.specs.declared.port.Port.{Port}
use Rattle.ipx_table_dump.specs.TableText.{own_line, own_lines}

-- three parts after an empty text are one text
pub joined : (none one two three a b c : List ℕ) → none ≡ [] → one ≡ none ++ a → two ≡ one ++ b → three ≡ two ++ c
    → three ≡ a ++ (b ++ c)
joined none one two three a b c empty first second third =
    third ∙ ap (λ t. t ++ c) (second ∙ ap (λ t. t ++ b) (first ∙ ap (λ t. t ++ a) empty)) ∙ append_assoc a b c

-- five parts after a text are one, if there was memory for the last
pub parts_joined : {T E : Type 0} (r : Result T E) (none one two three four five a b c d e : List ℕ) → one ≡ none ++ a → two ≡ one ++ b → three ≡ two ++ c → four ≡ three ++ d → OnOk r (five ≡ four ++ e)
    → OnOk r (five ≡ none ++ (a ++ (b ++ (c ++ (d ++ e)))))
parts_joined (Err x) none one two three four five a b c d e first second third fourth fifth = tt
parts_joined (Ok x) none one two three four five a b c d e first second third fourth fifth =
    fifth ∙ ap (λ t. t ++ e) (fourth ∙ ap (λ t. t ++ d) (third ∙ ap (λ t. t ++ c) (second ∙ ap (λ t. t ++ b) first))) ∙ simp append_assoc

-- a byte is two digits
byte_spelled : (b : ℕ) → encode_lower (b ∷ []) ≡ slice_index lower_digits (b / 16) ∷ slice_index lower_digits (b % 16) ∷ []
unfolding encode_with
byte_spelled b = refl

-- two digits after a text are a byte, if there was memory for the second
pub byte_more : {T E : Type 0} (r : Result T E) (old one two : List ℕ) (b high low : ℕ) → high ≡ slice_index lower_digits (b / 16) → low ≡ slice_index lower_digits (b % 16)
    → one ≡ old ++ high ∷ [] → OnOk r (two ≡ one ++ low ∷ []) → OnOk r (two ≡ old ++ encode_lower (b ∷ []))
byte_more (Err e) old one two b high low h l first second = tt
byte_more (Ok x) old one two b high low h l first second =
    second ∙ ap (λ t. t ++ low ∷ []) first ∙ append_assoc old (high ∷ []) (low ∷ [])
    ∙ ap (λ t. old ++ t) (ap (λ d. d ∷ low ∷ []) h ∙ ap (λ d. slice_index lower_digits (b / 16) ∷ d ∷ []) l ∙ sym (byte_spelled b))

-- no digits
pub hex_none : (bs : List ℕ) → bs ≡ bs ++ encode_lower []
unfolding encode_with
hex_none bs = sym (append-nil bs)

hex_append : (xs ys : List ℕ) → encode_lower (xs ++ ys) ≡ encode_lower xs ++ encode_lower ys
unfolding encode_with
hex_append [] ys = refl
hex_append (x ∷ xs) ys = ap (λ t. slice_index lower_digits (x / 16) ∷ slice_index lower_digits (x % 16) ∷ t) (hex_append xs ys)

-- the digits of one more byte
pub hex_more : (bs : List ℕ) (i d : ℕ) (before old : List ℕ) → i < length bs → old ≡ before ++ encode_lower (take i bs)
    → old ++ encode_lower (get_or bs i d ∷ []) ≡ before ++ encode_lower (take (i + 1) bs)
hex_more bs i d before old lt was =
    ap (λ t. t ++ encode_lower (get_or bs i d ∷ [])) was
    ∙ append_assoc before (encode_lower (take i bs)) (encode_lower (get_or bs i d ∷ []))
    ∙ ap (λ t. before ++ t) (sym (hex_append (take i bs) (get_or bs i d ∷ [])) ∙ ap (λ t. encode_lower t) (sym (take_more bs i d lt)))

-- one more text after those of the elements before
pub texts_more : {X : Type 0} (f : X → List ℕ) (xs : List X) (i : ℕ) (d : X) (before old part : List ℕ) → i < length xs → old ≡ before ++ flat_map f (take i xs) → part ≡ f (get_or xs i d)
    → old ++ part ≡ before ++ flat_map f (take (i + 1) xs)
texts_more f xs i d before old part lt was is =
    rw (was, is) (flat_map_more f before (take i xs) (get_or xs i d) ∙ ap (λ l. before ++ flat_map f l) (sym (take_more xs i d lt)))

-- the line of one more offer, by whether it is best
pub offers_more : {X : Type 0} (line : Bool → X → List ℕ) (best : X → Bool) (xs : List X) (i : ℕ) (d : X) (before old part : List ℕ) (b : Bool) → i < length xs → old ≡ before ++ flat_map (λ x. line (best x) x) (take i xs)
    → part ≡ line b (get_or xs i d) → b ≡ best (get_or xs i d) → old ++ part ≡ before ++ flat_map (λ x. line (best x) x) (take (i + 1) xs)
offers_more line best xs i d before old part b lt was is marked =
    texts_more (λ x. line (best x) x) xs i d before old part lt was (is ∙ ap (λ m. line m (get_or xs i d)) marked)

-- the line of one more port
own_push : (n : ℕ) (ps : List Port) (p : Port) → own_lines n (ps ++ p ∷ []) ≡ own_lines n ps ++ own_line (n + length ps) p
own_push n [] p = append-nil (own_line n p) ∙ ap (λ k. own_line k p) (omega arith)
own_push n (q ∷ ps) p =
    ap (λ t. own_line n q ++ t) (own_push (n + 1) ps p)
    ∙ sym (append_assoc (own_line n q) (own_lines (n + 1) ps) (own_line (n + 1 + length ps) p))
    ∙ ap (λ k. (own_line n q ++ own_lines (n + 1) ps) ++ own_line k p) (omega arith)

pub owns_more : (ps : List Port) (i number : ℕ) (d : Port) (before old part : List ℕ) → i < length ps → number ≡ 1 + i → old ≡ before ++ own_lines 1 (take i ps) → part ≡ own_line number (get_or ps i d)
    → old ++ part ≡ before ++ own_lines 1 (take (i + 1) ps)
owns_more ps i number d before old part lt many was is =
    let short : length (take i ps) ≡ i = omega (arith, length-take i ps, lt) in
    rw (was, is) (append_assoc before (own_lines 1 (take i ps)) (own_line number (get_or ps i d))
    ∙ ap (λ t. before ++ t) (ap (λ k. own_lines 1 (take i ps) ++ own_line k (get_or ps i d)) (many ∙ ap (λ k. 1 + k) (sym short))
    ∙ sym (own_push 1 (take i ps) (get_or ps i d)) ∙ ap (own_lines 1) (sym (take_more ps i d lt))))
