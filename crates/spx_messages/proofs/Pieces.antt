-- The units that a message is split into: a message has exactly one list of them.
use Rattle.std.proofs.Common.{◌≡◌, ◌⊎◌, ◌≤◌, ◌<◌, ℕ, zero, suc, true, false, nat_le, List, [], ◌∷◌, ◌++◌, length, take, drop, refl, sym, ◌∙◌, inl, inr, ap, subst, arith, length-append, length-drop}
use Rattle.std.specs.Prelude.{All, IfOk, Result, Ok, Err}
use Rattle.std.specs.List.{flat_map}
use Rattle.std.proofs.lemmas.List.{append-nil, append_assoc, take_at, drop_at, take-append-drop, length-take-le}
use Rattle.std.proofs.lemmas.Bool.{cases_lt, cond-true, cond-false, le-leb, lt-leb}
use Rattle.spx_link.specs.declared.unit.Unit.{Unit}
use Rattle.spx_messages.specs.Message.{MessageView}
use Rattle.spx_messages.specs.Cut.{IsCut, IsFull, unit_bytes, cut_of, pieces, unit_with}

pub All-head : {E : Type 0} (P : E → Type 0) (e : E) (es : List E) → All P (e ∷ es) → P e
All-head P e es all = all 0 e (omega arith)

pub All-tail : {E : Type 0} (P : E → Type 0) (e : E) (es : List E) → All P (e ∷ es) → All P es
All-tail P e es all = λ k d lt. all (suc k) d (omega (arith, lt))

pub All-cons : {E : Type 0} (P : E → Type 0) (e : E) (es : List E) → P e → All P es → All P (e ∷ es)
All-cons P e es first rest zero d lt = first
All-cons P e es first rest (suc k) d lt = rest k d (omega (arith, lt))

pub All-none : {E : Type 0} (P : E → Type 0) → All P []
All-none P k d lt = absurd (omega (arith, lt))

-- ---- one piece, and one more

pub one_piece : (more stream : ℕ) (bytes : List ℕ) → length bytes ≤ 534 → pieces more stream bytes ≡ unit_with stream true bytes ∷ []
one_piece zero stream bytes short = refl
one_piece (suc more) stream bytes short = cond-true (nat_le (length bytes) 534) _ _ (le-leb (length bytes) 534 short)

pub more_pieces : (more stream : ℕ) (bytes : List ℕ) → 534 < length bytes
    → pieces (suc more) stream bytes ≡ unit_with stream false (take 534 bytes) ∷ pieces more stream (drop 534 bytes)
more_pieces more stream bytes long = cond-false (nat_le (length bytes) 534) _ _ (lt-leb (length bytes) 534 long)

-- the limit of the number of pieces makes no difference if it is high enough
pub enough : (a b stream : ℕ) (bytes : List ℕ) → length bytes ≤ a → length bytes ≤ b → pieces a stream bytes ≡ pieces b stream bytes
enough zero b stream bytes x y = sym (one_piece b stream bytes (omega (arith, x)))
enough (suc a) zero stream bytes x y = one_piece (suc a) stream bytes (omega (arith, y))
enough (suc a) (suc b) stream bytes x y =
    cases (cases_lt 534 (length bytes)) (λ long. enough a b stream (drop 534 bytes) (omega (arith, long, x, length-drop 534 bytes)) (omega (arith, long, y, length-drop 534 bytes)))
  where
    cases : (534 < length bytes) ⊎ (length bytes ≤ 534) → (534 < length bytes → pieces a stream (drop 534 bytes) ≡ pieces b stream (drop 534 bytes))
        → pieces (suc a) stream bytes ≡ pieces (suc b) stream bytes
    cases (inl long) fewer =
        more_pieces a stream bytes long
        ∙ ap (λ us. unit_with stream false (take 534 bytes) ∷ us) (fewer long)
        ∙ sym (more_pieces b stream bytes long)
    cases (inr short) fewer = one_piece (suc a) stream bytes short ∙ sym (one_piece (suc b) stream bytes short)

-- a message over 534 bytes: its first unit, and the units of the rest
pub cut_more : (stream : ℕ) (bytes : List ℕ) → 534 < length bytes
    → cut_of (record { stream = stream; body = bytes }) ≡ unit_with stream false (take 534 bytes) ∷ cut_of (record { stream = stream; body = drop 534 bytes })
cut_more stream bytes long = fuel (length bytes) refl
  where
    fuel : (n : ℕ) → length bytes ≡ n → pieces n stream bytes ≡ unit_with stream false (take 534 bytes) ∷ pieces (length (drop 534 bytes)) stream (drop 534 bytes)
    fuel zero is = absurd (omega (arith, is, long))
    fuel (suc n) is =
        more_pieces n stream bytes long
        ∙ ap (λ us. unit_with stream false (take 534 bytes) ∷ us) (enough n (length (drop 534 bytes)) stream (drop 534 bytes) (omega (arith, is, long, length-drop 534 bytes)) (omega arith))

-- ---- the units are those of the relation

module _ (stream : ℕ) where
  -- these units of a stream are the pieces of their bytes
  are_pieces : (before : List Unit) (final : Unit) (bytes : List ℕ) → All (λ u. u.stream ≡ stream) (before ++ final ∷ []) → flat_map unit_bytes (before ++ final ∷ []) ≡ bytes
      → All IsFull before → final.last ≡ true → length (unit_bytes final) ≤ 534 → (0 < length before → 0 < length (unit_bytes final))
      → before ++ final ∷ [] ≡ cut_of (record { stream = stream; body = bytes })
  are_pieces [] final bytes streams whole full ends short rest =
      let same : unit_bytes final ≡ bytes = sym (append-nil (unit_bytes final)) ∙ whole in
      let s : final.stream ≡ stream = All-head (λ (u : Unit). u.stream ≡ stream) final [] streams in
      let is : final ≡ unit_with stream true bytes = rw (sym s, sym ends, sym same) refl in
      ap (λ u. u ∷ []) is ∙ sym (one_piece (length bytes) stream bytes (subst (λ (bs : List ℕ). length bs ≤ 534) same short))
  are_pieces (u ∷ us) final bytes streams whole full ends short rest =
      let is_full = All-head IsFull u us full in
      let s : u.stream ≡ stream = All-head (λ (v : Unit). v.stream ≡ stream) u (us ++ final ∷ []) streams in
      let later : List ℕ = flat_map unit_bytes (us ++ final ∷ []) in
      let left : 0 < length later = some_left us (rest (omega arith)) in
      let front : take 534 bytes ≡ unit_bytes u = ap (take 534) (sym whole) ∙ take_at (unit_bytes u) later 534 is_full.bytes in
      let back : drop 534 bytes ≡ later = ap (drop 534) (sym whole) ∙ drop_at (unit_bytes u) later 534 is_full.bytes in
      let long : 534 < length bytes = omega (arith, ap length whole, length-append (unit_bytes u) later, is_full.bytes, left) in
      let first : u ≡ unit_with stream false (take 534 bytes) = rw (front, sym s, sym is_full.last) refl in
      let others = are_pieces us final later (All-tail (λ (v : Unit). v.stream ≡ stream) u (us ++ final ∷ []) streams) refl (All-tail IsFull u us full) ends short (λ some. rest (omega arith)) in
      ap (λ v. v ∷ us ++ final ∷ []) first ∙ ap (λ vs. unit_with stream false (take 534 bytes) ∷ vs) (others ∙ ap (λ bs. cut_of (record { stream = stream; body = bs })) (sym back)) ∙ sym (cut_more stream bytes long)
    where
      some_left : (vs : List Unit) → 0 < length (unit_bytes final) → 0 < length (flat_map unit_bytes (vs ++ final ∷ []))
      some_left [] some = omega (arith, some, length-append (unit_bytes final) [])
      some_left (v ∷ vs) some = omega (arith, some_left vs some, length-append (unit_bytes v) (flat_map unit_bytes (vs ++ final ∷ [])))

pub is_cut : (m : MessageView) (units : List Unit) → IsCut m units → units ≡ cut_of m
is_cut m units c =
    let streams : All (λ (u : Unit). u.stream ≡ m.stream) (c.before ++ c.final ∷ []) = subst (All (λ (u : Unit). u.stream ≡ m.stream)) c.are c.streams in
    c.are ∙ are_pieces m.stream c.before c.final m.body streams (ap (flat_map unit_bytes) (sym c.are) ∙ c.whole) c.full c.ends c.short c.rest

one_cut : (stream : ℕ) (bytes : List ℕ) → length bytes ≤ 534 → IsCut (record { stream = stream; body = bytes }) (unit_with stream true bytes ∷ [])
one_cut stream bytes short = record {
  before = [];
  final = unit_with stream true bytes;
  are = refl;
  streams = All-cons (λ (u : Unit). u.stream ≡ stream) (unit_with stream true bytes) [] refl (All-none (λ (u : Unit). u.stream ≡ stream));
  whole = append-nil bytes;
  full = All-none IsFull;
  ends = refl;
  short = short;
  rest = λ some. absurd (omega (arith, some));
}

more_cut : (stream : ℕ) (bytes : List ℕ) (us : List Unit) → 534 < length bytes → IsCut (record { stream = stream; body = drop 534 bytes }) us
    → IsCut (record { stream = stream; body = bytes }) (unit_with stream false (take 534 bytes) ∷ us)
more_cut stream bytes us long c =
    let first : Unit = unit_with stream false (take 534 bytes) in
    record {
      before = first ∷ c.before;
      final = c.final;
      are = ap (λ vs. first ∷ vs) c.are;
      streams = All-cons (λ (u : Unit). u.stream ≡ stream) first us refl c.streams;
      whole = ap (λ bs. take 534 bytes ++ bs) c.whole ∙ take-append-drop 534 bytes;
      full = All-cons IsFull first c.before (record { bytes = length-take-le 534 bytes (omega (arith, long)); last = refl }) c.full;
      ends = c.ends;
      short = c.short;
      rest = λ some. left c.before (ap (flat_map unit_bytes) (sym c.are) ∙ c.whole) c.rest;
    }
  where
    left : (before : List Unit) → flat_map unit_bytes (before ++ c.final ∷ []) ≡ drop 534 bytes → (0 < length before → 0 < length (unit_bytes c.final)) → 0 < length (unit_bytes c.final)
    left [] whole rest = omega (arith, long, ap length whole, length-append (unit_bytes c.final) [], length-drop 534 bytes)
    left (v ∷ vs) whole rest = rest (omega arith)

pieces_cut : (more stream : ℕ) (bytes : List ℕ) → length bytes ≤ more → IsCut (record { stream = stream; body = bytes }) (pieces more stream bytes)
pieces_cut zero stream bytes within = one_cut stream bytes (omega (arith, within))
pieces_cut (suc more) stream bytes within =
    cases (cases_lt 534 (length bytes)) (λ long. pieces_cut more stream (drop 534 bytes) (omega (arith, within, long, length-drop 534 bytes)))
  where
    cases : (534 < length bytes) ⊎ (length bytes ≤ 534) → (534 < length bytes → IsCut (record { stream = stream; body = drop 534 bytes }) (pieces more stream (drop 534 bytes)))
        → IsCut (record { stream = stream; body = bytes }) (pieces (suc more) stream bytes)
    cases (inl long) fewer =
        subst (IsCut (record { stream = stream; body = bytes })) (sym (more_pieces more stream bytes long)) (more_cut stream bytes (pieces more stream (drop 534 bytes)) long (fewer long))
    cases (inr short) fewer = subst (IsCut (record { stream = stream; body = bytes })) (sym (one_piece (suc more) stream bytes short)) (one_cut stream bytes short)

pub cut_is : (m : MessageView) (units : List Unit) → units ≡ cut_of m → IsCut m units
cut_is m units is = subst (IsCut m) (sym is) (pieces_cut (length m.body) m.stream m.body (omega arith))

-- ---- splitting piece by piece

pub cut_step : (stream : ℕ) (bytes rest : List ℕ) (units : List Unit) (u : Unit) → u ≡ unit_with stream false (take 534 rest) → 534 < length rest
    → units ++ cut_of (record { stream = stream; body = rest }) ≡ cut_of (record { stream = stream; body = bytes })
    → (units ++ u ∷ []) ++ cut_of (record { stream = stream; body = drop 534 rest }) ≡ cut_of (record { stream = stream; body = bytes })
cut_step stream bytes rest units u is long so_far =
    append_assoc units (u ∷ []) (cut_of (record { stream = stream; body = drop 534 rest }))
    ∙ ap (λ v. units ++ v ∷ cut_of (record { stream = stream; body = drop 534 rest })) is
    ∙ ap (λ us. units ++ us) (sym (cut_more stream rest long))
    ∙ so_far

pub cut_done : (stream : ℕ) (bytes rest : List ℕ) (units : List Unit) (u : Unit) → u ≡ unit_with stream true rest → length rest ≤ 534
    → units ++ cut_of (record { stream = stream; body = rest }) ≡ cut_of (record { stream = stream; body = bytes })
    → units ++ u ∷ [] ≡ cut_of (record { stream = stream; body = bytes })
cut_done stream bytes rest units u is short so_far =
    ap (λ v. units ++ v ∷ []) is ∙ ap (λ us. units ++ us) (sym (one_piece (length rest) stream rest short)) ∙ so_far

-- each unit of a message has its stream
pub cut_streams : (m : MessageView) → All (λ u. u.stream ≡ m.stream) (cut_of m)
cut_streams m = (cut_is m (cut_of m) refl).streams

-- what holds of any list that is a message's units holds of the list that a call gives
pub if_ok : {A E : Type 0} {P Q : A → Type 0} (r : Result A E) → ((v : A) → P v → Q v) → IfOk r P → IfOk r Q
if_ok (Ok v) more is = more v is
if_ok (Err e) more is = tt
