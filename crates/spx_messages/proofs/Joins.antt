-- Units of messages, joined: the messages come out in order, and no part of one is longer than it.
use Rattle.std.proofs.Common.{◌≡◌, ◌⊎◌, ◌+◌, ◌-◌, ◌≤◌, ◌<◌, ◌==◌, ℕ, zero, suc, true, false, cond, List, [], ◌∷◌, ◌++◌, length, take, drop, Option, Some, None, refl, sym, ◌∙◌, inl, inr, ap, subst, arith, length-append, length-take, length-drop}
use Rattle.std.specs.Prelude.{slice_get}
use Rattle.std.proofs.lemmas.List.{append-nil, append_assoc, take-append-le, take-append-drop}
use Rattle.std.proofs.lemmas.Bool.{cases_lt, cond_both, cond-false, le-ltb, ne_eqb}
use Rattle.spx_link.specs.declared.unit.Unit.{Unit}
use Rattle.spx_link.specs.LinkView.{is_end}
use Rattle.spx_link.specs.Offer.{the_end}
use Rattle.spx_messages.specs.Message.{MessageView, length_of}
use Rattle.spx_messages.specs.Cut.{unit_bytes, cut_of, pieces, unit_with}
use Rattle.spx_messages.specs.Joining.{AreSendable, IsSendable, Joining, added, is_overlong, join_all, join_unit, joined, units_of_messages}
use Rattle.spx_messages.proofs.Pieces.{All-head, All-tail, cut_more, more_pieces, one_piece}

abbrev pub so_far : List MessageView → Option MessageView → Joining
so_far ms rest = record { messages = ms; rest = rest }

abbrev with_more : MessageView → List ℕ → MessageView
with_more m bytes = record m { body = m.body ++ bytes }

pub join_all-append : (j : Joining) (us vs : List Unit) → join_all j (us ++ vs) ≡ join_all (join_all j us) vs
join_all-append j [] vs = refl
join_all-append j (u ∷ us) vs = join_all-append (join_unit j u) us vs

no_end : (stream : ℕ) → stream < 254 → (stream == 254) ≡ false
no_end stream low = ne_eqb stream 254 (λ z. omega (arith, z, low))

join_last : (ms : List MessageView) (o : Option MessageView) (stream : ℕ) (bytes : List ℕ) → stream < 254
    → join_unit (so_far ms o) (unit_with stream true bytes) ≡ so_far (ms ++ added o (unit_with stream true bytes) ∷ []) None
join_last ms o stream bytes low = cond-false _ _ _ (no_end stream low)

join_full : (ms : List MessageView) (o : Option MessageView) (stream : ℕ) (bytes : List ℕ) → stream < 254
    → join_unit (so_far ms o) (unit_with stream false bytes) ≡ so_far ms (Some (added o (unit_with stream false bytes)))
join_full ms o stream bytes low = cond-false _ _ _ (no_end stream low)

-- ---- whole messages

last_comes : (ms : List MessageView) (m : MessageView) (stream : ℕ) (bytes : List ℕ) → stream < 254
    → join_all (so_far ms (Some m)) (unit_with stream true bytes ∷ []) ≡ so_far (ms ++ with_more m bytes ∷ []) None
last_comes ms m stream bytes low = join_last ms (Some m) stream bytes low

-- the rest of a message arrives
pieces_join : (ms : List MessageView) (m : MessageView) (more stream : ℕ) (bytes : List ℕ) → stream < 254
    → join_all (so_far ms (Some m)) (pieces more stream bytes) ≡ so_far (ms ++ with_more m bytes ∷ []) None
pieces_join ms m zero stream bytes low = last_comes ms m stream bytes low
pieces_join ms m (suc more) stream bytes low =
    cases (cases_lt 534 (length bytes)) (pieces_join ms (with_more m (take 534 bytes)) more stream (drop 534 bytes) low)
  where
    cases : (534 < length bytes) ⊎ (length bytes ≤ 534)
        → join_all (so_far ms (Some (with_more m (take 534 bytes)))) (pieces more stream (drop 534 bytes)) ≡ so_far (ms ++ with_more (with_more m (take 534 bytes)) (drop 534 bytes) ∷ []) None
        → join_all (so_far ms (Some m)) (pieces (suc more) stream bytes) ≡ so_far (ms ++ with_more m bytes ∷ []) None
    cases (inl long) later =
        let whole : (m.body ++ take 534 bytes) ++ drop 534 bytes ≡ m.body ++ bytes = append_assoc m.body (take 534 bytes) (drop 534 bytes) ∙ ap (λ bs. m.body ++ bs) (take-append-drop 534 bytes) in
        ap (join_all (so_far ms (Some m))) (more_pieces more stream bytes long)
        ∙ ap (λ j. join_all j (pieces more stream (drop 534 bytes))) (join_full ms (Some m) stream (take 534 bytes) low)
        ∙ later
        ∙ ap (λ bs. so_far (ms ++ record { stream = m.stream; body = bs } ∷ []) None) whole
    cases (inr short) later = ap (join_all (so_far ms (Some m))) (one_piece (suc more) stream bytes short) ∙ last_comes ms m stream bytes low

cut_join : (ms : List MessageView) (m : MessageView) → m.stream < 254 → join_all (so_far ms None) (cut_of m) ≡ so_far (ms ++ m ∷ []) None
cut_join ms m low = cases (cases_lt 534 (length m.body))
  where
    cases : (534 < length m.body) ⊎ (length m.body ≤ 534) → join_all (so_far ms None) (cut_of m) ≡ so_far (ms ++ m ∷ []) None
    cases (inl long) =
        let rest : List ℕ = drop 534 m.body in
        let first : MessageView = record { stream = m.stream; body = take 534 m.body } in
        ap (join_all (so_far ms None)) (cut_more m.stream m.body long)
        ∙ ap (λ j. join_all j (cut_of (record { stream = m.stream; body = rest }))) (join_full ms None m.stream (take 534 m.body) low)
        ∙ pieces_join ms first (length rest) m.stream rest low
        ∙ ap (λ bs. so_far (ms ++ record { stream = m.stream; body = bs } ∷ []) None) (take-append-drop 534 m.body)
    cases (inr short) = ap (join_all (so_far ms None)) (one_piece (length m.body) m.stream m.body short) ∙ join_last ms None m.stream m.body low

units_join : (before ms : List MessageView) → AreSendable ms → join_all (so_far before None) (units_of_messages ms) ≡ so_far (before ++ ms) None
units_join before [] all = ap (λ ms. so_far ms None) (sym (append-nil before))
units_join before (m ∷ ms) all =
    join_all-append (so_far before None) (cut_of m) (units_of_messages ms)
    ∙ ap (λ j. join_all j (units_of_messages ms)) (cut_join before m (All-head IsSendable m ms all).stream)
    ∙ units_join (before ++ m ∷ []) ms (All-tail IsSendable m ms all)
    ∙ ap (λ ms'. so_far ms' None) (append_assoc before (m ∷ []) ms)

pub all_join : (ms : List MessageView) → AreSendable ms → joined (units_of_messages ms) ≡ so_far ms None
all_join ms all = units_join [] ms all

pub all_join_ended : (ms : List MessageView) → AreSendable ms → joined (units_of_messages ms ++ the_end ∷ []) ≡ so_far ms None
all_join_ended ms all = join_all-append (so_far [] None) (units_of_messages ms) (the_end ∷ []) ∙ ap (λ j. join_unit j the_end) (all_join ms all)

-- ---- a beginning of the units

abbrev Grows : Joining → Joining → Type 0
Grows j k = (later : List MessageView) × (j.messages ++ later ≡ k.messages)

grows_by_unit : (j : Joining) (u : Unit) → Grows j (join_unit j u)
grows_by_unit j u =
    cond_both (is_end u) j (cond u.last (so_far (j.messages ++ added j.rest u ∷ []) None) (so_far j.messages (Some (added j.rest u)))) (Grows j)
    (λ yes. ([], append-nil j.messages))
    (λ no. cond_both u.last (so_far (j.messages ++ added j.rest u ∷ []) None) (so_far j.messages (Some (added j.rest u))) (Grows j) (λ yes. (added j.rest u ∷ [], refl)) (λ not_yet. ([], append-nil j.messages)))

grows : (j : Joining) (us : List Unit) → Grows j (join_all j us)
grows j [] = ([], append-nil j.messages)
grows j (u ∷ us) =
    let one = grows_by_unit j u in
    let more = grows (join_unit j u) us in
    (one.0 ++ more.0, sym (append_assoc j.messages one.0 more.0) ∙ ap (λ ms. ms ++ more.0) one.1 ∙ more.1)

pub first_messages : (us : List Unit) (count : ℕ) (ms : List MessageView) → joined us ≡ so_far ms None
    → (later : List MessageView) × ((joined (take count us)).messages ++ later ≡ ms)
first_messages us count ms whole =
    let more = grows (joined (take count us)) (drop count us) in
    let same : join_all (joined (take count us)) (drop count us) ≡ joined us = sym (join_all-append (so_far [] None) (take count us) (drop count us)) ∙ ap joined (take-append-drop count us) in
    (more.0, more.1 ∙ ap (λ (j : Joining). j.messages) (same ∙ whole))

-- ---- no message is overlong

added_length : (o : Option MessageView) (u : Unit) → length (added o u).body ≡ length_of o + length (unit_bytes u)
added_length None u = omega arith
added_length (Some m) u = length-append m.body (unit_bytes u)

abbrev Fits : List MessageView → Option MessageView → List Unit → ℕ → ℕ → Type 0
Fits ms o us k most = (u : Unit) → slice_get us k ≡ Some u → length (added (join_all (so_far ms o) (take k us)).rest u).body ≤ most

no_unit : (u : Unit) → None ≡ Some u → ⊥
no_unit u is = cc

one_fits : (ms : List MessageView) (o : Option MessageView) (v : Unit) (k most : ℕ) → length_of o + length (unit_bytes v) ≤ most → Fits ms o (v ∷ []) k most
one_fits ms o v zero most within u is =
    let same : v ≡ u = cc is in omega (arith, within, added_length o u, ap (λ (w : Unit). length (unit_bytes w)) same)
one_fits ms o v (suc k) most within u is = absurd (no_unit u is)

pieces_fit : (ms : List MessageView) (o : Option MessageView) (more stream : ℕ) (bytes : List ℕ) (k : ℕ) → stream < 254
    → Fits ms o (pieces more stream bytes) k (length_of o + length bytes)
pieces_fit ms o zero stream bytes k low = one_fits ms o (unit_with stream true bytes) k (length_of o + length bytes) (omega arith)
pieces_fit ms o (suc more) stream bytes k low =
    cases (cases_lt 534 (length bytes)) (λ i. pieces_fit ms (Some (added o (unit_with stream false (take 534 bytes)))) more stream (drop 534 bytes) i low)
  where
    full : Unit
    full = unit_with stream false (take 534 bytes)

    later_fits : (i : ℕ) → 534 < length bytes → ((j : ℕ) → Fits ms (Some (added o (unit_with stream false (take 534 bytes)))) (pieces more stream (drop 534 bytes)) j (length_of (Some (added o (unit_with stream false (take 534 bytes)))) + length (drop 534 bytes)))
        → Fits ms o (unit_with stream false (take 534 bytes) ∷ pieces more stream (drop 534 bytes)) i (length_of o + length bytes)
    later_fits zero long later u is =
        let same : unit_with stream false (take 534 bytes) ≡ u = cc is in
        omega (arith, long, added_length o u, ap (λ (w : Unit). length (unit_bytes w)) same, length-take 534 bytes)
    later_fits (suc i) long later u is =
        let step : join_unit (so_far ms o) (unit_with stream false (take 534 bytes)) ≡ so_far ms (Some (added o (unit_with stream false (take 534 bytes)))) = join_full ms o stream (take 534 bytes) low in
        let fits = later i u is in
        let rest : length (added (join_all (so_far ms (Some (added o (unit_with stream false (take 534 bytes))))) (take i (pieces more stream (drop 534 bytes)))).rest u).body ≤ length_of o + length bytes =
        omega (arith, fits, long, added_length o (unit_with stream false (take 534 bytes)), length-take 534 bytes, length-drop 534 bytes) in
        subst (λ (j : Joining). length (added (join_all j (take i (pieces more stream (drop 534 bytes)))).rest u).body ≤ length_of o + length bytes) (sym step) rest

    cases : (534 < length bytes) ⊎ (length bytes ≤ 534) → ((j : ℕ) → Fits ms (Some (added o (unit_with stream false (take 534 bytes)))) (pieces more stream (drop 534 bytes)) j (length_of (Some (added o (unit_with stream false (take 534 bytes)))) + length (drop 534 bytes)))
        → Fits ms o (pieces (suc more) stream bytes) k (length_of o + length bytes)
    cases (inl long) later = subst (λ us. Fits ms o us k (length_of o + length bytes)) (sym (more_pieces more stream bytes long)) (later_fits k long later)
    cases (inr short) later =
        subst (λ us. Fits ms o us k (length_of o + length bytes)) (sym (one_piece (suc more) stream bytes short)) (one_fits ms o (unit_with stream true bytes) k (length_of o + length bytes) (omega arith))

-- reading and taking at the front, and after it
get_front : {A : Type 0} (xs ys : List A) (k : ℕ) → k < length xs → slice_get (xs ++ ys) k ≡ slice_get xs k
get_front [] ys k within = absurd (omega (arith, within))
get_front (x ∷ xs) ys zero within = refl
get_front (x ∷ xs) ys (suc k) within = get_front xs ys k (omega (arith, within))

get_after : {A : Type 0} (xs ys : List A) (k i : ℕ) → k ≡ length xs + i → slice_get (xs ++ ys) k ≡ slice_get ys i
get_after [] ys k i is = ap (slice_get ys) (omega (arith, is))
get_after (x ∷ xs) ys zero i is = absurd (omega (arith, is))
get_after (x ∷ xs) ys (suc k) i is = get_after xs ys k i (omega (arith, is))

take_after : {A : Type 0} (xs ys : List A) (k i : ℕ) → k ≡ length xs + i → take k (xs ++ ys) ≡ xs ++ take i ys
take_after [] ys k i is = ap (λ n. take n ys) (omega (arith, is))
take_after (x ∷ xs) ys zero i is = absurd (omega (arith, is))
take_after (x ∷ xs) ys (suc k) i is = ap (λ zs. x ∷ zs) (take_after xs ys k i (omega (arith, is)))

units_fit : (before ms : List MessageView) (k : ℕ) → AreSendable ms → Fits before None (units_of_messages ms) k 65535
units_fit before [] k all u is = absurd (no_unit u is)
units_fit before (m ∷ ms) k all u is =
    cases (cases_lt k (length (cut_of m))) (λ i. units_fit (before ++ m ∷ []) ms i (All-tail IsSendable m ms all) u)
  where
    first : IsSendable m
    first = All-head IsSendable m ms all

    cases : (k < length (cut_of m)) ⊎ (length (cut_of m) ≤ k) → ((i : ℕ) → slice_get (units_of_messages ms) i ≡ Some u → length (added (join_all (so_far (before ++ m ∷ []) None) (take i (units_of_messages ms))).rest u).body ≤ 65535)
        → length (added (join_all (so_far before None) (take k (cut_of m ++ units_of_messages ms))).rest u).body ≤ 65535
    cases (inl within) later =
        let here : slice_get (cut_of m) k ≡ Some u = sym (get_front (cut_of m) (units_of_messages ms) k within) ∙ is in
        let fits = pieces_fit before None (length m.body) m.stream m.body k (All-head IsSendable m ms all).stream u here in
        let short : length (added (join_all (so_far before None) (take k (cut_of m))).rest u).body ≤ 65535 = omega (arith, fits, (All-head IsSendable m ms all).bytes) in
        subst (λ us. length (added (join_all (so_far before None) us).rest u).body ≤ 65535) (sym (take-append-le k (cut_of m) (units_of_messages ms) (omega (arith, within)))) short
    cases (inr behind) later =
        let place : k ≡ length (cut_of m) + (k - length (cut_of m)) = omega (arith, behind) in
        let i : ℕ = k - length (cut_of m) in
        let there : slice_get (units_of_messages ms) i ≡ Some u = sym (get_after (cut_of m) (units_of_messages ms) k i place) ∙ is in
        let joins : join_all (so_far before None) (take k (cut_of m ++ units_of_messages ms)) ≡ join_all (so_far (before ++ m ∷ []) None) (take i (units_of_messages ms)) =
        ap (join_all (so_far before None)) (take_after (cut_of m) (units_of_messages ms) k i place)
        ∙ join_all-append (so_far before None) (cut_of m) (take i (units_of_messages ms))
        ∙ ap (λ j. join_all j (take i (units_of_messages ms))) (cut_join before m (All-head IsSendable m ms all).stream) in
        subst (λ (j : Joining). length (added j.rest u).body ≤ 65535) (sym joins) (later i there)

pub none_overlong : (ms : List MessageView) (k : ℕ) (u : Unit) → AreSendable ms → slice_get (units_of_messages ms) k ≡ Some u
    → is_overlong (joined (take k (units_of_messages ms))).rest u ≡ false
none_overlong ms k u all is = le-ltb 65535 (length (added (joined (take k (units_of_messages ms))).rest u).body) (units_fit [] ms k all u is)
