-- Units of messages, joined: the messages come out in order, and no part of one is longer than it.
use Rattle.std.proofs.Common.{◌≡◌, ◌+◌, ◌≤◌, ◌<◌, ◌==◌, ℕ, zero, suc, true, false, nat_le, List, [], ◌∷◌, ◌++◌, length, take, drop, Option, Some, None, refl, sym, ◌∙◌, ap, subst, arith, length-append, length-take, length-drop, ne_eqb, take-append-drop}
use Rattle.std.specs.Prelude.{slice_get}
use Rattle.std.proofs.lemmas.List.{append_assoc}
use Rattle.std.proofs.lemmas.Bool.{cond_both, cond-false}
use Rattle.spx_link.specs.declared.unit.Unit.{Unit}
use Rattle.spx_messages.specs.Message.{MessageView}
use Rattle.spx_messages.specs.Joining.{Joining, added, join_unit, join_all}
use Rattle.spx_messages.specs.Cut.{pieces, cut_of}

pub join_all-append : (j : Joining) (us vs : List Unit) → join_all j (us ++ vs) ≡ join_all (join_all j us) vs
join_all-append j [] vs = refl
join_all-append j (u ∷ us) vs = join_all-append (join_unit j u) us vs

abbrev pub last_piece : ℕ → List ℕ → Unit
last_piece stream bytes = record { stream = stream; last = true; body = record { items = bytes } }

abbrev pub full_piece : ℕ → List ℕ → Unit
full_piece stream bytes = record { stream = stream; last = false; body = record { items = take 534 bytes } }

no_end : (stream : ℕ) → stream < 254 → (stream == 254) ≡ false
no_end stream low = ne_eqb stream 254 (λ z. omega (arith, z, low))

join_last : (ms : List MessageView) (o : Option MessageView) (stream : ℕ) (bytes : List ℕ) → stream < 254 → join_unit (record { messages = ms; rest = o }) (last_piece stream bytes) ≡ record { messages = ms ++ added o (last_piece stream bytes) ∷ []; rest = None }
join_last ms o stream bytes low = cond-false _ _ _ (no_end stream low)

join_full : (ms : List MessageView) (o : Option MessageView) (stream : ℕ) (bytes : List ℕ) → stream < 254 → join_unit (record { messages = ms; rest = o }) (full_piece stream bytes) ≡ record { messages = ms; rest = Some (added o (full_piece stream bytes)) }
join_full ms o stream bytes low = cond-false _ _ _ (no_end stream low)

abbrev pub with_more : MessageView → List ℕ → MessageView
with_more t bytes = record t { body = t.body ++ bytes }

-- the rest of a message comes
pub pieces_join : (ms : List MessageView) (t : MessageView) (more stream : ℕ) (bytes : List ℕ) → stream < 254
    → join_all (record { messages = ms; rest = Some t }) (pieces more stream bytes) ≡ record { messages = ms ++ with_more t bytes ∷ []; rest = None }
pieces_join ms t zero stream bytes low = join_last ms (Some t) stream bytes low
pieces_join ms t (suc more) stream bytes low =
    cond_both (nat_le (length bytes) 534) (last_piece stream bytes ∷ []) (full_piece stream bytes ∷ pieces more stream (drop 534 bytes))
    (λ us. join_all (record { messages = ms; rest = Some t }) us ≡ record { messages = ms ++ with_more t bytes ∷ []; rest = None })
    (λ yes. join_last ms (Some t) stream bytes low)
    (λ no.
    let whole : (t.body ++ take 534 bytes) ++ drop 534 bytes ≡ t.body ++ bytes = append_assoc t.body (take 534 bytes) (drop 534 bytes) ∙ ap (λ bs. t.body ++ bs) (take-append-drop 534 bytes) in
    ap (λ j. join_all j (pieces more stream (drop 534 bytes))) (join_full ms (Some t) stream bytes low)
    ∙ pieces_join ms (with_more t (take 534 bytes)) more stream (drop 534 bytes) low
    ∙ ap (λ bs. record { messages = ms ++ record { stream = t.stream; body = bs } ∷ []; rest = None }) whole)

pub cut_join : (ms : List MessageView) (m : MessageView) → m.stream < 254 → join_all (record { messages = ms; rest = None }) (cut_of m) ≡ record { messages = ms ++ m ∷ []; rest = None }
cut_join ms m low = first (length m.body)
  where
    first : (more : ℕ) → join_all (record { messages = ms; rest = None }) (pieces more m.stream m.body) ≡ record { messages = ms ++ m ∷ []; rest = None }
    first zero = join_last ms None m.stream m.body low
    first (suc more) =
        cond_both (nat_le (length m.body) 534) (last_piece m.stream m.body ∷ []) (full_piece m.stream m.body ∷ pieces more m.stream (drop 534 m.body))
        (λ us. join_all (record { messages = ms; rest = None }) us ≡ record { messages = ms ++ m ∷ []; rest = None })
        (λ yes. join_last ms None m.stream m.body low)
        (λ no.
        ap (λ j. join_all j (pieces more m.stream (drop 534 m.body))) (join_full ms None m.stream m.body low)
        ∙ pieces_join ms (record { stream = m.stream; body = take 534 m.body }) more m.stream (drop 534 m.body) low
        ∙ ap (λ bs. record { messages = ms ++ record { stream = m.stream; body = bs } ∷ []; rest = None }) (take-append-drop 534 m.body))

-- a part of a message
pub record IsPart (ms : List MessageView) (most : ℕ) (j : Joining) (next : Option Unit) : Type 0 where
  pub messages : j.messages ≡ ms
  pub short : (u : Unit) → next ≡ Some u → length (added j.rest u).body ≤ most

pub pieces_part : (ms : List MessageView) (t : MessageView) (more stream : ℕ) (bytes : List ℕ) (k : ℕ) → stream < 254 → k < length (pieces more stream bytes)
    → IsPart ms (length t.body + length bytes) (join_all (record { messages = ms; rest = Some t }) (take k (pieces more stream bytes))) (slice_get (pieces more stream bytes) k)
pieces_part ms t zero stream bytes zero low = λ within. record { messages = refl; short = λ u is. let same : last_piece stream bytes ≡ u = cc is in omega (arith, ap (λ (v : Unit). length v.body.items) same, length-append t.body u.body.items) }
pieces_part ms t zero stream bytes (suc k) low = λ within. absurd (omega (arith, within))
pieces_part ms t (suc more) stream bytes k low =
    cond_both (nat_le (length bytes) 534) (last_piece stream bytes ∷ []) (full_piece stream bytes ∷ pieces more stream (drop 534 bytes))
    (λ us. k < length us → IsPart ms (length t.body + length bytes) (join_all (record { messages = ms; rest = Some t }) (take k us)) (slice_get us k))
    (λ yes. one k)
    (λ no. many k (λ i. pieces_part ms (with_more t (take 534 bytes)) more stream (drop 534 bytes) i low))
  where
    one : (i : ℕ) → i < length (last_piece stream bytes ∷ []) → IsPart ms (length t.body + length bytes) (join_all (record { messages = ms; rest = Some t }) (take i (last_piece stream bytes ∷ []))) (slice_get (last_piece stream bytes ∷ []) i)
    one zero within = record { messages = refl; short = λ u is. let same : last_piece stream bytes ≡ u = cc is in omega (arith, ap (λ (v : Unit). length v.body.items) same, length-append t.body u.body.items) }
    one (suc i) within = absurd (omega (arith, within))

    many : (i : ℕ)
        → ((i' : ℕ) → i' < length (pieces more stream (drop 534 bytes)) → IsPart ms (length (t.body ++ take 534 bytes) + length (drop 534 bytes)) (join_all (record { messages = ms; rest = Some (with_more t (take 534 bytes)) }) (take i' (pieces more stream (drop 534 bytes)))) (slice_get (pieces more stream (drop 534 bytes)) i'))
        → i < length (full_piece stream bytes ∷ pieces more stream (drop 534 bytes))
        → IsPart ms (length t.body + length bytes) (join_all (record { messages = ms; rest = Some t }) (take i (full_piece stream bytes ∷ pieces more stream (drop 534 bytes)))) (slice_get (full_piece stream bytes ∷ pieces more stream (drop 534 bytes)) i)
    many zero deeper within = record { messages = refl; short = λ u is. let same : full_piece stream bytes ≡ u = cc is in omega (arith, ap (λ (v : Unit). length v.body.items) same, length-append t.body u.body.items, length-take 534 bytes) }
    many (suc i) deeper within =
        let d = deeper i (omega (arith, within)) in
        let step : join_unit (record { messages = ms; rest = Some t }) (full_piece stream bytes) ≡ record { messages = ms; rest = Some (with_more t (take 534 bytes)) } = join_full ms (Some t) stream bytes low in
        subst (λ j. IsPart ms (length t.body + length bytes) (join_all j (take i (pieces more stream (drop 534 bytes)))) (slice_get (pieces more stream (drop 534 bytes)) i)) (sym step)
        (record { messages = d.messages; short = λ u is. omega (arith, d.short u is, length-append t.body (take 534 bytes), length-take 534 bytes, length-drop 534 bytes) })

pub cut_part : (ms : List MessageView) (m : MessageView) (k : ℕ) → m.stream < 254 → k < length (cut_of m)
    → IsPart ms (length m.body) (join_all (record { messages = ms; rest = None }) (take k (cut_of m))) (slice_get (cut_of m) k)
cut_part ms m k low = first (length m.body)
  where
    one : (i : ℕ) → i < length (last_piece m.stream m.body ∷ []) → IsPart ms (length m.body) (join_all (record { messages = ms; rest = None }) (take i (last_piece m.stream m.body ∷ []))) (slice_get (last_piece m.stream m.body ∷ []) i)
    one zero within = record { messages = refl; short = λ u is. let same : last_piece m.stream m.body ≡ u = cc is in omega (arith, ap (λ (v : Unit). length v.body.items) same) }
    one (suc i) within = absurd (omega (arith, within))

    many : (more i : ℕ) → i < length (full_piece m.stream m.body ∷ pieces more m.stream (drop 534 m.body))
        → IsPart ms (length m.body) (join_all (record { messages = ms; rest = None }) (take i (full_piece m.stream m.body ∷ pieces more m.stream (drop 534 m.body)))) (slice_get (full_piece m.stream m.body ∷ pieces more m.stream (drop 534 m.body)) i)
    many more zero within = record { messages = refl; short = λ u is. let same : full_piece m.stream m.body ≡ u = cc is in omega (arith, ap (λ (v : Unit). length v.body.items) same, length-take 534 m.body) }
    many more (suc i) within =
        let t : MessageView = record { stream = m.stream; body = take 534 m.body } in
        let d = pieces_part ms t more m.stream (drop 534 m.body) i low (omega (arith, within)) in
        let step : join_unit (record { messages = ms; rest = None }) (full_piece m.stream m.body) ≡ record { messages = ms; rest = Some t } = join_full ms None m.stream m.body low in
        subst (λ j. IsPart ms (length m.body) (join_all j (take i (pieces more m.stream (drop 534 m.body)))) (slice_get (pieces more m.stream (drop 534 m.body)) i)) (sym step)
        (record { messages = d.messages; short = λ u is. omega (arith, d.short u is, length-take 534 m.body, length-drop 534 m.body) })

    first : (more : ℕ) → k < length (pieces more m.stream m.body) → IsPart ms (length m.body) (join_all (record { messages = ms; rest = None }) (take k (pieces more m.stream m.body))) (slice_get (pieces more m.stream m.body) k)
    first zero = one k
    first (suc more) =
        cond_both (nat_le (length m.body) 534) (last_piece m.stream m.body ∷ []) (full_piece m.stream m.body ∷ pieces more m.stream (drop 534 m.body))
        (λ us. k < length us → IsPart ms (length m.body) (join_all (record { messages = ms; rest = None }) (take k us)) (slice_get us k))
        (λ yes. one k) (λ no. many more k)
