-- The tokens of a querier after a querier took one.
use Rattle.std.proofs.Common.{◌≡◌, ◌≤◌, ◌∙◌, ℕ, ◌&&◌, ◌==◌, Bool, true, false, not, cond, List, [], ◌∷◌, ◌++◌, filter, max, nat_lt, refl, ap, subst, arith}
use Rattle.std.specs.Cmp.Lexicographic.{pointwise}
use Rattle.std.specs.Prelude.{nat_eq}
use Rattle.std.proofs.lemmas.Bool.Decides.{Decides-eqb, nat_tests}
use Rattle.std.proofs.lemmas.Slice.Eq.{bytes_eq-Decides}
use Rattle.ipx_rate_limits.specs.declared.querier.Querier.{Querier}
use Rattle.ipx_rate_limits.specs.declared.node_buckets.Asking.{Asking}
use Rattle.ipx_rate_limits.specs.TokenBuckets.{back_at, is_same_querier, is_another_out}

both : (a b : Bool) → a ≡ true → b ≡ true → (a && b) ≡ true
both a b x y = rw (x, y)

parts : (a b : Bool) → (a && b) ≡ true → (a ≡ true) × (b ≡ true)
parts true true h = (refl, refl)
parts true false h = absurd cc
parts false b h = absurd cc

pub same_self : (x : Querier) → is_same_querier x x ≡ true
same_self x = both _ _ ((Decides-eqb x.port x.port).1 refl) ((bytes_eq-Decides x.node.0 x.node.0).1 refl)

pub same_is : (x y : Querier) → is_same_querier x y ≡ true → x ≡ y
same_is x y h =
    let two = parts (x.port == y.port) (pointwise nat_eq x.node.0 y.node.0) h in
    let ports : x.port ≡ y.port = (Decides-eqb x.port y.port).0 two.0 in
    let nodes : x.node.0 ≡ y.node.0 = (bytes_eq-Decides x.node.0 y.node.0).0 two.1 in
    let at : ℕ → Querier = λ p. record { port = p; node = x.node } in
    let of : List ℕ → Querier = λ n. record { port = y.port; node = record { 0 = n } } in
    ap at ports ∙ ap of nodes

-- those of the querier that took it
pub back_at_own : (who : Querier) (now : ℕ) (x : ℕ) (xs : List Asking) → back_at (filter (is_another_out who now) xs ++ record { querier = who; back = x } ∷ []) who ≡ x
back_at_own who now x [] = rw (same_self who)
back_at_own who now x (a ∷ rest) =
    let ih = back_at_own who now x rest in
    let last : List Asking = record { querier = who; back = x } ∷ [] in
    let kept = filter (is_another_out who now) rest in
    let goal : Bool → Bool → Type 0 = λ s w.
    back_at (cond (not s && w) (a ∷ kept) kept ++ last) who ≡ x in
    let go : (s w : Bool) → is_same_querier a.querier who ≡ s → goal s w = elim [
      | true ↦ λ w e. ih
      | false ↦ elim [ true ↦ λ e. rw e ih | false ↦ λ e. ih ]
    ] in
    go (is_same_querier a.querier who) (nat_lt now a.back) refl

late : (now back : ℕ) → nat_lt now back ≡ false → back ≤ now
late now back e = grind (arith, nat_tests)

-- those of another one: as before, or all of them are back
back_at_other : (who o : Querier) (now x : ℕ) (xs : List Asking) → is_same_querier who o ≡ false → back_at xs o ≤ max (back_at (filter (is_another_out who now) xs ++ record { querier = who; back = x } ∷ []) o) now
back_at_other who o now x [] apart = omega arith
back_at_other who o now x (a ∷ rest) apart =
    let ih = back_at_other who o now x rest apart in
    let last : List Asking = record { querier = who; back = x } ∷ [] in
    let kept = filter (is_another_out who now) rest in
    let goal : Bool → Bool → Bool → Type 0 = λ r s w.
    cond r a.back (back_at rest o) ≤ max (back_at (cond (not s && w) (a ∷ kept) kept ++ last) o) now in
    let go : (r s w : Bool) → is_same_querier a.querier o ≡ r → is_same_querier a.querier who ≡ s → nat_lt now a.back ≡ w → goal r s w = elim [
      | true ↦ elim [
        | true ↦ λ w er es ew.
            let one : a.querier ≡ who = same_is a.querier who es in
            let P : Querier → Type 0 = λ y. is_same_querier y o ≡ true in
            let no : is_same_querier who o ≡ true = subst P one er in
            absurd cc
        | false ↦ elim [
          | true ↦ λ er es ew. rw er (omega arith)
          | false ↦ λ er es ew. let old : a.back ≤ now = late now a.back ew in omega arith
        ]
      ]
      | false ↦ elim [
        | true ↦ λ w er es ew. ih
        | false ↦ elim [ true ↦ λ er es ew. rw er ih | false ↦ λ er es ew. ih ]
      ]
    ] in
    go (is_same_querier a.querier o) (is_same_querier a.querier who) (nat_lt now a.back) refl refl refl

-- whoever takes a token, no token of a querier is back sooner
pub back_at_grows : (who o : Querier) (now x : ℕ) (xs : List Asking) → back_at xs who ≤ x → back_at xs o ≤ max (back_at (filter (is_another_out who now) xs ++ record { querier = who; back = x } ∷ []) o) now
back_at_grows who o now x xs more =
    let after = filter (is_another_out who now) xs ++ record { querier = who; back = x } ∷ [] in
    let go : (s : Bool) → is_same_querier who o ≡ s → back_at xs o ≤ max (back_at after o) now = elim [
      | true ↦ λ e.
          let one : who ≡ o = same_is who o e in
          let P : Querier → Type 0 = λ y. back_at xs y ≤ max (back_at after y) now in
          let own = back_at_own who now x xs in
          let here : P who = omega arith in
          subst P one here
      | false ↦ λ e. back_at_other who o now x xs e
    ] in
    go (is_same_querier who o) refl
