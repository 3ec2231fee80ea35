-- The last flood of servers, with one server more.
use Rattle.std.proofs.Common.{◌≡◌, ◌≤◌, ◌<◌, ◌+◌, ℕ, Bool, true, false, cond, List, [], ◌∷◌, ◌++◌, length, take, Option, None, Some, refl, sym, ◌∙◌, inl, inr, ap, subst, arith, append_assoc}
use Rattle.std.specs.Prelude.{All, IfSome, get_or, nat_lt}
use Rattle.std.proofs.lemmas.Bool.{cases_lt}
use Rattle.std.proofs.lemmas.Bool.Decides.{Decides-ltb}
use Rattle.std.proofs.lemmas.List.{take_more}
use Rattle.std.proofs.lemmas.List.Elements.{All-append, All-cons, All-nil, All-push, All-weaker}
use Rattle.ipxnet_server.specs.ServerHears.{ServerView}
use Rattle.ipxnet_server.specs.declared.limiting.LimitedFlood.{LimitedFlood}
use Rattle.ipx_site.specs.IpxnetTotals.{IsLastFlood, later_flood}

-- a flood, if there is one, is no later than a time, or earlier
abbrev IsBy : ℕ → Option LimitedFlood → Type 0
IsBy t o = IfSome o (λ (k : LimitedFlood). k.at ≤ t)

abbrev IsBefore : ℕ → Option LimitedFlood → Type 0
IsBefore t o = IfSome o (λ (k : LimitedFlood). k.at < t)

by_later : (o : Option LimitedFlood) (t u : ℕ) → t ≤ u → IsBy t o → IsBy u o
by_later None t u le is = tt
by_later (Some k) t u le is = omega (arith, le, is)

before_by : (o : Option LimitedFlood) (t u : ℕ) → t ≤ u → IsBefore t o → IsBy u o
before_by None t u le is = tt
before_by (Some k) t u le is = omega (arith, le, is)

none_by : (o : Option LimitedFlood) (t : ℕ) → o ≡ None → IsBy t o
none_by o t is = subst (IsBy t) (sym is) tt

none_before : (o : Option LimitedFlood) (t : ℕ) → o ≡ None → IsBefore t o
none_before o t is = subst (IsBefore t) (sym is) tt

one_more : (xs : List ServerView) (s : ServerView) (a b : Option LimitedFlood) → s.limited ≡ b → IsLastFlood xs a → IsLastFlood (xs ++ s ∷ []) (later_flood a b)
one_more xs s None None is last = All-push (λ (v : ServerView). v.limited ≡ None) xs s last is
one_more xs s None (Some b) is last =
    (xs, s, [], refl, is, All-weaker (λ (v : ServerView). v.limited ≡ None) (λ (v : ServerView). IsBy b.at v.limited) (λ v none. none_by v.limited b.at none) xs last, All-nil (λ (v : ServerView). IsBefore b.at v.limited))
one_more xs s (Some a) None is last =
    let whole : xs ++ s ∷ [] ≡ last.0 ++ last.1 ∷ (last.2 ++ s ∷ []) = ap (λ ys. ys ++ s ∷ []) last.3 ∙ append_assoc last.0 (last.1 ∷ last.2) (s ∷ []) in
    (last.0, last.1, last.2 ++ s ∷ [], whole, last.4, last.5, All-push (λ (v : ServerView). IsBefore a.at v.limited) last.2 s last.6 (none_before s.limited a.at is))
one_more xs s (Some a) (Some b) is last = by (nat_lt b.at a.at) refl
  where
    by : (c : Bool) → nat_lt b.at a.at ≡ c → IsLastFlood (xs ++ s ∷ []) (cond c (Some a) (Some b))
    by true earlier =
        let whole : xs ++ s ∷ [] ≡ last.0 ++ last.1 ∷ (last.2 ++ s ∷ []) = ap (λ ys. ys ++ s ∷ []) last.3 ∙ append_assoc last.0 (last.1 ∷ last.2) (s ∷ []) in
        (last.0, last.1, last.2 ++ s ∷ [], whole, last.4, last.5, All-push (λ (v : ServerView). IsBefore a.at v.limited) last.2 s last.6 (subst (IsBefore a.at) (sym is) ((Decides-ltb b.at a.at).0 earlier)))
    by false late =
        let P : ServerView → Type 0 = λ v. IsBy b.at v.limited in
        let le : a.at ≤ b.at = not_earlier late in
        let front : All P last.0 = All-weaker (λ (v : ServerView). IsBy a.at v.limited) P (λ v is. by_later v.limited a.at b.at le is) last.0 last.5 in
        let back : All P last.2 = All-weaker (λ (v : ServerView). IsBefore a.at v.limited) P (λ v is. before_by v.limited a.at b.at le is) last.2 last.6 in
        let own : P last.1 = subst (IsBy b.at) (sym last.4) le in
        (xs, s, [], refl, is, subst (All P) (sym last.3) (All-append P last.0 (last.1 ∷ last.2) front (All-cons P last.1 last.2 own back)), All-nil (λ (v : ServerView). IsBefore b.at v.limited))
      where
        not_earlier : nat_lt b.at a.at ≡ false → a.at ≤ b.at
        not_earlier late = elim (cases_lt b.at a.at) [
          | inl earlier ↦ absurd (let both : true ≡ false = sym ((Decides-ltb b.at a.at).1 earlier) ∙ late in cc)
          | inr past ↦ past
        ]

pub last_more : (servers : List ServerView) (i : ℕ) (s : ServerView) (a b next : Option LimitedFlood) → i < length servers → s ≡ get_or servers i s → b ≡ s.limited → next ≡ later_flood a b
    → IsLastFlood (take i servers) a → IsLastFlood (take (i + 1) servers) next
last_more servers i s a b next within item limited later last =
    let one : IsLastFlood (take i servers ++ s ∷ []) (later_flood a b) = one_more (take i servers) s a b (sym limited) last in
    let all : take i servers ++ s ∷ [] ≡ take (i + 1) servers = ap (λ v. take i servers ++ v ∷ []) item ∙ sym (take_more servers i s within) in
    subst (IsLastFlood (take (i + 1) servers)) (sym later) (subst (λ vs. IsLastFlood vs (later_flood a b)) all one)
