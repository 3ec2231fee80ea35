-- A list that is split into packets, which are added one after another.
use Rattle.std.proofs.Common.{◌≡◌, ℕ, true, false, ◌<◌, List, [], ◌∷◌, ◌++◌, length, take, drop, refl, sym, ap, ◌∙◌, arith, inl, inr, min, append-nil}
use Rattle.std.proofs.lemmas.Bool.{cases_lt}
use Rattle.std.proofs.lemmas.List.{take_all, drop_all}
use Rattle.std.specs.Prelude.{◌==◌}
use borrow.Author.Tests.{eqb-true}
use Rattle.ipx_router.specs.declared.outcome.Reply.{Reply}
use Rattle.ipx_router.specs.RouterPackets.{AreCutOf, SendingView, sending_of, sendings}
use Rattle.ipx_router.specs.Adding.{AddsPackets, IsLeftToAdd}

pub sendings_push : (old : List Reply) (r : Reply) (later : List SendingView) → sendings (old ++ r ∷ []) ++ later ≡ sendings old ++ (sending_of r ∷ later)
sendings_push [] r later = refl
sendings_push (x ∷ old) r later = ap (λ (t : List SendingView). sending_of x ∷ t) (sendings_push old r later)

module _ {E : Type 0} (most : ℕ) (IsPacketOf : List E → SendingView → Type 0) (entries rest : List E) (old new : List Reply) (left : IsLeftToAdd (AreCutOf most IsPacketOf) entries rest old new) where
  -- one more packet
  pub cut_more : (r : Reply) → 0 < length rest → IsPacketOf (take most rest) (sending_of r) → IsLeftToAdd (AreCutOf most IsPacketOf) entries (drop most rest) old (new ++ r ∷ [])
  cut_more r some is later cut =
      let w = left (sending_of r ∷ later) (some, is, cut) in
      (w.0, sendings_push new r later ∙ w.1, w.2)

  -- and no more
  pub cut_done : rest ≡ [] → AddsPackets (AreCutOf most IsPacketOf entries) old new
  cut_done none = let w = left [] none in (w.0, sym (append-nil (sendings new)) ∙ w.1, w.2)

-- what is taken of a list of at most n is taken of the list
pub take_fewer : {E : Type 0} (most n : ℕ) (xs : List E) → n ≡ min (length xs) most → (take n xs ≡ take most xs) × (drop n xs ≡ drop most xs)
take_fewer most n xs e = elim (cases_lt most (length xs)) [
  | inl less ↦ let same : n ≡ most = omega arith in rw same (refl, refl)
  | inr not_less ↦
      let all : n ≡ length xs = omega arith in
      (take_all n xs (omega arith) ∙ sym (take_all most xs (omega arith)), drop_all n xs (omega arith) ∙ sym (drop_all most xs (omega arith)))
]

pub some_left : {E : Type 0} (xs : List E) → (length xs == 0) ≡ false → 0 < length xs
some_left [] e = cc
some_left (x ∷ xs) e = omega arith

pub none_left : {E : Type 0} (xs : List E) → (length xs == 0) ≡ true → xs ≡ []
none_left [] e = refl
none_left (x ∷ xs) e = absurd (omega (arith, eqb-true (length (x ∷ xs)) 0 e))
