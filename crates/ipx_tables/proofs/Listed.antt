-- What is found is an offer of the list.
use Rattle.std.proofs.Common.{◌≡◌, ℕ, zero, suc, ◌<◌, Bool, true, false, cond, List, [], ◌∷◌, Option, Some, length, get_or, refl, sym, ap, ◌∙◌, arith}
use Rattle.std.specs.List.{Contains}
use Rattle.std.specs.Cmp.{IsEquivalence}
use Rattle.ipx_tables.specs.declared.source.Source.{Source}
use Rattle.ipx_tables.specs.declared.offer.Offer.{Offer}
use Rattle.ipx_tables.specs.Content.{said_of, found, HasDistinctKeys, pair_of}
use Rattle.ipx_tables.proofs.Lists.{found_same, none_told}
use Rattle.ipx_tables.proofs.Best.{some_pair}

-- an offer of the list that says what is found
pub record IsFound {K M : Type 0} (same : K × Source → K × Source → Bool) (os : List (Offer K M)) (p : K × Source) (v : M × ℕ) : Type 0 where
  pub offer : Offer K M
  pub there : Contains os offer
  pub same_pair : same (pair_of offer) p ≡ true
  pub metric : offer.metric ≡ v.0
  pub heard : offer.heard ≡ v.1

module _ {K M : Type 0} {same : K × Source → K × Source → Bool} (e : IsEquivalence same) where
  -- each offer of the list is found
  pub member_found : {B : Type 0} (told : Offer K M → B) (os : List (Offer K M)) (j : ℕ) (d : Offer K M) → HasDistinctKeys same os → j < length os → found same told os (pair_of (get_or os j d)) ≡ Some (told (get_or os j d))
  member_found told [] j d a lt = absurd (omega (arith, lt))
  member_found told (o ∷ os) zero d a lt = ap (λ b. cond b (Some (told o)) (found same told os (pair_of o))) (e.refl (pair_of o))
  member_found {B} told (o ∷ os) (suc j) d a lt =
      let p = pair_of (get_or os j d) in
      let rest : found same told os p ≡ Some (told (get_or os j d)) = member_found told os j d a.1 (omega (arith, lt)) in
      elim (same (pair_of o) p) as (λ b. same (pair_of o) p ≡ b → cond {A = Option B} b (Some (told o)) (found same told os p) ≡ Some (told (get_or os j d))) [
        | true ↦ λ s. let gone = sym (none_told e told os (pair_of o) a.0) ∙ found_same e told os (pair_of o) p s ∙ rest in cc
        | false ↦ λ s. rest
      ] refl

  -- what is found is an offer of the list
  pub found_member : (os : List (Offer K M)) (p : K × Source) (v : M × ℕ) → found same said_of os p ≡ Some v → IsFound same os p v
  found_member [] p v h = cc
  found_member (o ∷ os) p v h = elim (same (pair_of o) p) as (λ b. same (pair_of o) p ≡ b → cond b (Some (o.metric, o.heard)) (found same said_of os p) ≡ Some v → IsFound same (o ∷ os) p v) [
    | true ↦ λ s g.
        let said = some_pair (o.metric, o.heard) v g in
        record { offer = o; there = (0, omega arith, refl); same_pair = s; metric = said.0; heard = said.1 }
    | false ↦ λ s g.
        let rest = found_member os p v g in
        record { offer = rest.offer; there = (suc rest.there.0, omega (arith, rest.there.1), rest.there.2); same_pair = rest.same_pair; metric = rest.metric; heard = rest.heard }
  ] refl h
