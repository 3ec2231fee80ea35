-- Lists of offers that say the same, without duplicates, have the same length.
use Rattle.std.proofs.Common.{◌≡◌, ℕ, Bool, List, [], ◌∷◌, length, Some, None, refl, sym, ap, ◌∙◌, arith}
use Rattle.std.specs.List.{remove}
use Rattle.std.specs.Cmp.{IsEquivalence}
use Rattle.std.proofs.lemmas.List.{get_or_default}
use Rattle.std.proofs.lemmas.List.Edits.{length-remove}
use Rattle.ipx_tables.specs.declared.source.Source.{Source}
use Rattle.ipx_tables.specs.declared.offer.Offer.{Offer}
use Rattle.ipx_tables.specs.Content.{said_of, found, HasDistinctKeys, pair_of}
use Rattle.ipx_tables.specs.OfferScan.{IsAt}
use Rattle.ipx_tables.proofs.Lists.{found_same, found_remove, separate_remove}
use Rattle.ipx_tables.proofs.Listed.{found_member}

module _ {K M : Type 0} {same : K × Source → K × Source → Bool} (e : IsEquivalence same) where
  head_found : (o : Offer K M) (os : List (Offer K M)) → found same said_of (o ∷ os) (pair_of o) ≡ Some (o.metric, o.heard)
  head_found o os = grind (arith, e.refl (pair_of o))

  place_found : (o : Offer K M) (ps : List (Offer K M)) → found same said_of ps (pair_of o) ≡ Some (o.metric, o.heard) → (i : ℕ) × IsAt same ps (pair_of o) i
  place_found o ps h =
      let f = found_member e ps (pair_of o) (o.metric, o.heard) h in
      (f.there.0, record { in_range = f.there.1; here = λ d. ap (λ v. same (pair_of v) (pair_of o)) (get_or_default ps f.there.0 d f.offer f.there.1 ∙ f.there.2) ∙ f.same_pair })

  -- what the other offers say is what is said without this one
  others_say : (o : Offer K M) (os ps : List (Offer K M)) (i : ℕ) → found same said_of os (pair_of o) ≡ None → HasDistinctKeys same ps → IsAt same ps (pair_of o) i → ((p : K × Source) → found same said_of (o ∷ os) p ≡ found same said_of ps p) → (q : K × Source) → found same said_of os q ≡ found same said_of (remove ps i) q
  others_say o os ps i gone apart here h q = grind (arith, found_remove e said_of ps (pair_of o) i apart here q, found_same e said_of os (pair_of o) q, gone, h q)

  pub same_content_same_count : (os ps : List (Offer K M)) → HasDistinctKeys same os → HasDistinctKeys same ps → ((p : K × Source) → found same said_of os p ≡ found same said_of ps p) → length os ≡ length ps
  same_content_same_count [] [] a b h = refl
  same_content_same_count [] (p ∷ ps) a b h = let never = h (pair_of p) ∙ head_found p ps in cc
  same_content_same_count (o ∷ os) ps a b h =
      let there = place_found o ps (sym (h (pair_of o)) ∙ head_found o os) in
      let rest = same_content_same_count os (remove ps there.0) a.1 (separate_remove e ps (pair_of o) there.0 b there.1) (others_say o os ps there.0 a.0 b there.1 h) in
      omega (arith, rest, length-remove ps there.0 there.1.in_range)
