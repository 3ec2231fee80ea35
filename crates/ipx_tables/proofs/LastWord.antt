-- A table says the last word on each key and source.
use Rattle.std.proofs.Common.{◌≡◌, ℕ, Bool, true, false, cond, List, [], ◌∷◌, ◌++◌, Option, Some, None, ◌⊎◌, inl, inr, refl, sym, ap, ◌∙◌}
use Rattle.std.specs.Prelude.{◌↔◌}
use Rattle.std.specs.List.{AllByRecursion}
use Rattle.std.specs.declared.cmp.Ordering.{Ordering}
use Rattle.ipx_tables.specs.declared.source.Source.{Source}
use Rattle.ipx_tables.specs.Content.{Content, is_same, is_young, still}
use Rattle.ipx_tables.specs.TableCalls.{Call, Hear, Age, after_call, after_calls, Spares, IsLastWord}
use Rattle.ipx_tables.proofs.Best.{some_pair}

module _ {K M : Type 0} (cmp : K → K → Ordering) (dead : M → Bool) (p : K × Source) (metric : M) (moment : ℕ) where
  -- a call that spares an offer keeps it
  kept_once : (c : Content K M) (call : Call K M) → c p ≡ Some (metric, moment) → Spares cmp p moment call → after_call cmp dead c call p ≡ Some (metric, moment)
  kept_once c (Hear q m t) h s = ap (λ b. cond b (cond (dead m) None (Some (m, t))) (c p)) s ∙ h
  kept_once c (Age t) h s = ap (still t) h ∙ ap (λ b. cond b (Some (metric, moment)) None) s

  kept : (calls : List (Call K M)) (c : Content K M) → c p ≡ Some (metric, moment) → AllByRecursion (Spares cmp p moment) calls → after_calls cmp dead c calls p ≡ Some (metric, moment)
  kept [] c h s = h
  kept (call ∷ calls) c h s = kept calls (after_call cmp dead c call) (kept_once c call h s.0) s.1

  -- the last word is in the table
  stands : (earlier : List (Call K M)) (q : K × Source) (later : List (Call K M)) (c : Content K M) → is_same cmp q p ≡ true → dead metric ≡ false → AllByRecursion (Spares cmp p moment) later → after_calls cmp dead c (earlier ++ Hear q metric moment ∷ later) p ≡ Some (metric, moment)
  stands [] q later c s d k = kept later _ (ap (λ b. cond b (cond (dead metric) None (Some (metric, moment))) (c p)) s ∙ ap (λ b. cond b None (Some (metric, moment))) d) k
  stands (call ∷ earlier) q later c s d k = stands earlier q later (after_call cmp dead c call) s d k

  -- an offer that is there after one call was made by it, or was there before and was spared
  abbrev Said : Content K M → Call K M → Type 0
  Said c call = (((c p ≡ Some (metric, moment)) × Spares cmp p moment call) ⊎ ((q : K × Source) × ((call ≡ Hear q metric moment) × ((is_same cmp q p ≡ true) × (dead metric ≡ false)))))

  said_once : (c : Content K M) (call : Call K M) → after_call cmp dead c call p ≡ Some (metric, moment) → Said c call
  said_once c (Hear q m t) h = elim (is_same cmp q p) as (λ b. is_same cmp q p ≡ b → cond {A = Option (M × ℕ)} b (cond {A = Option (M × ℕ)} (dead m) None (Some (m, t))) (c p) ≡ Some (metric, moment) → Said c (Hear q m t)) [
    | true ↦ λ e g. elim (dead m) as (λ b. dead m ≡ b → cond {A = Option (M × ℕ)} b None (Some (m, t)) ≡ Some (metric, moment) → Said c (Hear q m t)) [
      | true ↦ λ d k. cc
      | false ↦ λ d k.
          let same = some_pair (m, t) (metric, moment) k in
          inr (q, (ap (λ v. Hear q v t) same.0 ∙ ap (Hear q metric) same.1, (e, ap dead (sym same.0) ∙ d)))
    ] refl g
    | false ↦ λ e g. inl (g, e)
  ] refl h
  said_once c (Age t) h = elim (c p) as (λ v. still t v ≡ Some (metric, moment) → ((v ≡ Some (metric, moment)) × (is_young t moment ≡ true)) ⊎ ((q : K × Source) × ((Age t ≡ Hear q metric moment) × ((is_same cmp q p ≡ true) × (dead metric ≡ false))))) [
    | None ↦ λ g. cc
    | Some v ↦ λ g. elim (is_young t v.1) as (λ b. is_young t v.1 ≡ b → cond b (Some v) None ≡ Some (metric, moment) → ((Some v ≡ Some (metric, moment)) × (is_young t moment ≡ true)) ⊎ ((q : K × Source) × ((Age t ≡ Hear q metric moment) × ((is_same cmp q p ≡ true) × (dead metric ≡ false))))) [
      | true ↦ λ e k. inl (k, ap (is_young t) (sym (some_pair v (metric, moment) k).1) ∙ e)
      | false ↦ λ e k. cc
    ] refl g
  ] h

  -- an offer that is there at the end was there at first and was spared, or is the last word
  said : (calls : List (Call K M)) (c : Content K M) → after_calls cmp dead c calls p ≡ Some (metric, moment) → ((c p ≡ Some (metric, moment)) × AllByRecursion (Spares cmp p moment) calls) ⊎ IsLastWord cmp dead calls p metric moment
  said [] c h = inl (h, tt)
  said (call ∷ calls) c h = elim (said calls (after_call cmp dead c call) h) [
    | inl old ↦ elim (said_once c call old.0) [
      | inl first ↦ inl (first.0, (first.1, old.1))
      | inr word ↦ inr (record { earlier = []; said_of = word.0; later = calls; are = ap (λ v. v ∷ calls) word.1.0; same = word.1.1.0; alive = word.1.1.1; spared = old.1 })
    ]
    | inr word ↦ inr (record { earlier = call ∷ word.earlier; said_of = word.said_of; later = word.later; are = ap (λ v. call ∷ v) word.are; same = word.same; alive = word.alive; spared = word.spared })
  ]

  pub last_word : (calls : List (Call K M)) → (after_calls cmp dead (λ q. None) calls p ≡ Some (metric, moment)) ↔ IsLastWord cmp dead calls p metric moment
  last_word calls = (
    λ h. elim (said calls (λ q. None) h) [ inl none ↦ cc | inr word ↦ word ],
    λ w. ap (λ v. after_calls cmp dead (λ q. None) v p) w.are ∙ stands w.earlier w.said_of w.later (λ q. None) w.same w.alive w.spared,
  )
