-- What a device records over two calls is what it records of both.
use Rattle.std.proofs.Common.{◌≡◌, ℕ, ◌+◌, Bool, List, [], ◌∷◌, ◌++◌, Option, Some, None, sym, ap, ◌∙◌, subst, append_assoc, append-nil, cond}
use Rattle.std.specs.List.{count_by}
use Rattle.std.proofs.lemmas.List.Sums.{sum_by-append}
use Rattle.ipx_carrier.specs.Device.{Passes, Reception, TellsMoments, TrafficOf, with_more}

more_twice : {A : Type 0} (t : TrafficOf A) (rs rs' : List Reception) (ds ds' : List A) → with_more (with_more t rs ds) rs' ds' ≡ with_more t (rs ++ rs') (ds ++ ds')
more_twice t rs rs' ds ds' = simp append_assoc

nothing_more : {A : Type 0} (t : TrafficOf A) → with_more t [] [] ≡ t
nothing_more t = simp append-nil

pub passes_nothing : {A : Type 0} (a b : Option (TrafficOf A)) → b ≡ a → Passes a b [] []
passes_nothing None b e = tt
passes_nothing (Some t) b e = e ∙ ap Some (sym (nothing_more t))

pub passes_on : {A : Type 0} (a b c : Option (TrafficOf A)) (rs rs' : List Reception) (ds ds' : List A) → Passes a b rs ds → Passes b c rs' ds' → Passes a c (rs ++ rs') (ds ++ ds')
passes_on None b c rs rs' ds ds' h k = tt
passes_on {A} (Some t) b c rs rs' ds ds' h k =
    let k' : c ≡ Some (with_more (with_more t rs ds) rs' ds') = subst (λ (b : Option (TrafficOf A)). Passes b c rs' ds') h k in
    k' ∙ ap Some (more_twice t rs rs' ds ds')

pub passes_received : {A : Type 0} (a b c : Option (TrafficOf A)) (rs rs' : List Reception) → Passes a b rs [] → Passes b c rs' [] → Passes a c (rs ++ rs') []
passes_received a b c rs rs' = passes_on a b c rs rs' [] []

pub passes_sent : {A : Type 0} (a b c : Option (TrafficOf A)) (ds ds' : List A) → Passes a b [] ds → Passes b c [] ds' → Passes a c [] (ds ++ ds')
passes_sent a b c ds ds' = passes_on a b c [] [] ds ds'

pub count-append : {A : Type 0} (p : A → Bool) (xs ys : List A) → count_by p (xs ++ ys) ≡ count_by p xs + count_by p ys
count-append p xs ys = sum_by-append (λ x. cond (p x) 1 0) xs ys

module _ {K : Type 0} (tells : K → ℕ → K → Type 0) where
  pub tells_on : (a b c : K) (ms ms' : List ℕ) → TellsMoments tells a b ms → TellsMoments tells b c ms' → TellsMoments tells a c (ms ++ ms')
  tells_on a b c [] ms' h k = subst (λ a. TellsMoments tells a c ms') h k
  tells_on a b c (m ∷ ms) ms' h k = (h.0, h.1, tells_on h.0 b c ms ms' h.2 k)
