-- Facts of the link of every end, when one end is replaced or added.
use Rattle.std.proofs.Common.{◌≡◌, ◌≢◌, ℕ, List, [], ◌∷◌, ◌++◌, length, set, Some, ◌∙◌, sym, ap, subst, inl, inr}
use Rattle.std.specs.Prelude.{slice_get}
use Rattle.spx_link.specs.LinkView.{LinkView}
use Rattle.spx_theory.specs.Scene.{PresentEnd}
use Rattle.spx_theory.proofs.Lists.{get_last, get_set}

abbrev pub EachLink : (ℕ → LinkView → Type 0) → List PresentEnd → Type 0
EachLink P ends = (e : ℕ) (w : PresentEnd) (l : LinkView) → slice_get ends e ≡ Some w → w.link ≡ Some l → P e l

module _ (P Q : ℕ → LinkView → Type 0) (ends : List PresentEnd) (v : PresentEnd) (was : EachLink P ends) where
  pub links_put : (who : ℕ)
      → ((e : ℕ) (w : PresentEnd) (l : LinkView) → slice_get ends e ≡ Some w → e ≢ who → P e l → Q e l)
      → ((l : LinkView) → v.link ≡ Some l → Q who l) → EachLink Q (set ends who v)
  links_put who old new e w l at is =
      elim (get_set ends who e v w at) [
        | inl here ↦ subst (λ k. Q k l) here.0 (new l (ap (λ (x : PresentEnd). x.link) here.1 ∙ is))
        | inr other ↦ old e w l other.1 (λ z. other.0 (sym z)) (was e w l other.1 is)
      ]

  pub links_come : ((e : ℕ) (w : PresentEnd) (l : LinkView) → slice_get ends e ≡ Some w → P e l → Q e l)
      → ((l : LinkView) → v.link ≡ Some l → Q (length ends) l) → EachLink Q (ends ++ v ∷ [])
  links_come old new e w l at is =
      elim (get_last ends v w e at) [
        | inl before ↦ old e w l before (was e w l before is)
        | inr here ↦ subst (λ k. Q k l) (sym here.0) (new l (ap (λ (x : PresentEnd). x.link) here.1 ∙ is))
      ]
