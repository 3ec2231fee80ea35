-- The neighbours of static entries, and where they are.
use Rattle.std.proofs.Common.{All, ◌≡◌, ℕ, ◌+◌, ◌<◌, Bool, true, false, List, [], ◌∷◌, ◌++◌, get_or, length, take, refl, sym, subst}
use Rattle.std.specs.List.{AllZip, list_any}
use Rattle.std.proofs.lemmas.List.{take_more}
use Rattle.std.proofs.lemmas.List.Elements.{All-cons, All-head, All-nil, All-push, All-tail}
use Rattle.ipx_tables.specs.declared.source.Source.{Source}
use Rattle.ipx_static.specs.declared.neighbour.StaticNeighbour.{StaticNeighbour}
use Rattle.ipx_static.specs.StaticOffers.{static_source}
use Rattle.ipx_config.specs.declared.statics.StaticEntry.{StaticEntry}
use Rattle.ipx_config.specs.StaticLists.{is_one_source, named_sources, with_source}
use Rattle.ipx_site.specs.StaticNeighbours.{IsStaticNeighbour}

module _ (P : Source → Type 0) where
  with_has : (known : List Source) (s : Source) → All P known → P s → All P (with_source known s)
  with_has known s h first =
      let go : (b : Bool) → list_any (λ k. is_one_source k s) known ≡ b → All P (with_source known s) = elim [
        | true ↦ λ same. rw same h
        | false ↦ λ same. rw same (All-push P known s h first)
      ] in
      go (list_any (λ k. is_one_source k s) known) refl

  pub sources_have : (known : List Source) (es : List StaticEntry) → All P known → All (λ e. P e.by) es → All P (named_sources known es)
  sources_have known [] h all = h
  sources_have known (e ∷ es) h all =
      sources_have (with_source known e.by) es (with_has known e.by h (All-head (λ (x : StaticEntry). P x.by) e es all))
      (All-tail (λ (x : StaticEntry). P x.by) e es all)

  pub neighbours_have : (es : List StaticEntry) (ss : List Source) (ns : List StaticNeighbour) → AllZip (IsStaticNeighbour es) ss ns → All P ss
      → All (λ n. P (static_source n)) ns
  neighbours_have es [] [] z h = All-nil (λ (n : StaticNeighbour). P (static_source n))
  neighbours_have es [] (n ∷ ns) z h = absurd z
  neighbours_have es (s ∷ ss) [] z h = absurd z
  neighbours_have es (s ∷ ss) (n ∷ ns) z h =
      All-cons (λ (m : StaticNeighbour). P (static_source m)) n ns
      (subst P (sym z.0.source) (All-head P s ss h))
      (neighbours_have es ss ns z.1 (All-tail P s ss h))

-- one more of them, with its neighbour
zip_push : {A B : Type 0} (R : A → B → Type 0) (xs : List A) (ys : List B) (x : A) (y : B) → AllZip R xs ys → R x y
    → AllZip R (xs ++ x ∷ []) (ys ++ y ∷ [])
zip_push R [] [] x y z r = (r, tt)
zip_push R [] (b ∷ ys) x y z r = absurd z
zip_push R (a ∷ xs) [] x y z r = absurd z
zip_push R (a ∷ xs) (b ∷ ys) x y z r = (z.0, zip_push R xs ys x y z.1 r)

pub one_more_neighbour : (es : List StaticEntry) (ss : List Source) (i : ℕ) (d : Source) → i < length ss
    → (ns new : List StaticNeighbour) (n : StaticNeighbour) → new ≡ ns ++ n ∷ [] → AllZip (IsStaticNeighbour es) (take i ss) ns
    → IsStaticNeighbour es (get_or ss i d) n → AllZip (IsStaticNeighbour es) (take (i + 1) ss) new
one_more_neighbour es ss i d there ns new n more z silent =
    let s = get_or ss i d in
    let zipped = zip_push (IsStaticNeighbour es) (take i ss) ns s n z silent in
    let grown = subst (λ (l : List StaticNeighbour). AllZip (IsStaticNeighbour es) (take i ss ++ s ∷ []) l) (sym more) zipped in
    subst (λ (l : List Source). AllZip (IsStaticNeighbour es) l new) (sym (take_more ss i d there)) grown
