-- The first free id: of sixteen ids in a row one is free where fewer links are held.
use Rattle.std.proofs.Common.{◌≡◌, ℕ, ◌+◌, ◌<◌, ◌%◌, List, false, refl, Option, None, Some, IsSome, is_some, length, arith}
use Rattle.std.proofs.lemmas.List.{length-map}
use Rattle.spx_link.specs.LinkView.{LinkView}
use Rattle.spx_link.specs.Links.{link_of, id_after, IsNextFree}
use Rattle.spx_link.specs.Sound.{own_of, ids_of}
use Rattle.spx_link.proofs.Apart.{among_ids}
use Rattle.spx_link.proofs.Lesser.{some_of}
use Rattle.spx_link.proofs.Pigeons.{as_many_places}

rounds_separate : (last i j : ℕ) → i < j → j < 16 → (last + j) % 65534 + 1 ≡ (last + i) % 65534 + 1 → ⊥
rounds_separate last i j below within e = omega arith

pub not_all_live : (links : List LinkView) (last : ℕ) → length links < 16 → ((k : ℕ) → k < 16 → IsSome (link_of links (id_after last k))) → ⊥
not_all_live links last few live =
    let f : ℕ → ℕ = λ k. id_after last k in
    let many = as_many_places f 16 (ids_of links) (λ i j below within e. rounds_separate last i j below within e) (λ k h. let l = some_of (link_of links (id_after last k)) (live k h) in among_ids links (id_after last k) l.0 l.1) in
    omega (arith, many, length-map links own_of, few)

pub none_of : {A : Type 0} (o : Option A) → is_some o ≡ false → o ≡ None
none_of None e = refl
none_of (Some x) e = cc

pub next_free_at : (links : List LinkView) (last steps id : ℕ) → id ≡ id_after last steps → is_some (link_of links id) ≡ false → ((k : ℕ) → k < steps → IsSome (link_of links (id_after last k))) → IsNextFree (record { last = last; links = links }) id
next_free_at links last steps id is free passed =
    record { steps = steps; is = is; free = none_of (link_of links id) free; passed = passed }
