-- The lists of the indices of units, as they grow.
use Rattle.std.proofs.Common.{◌≡◌, ◌<◌, ◌+◌, ◌==◌, ℕ, zero, suc, List, [], ◌∷◌, ◌++◌, length, get_or, map, set, refl, sym, ◌∙◌, ap, arith, Bool, true, false, eqb-true, zero-add, append-nil}
use Rattle.std.specs.Prelude.{if◌then◌else◌}
use Rattle.std.proofs.lemmas.Bool.{eqb-false}
use Rattle.std.proofs.lemmas.List.{map-set, get_or-set_same, get_or-set_other, length-map}
use Rattle.ipx_net.specs.Places.{places_from}
use Rattle.ipx_net.proofs.Counting.{places-push}
use Rattle.ipx_net.proofs.Sightings.{view_at}

-- an element with the same view
pub set_same_view : {A B : Type 0} (f : A → B) (xs : List A) (k : ℕ) (old new : A) → k < length xs → old ≡ get_or xs k old → f new ≡ f old → map f (set xs k new) ≡ map f xs
set_same_view f [] k old new h is same = absurd (omega arith)
set_same_view f (y ∷ ys) zero old new h is same = ap (λ z. z ∷ map f ys) (same ∙ ap f is)
set_same_view f (y ∷ ys) (suc k) old new h is same = ap (λ zs. f y ∷ zs) (set_same_view f ys k old new (omega arith) is same)

-- the indices of an end and those of another after one more unit
own_place : (who e : ℕ) (sent : List ℕ) → (who == e) ≡ true → places_from 0 e (sent ++ who ∷ []) ≡ places_from 0 e sent ++ length sent ∷ []
own_place who e sent same =
    places-push 0 e who sent ∙ ap (λ b. places_from 0 e sent ++ (if b then (0 + length sent) ∷ [] else [])) same ∙ ap (λ n. places_from 0 e sent ++ n ∷ []) (zero-add (length sent))

other_place : (who e : ℕ) (sent : List ℕ) → (who == e) ≡ false → places_from 0 e (sent ++ who ∷ []) ≡ places_from 0 e sent
other_place who e sent differ =
    places-push 0 e who sent ∙ ap (λ b. places_from 0 e sent ++ (if b then (0 + length sent) ∷ [] else [])) differ ∙ append-nil (places_from 0 e sent)

listed_by : {A : Type 0} (f : A → List ℕ) (xs : List A) (who place : ℕ) (old new : A) (sent : List ℕ) → who < length xs → old ≡ get_or xs who old → f new ≡ f old ++ place ∷ [] → length sent ≡ place
    → ((e : ℕ) → get_or (map f xs) e [] ≡ places_from 0 e sent) → (e : ℕ) (b : Bool) → (who == e) ≡ b → get_or (set (map f xs) who (f new)) e [] ≡ places_from 0 e (sent ++ who ∷ [])
listed_by f xs who place old new sent h is added next before e true same =
    let one : who ≡ e = eqb-true who e same in
    let within : who < length (map f xs) = rw length-map h in
    let was : f old ≡ places_from 0 e sent = sym (view_at f xs who old [] h is) ∙ ap (λ n. get_or (map f xs) n []) one ∙ before e in
    ap (λ n. get_or (set (map f xs) who (f new)) n []) (sym one) ∙ get_or-set_same (map f xs) who (f new) [] within ∙ added
    ∙ ap (λ ys. ys ++ place ∷ []) was ∙ ap (λ n. places_from 0 e sent ++ n ∷ []) (sym next) ∙ sym (own_place who e sent same)
listed_by f xs who place old new sent h is added next before e false differ =
    get_or-set_other (map f xs) who e (f new) [] (λ same. eqb-false who e differ (sym same)) ∙ before e ∙ sym (other_place who e sent differ)

-- one more index in the list of an end
pub listed_on : {A : Type 0} (f : A → List ℕ) (xs : List A) (who place : ℕ) (old new : A) (sent : List ℕ) → who < length xs → old ≡ get_or xs who old → f new ≡ f old ++ place ∷ [] → length sent ≡ place
    → ((e : ℕ) → get_or (map f xs) e [] ≡ places_from 0 e sent) → (e : ℕ) → get_or (map f (set xs who new)) e [] ≡ places_from 0 e (sent ++ who ∷ [])
listed_on f xs who place old new sent h is added next before e =
    ap (λ ys. get_or ys e []) (map-set f xs who new) ∙ listed_by f xs who place old new sent h is added next before e (who == e) refl
