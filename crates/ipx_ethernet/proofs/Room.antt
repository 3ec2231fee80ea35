-- The last items of a list with one more after it, and what is put after all.
use Rattle.std.proofs.Common.{◌≡◌, ◌+◌, ◌-◌, ℕ, List, [], ◌∷◌, ◌++◌, length, take, drop, arith, refl, sym, ap, ◌∙◌}
use Rattle.std.proofs.lemmas.List.{drop-append-le, length-append}
use Rattle.ipx_ethernet.specs.declared.mac_table.Station.{Station}
use Rattle.ipx_ethernet.specs.SwitchEnds.{last_of, max_stations}

pub last_with : (xs : List Station) (s : Station)
    → drop (length xs + 1 - max_stations) xs ++ s ∷ [] ≡ last_of max_stations (xs ++ s ∷ [])
last_with xs s =
    let n = length xs + 1 - max_stations in
    sym (drop-append-le n xs (s ∷ []) (omega arith)) ∙ ap (λ (i : ℕ). drop (i - max_stations) (xs ++ s ∷ [])) (sym (length-append xs (s ∷ [])))

pub after_all : (xs : List Station) (s : Station) → take (length xs) xs ++ s ∷ drop (length xs) xs ≡ xs ++ s ∷ []
after_all [] s = refl
after_all (x ∷ xs) s = ap (λ (l : List Station). x ∷ l) (after_all xs s)
