-- A unit built in place, at the end of a list.
use Rattle.std.proofs.Common.{◌≡◌, ◌∙◌, ℕ, Bool, List, [], ◌∷◌, ◌++◌, ◌≤◌, length, take, slice_set, get_or, ap, refl, sym}
use Rattle.std.proofs.lemmas.List.{take_all}
use Rattle.ipx_wire.specs.Assigned.{spx_max_data_size}
use Rattle.std.proofs.Math.Seq.{set-append_seam}
use Rattle.spx_link.specs.declared.unit.Unit.{Unit}
use Rattle.spx_messages.specs.Cut.{unit_with}

-- the last item
end_of : (before : List Unit) (last other : Unit) → get_or (before ++ last ∷ []) (length before) other ≡ last
end_of [] last other = refl
end_of (u ∷ us) last other = end_of us last other

pub at_end : (before all : List Unit) (last other : Unit) (place : ℕ) → place ≡ length before → all ≡ before ++ last ∷ []
    → get_or all place other ≡ last
at_end before all last other place at is =
    ap (λ us. get_or us place other) is
    ∙ ap (λ n. get_or (before ++ last ∷ []) n other) at
    ∙ end_of before last other

pub set_at_end : (before all : List Unit) (empty full : Unit) (place : ℕ) → place ≡ length before → all ≡ before ++ empty ∷ []
    → slice_set all place full ≡ before ++ full ∷ []
set_at_end before all empty full place at is =
    ap (λ us. slice_set us place full) is
    ∙ ap (λ n. slice_set (before ++ empty ∷ []) n full) at
    ∙ set-append_seam before empty [] full

-- if the bytes fit in a unit, their first 534 are all of them
pub whole_is : (bytes whole : List ℕ) → whole ≡ take 534 bytes → length bytes ≤ spx_max_data_size → whole ≡ bytes
whole_is bytes whole is fits = is ∙ take_all 534 bytes fits
