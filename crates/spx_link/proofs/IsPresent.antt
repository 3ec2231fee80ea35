-- Places of a list, read after a write.
use Rattle.std.proofs.Common.{◌≡◌, ℕ, ◌<◌, List, set, slice_get, Some, length, ap, ◌∙◌, length-set}
use Rattle.std.proofs.lemmas.List.{get_or-set_same}
use Rattle.std.proofs.lemmas.Option.{slice_get_within, slice_get-get_or}

-- what stands where it was written
pub slice_get_after_set : {A : Type 0} (xs : List A) (i : ℕ) (x y : A) → slice_get xs i ≡ Some x → slice_get (set xs i y) i ≡ Some y
slice_get_after_set xs i x y stands =
    let within : i < length xs = slice_get_within xs i x stands in
    let still : i < length (set xs i y) = simp length-set within in
    slice_get-get_or (set xs i y) i y still ∙ ap Some (get_or-set_same xs i y y within)
