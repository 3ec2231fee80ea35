-- What is read of one more line.
use Rattle.std.proofs.Common.{◌≡◌, ◌<◌, ℕ, ◌+◌, List, ◌++◌, [], ◌∷◌, Option, Some, None, length, map, take, get_or, sym, ap, ◌∙◌, arith}
use Rattle.std.specs.Borrow.{Bor}
use Rattle.std.specs.List.{cons_option, filter_map}
use Rattle.std.specs.Option.{option_map}
use Rattle.std.proofs.lemmas.List.{append-nil, get_or-map, length-map, map-append, take_more}
use Rattle.std.proofs.lemmas.List.Elements.{filter_map-append}
use Rattle.ipx_table_dump.specs.TableRead.{parts_view}

module _ {Y : Type 0} (h : List ℕ → Option Y) (parts : List (Bor (List ℕ))) (i : ℕ) (d : Bor (List ℕ)) (lt : i < length parts) where
  abbrev read_so_far : ℕ → List Y
  read_so_far n = filter_map h (take n (parts_view parts))

  one_line : get_or (parts_view parts) i d.now ≡ (get_or parts i d).now
  one_line = get_or-map (λ (p : Bor (List ℕ)). p.now) parts i d d.now lt

  within : i < length (parts_view parts)
  within = omega (arith, length-map parts (λ (p : Bor (List ℕ)). p.now), lt)

  read_more : read_so_far (i + 1) ≡ read_so_far i ++ cons_option (h (get_or parts i d).now) []
  read_more =
      ap (filter_map h) (take_more (parts_view parts) i d.now within)
      ∙ filter_map-append h (take i (parts_view parts)) (get_or (parts_view parts) i d.now ∷ [])
      ∙ ap (λ line. read_so_far i ++ cons_option (h line) []) one_line

  -- a line that gives something, and one that does not
  read_some : (old : List Y) (y : Y) → old ≡ read_so_far i → h (get_or parts i d).now ≡ Some y → old ++ y ∷ [] ≡ read_so_far (i + 1)
  read_some old y was is = ap (λ l. l ++ y ∷ []) was ∙ sym (read_more ∙ ap (λ o. read_so_far i ++ cons_option o []) is)

  read_none : (old : List Y) → old ≡ read_so_far i → h (get_or parts i d).now ≡ None → old ≡ read_so_far (i + 1)
  read_none old was is = was ∙ sym (read_more ∙ ap (λ o. read_so_far i ++ cons_option o []) is ∙ append-nil (read_so_far i))

  module _ {N : Type 0} (f : N → Y) (items : List N) (found : Option N) (was : map f items ≡ read_so_far i) (told : option_map f found ≡ h (get_or parts i d).now) where
    -- what was found is pushed; if nothing was found, nothing is
    pub pushed_more : (new : List N) (n : N) → found ≡ Some n → new ≡ items ++ n ∷ [] → map f new ≡ read_so_far (i + 1)
    pushed_more new n here is = ap (map f) is ∙ map-append f items (n ∷ []) ∙ read_some (map f items) (f n) was (sym told ∙ ap (option_map f) here)

    pub passed_more : found ≡ None → map f items ≡ read_so_far (i + 1)
    passed_more none = read_none (map f items) was (sym told ∙ ap (option_map f) none)
