-- The lines of a text of tables, and the words of each.
use Rattle.std.proofs.Common.{◌≡◌, ℕ, List, ◌++◌, [], ◌∷◌, Option, sym, ap, ◌∙◌, refl}
use Rattle.std.specs.Prelude.{◌==◌}
use Rattle.std.specs.List.{AllByRecursion, cons_option, filter_map}
use Rattle.std.proofs.lemmas.List.{append-nil, append_assoc}
use Rattle.std.proofs.lemmas.List.Elements.{All-from_recursion}
use Rattle.std.proofs.lemmas.List.Splits.{slice_split_at, slice_split_none}
use Rattle.ipx_table_dump.specs.TableRead.{lines_in, words_in}
use Rattle.ipx_table_dump.proofs.Clean.{IsFree, IsOther, free_append}

-- pieces in a row, followed by a rest
abbrev pub cat : List (List ℕ) → List ℕ → List ℕ
cat [] tail = tail
cat (w ∷ ws) tail = w ++ cat ws tail

pub cat_append : (ws : List (List ℕ)) (tail rest : List ℕ) → cat ws tail ++ rest ≡ cat ws (tail ++ rest)
cat_append [] tail rest = refl
cat_append (w ∷ ws) tail rest = append_assoc w (cat ws tail) rest ∙ ap (λ t. w ++ t) (cat_append ws tail rest)

pub free_cat : (c : ℕ) (ws : List (List ℕ)) (tail : List ℕ) → AllByRecursion (IsFree c) ws → IsFree c tail → IsFree c (cat ws tail)
free_cat c [] tail all free = free
free_cat c (w ∷ ws) tail all free = free_append c w (cat ws tail) all.0 (free_cat c ws tail all.1 free)

-- a line ends at its line end
pub one_line : (ws : List (List ℕ)) (line rest : List ℕ) → AllByRecursion (IsFree 10) ws → line ≡ cat ws (10 ∷ []) → lines_in (line ++ rest) ≡ cat ws [] ∷ lines_in rest
one_line ws line rest free is =
    let whole : line ++ rest ≡ cat ws [] ++ 10 ∷ rest = ap (λ l. l ++ rest) is ∙ cat_append ws (10 ∷ []) rest ∙ sym (cat_append ws [] (10 ∷ rest)) in
    ap lines_in whole ∙ slice_split_at (λ b. b == 10) (cat ws []) 10 rest (All-from_recursion (IsOther 10) (cat ws []) (free_cat 10 ws [] free tt)) refl

-- a word ends at a blank, or with its line
pub one_word : (w rest : List ℕ) → IsFree 32 w → words_in (w ++ 32 ∷ rest) ≡ w ∷ words_in rest
one_word w rest free = slice_split_at (λ b. b == 32) w 32 rest (All-from_recursion (IsOther 32) w free) refl

pub last_word : (w : List ℕ) → IsFree 32 w → words_in (w ++ []) ≡ w ∷ []
last_word w free = ap words_in (append-nil w) ∙ slice_split_none (λ b. b == 32) w (All-from_recursion (IsOther 32) w free)

-- what is read of a line and of the rest after it
pub read_line : {Y : Type 0} (h : List (List ℕ) → Option Y) (ws : List (List ℕ)) (words : List (List ℕ)) (line rest : List ℕ) → AllByRecursion (IsFree 10) ws → line ≡ cat ws (10 ∷ []) → words_in (cat ws []) ≡ words
    → filter_map (λ l. h (words_in l)) (lines_in (line ++ rest)) ≡ cons_option (h words) (filter_map (λ l. h (words_in l)) (lines_in rest))
read_line h ws words line rest free is parts =
    ap (filter_map (λ l. h (words_in l))) (one_line ws line rest free is)
    ∙ ap (λ w. cons_option (h w) (filter_map (λ l. h (words_in l)) (lines_in rest))) parts
