-- Verdicts one by one, and the lines before the first one of no known form.
use Rattle.std.proofs.Common.{◌≡◌, ◌<◌, ◌≤◌, ℕ, ◌+◌, Bool, true, false, List, ◌++◌, ◌∷◌, [], length, take, drop, map, get_or, arith, sym, ap, ◌∙◌, refl, cond, subst, Result, Ok, Err, take-append-drop}
use Rattle.std.specs.Prelude.{string_bytes, if◌then◌else◌, ◌==◌, IfOk}
use Rattle.std.specs.List.{AllZip, enumerate_from, flat_map, list_all, take_while}
use Rattle.std.proofs.lemmas.Grind.{flat_map-append}
use Rattle.std.proofs.lemmas.List.{append-nil, drop_more, length-append, length-map, length-take, map-append, map_push, take_all, take_more}
use Rattle.std.proofs.lemmas.List.Splits.{length-slice_split}
use Rattle.std.proofs.lemmas.Slice.Zip.{AllZip-long, all_zipped_more}
use Rattle.std.proofs.lemmas.Bool.{ne_eqb}
use Rattle.std.proofs.lemmas.List.Sums.{count_by-le-length, sum_by_push, take_while-cons}
use Rattle.ipx_inspect.specs.declared.check.CheckCounts as code
use Rattle.ipx_inspect.specs.CheckLine.{LineView, Skipped, Vector, Malformed, input_lines, line_form}
use Rattle.ipx_inspect.specs.Check.{ChecksLines, IsVectorOutcome, VectorOutcomeView, Passed, Failed, check_status, last_line, failed_line, failed_lines, is_failed, is_known, is_vector}
use Rattle.ipx_inspect.specs.CheckCounts.{IsTotals}

enumerate_from-push : (n : ℕ) (vs : List VectorOutcomeView) (v : VectorOutcomeView) → enumerate_from n (vs ++ v ∷ []) ≡ enumerate_from n vs ++ (n + length vs, v) ∷ []
enumerate_from-push n [] v =
    let same : n ≡ n + 0 = omega arith in
    ap (λ (k : ℕ). (k, v) ∷ []) same
enumerate_from-push n (x ∷ vs) v =
    let rest = enumerate_from-push (n + 1) vs v in
    let same : n + 1 + length vs ≡ n + length (x ∷ vs) = omega arith in
    ap (λ (ps : List (ℕ × VectorOutcomeView)). (n, x) ∷ ps) (rest ∙ ap (λ (k : ℕ). enumerate_from (n + 1) vs ++ (k, v) ∷ []) same)

failed_lines-push : (vs : List VectorOutcomeView) (v : VectorOutcomeView) → failed_lines (vs ++ v ∷ []) ≡ failed_lines vs ++ failed_line (length vs + 1) v
failed_lines-push vs v =
    let line = λ (p : ℕ × VectorOutcomeView). failed_line p.0 p.1 in
    let place : 1 + length vs ≡ length vs + 1 = omega arith in
    ap (flat_map line) (enumerate_from-push 1 vs v) ∙ flat_map-append line (enumerate_from 1 vs) ((1 + length vs, v) ∷ [])
    ∙ ap (λ (k : ℕ). flat_map line (enumerate_from 1 vs) ++ (failed_line k v ++ [])) place
    ∙ ap (λ (t : List ℕ). flat_map line (enumerate_from 1 vs) ++ t) (append-nil (failed_line (length vs + 1) v))

-- one more verdict
pub IsTotals-push : (vs : List VectorOutcomeView) (v : VectorOutcomeView) (old new : code.CheckCounts) → IsTotals vs old → string_bytes new.text ≡ string_bytes old.text ++ failed_line (old.lines + 1) v → new.lines ≡ old.lines + 1
    → new.vectors ≡ old.vectors + cond (is_vector v) 1 0 → new.failed ≡ old.failed + cond (is_failed v) 1 0 → IsTotals (vs ++ v ∷ []) new
IsTotals-push vs v old new was text lines vectors failed =
    let place : failed_line (old.lines + 1) v ≡ failed_line (length vs + 1) v = ap (λ (n : ℕ). failed_line (n + 1) v) was.lines in
    record {
      text = text ∙ ap (λ (t : List ℕ). t ++ failed_line (old.lines + 1) v) was.text ∙ ap (λ (t : List ℕ). failed_lines vs ++ t) place ∙ sym (failed_lines-push vs v);
      lines = omega (arith, lines, was.lines, length-append vs (v ∷ []));
      vectors = omega (arith, vectors, was.vectors, sum_by_push (λ (x : VectorOutcomeView). cond (is_vector x) 1 0) vs v);
      failed = omega (arith, failed, was.failed, sum_by_push (λ (x : VectorOutcomeView). cond (is_failed x) 1 0) vs v);
    }

-- a line with a verdict is of a known form
known_line : (l : LineView) (v : VectorOutcomeView) → IsVectorOutcome l v → is_known l ≡ true
known_line Skipped v is = refl
known_line (Vector number bytes) v is = refl
known_line Malformed v is = absurd is

-- if all lines of a list have verdicts, they are what precedes the first line of no known form; if such a
-- line follows, it ends them
pub known_all : (ls : List LineView) (vs : List VectorOutcomeView) → AllZip IsVectorOutcome ls vs → (take_while is_known ls ≡ ls) × (list_all is_known ls ≡ true)
known_all [] [] are = (refl, refl)
known_all [] (v ∷ vs) are = absurd are
known_all (l ∷ ls) [] are = absurd are
known_all (l ∷ ls) (v ∷ vs) are =
    let first = known_line l v are.0 in
    let rest = known_all ls vs are.1 in
    (take_while-cons is_known l ls ∙ rw (first, rest.0) refl, rw (first, rest.1) refl)

pub known_until : (ls more : List LineView) (vs : List VectorOutcomeView) → AllZip IsVectorOutcome ls vs → (take_while is_known (ls ++ Malformed ∷ more) ≡ ls) × (list_all is_known (ls ++ Malformed ∷ more) ≡ false)
known_until [] more [] are = (refl, refl)
known_until [] more (v ∷ vs) are = absurd are
known_until (l ∷ ls) more [] are = absurd are
known_until (l ∷ ls) more (v ∷ vs) are =
    let first = known_line l v are.0 in
    let rest = known_until ls more vs are.1 in
    (take_while-cons is_known l (ls ++ Malformed ∷ more) ∙ rw (first, rest.0) refl, rw (first, rest.1) refl)

pub failed_where : (found wanted : ℕ) → (found ≡ wanted → ⊥) → Failed ≡ (if found == wanted then Passed else Failed)
failed_where found wanted ne = rw (ne_eqb found wanted ne) refl

-- an input has few lines
pub few_lines : (input : List ℕ) (n : ℕ) (vs : List VectorOutcomeView) (t : code.CheckCounts) → length input ≤ 1000000 → AllZip IsVectorOutcome (map line_form (take n (input_lines input))) vs → IsTotals vs t → t.lines ≤ 1000001
few_lines input n vs t short are is =
    let long = AllZip-long IsVectorOutcome (map line_form (take n (input_lines input))) vs are in
    omega (arith, short, is.lines, long, length-map (take n (input_lines input)) line_form, length-take n (input_lines input), length-slice_split (λ (b : ℕ). b == 10) input, count_by-le-length (λ (b : ℕ). b == 10) input)

-- one more line with its verdict
pub lines_more : (lines : List (List ℕ)) (n : ℕ) (line : List ℕ) (v : VectorOutcomeView) (vs : List VectorOutcomeView) → n < length lines → line ≡ get_or lines n line → IsVectorOutcome (line_form line) v
    → AllZip IsVectorOutcome (map line_form (take n lines)) vs → AllZip IsVectorOutcome (map line_form (take (n + 1) lines)) (vs ++ v ∷ [])
lines_more lines n line v vs lt there is are =
    let more : take (n + 1) lines ≡ take n lines ++ line ∷ [] = take_more lines n line lt ∙ ap (λ (x : List ℕ). take n lines ++ x ∷ []) (sym there) in
    let forms : map line_form (take (n + 1) lines) ≡ map line_form (take n lines) ++ line_form line ∷ [] = ap (map line_form) more ∙ map_push line_form (take n lines) line in
    subst (λ (ls : List LineView). AllZip IsVectorOutcome ls (vs ++ v ∷ [])) (sym forms) (all_zipped_more IsVectorOutcome (map line_form (take n lines)) vs (line_form line) v are is)

-- what is written at a line of no known form
pub checked_to_bad_line : {L E : Type 0} (r : Result L E) (text : L → List ℕ) (status : L → ℕ) (lines : List (List ℕ)) (n : ℕ) (line : List ℕ) (t : code.CheckCounts) (vs : List VectorOutcomeView)
    → n < length lines → line ≡ get_or lines n line → line_form line ≡ Malformed → AllZip IsVectorOutcome (map line_form (take n lines)) vs → IsTotals vs t
    → IfOk r (λ l. (ws : List VectorOutcomeView) → IsTotals ws t → (text l ≡ failed_lines ws ++ last_line false ws) × (status l ≡ check_status false ws))
    → IfOk r (λ l. ChecksLines (map line_form lines) (text l) (status l))
checked_to_bad_line (Err e) text status lines n line t vs lt there bad are is told = tt
checked_to_bad_line (Ok l) text status lines n line t vs lt there bad are is told =
    let front = map line_form (take n lines) in
    let behind = map line_form (drop (n + 1) lines) in
    let cut : lines ≡ take n lines ++ (line ∷ drop (n + 1) lines) =
    sym (take-append-drop n lines) ∙ ap (λ (ls : List (List ℕ)). take n lines ++ ls) (drop_more lines n line lt ∙ ap (λ (x : List ℕ). x ∷ drop (n + 1) lines) (sym there)) in
    let forms : map line_form lines ≡ front ++ (Malformed ∷ behind) =
    ap (map line_form) cut ∙ map-append line_form (take n lines) (line ∷ drop (n + 1) lines) ∙ ap (λ (x : LineView). front ++ (x ∷ behind)) bad in
    let until = known_until front behind vs are in
    let said = told vs is in
    let checks : ChecksLines (front ++ (Malformed ∷ behind)) (text l) (status l) = (
      vs,
      subst (λ (ls : List LineView). AllZip IsVectorOutcome ls vs) (sym until.0) are,
      subst (λ (b : Bool). text l ≡ failed_lines vs ++ last_line b vs) (sym until.1) said.0,
      subst (λ (b : Bool). status l ≡ check_status b vs) (sym until.1) said.1,
    ) in
    subst (λ (ls : List LineView). ChecksLines ls (text l) (status l)) (sym forms) checks

-- what is written at the end
pub checked_to_end : {L E : Type 0} (r : Result L E) (text : L → List ℕ) (status : L → ℕ) (lines : List (List ℕ)) (n : ℕ) (t : code.CheckCounts) (vs : List VectorOutcomeView) → length lines ≤ n
    → AllZip IsVectorOutcome (map line_form (take n lines)) vs → IsTotals vs t
    → IfOk r (λ l. (ws : List VectorOutcomeView) → IsTotals ws t → (text l ≡ failed_lines ws ++ last_line true ws) × (status l ≡ check_status true ws))
    → IfOk r (λ l. ChecksLines (map line_form lines) (text l) (status l))
checked_to_end (Err e) text status lines n t vs le are is told = tt
checked_to_end (Ok l) text status lines n t vs le are is told =
    let all = subst (λ (ls : List (List ℕ)). AllZip IsVectorOutcome (map line_form ls) vs) (take_all n lines le) are in
    let known = known_all (map line_form lines) vs all in
    let said = told vs is in (
      vs,
      subst (λ (ls : List LineView). AllZip IsVectorOutcome ls vs) (sym known.0) all,
      subst (λ (b : Bool). text l ≡ failed_lines vs ++ last_line b vs) (sym known.1) said.0,
      subst (λ (b : Bool). status l ≡ check_status b vs) (sym known.1) said.1,
    )
