-- Marks in the order of their times: which are expired, which are late, and how they are corrected.
use Rattle.std.proofs.Common.{◌≡◌, ℕ, zero, suc, ◌+◌, ◌-◌, ◌<◌, ◌≤◌, ◌==◌, Bool, true, false, cond, not, eqb, List, [], ◌∷◌, ◌++◌, length, get_or, take, drop, map, Option, Some, None, OnSome, IsSome, Result, Ok, Err, OnOk, OnErr, slice_get, refl, sym, ap, ◌∙◌, subst, inl, inr, arith}
use mathlib.Core.Bool.{true≢false}
use Rattle.std.specs.List.{All, AllWithin, filter, list_any, remove}
use Rattle.std.specs.List.Sorted.{IsPartitionedBy, IsPermutation}
use Rattle.std.proofs.lemmas.Bool.{cases_lt, eq-eqb, eqb-true, lt-ltb, ltb-true, ne_eqb, not_from_false, or_parts}
use Rattle.std.proofs.lemmas.List.{get_or-map, get_or-take, length-drop, length-map, length-take, take-append-le, take_all}
use Rattle.std.proofs.lemmas.List.Elements.{All-cons, All-map}
use Rattle.std.proofs.lemmas.List.Kept.{AllPairs-filter}
use Rattle.std.proofs.lemmas.List.Sorted.{All-permutation, length_permutation}
use Rattle.std.proofs.lemmas.Option.{slice_get-get_or}
use Rattle.ipx_tables.specs.declared.marks.Mark.{Mark}
use Rattle.ipx_tables.specs.Content.{is_young}
use Rattle.ipx_tables.specs.Marks.{AreByTime, HaveDistinctSlots, IsNoLater, IsRightMark, is_late_for, is_late_mark, places_of, right_for, right_mark}
use Rattle.ipx_tables.specs.SlotOrder.{is_some_young, is_young_in}
use Rattle.ipx_tables.proofs.Trays.{filter_map_alike}

pub not_true : (b : Bool) → not b ≡ true → b ≡ false
not_true true h = cc
not_true false h = refl

pub not_false : (b : Bool) → not b ≡ false → b ≡ true
not_false true h = refl
not_false false h = cc

contra : (a b : Bool) → (a ≡ true → b ≡ true) → not b ≡ true → not a ≡ true
contra true b f h = absurd (true≢false (sym h ∙ ap not (f refl)))
contra false b f h = refl

pub young_later : (now a b : ℕ) → a ≤ b → is_young now a ≡ true → is_young now b ≡ true
young_later now a b le young = lt-ltb (now - b) 180000 (omega (arith, le, ltb-true (now - a) 180000 young))

-- the marks of expired times come first
pub old_are_first : (marks : List Mark) (now : ℕ) → AreByTime marks → IsPartitionedBy (λ m. not (is_young now m.moment)) marks
old_are_first marks now up i j d le lt old =
    contra (is_young now (get_or marks i d).moment) (is_young now (get_or marks j d).moment) (young_later now (get_or marks i d).moment (get_or marks j d).moment (up i j d le lt)) old

module _ {X : Type 0} (p : X → Bool) where
  pub filter_all : (xs : List X) → All (λ x. p x ≡ true) xs → filter p xs ≡ xs
  filter_all [] all = refl
  filter_all (x ∷ xs) all =
      ap (λ b. cond b (x ∷ filter p xs) (filter p xs)) (all 0 x (omega arith))
      ∙ ap (λ l. x ∷ l) (filter_all xs (λ j d lt. all (suc j) d (omega (arith, lt))))

  -- if only the item at one index fails, a filter removes just that item
  pub filter_remove : (xs : List X) (i : ℕ) → i < length xs → ((d : X) → p (get_or xs i d) ≡ false) → ((j : ℕ) (d : X) → j < length xs → (j ≡ i → ⊥) → p (get_or xs j d) ≡ true) → filter p xs ≡ remove xs i
  filter_remove [] i lt is once = absurd (omega (arith, lt))
  filter_remove (x ∷ xs) zero lt is once =
      ap (λ b. cond b (x ∷ filter p xs) (filter p xs)) (is x)
      ∙ filter_all xs (λ j d low. once (suc j) d (omega (arith, low)) (λ e. omega (arith, e)))
  filter_remove (x ∷ xs) (suc i) lt is once =
      ap (λ b. cond b (x ∷ filter p xs) (filter p xs)) (once 0 x (omega arith) (λ e. omega (arith, e)))
      ∙ ap (λ l. x ∷ l) (filter_remove xs i (omega (arith, lt)) is (λ j d low ne. once (suc j) d (omega (arith, low)) (λ same. ne (omega (arith, same)))))

  -- if an item fails, a filter gives the same without it
  pub filter_without : (xs : List X) (i : ℕ) → i < length xs → ((d : X) → p (get_or xs i d) ≡ false) → filter p (remove xs i) ≡ filter p xs
  filter_without [] i lt is = absurd (omega (arith, lt))
  filter_without (x ∷ xs) zero lt is = ap (λ b. cond b (x ∷ filter p xs) (filter p xs)) (sym (is x))
  filter_without (x ∷ xs) (suc i) lt is = ap (λ l. cond (p x) (x ∷ l) l) (filter_without xs i (omega (arith, lt)) is)

  split_filter : (xs : List X) (k : ℕ) → k ≤ length xs → AllWithin (λ x. p x ≡ false) xs 0 k → AllWithin (λ x. p x ≡ true) xs k (length xs) → filter p xs ≡ drop k xs
  split_filter [] zero le front back = refl
  split_filter [] (suc k) le front back = absurd (omega (arith, le))
  split_filter (x ∷ xs) zero le front back = filter_all (x ∷ xs) (λ j d lt. back j d (omega arith) lt)
  split_filter (x ∷ xs) (suc k) le front back =
      ap (λ b. cond b (x ∷ filter p xs) (filter p xs)) (front 0 x (omega arith) (omega arith))
      ∙ split_filter xs k (omega (arith, le)) (λ j d low lt. front (suc j) d (omega arith) (omega (arith, lt))) (λ j d low lt. back (suc j) d (omega (arith, low)) (omega (arith, lt)))

  -- if a front that fails is moved to the end and cut off there, that is what a filter leaves
  pub cut_is_filter : (xs : List X) (k many : ℕ) → k ≤ length xs → many ≡ length xs - k → AllWithin (λ x. p x ≡ false) xs 0 k → AllWithin (λ x. p x ≡ true) xs k (length xs) → take many (drop k xs ++ take k xs) ≡ filter p xs
  cut_is_filter xs k many le is front back =
      let long : many ≡ length (drop k xs) = omega (arith, is, length-drop k xs) in
      ap (λ n. take n (drop k xs ++ take k xs)) long
      ∙ take-append-le (length (drop k xs)) (drop k xs) (take k xs) (omega arith)
      ∙ take_all (length (drop k xs)) (drop k xs) (omega arith)
      ∙ sym (split_filter xs k le front back)

  none_of : (xs : List X) → list_any p xs ≡ false → All (λ x. p x ≡ false) xs
  none_of [] none j d lt = absurd (omega (arith, lt))
  none_of (x ∷ xs) none zero d lt = (or_parts (p x) (list_any p xs) none).0
  none_of (x ∷ xs) none (suc j) d lt = none_of xs (or_parts (p x) (list_any p xs) none).1 j d (omega (arith, lt))

  passed_head : (x : X) (rest : List X) (b : Bool) → p x ≡ b → All (λ y. p y ≡ true) rest → All (λ y. p y ≡ true) (cond b (x ∷ rest) rest)
  passed_head x rest true h all = All-cons (λ y. p y ≡ true) x rest h all
  passed_head x rest false h all = all

  -- each item that a filter keeps passes
  pub all_passed : (xs : List X) → All (λ x. p x ≡ true) (filter p xs)
  all_passed [] j d lt = absurd (omega (arith, lt))
  all_passed (x ∷ xs) j d lt = passed_head x (filter p xs) (p x) refl (all_passed xs) j d lt

-- what holds after a call that cannot be refused
pub came : {A E : Type 0} {P Q : Type 0} (r : Result A E) → OnOk r P → OnErr r Q → (Q → ⊥) → P
came (Ok a) done refused never = done
came (Err e) done refused never = absurd (never refused)

pub came_some : {A P : Type 0} (r : Option A) → IsSome r → OnSome r P → P
came_some None is done = absurd (true≢false (sym is))
came_some (Some a) is done = done

module _ (marks : List Mark) (n : ℕ) where
  kept_separate : (m : Mark) → (m.place ≡ n → ⊥) → not (m.place == n) ≡ true
  kept_separate m ne = not_from_false (eqb m.place n) (ne_eqb m.place n ne)

  -- the mark of a slot is removed
  pub mark_removed : (i : ℕ) → HaveDistinctSlots marks → i < length marks → ((d : Mark) → (get_or marks i d).place ≡ n) → filter (λ m. not (m.place == n)) marks ≡ remove marks i
  mark_removed i own lt is =
      filter_remove (λ (m : Mark). not (m.place == n)) marks i lt (λ d. ap not (eq-eqb (get_or marks i d).place n (is d))) (λ j d low ne. kept_separate (get_or marks j d) (λ same. elim (cases_lt j i) [
        | inl below ↦ own j i d below lt (same ∙ sym (is d))
        | inr not_below ↦ own i j d (cases_separate i j ne (omega (arith, not_below))) low (is d ∙ sym same)
      ]))
    where
      cases_separate : (i j : ℕ) → (j ≡ i → ⊥) → i < j + 1 → i < j
      cases_separate i j ne le = elim (cases_lt i j) [
        | inl less ↦ less
        | inr more ↦ absurd (ne (omega (arith, le, more)))
      ]

  pub no_mark : ((i : ℕ) (d : Mark) → i < length marks → (get_or marks i d).place ≡ n → ⊥) → filter (λ m. not (m.place == n)) marks ≡ marks
  no_mark absent = filter_all (λ (m : Mark). not (m.place == n)) marks (λ j d lt. kept_separate (get_or marks j d) (absent j d lt))

-- a filter keeps the order
pub by_moment_filter : (p : Mark → Bool) (marks : List Mark) → AreByTime marks → AreByTime (filter p marks)
by_moment_filter p marks up i j d le lt = elim (cases_lt i j) [
  | inl less ↦ AllPairs-filter (λ (a : Mark) (b : Mark). a.moment ≤ b.moment) p marks (λ i j d l m. up i j d (omega (arith, l)) m) i j d less lt
  | inr not_less ↦
      let same : i ≡ j = omega (arith, le, not_less) in
      omega (arith, ap (λ k. (get_or (filter p marks) k d).moment) same)
]

pub places_all : (P : ℕ → Type 0) (marks : List Mark) → All P (places_of marks) → All (λ m. P m.place) marks
places_all P marks all j d lt = subst P (get_or-map (λ m. m.place) marks j d d.place lt) (all j d.place (omega (arith, lt, length-map marks (λ m. m.place))))

pub all_places : (P : ℕ → Type 0) (marks : List Mark) → All (λ m. P m.place) marks → All P (places_of marks)
all_places P marks all = All-map P (λ m. m.place) marks all

-- marks whose slots are only reordered keep their number
pub many_moved : (old new : List Mark) → IsPermutation (places_of old) (places_of new) → length new ≡ length old
many_moved old new moved = omega (arith, length_permutation (places_of old) (places_of new) moved, length-map old (λ m. m.place), length-map new (λ m. m.place))

module _ {X : Type 0} (moment : X → ℕ) where
  right_place : (m : Mark) (o : Option X) → (right_for moment m o).place ≡ m.place
  right_place m None = refl
  right_place m (Some x) = refl

  pub places_right : (slots : List X) (marks : List Mark) → places_of (map (right_mark moment slots) marks) ≡ places_of marks
  places_right slots [] = refl
  places_right slots (m ∷ marks) =
      ap (λ n. n ∷ places_of (map (right_mark moment slots) marks)) (right_place m (slice_get slots m.place))
      ∙ ap (λ l. m.place ∷ l) (places_right slots marks)

  module _ (slots : List X) where
    right_one : (m : Mark) → m.place < length slots → IsRightMark moment slots (right_mark moment slots m)
    right_one m lt d = subst (λ o. moment (get_or slots (right_for moment m o).place d) ≡ (right_for moment m o).moment) (sym (slice_get-get_or slots m.place d lt)) refl

    -- corrected marks are right
    pub all_right : (marks : List Mark) → All (λ m. m.place < length slots) marks → All (IsRightMark moment slots) (map (right_mark moment slots) marks)
    all_right marks real = All-map (IsRightMark moment slots) (right_mark moment slots) marks (λ j d lt. right_one (get_or marks j d) (real j d lt))

    pub right_no_later : (marks : List Mark) → All (IsRightMark moment slots) marks → All (IsNoLater moment slots) marks
    right_no_later marks right j d lt e = omega (arith, right j d lt e)

    right_unless_late : (m : Mark) → m.place < length slots → is_late_mark moment slots m ≡ false → IsRightMark moment slots m
    right_unless_late m lt late d =
        eqb-true (moment (get_or slots m.place d)) m.moment (not_false (eqb (moment (get_or slots m.place d)) m.moment) (subst (λ o. is_late_for moment m o ≡ false) (slice_get-get_or slots m.place d lt) late))

    -- if none of the first marks is late, they are right
    pub front_right : (marks : List Mark) (k : ℕ) → k ≤ length marks → All (λ m. m.place < length slots) marks → list_any (is_late_mark moment slots) (take k marks) ≡ false → AllWithin (IsRightMark moment slots) marks 0 k
    front_right marks k le real none j d low lt =
        let late : is_late_mark moment slots (get_or marks j d) ≡ false = subst (λ m. is_late_mark moment slots m ≡ false) (get_or-take k marks j d lt) (none_of (is_late_mark moment slots) (take k marks) none j d (omega (arith, le, lt, length-take k marks))) in
        right_unless_late (get_or marks j d) (real j d (omega (arith, lt, le))) late

    -- if the marks before an index are right, and those from there on are young, the expired ones are right
    pub old_right : (marks : List Mark) (k now : ℕ) → AllWithin (IsRightMark moment slots) marks 0 k → AllWithin (λ m. is_young now m.moment ≡ true) marks k (length marks) → All (λ m. is_young now m.moment ≡ false → IsRightMark moment slots m) marks
    old_right marks k now right young j d lt old = elim (cases_lt j k) [
      | inl low ↦ right j d (omega arith) low
      | inr high ↦ absurd (true≢false (sym (young j d (omega (arith, high)) lt) ∙ old))
    ]

  alike_young : (now a b : ℕ) → a ≤ b → (is_young now a ≡ false → b ≡ a) → (v : Bool) → is_young now a ≡ v → is_young now a ≡ is_young now b
  alike_young now a b le right true h = h ∙ sym (young_later now a b le h)
  alike_young now a b le right false h = ap (is_young now) (sym (right h))

  young_alike : (now : ℕ) (slots : List X) (m : Mark) → m.place < length slots → IsNoLater moment slots m → (is_young now m.moment ≡ false → IsRightMark moment slots m) → is_young now m.moment ≡ is_young_in moment now slots m.place
  young_alike now [] m lt no_later right = absurd (omega (arith, lt))
  young_alike now (x ∷ xs) m lt no_later right =
      alike_young now m.moment (moment (get_or (x ∷ xs) m.place x)) (no_later x) (λ old. right old x) (is_young now m.moment) refl
      ∙ sym (ap (is_some_young moment now) (slice_get-get_or (x ∷ xs) m.place x lt))

  -- the slots of young marks are those of young items
  pub places_young : (now : ℕ) (slots : List X) (marks : List Mark) → All (λ m. m.place < length slots) marks → All (IsNoLater moment slots) marks → All (λ m. is_young now m.moment ≡ false → IsRightMark moment slots m) marks → places_of (filter (λ m. is_young now m.moment) marks) ≡ filter (is_young_in moment now slots) (places_of marks)
  places_young now slots marks real no_later right =
      filter_map_alike (λ m. m.place) (λ m. is_young now m.moment) (is_young_in moment now slots) marks (λ j e lt. young_alike now slots (get_or marks j e) (real j e lt) (no_later j e lt) (right j e lt))

  pub real_moved : (n : ℕ) (old new : List Mark) → IsPermutation (places_of old) (places_of new) → All (λ m. m.place < n) old → All (λ m. m.place < n) new
  real_moved n old new moved real = places_all (λ k. k < n) new (All-permutation (λ k. k < n) (places_of old) (places_of new) moved (all_places (λ k. k < n) old real))
