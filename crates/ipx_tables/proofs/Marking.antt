-- Marks of slots: one for each slot in use, by time, none later than its item, and how edits change them.
use Rattle.std.proofs.Common.{◌≡◌, ℕ, zero, suc, ◌+◌, ◌<◌, ◌≤◌, ◌==◌, Bool, true, false, not, eqb, List, [], ◌∷◌, ◌++◌, length, get_or, set, map, Option, Some, None, IfNone, refl, sym, ap, ◌∙◌, subst, arith}
use mathlib.Core.Bool.{true≢false}
use Rattle.std.specs.List.{All, IsDistinct, filter, insert, remove}
use Rattle.std.specs.List.Sorted.{IsPermutation}
use Rattle.std.proofs.lemmas.Bool.{eq-eqb, ne_eqb, not_from_false}
use Rattle.std.proofs.lemmas.Cmp.{nat_eq_equiv}
use Rattle.std.proofs.lemmas.Map.Keys.{IsDistinct-IsPermutation, apart_from_distinct}
use Rattle.std.proofs.lemmas.List.{get_or-map, get_or_append_left, get_or_default, get_or-set_other, get_or-set_same, length-map, length-set, length_push, nil_from_length}
use Rattle.std.proofs.lemmas.List.Elements.{All-cons, All-filter}
use Rattle.std.proofs.lemmas.List.Sorted.{All-permutation, IsPermutation-cons, IsPermutation-insert, IsPermutation-map, IsPermutation-refl, IsPermutation-remove, IsPermutation-sym, IsPermutation-trans, length_permutation}
use Rattle.ipx_tables.specs.declared.marks.Mark.{Mark}
use Rattle.ipx_tables.specs.Marks.{AreByTime, AreMarked, HaveDistinctSlots, IsEarliest, IsNoLater, IsRightMark, places_of}
use Rattle.ipx_tables.specs.SlotOrder.{is_young_in, lying_in}
use Rattle.ipx_tables.proofs.Marked.{all_passed, all_places, by_moment_filter, filter_remove, not_true, places_all}
use Rattle.ipx_tables.proofs.Permuted.{permuted_filter}
use Rattle.ipx_tables.proofs.Trays.{AreReal, filter_map_alike, lying_is, many_lying}

-- the marks of other slots than this
abbrev pub others : ℕ → List Mark → List Mark
others n marks = filter (λ m. not (m.place == n)) marks

pub others_separate : (n : ℕ) (marks : List Mark) → All (λ m. m.place ≡ n → ⊥) (others n marks)
others_separate n marks j d lt same =
    let differ : eqb (get_or (others n marks) j d).place n ≡ false = not_true _ (all_passed (λ (m : Mark). not (m.place == n)) marks j d lt) in
    true≢false (sym (eq-eqb (get_or (others n marks) j d).place n same) ∙ differ)

module _ {X : Type 0} (moment : X → ℕ) where
  pub no_marks : (slots : List X) (used : List ℕ) (marks : List Mark) (room : ℕ) → slots ≡ [] → used ≡ [] → marks ≡ [] → AreMarked moment slots used marks room
  no_marks slots used marks room none no_used unmarked = record {
    each = rw (no_used, unmarked) (IsPermutation-refl []);
    by_time = λ i j d le lt. absurd (omega (arith, ap length unmarked, lt));
    no_later = λ j d lt. absurd (omega (arith, ap length unmarked, lt));
    fits = omega (arith, ap length none);
  }

  -- a mark that is inserted
  pub put_marked : (slots : List X) (used : List ℕ) (rest new : List Mark) (m : Mark) (room : ℕ) → IsPermutation used (m.place ∷ places_of rest) → IsPermutation (m ∷ rest) new → AreByTime new → IsNoLater moment slots m → All (IsNoLater moment slots) rest → length slots ≤ room → AreMarked moment slots used new room
  put_marked slots used rest new m room each put up one all fits = record {
    each = IsPermutation-trans used (places_of (m ∷ rest)) (places_of new) each (IsPermutation-map (λ (m : Mark). m.place) (m ∷ rest) new put);
    by_time = up;
    no_later = All-permutation (IsNoLater moment slots) (m ∷ rest) new put (All-cons (IsNoLater moment slots) m rest one all);
    fits = fits;
  }

  -- an item that is put into a slot does not affect the marks of other slots
  pub separate_no_later : (slots : List X) (marks : List Mark) (number : ℕ) (x : X) → All (λ m. m.place ≡ number → ⊥) marks → All (IsNoLater moment slots) marks → All (IsNoLater moment (set slots number x)) marks
  separate_no_later slots marks number x apart all j d lt e =
      omega (arith, all j d lt e, ap moment (get_or-set_other slots number (get_or marks j d).place x e (apart j d lt)))

  pub own_no_later : (slots : List X) (m : Mark) (number : ℕ) (x : X) → number < length slots → m.place ≡ number → m.moment ≡ moment x → IsNoLater moment (set slots number x) m
  own_no_later slots m number x lt same is e =
      omega (arith, is, ap (λ n. moment (get_or (set slots number x) n e)) same, ap moment (get_or-set_same slots number x e lt))

  module _ (slots : List X) (used : List ℕ) (marks : List Mark) (room : ℕ) (are : AreMarked moment slots used marks room) where
    pub many_marks : length marks ≡ length used
    many_marks = sym (length-map marks (λ m. m.place)) ∙ length_permutation used (places_of marks) are.each

    pub marks_all : (P : ℕ → Type 0) → All P used → All (λ m. P m.place) marks
    marks_all P all = places_all P marks (All-permutation P used (places_of marks) are.each all)

    pub marks_real : AreReal slots used → All (λ m. m.place < length slots) marks
    marks_real real = marks_all (λ n. n < length slots) real

    pub longer_marked : AreReal slots used → (x : X) (more : ℕ) → length slots + 1 ≤ more → AreMarked moment (slots ++ x ∷ []) used marks more
    longer_marked real x more fits = record {
      each = are.each;
      by_time = are.by_time;
      no_later = λ j d lt e. omega (arith, are.no_later j d lt e, ap moment (get_or_append_left slots (x ∷ []) e (get_or marks j d).place (marks_real real j d lt)));
      fits = omega (arith, fits, length_push slots x);
    }

    pub own_places : IsDistinct eqb used → HaveDistinctSlots marks
    own_places distinct i j d lt within same =
        let moved : IsDistinct eqb (places_of marks) = IsDistinct-IsPermutation eqb nat_eq_equiv.symm used (places_of marks) are.each distinct in
        let at : (k : ℕ) → k < length marks → get_or (places_of marks) k d.place ≡ (get_or marks k d).place = λ k low. get_or-map (λ (m : Mark). m.place) marks k d d.place low in
        let differ : eqb (get_or (places_of marks) i d.place) (get_or (places_of marks) j d.place) ≡ false = apart_from_distinct eqb (places_of marks) i j d.place moved lt (omega (arith, within, length-map marks (λ m. m.place))) in
        let alike : get_or (places_of marks) i d.place ≡ get_or (places_of marks) j d.place = at i (omega (arith, lt, within)) ∙ same ∙ sym (at j within) in
        true≢false (sym (eq-eqb (get_or (places_of marks) i d.place) (get_or (places_of marks) j d.place) alike) ∙ differ)

    -- marks that are removed with their slot numbers
    pub fewer_marked : (left : List ℕ) (rest : List Mark) (more : ℕ) → IsPermutation left (places_of rest) → AreByTime rest → All (IsNoLater moment slots) rest → room ≤ more → AreMarked moment slots left rest more
    fewer_marked left rest more each up all fits = record {
      each = each;
      by_time = up;
      no_later = all;
      fits = omega (arith, are.fits, fits);
    }

    module _ (i number : ℕ) (within : i < length used) (is : (e : ℕ) → get_or used i e ≡ number) (once : (j e : ℕ) → j < length used → (j ≡ i → ⊥) → get_or used j e ≡ number → ⊥) where
      rest_each : IsPermutation (remove used i) (places_of (others number marks))
      rest_each =
          let p : ℕ → Bool = λ k. not (eqb k number) in
          let alike : places_of (others number marks) ≡ filter p (places_of marks) = filter_map_alike (λ (m : Mark). m.place) (λ m. not (m.place == number)) p marks (λ j e lt. refl) in
          subst (λ l. IsPermutation l (places_of (others number marks))) (filter_remove p used i within (λ e. ap not (eq-eqb (get_or used i e) number (is e))) (λ j e lt ne. not_from_false (eqb (get_or used j e) number) (ne_eqb (get_or used j e) number (once j e lt ne))))
          (subst (IsPermutation (filter p used)) (sym alike) (permuted_filter p used (places_of marks) are.each))

      pub each_but_one : IsPermutation used (number ∷ places_of (others number marks))
      each_but_one = IsPermutation-trans used (number ∷ remove used i) (number ∷ places_of (others number marks)) (IsPermutation-remove used i number within (sym (is number))) (IsPermutation-cons number (remove used i) (places_of (others number marks)) rest_each)

      pub many_others : length (others number marks) + 1 ≡ length used
      many_others = omega (arith, length_permutation used (number ∷ places_of (others number marks)) each_but_one, length-map (others number marks) (λ m. m.place))

      pub others_by_moment : AreByTime (others number marks)
      others_by_moment = by_moment_filter (λ m. not (m.place == number)) marks are.by_time

      pub unmarked : (more : ℕ) → room ≤ more → AreMarked moment slots (remove used i) (others number marks) more
      unmarked more fits = fewer_marked (remove used i) (others number marks) more rest_each others_by_moment (All-filter (λ m. not (m.place == number)) (IsNoLater moment slots) marks are.no_later) fits

      -- another item replaces that of a slot, with a mark of its own
      pub set_marked : (new : List Mark) (m : Mark) (x : X) (more : ℕ) → number < length slots → m.place ≡ number → m.moment ≡ moment x → IsPermutation (m ∷ others number marks) new → AreByTime new → room ≤ more → AreMarked moment (set slots number x) used new more
      set_marked new m x more there same at put up fits =
          put_marked (set slots number x) used (others number marks) new m more (subst (λ n. IsPermutation used (n ∷ places_of (others number marks))) (sym same) each_but_one) put up (own_no_later slots m number x there same at)
          (separate_no_later slots (others number marks) number x (others_separate number marks) (All-filter (λ m. not (m.place == number)) (IsNoLater moment slots) marks are.no_later)) (omega (arith, are.fits, fits, length-set slots number x))

    -- an item is put into a slot whose number was not in use
    pub insert_marked : (i number : ℕ) (new : List Mark) (m : Mark) (x : X) (more : ℕ) → number < length slots → ((j e : ℕ) → j < length used → get_or used j e ≡ number → ⊥) → m.place ≡ number → m.moment ≡ moment x → IsPermutation (m ∷ marks) new → AreByTime new → room ≤ more → AreMarked moment (set slots number x) (insert used i number) new more
    insert_marked i number new m x more there unused same at put up fits =
        let more_each : IsPermutation (insert used i number) (number ∷ places_of marks) = IsPermutation-trans (insert used i number) (number ∷ used) (number ∷ places_of marks) (IsPermutation-sym (number ∷ used) (insert used i number) (IsPermutation-insert used i number)) (IsPermutation-cons number used (places_of marks) are.each) in
        put_marked (set slots number x) (insert used i number) marks new m more (subst (λ n. IsPermutation (insert used i number) (n ∷ places_of marks)) (sym same) more_each) put up (own_no_later slots m number x there same at)
        (separate_no_later slots marks number x (marks_all (λ n. n ≡ number → ⊥) (λ j e lt. unused j e lt)) are.no_later) (omega (arith, are.fits, fits, length-set slots number x))

    -- the marks of expired items are removed with their slot numbers
    pub young_marked : (now : ℕ) (new : List Mark) (more : ℕ) → IsPermutation (filter (is_young_in moment now slots) (places_of marks)) (places_of new) → AreByTime new → All (IsNoLater moment slots) new → room ≤ more → AreMarked moment slots (filter (is_young_in moment now slots) used) new more
    young_marked now new more each up all fits =
        let p : ℕ → Bool = is_young_in moment now slots in
        fewer_marked (filter p used) new more (IsPermutation-trans (filter p used) (filter p (places_of marks)) (places_of new) (permuted_filter p used (places_of marks) are.each) each) up all fits

    -- marks that are reordered, or corrected
    pub settled_marked : (new : List Mark) (more : ℕ) → IsPermutation (places_of marks) (places_of new) → AreByTime new → All (IsNoLater moment slots) new → room ≤ more → AreMarked moment slots used new more
    settled_marked new more each up all fits = fewer_marked used new more (IsPermutation-trans used (places_of marks) (places_of new) are.each each) up all fits

    -- if there is no mark, there is no item
    pub none_lying : length marks ≡ 0 → lying_in slots used ≡ []
    none_lying none = nil_lying slots used (nil_from_length used (omega (arith, many_marks, none)))
      where
        nil_lying : (slots : List X) (numbers : List ℕ) → numbers ≡ [] → lying_in slots numbers ≡ []
        nil_lying [] numbers none_used = refl
        nil_lying (x ∷ xs) numbers none_used = ap (map (λ n. get_or (x ∷ xs) n x)) none_used

    module _ (first : Mark) (some : 0 < length marks) (is : first ≡ get_or marks 0 first) where
      -- its slot is in use
      first_used : (i : ℕ) × ((i < length used) × ((e : ℕ) → get_or used i e ≡ first.place))
      first_used =
          let P : ℕ → Type 0 = λ n. n ≡ first.place → (i : ℕ) × ((i < length used) × ((e : ℕ) → get_or used i e ≡ first.place)) in
          marks_all P (λ j d lt same. (j, (lt, λ e. get_or_default used j e d lt ∙ same))) 0 first some (sym (ap (λ (m : Mark). m.place) is))

      -- its slot exists
      pub first_real : AreReal slots used → first.place < length slots
      first_real real = omega (arith, ap (λ (m : Mark). m.place) is, marks_real real 0 first some)

      all_later : All (λ n. (e : X) → first.moment ≤ moment (get_or slots n e)) used
      all_later =
          let P : ℕ → Type 0 = λ n. (e : X) → first.moment ≤ moment (get_or slots n e) in
          let head : (d : Mark) → (get_or marks 0 d).moment ≡ first.moment = λ d. ap (λ (m : Mark). m.moment) (get_or_default marks 0 d first some ∙ sym is) in
          All-permutation P (places_of marks) used (IsPermutation-sym used (places_of marks) are.each) (all_places P marks (λ j d lt e. omega (arith, are.no_later j d lt e, are.by_time 0 j d (omega arith) lt, head d)))

      -- if the first mark is right, the item in its slot is the earliest
      pub first_earliest : AreReal slots used → IsRightMark moment slots (get_or marks 0 first) → (x : X) → x ≡ get_or slots first.place x → IsEarliest moment (lying_in slots used) x
      first_earliest real right x is_x =
          let at : ℕ = first_used.0 in
          let within : at < length used = first_used.1.0 in
          let place : get_or used at 0 ≡ first.place = first_used.1.1 0 in
          let read : (j : ℕ) (d : X) → j < length used → get_or (lying_in slots used) j d ≡ get_or slots (get_or used j 0) d = λ j d lt.
          ap (λ l. get_or l j d) (lying_is slots used d real) ∙ get_or-map (λ n. get_or slots n d) used j 0 d lt in
          let long = many_lying slots used real in
          let own : IsRightMark moment slots first = subst (IsRightMark moment slots) (sym is) right in
          record {
            at = at;
            in_range = omega (arith, within, long);
            is = λ d. read at d within ∙ ap (λ n. get_or slots n d) place ∙ get_or_default slots first.place d x (first_real real) ∙ sym is_x;
            first = λ j d lt. let low : j < length used = omega (arith, lt, long) in omega (arith, ap moment is_x, own x, ap moment (read j d low), all_later j 0 low d);
          }

-- a fact that holds anyway holds if there is none
pub at_none : {A P : Type 0} (o : Option A) → P → IfNone o P
at_none None p = p
at_none (Some a) p = tt

-- if there is nothing at the front, the list is empty
pub none_first : (n : ℕ) → (0 < n → false ≡ true) → n ≡ 0
none_first zero none = refl
none_first (suc n) none = absurd (true≢false (sym (none (omega arith))))
