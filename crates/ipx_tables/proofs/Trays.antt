-- The items in slots, and how edits of the list of slot numbers change them.
use Rattle.std.proofs.Common.{◌≡◌, ℕ, zero, suc, ◌+◌, ◌<◌, ◌≤◌, Bool, true, false, cond, not, eqb, List, [], ◌∷◌, ◌++◌, length, get_or, set, take, drop, map, refl, sym, ap, ◌∙◌, subst, inl, inr, append_assoc, arith}
use Rattle.std.specs.List.{All, IsDistinct, filter, insert, list_any, remove}
use Rattle.std.specs.List.Sorted.{IsPermutation}
use Rattle.std.proofs.lemmas.Bool.{cases_lt, ne_eqb}
use Rattle.std.proofs.lemmas.Cmp.{nat_eq_equiv}
use Rattle.std.proofs.lemmas.List.{append-nil, drop-map, get_or_append_left, get_or_default, get_or_push, get_or-append-add, get_or-map, get_or-set_other, get_or-set_same, length-append, length-map, length-set, length_push, map-append, same_lists, take-map}
use Rattle.std.proofs.lemmas.List.Elements.{All-append, All-cons, All-drop, All-push, All-take}
use Rattle.std.proofs.lemmas.List.Folds.{list_any_none}
use Rattle.std.proofs.lemmas.List.Sorted.{All-permutation, IsPermutation-append_comm, IsPermutation-append_left, IsPermutation-append_right, IsPermutation-filter_both, IsPermutation-insert, IsPermutation-remove, IsPermutation-sym, IsPermutation-to_front, IsPermutation-trans, length_permutation}
use Rattle.std.proofs.lemmas.Map.Keys.{IsDistinct-from_apart, IsDistinct-IsPermutation, IsDistinct-push, apart_from_distinct}
use Rattle.std.proofs.lemmas.Option.{slice_get-get_or}
use Rattle.ipx_tables.specs.Content.{is_young}
use Rattle.ipx_tables.specs.SlotOrder.{AreSlots, is_some_young, is_young_in, lying_in}

map_remove : {X Y : Type 0} (f : X → Y) (xs : List X) (i : ℕ) → map f (remove xs i) ≡ remove (map f xs) i
map_remove f xs i = grind (arith, map-append f (take i xs) (drop (suc i) xs), take-map f i xs, drop-map f (suc i) xs)

map_insert : {X Y : Type 0} (f : X → Y) (xs : List X) (i : ℕ) (x : X) → map f (insert xs i x) ≡ insert (map f xs) i (f x)
map_insert f xs i x = grind (arith, map-append f (take i xs) (x ∷ drop i xs), take-map f i xs, drop-map f i xs)

-- maps that agree on the items of a list agree on the list
map_alike : {A B : Type 0} (f g : A → B) (xs : List A) → ((j : ℕ) (e : A) → j < length xs → f (get_or xs j e) ≡ g (get_or xs j e)) → map f xs ≡ map g xs
map_alike f g [] h = refl
map_alike f g (x ∷ xs) h = ap (λ y. y ∷ map f xs) (h 0 x (omega arith)) ∙ ap (λ l. g x ∷ l) (map_alike f g xs (λ j e lt. h (suc j) e (omega (arith, lt))))

-- if two tests agree on the items, a filter before a map gives the same as a filter after it
pub filter_map_alike : {A B : Type 0} (f : A → B) (p : A → Bool) (q : B → Bool) (xs : List A) → ((j : ℕ) (e : A) → j < length xs → p (get_or xs j e) ≡ q (f (get_or xs j e))) → map f (filter p xs) ≡ filter q (map f xs)
filter_map_alike f p q [] h = refl
filter_map_alike f p q (x ∷ xs) h =
    let rest = filter_map_alike f p q xs (λ j e lt. h (suc j) e (omega (arith, lt))) in
    ap (λ b. map f (cond b (x ∷ filter p xs) (filter p xs))) (h 0 x (omega arith))
    ∙ elim (q (f x)) as (λ b. map f (cond b (x ∷ filter p xs) (filter p xs)) ≡ cond b (f x ∷ filter q (map f xs)) (filter q (map f xs))) [
      | true ↦ ap (λ l. f x ∷ l) rest
      | false ↦ rest
    ]

All-insert : {X : Type 0} (P : X → Type 0) (xs : List X) (i : ℕ) (y : X) → P y → All P xs → All P (insert xs i y)
All-insert P xs i y one all = All-append P (take i xs) (y ∷ drop i xs) (All-take P i xs all) (All-cons P y (drop i xs) one (All-drop P i xs all))

All-front : {X : Type 0} (P : X → Type 0) (xs ys : List X) → All P (xs ++ ys) → All P xs
All-front P xs ys all j d lt = subst P (get_or_append_left xs ys d j lt) (all j d (omega (arith, lt, length-append xs ys)))

module _ {X : Type 0} where
  -- all numbers are of slots
  abbrev pub AreReal : List X → List ℕ → Type 0
  AreReal slots numbers = All (λ n. n < length slots) numbers

  -- with any item in place of a missing one
  pub lying_is : (slots : List X) (numbers : List ℕ) (d : X) → AreReal slots numbers → lying_in slots numbers ≡ map (λ n. get_or slots n d) numbers
  lying_is [] [] d real = refl
  lying_is [] (n ∷ ns) d real = absurd (omega (arith, real 0 n (omega arith)))
  lying_is (x ∷ xs) numbers d real = map_alike (λ n. get_or (x ∷ xs) n x) (λ n. get_or (x ∷ xs) n d) numbers (λ j e lt. get_or_default (x ∷ xs) (get_or numbers j e) x d (real j e lt))

  pub many_lying : (slots : List X) (numbers : List ℕ) → AreReal slots numbers → length (lying_in slots numbers) ≡ length numbers
  many_lying [] [] real = refl
  many_lying [] (n ∷ ns) real = absurd (omega (arith, real 0 n (omega arith)))
  many_lying (x ∷ xs) numbers real = length-map numbers (λ n. get_or (x ∷ xs) n x)

  -- the item that is read in the slot of a number is the item of the list
  pub read_lying : (slots : List X) (numbers : List ℕ) → AreReal slots numbers → (i number : ℕ) (x : X) → i < length numbers → number ≡ get_or numbers i number → x ≡ get_or slots number x → x ≡ get_or (lying_in slots numbers) i x
  read_lying slots numbers real i number x lt is read =
      read
      ∙ ap (λ n. get_or slots n x) is
      ∙ sym (get_or-map (λ n. get_or slots n x) numbers i number x lt)
      ∙ ap (λ l. get_or l i x) (sym (lying_is slots numbers x real))

  -- a number that was read is a slot's
  pub number_real : (slots : List X) (numbers : List ℕ) → AreReal slots numbers → (i number : ℕ) → i < length numbers → number ≡ get_or numbers i number → number < length slots
  number_real slots numbers real i number lt is = omega (arith, is, real i number lt)

  -- a number is removed
  pub removed_lying : (slots : List X) (numbers : List ℕ) (i : ℕ) → lying_in slots (remove numbers i) ≡ remove (lying_in slots numbers) i
  removed_lying [] numbers zero = refl
  removed_lying [] numbers (suc i) = refl
  removed_lying (x ∷ xs) numbers i = map_remove (λ n. get_or (x ∷ xs) n x) numbers i

  -- the numbers of expired items are removed
  pub young_lying : (moment : X → ℕ) (now : ℕ) (slots : List X) (numbers : List ℕ) → AreReal slots numbers → lying_in slots (filter (is_young_in moment now slots) numbers) ≡ filter (λ x. is_young now (moment x)) (lying_in slots numbers)
  young_lying moment now [] numbers real = refl
  young_lying moment now (x ∷ xs) numbers real = filter_map_alike (λ n. get_or (x ∷ xs) n x) (is_young_in moment now (x ∷ xs)) (λ y. is_young now (moment y)) numbers (λ j e lt.
      ap (is_some_young moment now) (slice_get-get_or (x ∷ xs) (get_or numbers j e) x (real j e lt)))

  -- one more slot changes nothing
  pub lying_longer : (slots : List X) (numbers : List ℕ) (x : X) → AreReal slots numbers → lying_in (slots ++ x ∷ []) numbers ≡ lying_in slots numbers
  lying_longer slots numbers x real =
      lying_is (slots ++ x ∷ []) numbers x (λ j e lt. omega (arith, real j e lt, length_push slots x))
      ∙ map_alike (λ n. get_or (slots ++ x ∷ []) n x) (λ n. get_or slots n x) numbers (λ j e lt. get_or_append_left slots (x ∷ []) x (get_or numbers j e) (real j e lt))
      ∙ sym (lying_is slots numbers x real)

  module _ (slots : List X) (numbers : List ℕ) (real : AreReal slots numbers) (number : ℕ) (x : X) (there : number < length slots) where
    real_set : AreReal (set slots number x) numbers
    real_set j e lt = omega (arith, real j e lt, length-set slots number x)

    -- an item is put into a slot whose number was not in use
    pub inserted_lying : (i : ℕ) → ((j : ℕ) (e : ℕ) → j < length numbers → get_or numbers j e ≡ number → ⊥) → lying_in (set slots number x) (insert numbers i number) ≡ insert (lying_in slots numbers) i x
    inserted_lying i unused =
        let now : ℕ → X = λ n. get_or (set slots number x) n x in
        let was : ℕ → X = λ n. get_or slots n x in
        lying_is (set slots number x) (insert numbers i number) x (All-insert (λ n. n < length (set slots number x)) numbers i number (omega (arith, there, length-set slots number x)) real_set)
        ∙ map_insert now numbers i number
        ∙ ap (insert (map now numbers) i) (get_or-set_same slots number x x there)
        ∙ ap (λ l. insert l i x) (map_alike now was numbers (λ j e lt. get_or-set_other slots number (get_or numbers j e) x x (unused j e lt)))
        ∙ ap (λ l. insert l i x) (sym (lying_is slots numbers x real))

    -- an item replaces that of a slot whose number is in use once
    pub set_lying : (i : ℕ) → i < length numbers → ((e : ℕ) → get_or numbers i e ≡ number) → ((j : ℕ) (e : ℕ) → j < length numbers → (j ≡ i → ⊥) → get_or numbers j e ≡ number → ⊥) → lying_in (set slots number x) numbers ≡ set (lying_in slots numbers) i x
    set_lying i within is once =
        let now : ℕ → X = λ n. get_or (set slots number x) n x in
        let was : ℕ → X = λ n. get_or slots n x in
        let long : length (map now numbers) ≡ length (set (map was numbers) i x) = length-map numbers now ∙ sym (length-map numbers was) ∙ sym (length-set (map was numbers) i x) in
        let in_map : i < length (map was numbers) = omega (arith, within, length-map numbers was) in
        let at : (k : ℕ) (d : X) → k < length (map now numbers) → get_or (map now numbers) k d ≡ now (get_or numbers k 0) = λ k d lt. get_or-map now numbers k 0 d (omega (arith, lt, length-map numbers now)) in
        let other : (k : ℕ) (d : X) → k < length (map now numbers) → (k ≡ i → ⊥) → get_or (map now numbers) k d ≡ get_or (set (map was numbers) i x) k d = λ k d lt ne.
        let low : k < length numbers = omega (arith, lt, length-map numbers now) in
        at k d lt
        ∙ get_or-set_other slots number (get_or numbers k 0) x x (once k 0 low ne)
        ∙ sym (get_or-map was numbers k 0 d low)
        ∙ sym (get_or-set_other (map was numbers) i k x d ne) in
        let here : (k : ℕ) (d : X) → k < length (map now numbers) → k ≡ i → get_or (map now numbers) k d ≡ get_or (set (map was numbers) i x) k d = λ k d lt e.
        at k d lt
        ∙ ap now (ap (λ m. get_or numbers m 0) e ∙ is 0)
        ∙ get_or-set_same slots number x x there
        ∙ sym (get_or-set_same (map was numbers) i x d in_map)
        ∙ ap (λ m. get_or (set (map was numbers) i x) m d) (sym e) in
        lying_is (set slots number x) numbers x real_set
        ∙ same_lists (map now numbers) (set (map was numbers) i x) long (λ k d lt. elim (cases_lt k i) [
          | inl below ↦ other k d lt (λ e. omega (arith, below, e))
          | inr not_below ↦ elim (cases_lt i k) [
            | inl above ↦ other k d lt (λ e. omega (arith, above, e))
            | inr not_above ↦ here k d lt (omega (arith, not_below, not_above))
          ]
        ])
        ∙ ap (λ l. set l i x) (sym (lying_is slots numbers x real))

module _ {X : Type 0} (slots : List X) (used free : List ℕ) (used_space free_space : ℕ) (are : AreSlots slots used free used_space free_space) where
  pub used_real : AreReal slots used
  used_real = All-front (λ n. n < length slots) used free are.real

  -- no number in use is used twice
  pub used_distinct : IsDistinct eqb used
  used_distinct = IsDistinct-from_apart eqb used (λ i j d lt within.
      ap (λ n. eqb n (get_or used j d)) (sym (get_or_append_left used free d i (omega (arith, lt, within))))
      ∙ ap (eqb (get_or (used ++ free) i d)) (sym (get_or_append_left used free d j within))
      ∙ apart_from_distinct eqb (used ++ free) i j d are.once lt (omega (arith, within, length-append used free)))

  -- a number in use is used once
  pub used_once : (i j : ℕ) (e : ℕ) → i < length used → j < length used → (j ≡ i → ⊥) → get_or used j e ≡ get_or used i e → ⊥
  used_once i j e in_i in_j ne same =
      let apart : (a b : ℕ) → a < b → b < length used → get_or used a e ≡ get_or used b e → ⊥ = λ a b lt within eq.
      let differ : eqb (get_or used a e) (get_or used b e) ≡ false =
      ap (λ n. eqb n (get_or used b e)) (sym (get_or_append_left used free e a (omega (arith, lt, within))))
      ∙ ap (eqb (get_or (used ++ free) a e)) (sym (get_or_append_left used free e b within))
      ∙ apart_from_distinct eqb (used ++ free) a b e are.once lt (omega (arith, within, length-append used free)) in
      let alike : eqb (get_or used b e) (get_or used b e) ≡ true = nat_eq_equiv.refl (get_or used b e) in
      let both : true ≡ false = sym alike ∙ ap (λ n. eqb n (get_or used b e)) (sym eq) ∙ differ in
      cc in
      elim (cases_lt i j) [
        | inl below ↦ apart i j below in_j (sym same)
        | inr not_below ↦ elim (cases_lt j i) [
          | inl above ↦ apart j i above in_i same
          | inr not_above ↦ ne (omega (arith, not_below, not_above))
        ]
      ]

  -- a free number is not in use
  pub free_unused : (k : ℕ) (number : ℕ) → k < length free → number ≡ get_or free k number → (j : ℕ) (e : ℕ) → j < length used → get_or used j e ≡ number → ⊥
  free_unused k number within is j e lt same =
      let both = used ++ free in
      let far : length used + k < length both = omega (arith, within, length-append used free) in
      let front : get_or both j number ≡ number = get_or_append_left used free number j lt ∙ get_or_default used j number e lt ∙ same in
      let back : get_or both (length used + k) number ≡ number = get_or-append-add used free k number ∙ sym is in
      let differ : eqb (get_or both j number) (get_or both (length used + k) number) ≡ false = apart_from_distinct eqb both j (length used + k) number are.once (omega (arith, lt)) far in
      let alike : eqb number number ≡ true = nat_eq_equiv.refl number in
      let never : true ≡ false = sym alike ∙ ap (λ n. eqb n number) (sym front) ∙ ap (eqb (get_or both j number)) (sym back) ∙ differ in
      cc

  pub free_real : (k : ℕ) (number : ℕ) → k < length free → number ≡ get_or free k number → number < length slots
  free_real k number within is =
      let back : get_or (used ++ free) (length used + k) number ≡ number = get_or-append-add used free k number ∙ sym is in
      omega (arith, back, are.real (length used + k) number (omega (arith, within, length-append used free)))

  module _ (left : List ℕ) (number : ℕ) (is : free ≡ left ++ number ∷ []) where
    last_free : number ≡ get_or free (length left) number
    last_free = sym (ap (λ l. get_or l (length left) number) is ∙ get_or_push left number number (length left) refl)

    last_within : length left < length free
    last_within = omega (arith, ap length is, length_push left number)

    pub last_real : number < length slots
    last_real = free_real (length left) number last_within last_free

    pub last_unused : (j : ℕ) (e : ℕ) → j < length used → get_or used j e ≡ number → ⊥
    last_unused = free_unused (length left) number last_within last_free

  -- if fewer slots are in use than there are, one is free
  pub some_free : length used < length slots → 0 < length free
  some_free few = omega (arith, few, are.all)

  -- reordered numbers are those of the same slots
  pub moved_slots : (new_used new_free : List ℕ) (new_slots : List X) (a b : ℕ) → IsPermutation (used ++ free) (new_used ++ new_free) → length new_slots ≡ length slots → used_space ≤ a → free_space ≤ b → AreSlots new_slots new_used new_free a b
  moved_slots new_used new_free new_slots a b moved long more_used more_free =
      let many = length_permutation (used ++ free) (new_used ++ new_free) moved in
      record {
        all = omega (arith, are.all, many, long, length-append used free, length-append new_used new_free);
        real = λ j e lt. omega (arith, long, All-permutation (λ n. n < length slots) (used ++ free) (new_used ++ new_free) moved are.real j e lt);
        once = IsDistinct-IsPermutation eqb nat_eq_equiv.symm (used ++ free) (new_used ++ new_free) moved are.once;
        used_fits = omega (arith, are.used_fits, long, more_used);
        free_fits = omega (arith, are.free_fits, long, more_free);
      }

  -- if no number is free, the number of a new slot is
  pub slot_made : free ≡ [] → (x : X) (number a b : ℕ) → number ≡ length slots → length slots + 1 ≤ a → length slots + 1 ≤ b → AreSlots (slots ++ x ∷ []) used (free ++ number ∷ []) a b
  slot_made none x number a b is more_used more_free =
      let real : AreReal slots used = used_real in
      let long = length_push slots x in
      let no_free : used ++ free ≡ used = ap (λ l. used ++ l) none ∙ append-nil used in
      let once : IsDistinct eqb used = rw no_free at are.once in
      let unused : list_any (eqb number) used ≡ false = list_any_none (eqb number) used (λ j e lt. ne_eqb number (get_or used j e) (λ same. omega (arith, same, is, real j e lt))) in
      rw none (record {
        all = omega (arith, are.all, ap length none, long);
        real = All-push (λ n. n < length (slots ++ x ∷ [])) used number (λ j e lt. omega (arith, real j e lt, long)) (omega (arith, is, long));
        once = IsDistinct-push nat_eq_equiv used number once unused;
        used_fits = omega (arith, more_used, long);
        free_fits = omega (arith, more_free, long);
      })

-- a number that becomes free
pub number_freed : (used free : List ℕ) (i number : ℕ) → i < length used → number ≡ get_or used i number → IsPermutation (used ++ free) (remove used i ++ (free ++ number ∷ []))
number_freed used free i number within is =
    let rest = remove used i in
    let moved : IsPermutation (used ++ free) (number ∷ (rest ++ free)) = IsPermutation-append_left free used (number ∷ rest) (IsPermutation-remove used i number within is) in
    let back : IsPermutation (number ∷ (rest ++ free)) ((rest ++ free) ++ number ∷ []) = IsPermutation-sym ((rest ++ free) ++ number ∷ []) (number ∷ (rest ++ free)) (IsPermutation-to_front (rest ++ free) number) in
    rw (← append_assoc rest free (number ∷ [])) (IsPermutation-trans (used ++ free) (number ∷ (rest ++ free)) ((rest ++ free) ++ number ∷ []) moved back)

-- a free number that is used
pub number_used : (used free left : List ℕ) (i number : ℕ) → free ≡ left ++ number ∷ [] → IsPermutation (used ++ free) (insert used i number ++ left)
number_used used free left i number is =
    let front : IsPermutation ((used ++ left) ++ number ∷ []) (number ∷ (used ++ left)) = IsPermutation-to_front (used ++ left) number in
    let put : IsPermutation (number ∷ (used ++ left)) (insert used i number ++ left) = IsPermutation-append_left left (number ∷ used) (insert used i number) (IsPermutation-insert used i number) in
    rw (is, ← append_assoc used left (number ∷ [])) (IsPermutation-trans ((used ++ left) ++ number ∷ []) (number ∷ (used ++ left)) (insert used i number ++ left) front put)

-- numbers that a filter leaves out are free
pub numbers_parted : (p q : ℕ → Bool) → ((n : ℕ) → q n ≡ not (p n)) → (used free : List ℕ) → IsPermutation (used ++ free) (filter p used ++ (free ++ filter q used))
numbers_parted p q other used free =
    let kept = filter p used in
    let out = filter q used in
    let parted : IsPermutation (used ++ free) ((kept ++ out) ++ free) = IsPermutation-append_left free used (kept ++ out) (IsPermutation-filter_both p q other used) in
    let turned : IsPermutation (kept ++ (out ++ free)) (kept ++ (free ++ out)) = IsPermutation-append_right kept (out ++ free) (free ++ out) (IsPermutation-append_comm out free) in
    IsPermutation-trans (used ++ free) (kept ++ (out ++ free)) (kept ++ (free ++ out)) (rw (← append_assoc kept out free) parted) turned

-- if there is no slot, no number is in use and none is free
pub no_slots : {X : Type 0} (slots : List X) (used free : List ℕ) (a b : ℕ) → slots ≡ [] → used ≡ [] → free ≡ [] → AreSlots slots used free a b
no_slots slots used free a b none no_used no_free =
    let long = length-append used free in
    record {
      all = omega (arith, ap length none, ap length no_used, ap length no_free);
      real = λ j e lt. absurd (omega (arith, lt, long, ap length no_used, ap length no_free));
      once = IsDistinct-from_apart eqb (used ++ free) (λ i j d lt within. absurd (omega (arith, within, long, ap length no_used, ap length no_free)));
      used_fits = omega (arith, ap length none);
      free_fits = omega (arith, ap length none);
    }
