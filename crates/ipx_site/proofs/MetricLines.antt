-- The lines of metric families, one after the other.
use Rattle.std.proofs.Common.{◌≡◌, ◌∙◌, ℕ, Bool, true, false, codes, suc, ◌+◌, ◌<◌, ◌≤◌, List, [], ◌∷◌, ◌++◌, Option, Result, Ok, Err, OnOk, get_or, length, map, take, take_all, refl, sym, ap, arith}
use Rattle.std.specs.Fmt.{decimal}
use Rattle.std.specs.List.{cons_option, enumerate_from, filter_map, flat_map, zip}
use Rattle.std.proofs.lemmas.List.{append-nil, append_assoc, flat_map_more, length-take-le, take_more}
use Rattle.std.proofs.lemmas.List.Concat.{flat_map-append}
use Rattle.std.proofs.lemmas.List.Elements.{filter_map-append}
use Rattle.std.proofs.lemmas.List.Folds.{flat_map-map}
use Rattle.std.specs.Prelude.{if◌then◌else◌}
use Rattle.ipx_site.specs.MetricsText.{MetricFamily, families_text, family_lines, at_port_by, by_label, sample_line}

-- all texts after another text
pub all_lines : {X : Type 0} (f : X → List ℕ) (xs : List X) (i : ℕ) (start new lines : List ℕ) → length xs ≤ i
    → new ≡ start ++ flat_map f (take i xs) → flat_map f xs ≡ lines → new ≡ start ++ lines
all_lines f xs i start new lines whole is all =
    is ∙ ap (λ l. start ++ flat_map f l) (take_all i xs whole) ∙ ap (λ t. start ++ t) all

-- lines after the lines of their family
pub after_head : (start old new head lines : List ℕ) → old ≡ start ++ head → new ≡ old ++ lines → new ≡ start ++ (head ++ lines)
after_head start old new head lines was is = is ∙ ap (λ t. t ++ lines) was ∙ append_assoc start head lines

-- the same, if there was memory for the lines
pub after_head_ok : {A E : Type 0} (r : Result A E) (start old new head lines : List ℕ) → old ≡ start ++ head → OnOk r (new ≡ old ++ lines)
    → OnOk r (new ≡ start ++ (head ++ lines))
after_head_ok (Ok a) start old new head lines was more = after_head start old new head lines was more
after_head_ok (Err e) start old new head lines was more = tt

-- all numbered texts after another text
pub all_numbered : {X : Type 0} (f : ℕ × X → List ℕ) (xs : List X) (i : ℕ) (start new lines : List ℕ) → length xs ≤ i
    → new ≡ start ++ flat_map f (enumerate_from 1 (take i xs)) → flat_map f (enumerate_from 1 xs) ≡ lines → new ≡ start ++ lines
all_numbered f xs i start new lines whole is all =
    is ∙ ap (λ l. start ++ flat_map f (enumerate_from 1 l)) (take_all i xs whole) ∙ ap (λ t. start ++ t) all

-- texts of parts of parts
pub flat_twice : {A B : Type 0} (f : B → List ℕ) (g : A → List B) (xs : List A) → flat_map (λ x. flat_map f (g x)) xs ≡ flat_map f (flat_map g xs)
flat_twice f g [] = refl
flat_twice f g (x ∷ xs) = ap (λ t. flat_map f (g x) ++ t) (flat_twice f g xs) ∙ sym (flat_map-append f (g x) (flat_map g xs))

-- the lines of all metrics, one of each element, after those of their family
pub lines_after_head : {X S : Type 0} (line : S → List ℕ) (metric : X → S) (xs : List X) (i : ℕ) (start old new head : List ℕ) → length xs ≤ i
    → old ≡ start ++ head → new ≡ old ++ flat_map (λ x. line (metric x)) (take i xs) → new ≡ start ++ (head ++ flat_map line (map metric xs))
lines_after_head line metric xs i start old new head whole was is =
    after_head start old new head _ was (all_lines (λ x. line (metric x)) xs i old new _ whole is (sym (flat_map-map line metric xs)))

-- the lines of all metrics, several of each element, after those of their family
pub lists_after_head : {X S : Type 0} (line : S → List ℕ) (metrics : X → List S) (xs : List X) (i : ℕ) (start old new head : List ℕ) → length xs ≤ i
    → old ≡ start ++ head → new ≡ old ++ flat_map (λ x. flat_map line (metrics x)) (take i xs) → new ≡ start ++ (head ++ flat_map line (flat_map metrics xs))
lists_after_head line metrics xs i start old new head whole was is =
    after_head start old new head _ was (all_lines (λ x. flat_map line (metrics x)) xs i old new _ whole is (flat_twice line metrics xs))

-- the same of numbered elements, after any text
pub numbered_lists : {X S : Type 0} (line : S → List ℕ) (metrics : ℕ × X → List S) (xs : List X) (i : ℕ) (start new : List ℕ) → length xs ≤ i
    → new ≡ start ++ flat_map (λ x. flat_map line (metrics x)) (enumerate_from 1 (take i xs)) → new ≡ start ++ flat_map line (flat_map metrics (enumerate_from 1 xs))
numbered_lists line metrics xs i start new whole is =
    all_numbered (λ x. flat_map line (metrics x)) xs i start new _ whole is (flat_twice line metrics (enumerate_from 1 xs))

-- the lines of metrics that differ in the value of one label
pub lines_by_label : {M : Type 0} (name label : List ℕ) (g : M → List ℕ × ℕ) (metrics : List M)
    → flat_map (λ m. sample_line name ((label, (g m).0) ∷ [], (g m).1)) metrics ≡ flat_map (sample_line name) (by_label label (map g metrics))
lines_by_label name label g metrics =
    sym (flat_map-map (λ m. sample_line name ((label, m.0) ∷ [], m.1)) g metrics) ∙ sym (flat_map-map (sample_line name) (λ m. ((label, m.0) ∷ [], m.1)) (map g metrics))

-- the lines of metrics of a port that differ in the value of one more label
pub lines_of_port : {M : Type 0} (name label : List ℕ) (number : ℕ) (g : M → List ℕ × ℕ) (metrics : List M)
    → flat_map (λ m. sample_line name ((codes "port", decimal number) ∷ (label, (g m).0) ∷ [], (g m).1)) metrics ≡ flat_map (sample_line name) (at_port_by number label (map g metrics))
lines_of_port name label number g metrics =
    sym (flat_map-map (λ m. sample_line name ((codes "port", decimal number) ∷ (label, m.0) ∷ [], m.1)) g metrics)
    ∙ sym (flat_map-map (sample_line name) (λ m. ((codes "port", decimal number) ∷ (label, m.0) ∷ [], m.1)) (map g metrics))

-- one element more has the next number
enumerate_more : {X : Type 0} (n : ℕ) (xs : List X) (x : X) → enumerate_from n (xs ++ x ∷ []) ≡ enumerate_from n xs ++ (n + length xs, x) ∷ []
enumerate_more n [] x = let same : n ≡ n + 0 = omega arith in ap (λ k. (k, x) ∷ []) same
enumerate_more n (y ∷ xs) x =
    let next : n + 1 + length xs ≡ n + length (y ∷ xs) = omega arith in
    ap (λ t. (n, y) ∷ t) (enumerate_more (n + 1) xs x ∙ ap (λ k. enumerate_from (n + 1) xs ++ (k, x) ∷ []) next)

next_number : {X : Type 0} (xs : List X) (i : ℕ) (d : X) → i < length xs
    → enumerate_from 1 (take (i + 1) xs) ≡ enumerate_from 1 (take i xs) ++ (i + 1, get_or xs i d) ∷ []
next_number xs i d lt =
    let place : i + 1 ≡ 1 + length (take i xs) = omega (arith, length-take-le i xs (omega (arith, lt))) in
    ap (λ l. enumerate_from 1 l) (take_more xs i d lt) ∙ enumerate_more 1 (take i xs) (get_or xs i d)
    ∙ ap (λ k. enumerate_from 1 (take i xs) ++ (k, get_or xs i d) ∷ []) (sym place)

-- the text of one element more, by its number
pub numbered_more : {X : Type 0} (f : ℕ × X → List ℕ) (xs : List X) (i : ℕ) (d : X) (before old part : List ℕ) → i < length xs
    → old ≡ before ++ flat_map f (enumerate_from 1 (take i xs)) → part ≡ f (i + 1, get_or xs i d)
    → old ++ part ≡ before ++ flat_map f (enumerate_from 1 (take (i + 1) xs))
numbered_more f xs i d before old part lt was is =
    rw (was, is) (flat_map_more f before (enumerate_from 1 (take i xs)) (i + 1, get_or xs i d) ∙ ap (λ l. before ++ flat_map f l) (sym (next_number xs i d lt)))

-- what is found at one element more, by its number
pub found_more : {X Y : Type 0} (h : ℕ × X → Option Y) (xs : List X) (i : ℕ) (d : X) (o : Option Y) (old new : List Y) → i < length xs
    → old ≡ filter_map h (enumerate_from 1 (take i xs)) → o ≡ h (i + 1, get_or xs i d) → new ≡ old ++ cons_option o []
    → new ≡ filter_map h (enumerate_from 1 (take (i + 1) xs))
found_more h xs i d o old new lt was is grown =
    grown ∙ ap (λ l. l ++ cons_option o []) was ∙ ap (λ q. filter_map h (enumerate_from 1 (take i xs)) ++ cons_option q []) is
    ∙ sym (filter_map-append h (enumerate_from 1 (take i xs)) ((i + 1, get_or xs i d) ∷ []))
    ∙ ap (λ l. filter_map h l) (sym (next_number xs i d lt))

-- the parts that two lists have at the same places grow by a pair
zip_more : {P X : Type 0} (ps : List P) (xs : List X) (x : X) (d : P) → length xs < length ps
    → zip ps (xs ++ x ∷ []) ≡ zip ps xs ++ (get_or ps (length xs) d, x) ∷ []
zip_more [] xs x d lt = absurd (omega (arith, lt))
zip_more (p ∷ []) [] x d lt = refl
zip_more (p ∷ q ∷ ps) [] x d lt = refl
zip_more (p ∷ ps) (y ∷ xs) x d lt = ap (λ t. (p, y) ∷ t) (zip_more ps xs x d (omega (arith, lt)))

-- or not, if the first list has no more elements
zip_past : {P X : Type 0} (ps : List P) (xs : List X) (x : X) → length ps ≤ length xs → zip ps (xs ++ x ∷ []) ≡ zip ps xs
zip_past [] xs x le = refl
zip_past (p ∷ ps) [] x le = absurd (omega (arith, le))
zip_past (p ∷ ps) (y ∷ xs) x le = ap (λ t. (p, y) ∷ t) (zip_past ps xs x (omega (arith, le)))

length-zip : {P X : Type 0} (ps : List P) (xs : List X) → length xs ≤ length ps → length (zip ps xs) ≡ length xs
length-zip [] [] le = refl
length-zip [] (x ∷ xs) le = absurd (omega (arith, le))
length-zip (p ∷ ps) [] le = refl
length-zip (p ∷ ps) (x ∷ xs) le = ap (λ n. suc n) (length-zip ps xs (omega (arith, le)))

-- the text of one pair more, by its number
pair_more : {P X : Type 0} (f : ℕ × (P × X) → List ℕ) (ps : List P) (xs : List X) (i : ℕ) (d : P) (e : X) (before old part : List ℕ) → i < length ps → i < length xs
    → old ≡ before ++ flat_map f (enumerate_from 1 (zip ps (take i xs))) → part ≡ f (i + 1, (get_or ps i d, get_or xs i e))
    → old ++ part ≡ before ++ flat_map f (enumerate_from 1 (zip ps (take (i + 1) xs)))
pair_more f ps xs i d e before old part there lt was is =
    let long : length (take i xs) ≡ i = length-take-le i xs (omega (arith, lt)) in
    let fits : length (take i xs) < length ps = omega (arith, long, there) in
    let pairs : zip ps (take (i + 1) xs) ≡ zip ps (take i xs) ++ (get_or ps i d, get_or xs i e) ∷ [] =
    ap (λ l. zip ps l) (take_more xs i e lt) ∙ zip_more ps (take i xs) (get_or xs i e) d fits
    ∙ ap (λ k. zip ps (take i xs) ++ (get_or ps k d, get_or xs i e) ∷ []) long in
    let place : 1 + length (zip ps (take i xs)) ≡ i + 1 = omega (arith, long, length-zip ps (take i xs) (omega (arith, fits))) in
    let all : enumerate_from 1 (zip ps (take (i + 1) xs)) ≡ enumerate_from 1 (zip ps (take i xs)) ++ (i + 1, (get_or ps i d, get_or xs i e)) ∷ [] =
    ap (λ l. enumerate_from 1 l) pairs ∙ enumerate_more 1 (zip ps (take i xs)) (get_or ps i d, get_or xs i e)
    ∙ ap (λ k. enumerate_from 1 (zip ps (take i xs)) ++ (k, (get_or ps i d, get_or xs i e)) ∷ []) place in
    rw (was, is) (flat_map_more f before (enumerate_from 1 (zip ps (take i xs))) (i + 1, (get_or ps i d, get_or xs i e)) ∙ ap (λ l. before ++ flat_map f l) (sym all))

-- the line of one pair more, by what it has of either
pub pair_line_more : {P X : Type 0} (line : ℕ → P → ℕ → List ℕ) (count : X → ℕ) (ps : List P) (xs : List X) (i : ℕ) (d : P) (e : X) (before old new : List ℕ) (p : P) (n : ℕ)
    → i < length ps → i < length xs → old ≡ before ++ flat_map (λ q. line q.0 q.1.0 (count q.1.1)) (enumerate_from 1 (zip ps (take i xs)))
    → p ≡ get_or ps i d → n ≡ count (get_or xs i e) → new ≡ old ++ line (i + 1) p n
    → new ≡ before ++ flat_map (λ q. line q.0 q.1.0 (count q.1.1)) (enumerate_from 1 (zip ps (take (i + 1) xs)))
pair_line_more line count ps xs i d e before old new p n there lt was is-p is-n is =
    is ∙ pair_more (λ q. line q.0 q.1.0 (count q.1.1)) ps xs i d e before old (line (i + 1) p n) there lt was
    (ap (λ q. line (i + 1) q n) is-p ∙ ap (λ m. line (i + 1) (get_or ps i d) m) is-n)

-- no line more, if the first list has no more elements
pub pair_past : {P X : Type 0} (f : ℕ × (P × X) → List ℕ) (ps : List P) (xs : List X) (i : ℕ) (before old : List ℕ) → length ps ≤ i → i < length xs
    → old ≡ before ++ flat_map f (enumerate_from 1 (zip ps (take i xs))) → old ≡ before ++ flat_map f (enumerate_from 1 (zip ps (take (i + 1) xs)))
pair_past f ps [] i before old past lt was = absurd (omega (arith, lt))
pair_past f ps (x ∷ xs) i before old past lt was =
    was ∙ ap (λ l. before ++ flat_map f (enumerate_from 1 l)) (sym (ap (λ l. zip ps l) (take_more (x ∷ xs) i x lt)
    ∙ zip_past ps (take i (x ∷ xs)) (get_or (x ∷ xs) i x) (omega (arith, past, length-take-le i (x ∷ xs) (omega (arith, lt))))))

-- no pairs
pub zip_none : {P X : Type 0} (ps : List P) → zip {X = X} ps [] ≡ []
zip_none [] = refl
zip_none (p ∷ ps) = refl

-- the texts of no pairs
pub no_pairs : {P X : Type 0} (f : ℕ × (P × X) → List ℕ) (ps : List P) (start : List ℕ) → start ≡ start ++ flat_map f (enumerate_from 1 (zip ps []))
no_pairs f ps start = sym (append-nil start) ∙ ap (λ l. start ++ flat_map f (enumerate_from 1 l)) (sym (zip_none ps))

-- the lines of all metrics, one of each pair, after any text
pub all_pairs : {P X S : Type 0} (line : S → List ℕ) (metric : ℕ × (P × X) → S) (ps : List P) (xs : List X) (i : ℕ) (start new : List ℕ) → length xs ≤ i
    → new ≡ start ++ flat_map (λ p. line (metric p)) (enumerate_from 1 (zip ps (take i xs))) → new ≡ start ++ flat_map line (map metric (enumerate_from 1 (zip ps xs)))
all_pairs line metric ps xs i start new whole is =
    is ∙ ap (λ l. start ++ flat_map (λ p. line (metric p)) (enumerate_from 1 (zip ps l))) (take_all i xs whole)
    ∙ ap (λ t. start ++ t) (sym (flat_map-map line metric (enumerate_from 1 (zip ps xs))))

-- a text is these parts after another text
pub record Grew (start : List ℕ) (parts : List (List ℕ)) (new : List ℕ) : Type 0 where
  pub is : new ≡ start ++ flat_map (λ p. p) parts

-- one part
pub grew : (start new part : List ℕ) → new ≡ start ++ part → Grew start (part ∷ []) new
grew start new part is = record { is = is ∙ ap (λ t. start ++ t) (sym (append-nil part)) }

-- one part more
pub grew_more : (start old new part : List ℕ) (parts : List (List ℕ)) → Grew start parts old → new ≡ old ++ part
    → Grew start (parts ++ part ∷ []) new
grew_more start old new part parts was is =
    record { is = is ∙ ap (λ t. t ++ part) was.is ∙ flat_map_more (λ p. p) start parts part }

-- one part more, if there was memory for it
pub grew_last : {A E : Type 0} (r : Result A E) (start old new part : List ℕ) (parts : List (List ℕ)) → Grew start parts old → OnOk r (new ≡ old ++ part)
    → OnOk r (new ≡ start ++ flat_map (λ p. p) (parts ++ part ∷ []))
grew_last (Ok a) start old new part parts was is = (grew_more start old new part parts was is).is
grew_last (Err e) start old new part parts was is = tt

-- the same of families that are there if a test fails
pub grew_unless : {A E : Type 0} (r : Result A E) (start old new part : List ℕ) (parts : List (List ℕ)) (test : Bool) (families : List MetricFamily)
    → Grew start parts old → OnOk r (new ≡ old ++ part) → test ≡ false → flat_map (λ p. p) (parts ++ part ∷ []) ≡ families_text families
    → OnOk r (new ≡ start ++ families_text (if test then [] else families))
grew_unless r start old new part parts true families was is failed same = absurd (cc)
grew_unless (Ok a) start old new part parts false families was is failed same = (grew_more start old new part parts was is).is ∙ ap (λ t. start ++ t) same
grew_unless (Err e) start old new part parts false families was is failed same = tt

-- families after other families
pub families_more : (start old new : List ℕ) (before more : List MetricFamily) → old ≡ start ++ families_text before → new ≡ old ++ families_text more
    → new ≡ start ++ families_text (before ++ more)
families_more start old new before more was is =
    is ∙ ap (λ t. t ++ families_text more) was ∙ append_assoc start (families_text before) (families_text more)
    ∙ ap (λ t. start ++ t) (sym (flat_map-append family_lines before more))

-- seven lists of families, one after the other
pub seven_lists : (one two three four five six seven : List ℕ) (a b c d e f g : List MetricFamily) → one ≡ families_text a → two ≡ one ++ families_text b
    → three ≡ two ++ families_text c → four ≡ three ++ families_text d → five ≡ four ++ families_text e → six ≡ five ++ families_text f
    → seven ≡ six ++ families_text g → seven ≡ families_text (a ++ (b ++ (c ++ (d ++ (e ++ (f ++ g))))))
seven_lists one two three four five six seven a b c d e f g is-a is-b is-c is-d is-e is-f is-g =
    families_more [] one seven a (b ++ (c ++ (d ++ (e ++ (f ++ g))))) is-a (families_more one two seven b (c ++ (d ++ (e ++ (f ++ g)))) is-b
    (families_more two three seven c (d ++ (e ++ (f ++ g))) is-c (families_more three four seven d (e ++ (f ++ g)) is-d
    (families_more four five seven e (f ++ g) is-e (families_more five six seven f g is-f is-g)))))

-- what follows from what holds if there was memory
pub then_ok : {A E P Q : Type 0} (r : Result A E) → (P → Q) → OnOk r P → OnOk r Q
then_ok (Ok a) f holds = f holds
then_ok (Err e) f holds = tt
