-- The ids of the links in a list: they stay apart and in range, and which is the least.
use Rattle.std.proofs.Common.{◌≡◌, ◌≢◌, ℕ, ◌+◌, ◌<◌, ◌≤◌, zero, suc, List, [], ◌∷◌, ◌++◌, Bool, true, false, not, ◌&&◌, ◌||◌, cond, ◌==◌, nat_lt, refl, ap, sym, subst, ◌∙◌, None, Some, get_or, set, length, length-append, arith, slice_index_or, filter}
use Rattle.std.specs.List.{list_all}
use Rattle.std.proofs.lemmas.Bool.Decides.{nat_tests}
use Rattle.std.proofs.lemmas.List.{map-append, length-map}
use Rattle.std.proofs.lemmas.List.Folds.{list_all-append, list_any-append}
use Rattle.std.proofs.Math.Seq.{map-set_same}
use Rattle.spx_link.specs.Limits.{most_links, no_id}
use Rattle.spx_link.specs.LinkView.{LinkView}
use Rattle.spx_link.specs.Links.{LinksView, link_of, link_at, Releases}
use Rattle.spx_link.specs.Sound.{own_of, ids_of, is_among, is_id, AreIdsDistinct, AreIdsSound}
use Rattle.spx_link.proofs.Found.{has, eq_true, eq_from, eq_false}

-- ---- without an id

abbrev pub without : ℕ → List LinkView → List LinkView
without id ls = filter (λ l. not (has id l)) ls

gone_step : (id : ℕ) (x : LinkView) (ls : List LinkView) (b : Bool) → has id x ≡ b → link_of (without id ls) id ≡ None → link_of (cond (not b) (x ∷ without id ls) (without id ls)) id ≡ None
gone_step id x ls true e below = below
gone_step id x ls false e below = ap (λ c. cond c (Some x) (link_of (without id ls) id)) e ∙ below

gone : (id : ℕ) (ls : List LinkView) → link_of (without id ls) id ≡ None
gone id [] = refl
gone id (x ∷ ls) = gone_step id x ls (has id x) refl (gone id ls)

stay_step : (id q : ℕ) (x : LinkView) (ls : List LinkView) (b : Bool) → q ≢ id → has id x ≡ b → link_of (without id ls) q ≡ link_of ls q → link_of (cond (not b) (x ∷ without id ls) (without id ls)) q ≡ cond (has q x) (Some x) (link_of ls q)
stay_step id q x ls true apart e below =
    below ∙ ap (λ c. cond c (Some x) (link_of ls q)) (sym (eq_false x.own q (λ o. apart (sym o ∙ eq_from x.own id e))))
stay_step id q x ls false apart e below = ap (cond (has q x) (Some x)) below

stay : (id q : ℕ) (ls : List LinkView) → q ≢ id → link_of (without id ls) q ≡ link_of ls q
stay id q [] apart = refl
stay id q (x ∷ ls) apart = stay_step id q x ls (has id x) apart refl (stay id q ls apart)

-- the ids that stay
abbrev others_of : ℕ → List ℕ → List ℕ
others_of id ns = filter (λ n. not (n == id)) ns

ids_step : (id : ℕ) (x : LinkView) (ls : List LinkView) (b : Bool) → ids_of (without id ls) ≡ others_of id (ids_of ls) → ids_of (cond (not b) (x ∷ without id ls) (without id ls)) ≡ cond (not b) (x.own ∷ others_of id (ids_of ls)) (others_of id (ids_of ls))
ids_step id x ls true below = below
ids_step id x ls false below = ap (λ ns. x.own ∷ ns) below

pub ids_of-without : (id : ℕ) (ls : List LinkView) → ids_of (without id ls) ≡ others_of id (ids_of ls)
ids_of-without id [] = refl
ids_of-without id (x ∷ ls) = ids_step id x ls (has id x) (ids_of-without id ls)

all_step : (id n : ℕ) (ns : List ℕ) (b : Bool) → is_id n ≡ true → list_all is_id (others_of id ns) ≡ true → list_all is_id (cond (not b) (n ∷ others_of id ns) (others_of id ns)) ≡ true
all_step id n ns true here below = below
all_step id n ns false here below = ap (λ b. b && list_all is_id (others_of id ns)) here ∙ below

and_both : (a b : Bool) → (a && b) ≡ true → (a ≡ true) × (b ≡ true)
and_both true b e = (refl, e)
and_both false b e = (e, cc)

all_others : (id : ℕ) (ns : List ℕ) → list_all is_id ns ≡ true → list_all is_id (others_of id ns) ≡ true
all_others id [] h = refl
all_others id (n ∷ ns) h =
    let both = and_both (is_id n) (list_all is_id ns) h in
    all_step id n ns (n == id) both.0 (all_others id ns both.1)

among_step : (id m n : ℕ) (ns : List ℕ) (b : Bool) → (n == m) ≡ false → is_among (others_of id ns) m ≡ false → is_among (cond (not b) (n ∷ others_of id ns) (others_of id ns)) m ≡ false
among_step id m n ns true here below = below
among_step id m n ns false here below = ap (λ b. b || is_among (others_of id ns) m) here ∙ below

or_neither : (a b : Bool) → (a || b) ≡ false → (a ≡ false) × (b ≡ false)
or_neither true b e = (e, cc)
or_neither false b e = (refl, e)

among_others : (id m : ℕ) (ns : List ℕ) → is_among ns m ≡ false → is_among (others_of id ns) m ≡ false
among_others id m [] h = refl
among_others id m (n ∷ ns) h =
    let both = or_neither (n == m) (is_among ns m) h in
    among_step id m n ns (n == id) both.0 (among_others id m ns both.1)

separate_step : (id n : ℕ) (ns : List ℕ) (b : Bool) → is_among (others_of id ns) n ≡ false → AreIdsDistinct (others_of id ns) → AreIdsDistinct (cond (not b) (n ∷ others_of id ns) (others_of id ns))
separate_step id n ns true here below = below
separate_step id n ns false here below = (here, below)

separate_others : (id : ℕ) (ns : List ℕ) → AreIdsDistinct ns → AreIdsDistinct (others_of id ns)
separate_others id [] h = tt
separate_others id (n ∷ ns) h = separate_step id n ns (n == id) (among_others id n ns h.0) (separate_others id ns h.1)

-- where none is taken out, all stay
whole_step : (id n : ℕ) (ns : List ℕ) → (n == id) ≡ false → others_of id ns ≡ ns → cond (not (n == id)) (n ∷ others_of id ns) (others_of id ns) ≡ n ∷ ns
whole_step id n ns here below = ap (λ b. cond (not b) (n ∷ others_of id ns) (others_of id ns)) here ∙ ap (λ ms. n ∷ ms) below

whole : (id : ℕ) (ns : List ℕ) → is_among ns id ≡ false → others_of id ns ≡ ns
whole id [] h = refl
whole id (n ∷ ns) h =
    let both = or_neither (n == id) (is_among ns id) h in
    whole_step id n ns both.0 (whole id ns both.1)

-- one goes
fewer_step : (id n : ℕ) (ns : List ℕ) (b : Bool) → (n == id) ≡ b → AreIdsDistinct (n ∷ ns) → (b || is_among ns id) ≡ true → (is_among ns id ≡ true → length (others_of id ns) + 1 ≡ length ns) → length (cond (not b) (n ∷ others_of id ns) (others_of id ns)) + 1 ≡ length (n ∷ ns)
fewer_step id n ns true e apart among below =
    let same : n ≡ id = eq_from n id e in
    let none : is_among ns id ≡ false = subst (λ m. is_among ns m ≡ false) same apart.0 in
    let all : length (others_of id ns) ≡ length ns = ap length (whole id ns none) in
    omega (arith, all)
fewer_step id n ns false e apart among below =
    let one : length (others_of id ns) + 1 ≡ length ns = below among in
    omega (arith, one)

fewer : (id : ℕ) (ns : List ℕ) → AreIdsDistinct ns → is_among ns id ≡ true → length (others_of id ns) + 1 ≡ length ns
fewer id [] apart among = cc
fewer id (n ∷ ns) apart among = fewer_step id n ns (n == id) refl apart among (fewer id ns apart.1)

-- ---- the ids of links

among_ids_step : (x l : LinkView) (ls : List LinkView) (id : ℕ) (b : Bool) → cond b (Some x) (link_of ls id) ≡ Some l → (link_of ls id ≡ Some l → is_among (ids_of ls) id ≡ true) → (b || is_among (ids_of ls) id) ≡ true
among_ids_step x l ls id true e below = refl
among_ids_step x l ls id false e below = below e

pub among_ids : (ls : List LinkView) (id : ℕ) (l : LinkView) → link_of ls id ≡ Some l → is_among (ids_of ls) id ≡ true
among_ids [] id l e = cc
among_ids (x ∷ ls) id l e = among_ids_step x l ls id (x.own == id) e (among_ids ls id l)

not_among_step : (x : LinkView) (ls : List LinkView) (id : ℕ) (b : Bool) → cond b (Some x) (link_of ls id) ≡ None → (link_of ls id ≡ None → is_among (ids_of ls) id ≡ false) → (b || is_among (ids_of ls) id) ≡ false
not_among_step x ls id true e below = cc
not_among_step x ls id false e below = below e

pub not_among_ids : (ls : List LinkView) (id : ℕ) → link_of ls id ≡ None → is_among (ids_of ls) id ≡ false
not_among_ids [] id e = refl
not_among_ids (x ∷ ls) id e = not_among_step x ls id (x.own == id) e (not_among_ids ls id)

-- an id that is live is from 0001 to FFFE
among_in_range_step : (n id : ℕ) (ns : List ℕ) (b : Bool) → (n == id) ≡ b → is_id n ≡ true → (b || is_among ns id) ≡ true → (is_among ns id ≡ true → is_id id ≡ true) → is_id id ≡ true
among_in_range_step n id ns true e here among below = ap is_id (sym (eq_from n id e)) ∙ here
among_in_range_step n id ns false e here among below = below among

among_in_range : (ns : List ℕ) (id : ℕ) → list_all is_id ns ≡ true → is_among ns id ≡ true → is_id id ≡ true
among_in_range [] id all among = cc
among_in_range (n ∷ ns) id all among =
    let both = and_both (is_id n) (list_all is_id ns) all in
    among_in_range_step n id ns (n == id) refl both.0 among (among_in_range ns id both.1)

pub live_in_range : (last : ℕ) (ls : List LinkView) (id : ℕ) (l : LinkView) → AreIdsSound last (ids_of ls) → link_of ls id ≡ Some l → (0 < id) × (id < no_id)
live_in_range last ls id l sound e =
    let is : is_id id ≡ true = among_in_range (ids_of ls) id sound.in_range (among_ids ls id l e) in
    let both = and_both (nat_lt 0 id) (nat_lt id no_id) is in
    let above = both.0 in
    let below = both.1 in
    (grind (arith, nat_tests), grind (arith, nat_tests))

-- ---- what holds of the ids stays

pub sound_set : (last : ℕ) (ls : List LinkView) (k : ℕ) (x y : LinkView) → x ≡ get_or ls k x → y.own ≡ x.own → AreIdsSound last (ids_of ls) → AreIdsSound last (ids_of (set ls k y))
sound_set last ls k x y read same sound =
    subst (AreIdsSound last) (sym (map-set_same own_of ls k y x (same ∙ ap own_of read))) sound

pub few_links : (last : ℕ) (ls : List LinkView) → AreIdsSound last (ids_of ls) → length ls ≤ most_links
few_links last ls sound = omega (arith, sound.few, length-map ls own_of)

push_separate : (ns : List ℕ) (id : ℕ) → AreIdsDistinct ns → is_among ns id ≡ false → AreIdsDistinct (ns ++ id ∷ [])
push_separate [] id apart free = (refl, tt)
push_separate (n ∷ ns) id apart free =
    let both = or_neither (n == id) (is_among ns id) free in
    let other : (id == n) ≡ false = eq_false id n (λ e. cc (both.0, eq_true n id (sym e))) in (
      list_any-append (λ m. m == n) ns (id ∷ []) ∙ ap (λ b. b || ((id == n) || false)) apart.0 ∙ ap (λ b. b || false) other,
      push_separate ns id apart.1 both.1,
    )

pub sound_push : (last : ℕ) (ls : List LinkView) (y : LinkView) → AreIdsSound last (ids_of ls) → length ls < most_links → link_of ls y.own ≡ None → is_id y.own ≡ true → AreIdsSound y.own (ids_of (ls ++ y ∷ []))
sound_push last ls y sound room free id =
    let both = and_both (nat_lt 0 y.own) (nat_lt y.own no_id) id in
    let below = both.1 in
    subst (AreIdsSound y.own) (sym (map-append own_of ls (y ∷ []))) record {
      apart = push_separate (ids_of ls) y.own sound.apart (not_among_ids ls y.own free);
      in_range = list_all-append is_id (ids_of ls) (y.own ∷ []) ∙ ap (λ b. b && (is_id y.own && true)) sound.in_range ∙ ap (λ b. b && true) id;
      few = omega (arith, length-append (ids_of ls) (y.own ∷ []), length-map ls own_of);
      last = grind (arith, nat_tests);
    }

length_others_step : (id n : ℕ) (ns : List ℕ) (b : Bool) → length (others_of id ns) ≤ length ns → length (cond (not b) (n ∷ others_of id ns) (others_of id ns)) ≤ length (n ∷ ns)
length_others_step id n ns true below = omega (arith, below)
length_others_step id n ns false below = omega (arith, below)

length_others : (id : ℕ) (ns : List ℕ) → length (others_of id ns) ≤ length ns
length_others id [] = omega arith
length_others id (n ∷ ns) = length_others_step id n ns (n == id) (length_others id ns)

pub sound_without : (last : ℕ) (ls : List LinkView) (id : ℕ) → AreIdsSound last (ids_of ls) → AreIdsSound last (ids_of (without id ls))
sound_without last ls id sound =
    subst (AreIdsSound last) (sym (ids_of-without id ls)) record {
      apart = separate_others id (ids_of ls) sound.apart;
      in_range = all_others id (ids_of ls) sound.in_range;
      few = omega (arith, length_others id (ids_of ls), sound.few);
      last = sound.last;
    }

pub releases : (s : LinksView) (id : ℕ) (l : LinkView) → AreIdsSound s.last (ids_of s.links) → link_at s id ≡ Some l → Releases s (record { last = s.last; links = without id s.links }) id
releases s id l sound live =
    let one : length (others_of id (ids_of s.links)) + 1 ≡ length (ids_of s.links) = fewer id (ids_of s.links) sound.apart (among_ids s.links id l live) in
    let left : length (ids_of (without id s.links)) ≡ length (others_of id (ids_of s.links)) = ap length (ids_of-without id s.links) in
    record {
      gone = gone id s.links;
      others = λ q apart. stay id q s.links apart;
      last = refl;
      count = omega (arith, one, left, length-map s.links own_of, length-map (without id s.links) own_of);
    }

-- ---- the least id

holds_step : (l x : LinkView) (ls : List LinkView) (k : ℕ) (b : Bool) → (l.own == x.own) ≡ b → AreIdsDistinct (ids_of (l ∷ ls)) → link_of ls x.own ≡ Some x → cond b (Some l) (link_of ls x.own) ≡ Some x
holds_step l x ls k true e apart below =
    let same : x.own ≡ l.own = sym (eq_from l.own x.own e) in
    let among : is_among (ids_of ls) l.own ≡ true = subst (λ n. is_among (ids_of ls) n ≡ true) same (among_ids ls x.own x below) in
    cc (apart.0, among)
holds_step l x ls k false e apart below = below

-- the link at a place is the one that is found by its id
pub stands : (ls : List LinkView) (k : ℕ) (x : LinkView) → AreIdsDistinct (ids_of ls) → k < length ls → slice_index_or ls k x ≡ x → link_of ls x.own ≡ Some x
stands [] k x apart within read = absurd (omega arith)
stands (l ∷ ls) zero x apart within read = ap (λ b. cond b (Some l) (link_of ls x.own)) (eq_true l.own x.own (ap own_of read)) ∙ ap Some read
stands (l ∷ ls) (suc k) x apart within read =
    let inside : k < length ls = omega arith in
    holds_step l x ls k (l.own == x.own) refl apart (stands ls k x apart.1 inside read)
