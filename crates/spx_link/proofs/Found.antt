-- Links in a list, found by their ids, and what a change of the list does to that.
use Rattle.std.proofs.Common.{◌≡◌, ◌≢◌, ℕ, ◌<◌, List, [], ◌∷◌, ◌++◌, Bool, true, false, cond, ◌==◌, refl, ap, sym, subst, ◌∙◌, nat_lt, IsSome, IfSome, is_some, position, Option, None, Some, slice_get, get_or, set, length, length-set, length-append, arith, slice_index_or, find}
use Rattle.std.specs.List.{position_or_len}
use Rattle.std.specs.Option.{option_or}
use Rattle.std.proofs.lemmas.Bool.Decides.{nat_tests, Decides-eqb, Decides-ltb}
use Rattle.std.proofs.lemmas.List.{set-get_or}
use Rattle.std.proofs.lemmas.List.Folds.{find_at, find-set, find_past, find-append}
use Rattle.std.proofs.lemmas.Option.{slice_get_read, slice_get_within, get_or_from_slice_get}
use Rattle.spx_link.specs.LinkView.{LinkView}
use Rattle.spx_link.specs.Links.{LinksView, link_of, link_at, ChangesOnly, Adds}

abbrev pub has : ℕ → LinkView → Bool
has id l = l.own == id

-- ---- tests of numbers

pub eq_true : (a b : ℕ) → a ≡ b → (a == b) ≡ true
eq_true a b e = (Decides-eqb a b).1 e

pub eq_from : (a b : ℕ) → (a == b) ≡ true → a ≡ b
eq_from a b e = (Decides-eqb a b).0 e

pub eq_false : (a b : ℕ) → a ≢ b → (a == b) ≡ false
eq_false a b n = grind (arith, nat_tests)

-- ---- what is found

found_step : (p : LinkView → Bool) (x y : LinkView) (b : Bool) (rest : Option LinkView) → (rest ≡ Some y → p y ≡ true) → p x ≡ b → cond b (Some x) rest ≡ Some y → p y ≡ true
found_step p x y true rest below px e = cc
found_step p x y false rest below px e = below e

-- what is found passes
pub found_passes : (p : LinkView → Bool) (ls : List LinkView) (y : LinkView) → find p ls ≡ Some y → p y ≡ true
found_passes p [] y e = cc
found_passes p (x ∷ ls) y e = found_step p x y (p x) (find p ls) (found_passes p ls y) refl e

pub own_of_found : (ls : List LinkView) (id : ℕ) (l : LinkView) → link_of ls id ≡ Some l → l.own ≡ id
own_of_found ls id l e = eq_from l.own id (found_passes (has id) ls l e)

-- where it stands
pub place_of_found : (ls : List LinkView) (id : ℕ) (l : LinkView) → link_of ls id ≡ Some l → (k : ℕ) × (k < length ls) × (slice_index_or ls k l ≡ l)
place_of_found ls id l e =
    let there : slice_get ls (position_or_len (has id) ls) ≡ Some l = sym (find_at (has id) ls) ∙ e in
    (position_or_len (has id) ls, slice_get_within ls (position_or_len (has id) ls) l there, get_or_from_slice_get ls (position_or_len (has id) ls) l l there)

-- the place that is found
place_step : (p : LinkView → Bool) (ls : List LinkView) (k : ℕ) (b : Bool) → nat_lt (position_or_len p ls) (length ls) ≡ b → cond b (Some (position_or_len p ls)) None ≡ Some k → (k ≡ position_or_len p ls) × (k < length ls)
place_step p ls k true e is =
    let same : position_or_len p ls ≡ k = cc in
    (sym same, subst (λ n. n < length ls) same ((Decides-ltb (position_or_len p ls) (length ls)).0 e))
place_step p ls k false e is = absurd (cc is)

pub place_of_position : (p : LinkView → Bool) (ls : List LinkView) (k : ℕ) → position p ls ≡ Some k → (k ≡ position_or_len p ls) × (k < length ls)
place_of_position p ls k is = place_step p ls k (nat_lt (position_or_len p ls) (length ls)) refl is

within_of : (ls : List LinkView) (k : ℕ) (o : Option LinkView) → slice_get ls k ≡ o → is_some o ≡ true → k < length ls
within_of ls k None e h = absurd (cc h)
within_of ls k (Some x) e h = slice_get_within ls k x e

-- the link at the place of an id
pub link_of_place : (ls : List LinkView) (id k : ℕ) (x : LinkView) → position (has id) ls ≡ Some k → x ≡ get_or ls k x → link_of ls id ≡ Some x
link_of_place ls id k x is read =
    let place = place_of_position (has id) ls k is in
    find_at (has id) ls ∙ ap (slice_get ls) (sym place.0) ∙ slice_get_read ls (length ls) k x refl place.1 read

-- a live id has a place
pub position_of_live : (ls : List LinkView) (id : ℕ) → IsSome (link_of ls id) → IsSome (position (has id) ls)
position_of_live ls id live =
    let inside : position_or_len (has id) ls < length ls = within_of ls (position_or_len (has id) ls) (link_of ls id) (sym (find_at (has id) ls)) live in
    let test : nat_lt (position_or_len (has id) ls) (length ls) ≡ true = (Decides-ltb (position_or_len (has id) ls) (length ls)).1 inside in
    ap (λ b. is_some (cond b (Some (position_or_len (has id) ls)) None)) test

-- ---- changes

-- a write over the link of an id, by one of the same id
pub changes : (s : LinksView) (id k : ℕ) (x y : LinkView) → position (has id) s.links ≡ Some k → x ≡ get_or s.links k x → y.own ≡ x.own → ChangesOnly s (record { last = s.last; links = set s.links k y }) id y
changes s id k x y is read same =
    let place = place_of_position (has id) s.links k is in
    let ours : x.own ≡ id = own_of_found s.links id x (link_of_place s.links id k x is read) in
    record {
      link = find-set (has id) s.links k y place.0 place.1 (eq_true y.own id (same ∙ ours));
      others = λ q apart. find_past (has q) s.links k y x
          (ap (has q) (sym read) ∙ eq_false x.own q (λ e. apart (sym e ∙ ours)))
          (eq_false y.own q (λ e. apart (sym e ∙ same ∙ ours)));
      last = refl;
      count = length-set s.links k y;
    }

or_none : (o : Option LinkView) → option_or o None ≡ o
or_none None = refl
or_none (Some x) = refl

find_last : (p : LinkView → Bool) (y : LinkView) (b : Bool) → p y ≡ b → find p (y ∷ []) ≡ cond b (Some y) None
find_last p y b e = ap (λ c. cond c (Some y) None) e

-- a link behind the others, of an id that none of them has
pub adds : (s : LinksView) (id : ℕ) (y : LinkView) → link_at s id ≡ None → y.own ≡ id → Adds s (record { last = id; links = s.links ++ y ∷ [] }) id y
adds s id y free same =
    record {
      link = find-append (has id) s.links (y ∷ []) ∙ ap (λ o. option_or o (find (has id) (y ∷ []))) free ∙ find_last (has id) y true (eq_true y.own id same);
      others = λ q apart. find-append (has q) s.links (y ∷ []) ∙ ap (option_or (find (has q) s.links)) (find_last (has q) y false (eq_false y.own q (λ e. apart (sym e ∙ same)))) ∙ or_none (find (has q) s.links);
      last = refl;
      count = length-append s.links (y ∷ []);
    }

-- ---- a call by id

-- what holds of the link at the place holds of the link of the id
pub if_found : (s : LinksView) (id k : ℕ) (x : LinkView) (P : LinkView → Type 0) → position (has id) s.links ≡ Some k → x ≡ get_or s.links k x → P x → IfSome (link_at s id) P
if_found s id k x P is read holds =
    let Q : Option LinkView → Type 0 = λ o. IfSome o P in
    subst Q (sym (link_of_place s.links id k x is read)) holds

abbrev with_link : LinksView → ℕ → LinkView → LinksView
with_link s k y = record { last = s.last; links = set s.links k y }

-- the link became z
pub changed : (s t : LinksView) (id k : ℕ) (x y z : LinkView) → position (has id) s.links ≡ Some k → x ≡ get_or s.links k x → y ≡ z → z.own ≡ x.own → t ≡ record { last = s.last; links = set s.links k y } → ChangesOnly s t id z
changed s t id k x y z is read same own e =
    let P : LinksView → Type 0 = λ u. ChangesOnly s u id z in
    subst P (sym (e ∙ ap (with_link s k) same)) (changes s id k x z is read own)

-- the link stayed as it was
pub unchanged : (s t : LinksView) (k : ℕ) (x y : LinkView) → x ≡ get_or s.links k x → y ≡ x → t ≡ record { last = s.last; links = set s.links k y } → t ≡ s
unchanged s t k x y read same e =
    e ∙ ap (with_link s k) (same ∙ read) ∙ ap (λ (ls : List LinkView). record { last = s.last; links = ls }) (set-get_or s.links k x)
