-- What the least id in a list is by look-ups.
use Rattle.std.proofs.Common.{◌≡◌, ℕ, ◌+◌, ◌<◌, ◌≤◌, min, nat_lt, Bool, true, false, get_or, take, List, [], ◌∷◌, ◌++◌, ap, sym, subst, ◌∙◌, Option, None, Some, IsSome, is_some, MatchOption, refl, length, length-append, arith, slice_index_or}
use Rattle.ipx_wire.specs.declared.address.Address.{Address}
use Rattle.std.proofs.Math.ListN.{get_or-append}
use Rattle.std.proofs.Math.Seq.{get_or-append_seam}
use Rattle.std.proofs.lemmas.Bool.Decides.{nat_tests, Decides-ltb}
use Rattle.std.proofs.lemmas.List.{take_more}
use Rattle.std.proofs.lemmas.List.Elements.{All-push}
use Rattle.std.specs.Prelude.{⊤}
use Rattle.spx_link.specs.Leasts.{IsLeastId, HasGreaterId, IsFrom, lesser_of}
use Rattle.spx_link.specs.LinkView.{LinkView}
use Rattle.spx_link.specs.Links.{LinksView, link_at, IsAbove, IsAcceptedFrom, IsLeast}
use Rattle.spx_link.specs.Sound.{ids_of, AreIdsDistinct}
use Rattle.spx_link.proofs.Apart.{stands}
use Rattle.spx_link.proofs.Found.{own_of_found, place_of_found}

-- ---- one more link

pub least_here : (P : LinkView → Type 0) (ls : List LinkView) (x : LinkView) (r : Option ℕ) → P x → MatchOption r ⊤ (λ n. x.own < n) → IsLeastId P ls r → IsLeastId P (ls ++ x ∷ []) (Some x.own)
least_here P ls x None here less none = (
  (length ls, x, omega (arith, length-append ls (x ∷ [])), get_or-append_seam ls x [] x, (here, refl)),
  All-push (λ l. P l → x.own ≤ l.own) ls x (λ k d within p. absurd (none k d within p)) (λ _. omega arith),
)
least_here P ls x (Some n) here less least = (
  (length ls, x, omega (arith, length-append ls (x ∷ [])), get_or-append_seam ls x [] x, (here, refl)),
  All-push (λ l. P l → x.own ≤ l.own) ls x
      (λ k d within p. let below : n ≤ (slice_index_or ls k d).own = least.1 k d within p in omega (arith, below, less))
      (λ _. omega arith),
)

pub least_stays : (P : LinkView → Type 0) (ls : List LinkView) (x : LinkView) (r : Option ℕ) → (P x → MatchOption r ⊥ (λ n. n ≤ x.own)) → IsLeastId P ls r → IsLeastId P (ls ++ x ∷ []) r
least_stays P ls x None not_less none = All-push (λ l. ¬ P l) ls x none not_less
least_stays P ls x (Some n) not_less least =
    let y = least.0.1 in (
      (least.0.0, y, omega (arith, length-append ls (x ∷ []), least.0.2), get_or-append ls (x ∷ []) y least.0.0 least.0.2 ∙ least.0.3, least.0.4),
      All-push (λ l. P l → n ≤ l.own) ls x least.1 not_less,
    )

least_min : (P : LinkView → Type 0) (ls : List LinkView) (x : LinkView) (n : ℕ) (b : Bool) → nat_lt x.own n ≡ b → P x → IsLeastId P ls (Some n) → IsLeastId P (ls ++ x ∷ []) (Some (min n x.own))
least_min P ls x n true e here least =
    let below : x.own < n = (Decides-ltb x.own n).0 e in
    let is : x.own ≡ min n x.own = omega arith in
    let Q : ℕ → Type 0 = λ m. IsLeastId P (ls ++ x ∷ []) (Some m) in
    subst Q is (least_here P ls x (Some n) here below least)
least_min P ls x n false e here least =
    let above : n ≤ x.own = grind (arith, nat_tests) in
    let is : n ≡ min n x.own = omega arith in
    let Q : ℕ → Type 0 = λ m. IsLeastId P (ls ++ x ∷ []) (Some m) in
    subst Q is (least_stays P ls x (Some n) (λ _. above) least)

least_more : (P : LinkView → Type 0) (test : Bool) (ls : List LinkView) (x : LinkView) (r : Option ℕ) → (test ≡ true → P x) → (P x → test ≡ true) → IsLeastId P ls r → IsLeastId P (ls ++ x ∷ []) (lesser_of x.own test r)
least_more P true ls x None to from least = least_here P ls x None (to refl) tt least
least_more P true ls x (Some n) to from least = least_min P ls x n (nat_lt x.own n) refl (to refl) least
least_more P false ls x None to from least = least_stays P ls x None (λ p. cc (from p)) least
least_more P false ls x (Some n) to from least = least_stays P ls x (Some n) (λ p. absurd (cc (from p))) least

-- the step of a loop
pub least_step : (P : LinkView → Type 0) (test : Bool) (ls : List LinkView) (i : ℕ) (x : LinkView) (r : Option ℕ) → i < length ls → x ≡ get_or ls i x → (test ≡ true → P x) → (P x → test ≡ true) → IsLeastId P (take i ls) r → IsLeastId P (take (i + 1) ls) (lesser_of x.own test r)
least_step P test ls i x r within read to from least =
    let more : take (i + 1) ls ≡ take i ls ++ x ∷ [] = take_more ls i x within ∙ ap (λ y. take i ls ++ y ∷ []) (sym read) in
    let Q : List LinkView → Type 0 = λ ys. IsLeastId P ys (lesser_of x.own test r) in
    subst Q (sym more) (least_more P test (take i ls) x r to from least)

-- ---- by look-ups

pub some_of : {A : Type 0} (o : Option A) → IsSome o → (x : A) × (o ≡ Some x)
some_of None h = absurd (cc h)
some_of (Some x) h = (x, refl)

-- a link of which the fact holds, found by its id
abbrev IsFound : (LinkView → Type 0) → LinksView → ℕ → Type 0
IsFound P s id = (l : LinkView) × (link_at s id ≡ Some l) × P l

none_found : (P : LinkView → Type 0) (s : LinksView) → IsLeastId P s.links None → (q : ℕ) → ¬ IsFound P s q
none_found P s none q found =
    let place = place_of_found s.links q found.0 found.1 in
    none place.0 found.0 place.1 (subst P (sym place.2) found.2)

least_found : (P : LinkView → Type 0) (s : LinksView) (id : ℕ) → AreIdsDistinct (ids_of s.links) → IsLeastId P s.links (Some id) → IsLeast (IsFound P s) id
least_found P s id apart least =
    let x = least.0.1 in
    let Q : ℕ → Type 0 = λ n. link_at s n ≡ Some x in
    record {
      holds = (x, subst Q least.0.4.1 (stands s.links least.0.0 x apart least.0.2 least.0.3), least.0.4.0);
      least = λ q found.
          let place = place_of_found s.links q found.0 found.1 in
          let below : id ≤ (slice_index_or s.links place.0 found.0).own = least.1 place.0 found.0 place.1 (subst P (sym place.2) found.2) in
          let R : ℕ → Type 0 = λ n. id ≤ n in
          subst R (ap (λ (l : LinkView). l.own) place.2 ∙ own_of_found s.links q found.0 found.1) below;
    }

above_found : (s : LinksView) (id q : ℕ) → IsAbove s id q → IsFound (HasGreaterId id) s q
above_found s id q above =
    let l = some_of (link_at s q) above.live in
    let R : ℕ → Type 0 = λ n. id < n in
    (l.0, l.1, subst R (sym (own_of_found s.links q l.0 l.1)) above.above)

found_above : (s : LinksView) (id q : ℕ) → IsFound (HasGreaterId id) s q → IsAbove s id q
found_above s id q found =
    let R : ℕ → Type 0 = λ n. id < n in
    record { live = ap is_some found.1; above = subst R (own_of_found s.links q found.0 found.1) found.2 }

pub next_above : (s : LinksView) (id : ℕ) (r : Option ℕ) → AreIdsDistinct (ids_of s.links) → IsLeastId (HasGreaterId id) s.links r → MatchOption r ((q : ℕ) → ¬ IsAbove s id q) (IsLeast (IsAbove s id))
next_above s id None apart none = λ q above. none_found (HasGreaterId id) s none q (above_found s id q above)
next_above s id (Some n) apart least =
    let found = least_found (HasGreaterId id) s n apart least in
    record { holds = found_above s id n found.holds; least = λ q above. found.least q (above_found s id q above) }

accepted_found : (s : LinksView) (remote : Address) (peer q : ℕ) → IsAcceptedFrom s remote peer q → IsFound (IsFrom remote peer) s q
accepted_found s remote peer q a = (a.link, a.at, record { accepted = a.accepted; remote = a.remote; peer = a.peer })

found_accepted : (s : LinksView) (remote : Address) (peer q : ℕ) → IsFound (IsFrom remote peer) s q → IsAcceptedFrom s remote peer q
found_accepted s remote peer q f = record { link = f.0; at = f.1; accepted = f.2.accepted; remote = f.2.remote; peer = f.2.peer }

pub first_accepted : (s : LinksView) (remote : Address) (peer : ℕ) (r : Option ℕ) → AreIdsDistinct (ids_of s.links) → IsLeastId (IsFrom remote peer) s.links r → MatchOption r ((q : ℕ) → ¬ IsAcceptedFrom s remote peer q) (IsLeast (IsAcceptedFrom s remote peer))
first_accepted s remote peer None apart none = λ q a. none_found (IsFrom remote peer) s none q (accepted_found s remote peer q a)
first_accepted s remote peer (Some n) apart least =
    let found = least_found (IsFrom remote peer) s n apart least in
    record { holds = found_accepted s remote peer n found.holds; least = λ q a. found.least q (accepted_found s remote peer q a) }
