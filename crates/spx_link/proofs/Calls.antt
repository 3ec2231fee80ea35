-- What a call of the link of an id does to the links.
use Rattle.std.proofs.Common.{◌≡◌, ℕ, ◌<◌, List, ◌∷◌, [], ◌++◌, true, refl, ap, sym, subst, ◌∙◌, Option, None, Some, IfSome, is_some, Result, Ok, Err, OnOk, OnErr, slice_get, get_or, set, length, position, option_map, option_copied, Bor}
use Rattle.spx_link.specs.Chosen.{carried}
use Rattle.spx_link.specs.Limits.{most_links, no_id}
use Rattle.spx_link.specs.LinkView.{LinkView}
use Rattle.spx_link.specs.Links.{LinksView, link_of, link_at, polled, ChangesOnly, Adds, Releases, IsNextFree, id_after}
use Rattle.spx_link.specs.Picked.{carried_in, body_in}
use Rattle.spx_link.specs.Poll.{OutgoingView, poll_link}
use Rattle.spx_link.specs.Sound.{own_of, ids_of, is_id, AreIdsSound}
use Rattle.spx_link.specs.declared.outgoing.Chosen.{Chosen}
use Rattle.spx_link.proofs.Apart.{live_in_range, sound_push, releases, sound_without, without}
use Rattle.spx_link.proofs.Found.{has, adds, changed, if_found, link_of_place, place_of_position}
use Rattle.spx_link.proofs.Lesser.{some_of}
use Rattle.spx_link.proofs.IsPresent.{slice_get_after_set}
use Rattle.std.proofs.lemmas.Bool.Decides.{nat_tests}
use Rattle.std.proofs.lemmas.Option.{slice_get_read}
use Rattle.std.proofs.Common.{arith, length-set}

-- the links as they lie in memory
abbrev pub view_of : ℕ → List LinkView → LinksView
view_of last ls = record { last = last; links = ls }

place_in : (ls cut : List LinkView) (id k : ℕ) → cut ≡ ls → position (has id) cut ≡ Some k → position (has id) ls ≡ Some k
place_in ls cut id k same is = let P : List LinkView → Type 0 = λ xs. position (has id) xs ≡ Some k in subst P same is

-- what holds of the link that was called
pub by_id : (now : LinksView) (last : ℕ) (ls cut : List LinkView) (id k : ℕ) (x : LinkView) (P : LinkView → Type 0) → view_of last ls ≡ now → cut ≡ ls → position (has id) cut ≡ Some k → x ≡ get_or ls k x → P x → IfSome (link_at now id) P
by_id now last ls cut id k x P view same is read holds =
    let Q : LinksView → Type 0 = λ s. IfSome (link_at s id) P in
    subst Q view (if_found (view_of last ls) id k x P (place_in ls cut id k same is) read holds)

-- the link that was called became another one
pub changed_by_id : (now : LinksView) (last : ℕ) (ls cut : List LinkView) (id k : ℕ) (x y : LinkView) (f : LinkView → LinkView) → view_of last ls ≡ now → cut ≡ ls → position (has id) cut ≡ Some k → x ≡ get_or ls k x → y ≡ f x → (f x).own ≡ x.own → IfSome (link_at now id) (λ l. ChangesOnly now (view_of last (set ls k y)) id (f l))
changed_by_id now last ls cut id k x y f view same is read becomes own =
    let there = place_in ls cut id k same is in
    let s = view_of last ls in
    let t = view_of last (set ls k y) in
    let Q : LinksView → Type 0 = λ u. IfSome (link_at u id) (λ l. ChangesOnly u t id (f l)) in
    subst Q view (if_found s id k x (λ l. ChangesOnly s t id (f l)) there read (changed s t id k x y (f x) there read becomes own refl))

if_map : (o : Option LinkView) (P Q : LinkView → Type 0) → ((l : LinkView) → P l → Q l) → IfSome o P → IfSome o Q
if_map None P Q h p = tt
if_map (Some l) P Q h p = h l p

-- the same where the call succeeded
pub changed_by_id_ok : {A E : Type 0} (r : Result A E) (now : LinksView) (last : ℕ) (ls cut : List LinkView) (id k : ℕ) (x y : LinkView) (f : LinkView → LinkView) → view_of last ls ≡ now → cut ≡ ls → position (has id) cut ≡ Some k → x ≡ get_or ls k x → OnOk r (y ≡ f x) → (f x).own ≡ x.own → IfSome (link_at now id) (λ l. OnOk r (ChangesOnly now (view_of last (set ls k y)) id (f l)))
changed_by_id_ok {A} {E} (Ok a) now last ls cut id k x y f view same is read becomes own = changed_by_id now last ls cut id k x y f view same is read becomes own
changed_by_id_ok {A} {E} (Err e) now last ls cut id k x y f view same is read becomes own =
    by_id now last ls cut id k x (λ l. OnOk {T = A} {E = E} (Err e) (ChangesOnly now (view_of last (set ls k y)) id (f l))) view same is read tt

-- the id stayed, whether the call succeeded or not
pub own_stays : {A E : Type 0} (r : Result A E) (x y z : LinkView) → OnOk r (y ≡ z) → OnErr r (y ≡ x) → z.own ≡ x.own → y.own ≡ x.own
own_stays (Ok a) x y z ok err own = ap own_of ok ∙ own
own_stays (Err e) x y z ok err own = ap own_of err

-- ---- a poll

carried_read : (s : LinksView) (at : ℕ) (l : LinkView) (c : Chosen) → slice_get s.links at ≡ Some l → carried_in s at c ≡ carried l c
carried_read s at l c there =
    let f : Option LinkView → OutgoingView = λ o. record { what = c.what; header = c.header; body = body_in o c.place } in
    ap f there

pub carried_there : (now : LinksView) (last : ℕ) (ls cut : List LinkView) (at : ℕ) (l : LinkView) (c : Chosen) → view_of last ls ≡ now → cut ≡ ls → slice_get cut at ≡ Some l → carried l c ≡ carried_in now at c
carried_there now last ls cut at l c view same there =
    let P : List LinkView → Type 0 = λ xs. slice_get xs at ≡ Some l in
    let Q : LinksView → Type 0 = λ s. carried l c ≡ carried_in s at c in
    subst Q view (sym (carried_read (view_of last ls) at l c (subst P same there)))

map_carried : (s : LinksView) (at : ℕ) (l : LinkView) (r : Option Chosen) → slice_get s.links at ≡ Some l → option_map (carried_in s at) r ≡ option_map (carried l) r
map_carried s at l None there = refl
map_carried s at l (Some c) there = ap Some (carried_read s at l c there)

pub polled_by_id : (now : LinksView) (last : ℕ) (ls cut : List LinkView) (id k : ℕ) (x y : LinkView) (moment : ℕ) (r : Option Chosen) → view_of last ls ≡ now → cut ≡ ls → position (has id) cut ≡ Some k → x ≡ get_or ls k x → option_map (carried y) r ≡ (poll_link x moment).0 → option_map (carried_in (view_of last (set ls k y)) k) r ≡ polled (link_at now id) moment
polled_by_id now last ls cut id k x y moment r view same is read gives =
    let there = place_in ls cut id k same is in
    let stands : slice_get ls k ≡ Some x = slice_get_read ls (length ls) k x refl (place_of_position (has id) ls k there).1 read in
    let Q : LinksView → Type 0 = λ s. (poll_link x moment).0 ≡ polled (link_at s id) moment in
    map_carried (view_of last (set ls k y)) k y r (slice_get_after_set ls k x y stands) ∙ gives ∙ subst Q view (sym (ap (λ (o : Option LinkView). polled o moment) (link_of_place ls id k x there read)))

pub within_after : (ls cut : List LinkView) (k : ℕ) (y : LinkView) → cut ≡ ls → k < length cut → k < length (set ls k y)
within_after ls cut k y same within =
    let P : List LinkView → Type 0 = λ xs. k < length xs in
    simp length-set (subst P same within)

-- ---- new links

pub fits_id : (last steps id : ℕ) → id ≡ id_after last steps → is_id id ≡ true
fits_id last steps id e = grind (arith, nat_tests)

pub sound_made : (last id : ℕ) (ls cut after : List LinkView) (y z : LinkView) → cut ≡ ls → AreIdsSound last (ids_of ls) → length ls < most_links → IsNextFree (view_of last cut) id → y ≡ z → z.own ≡ id → after ≡ ls ++ y ∷ [] → AreIdsSound id (ids_of after)
sound_made last id ls cut after y z same sound room next made own is =
    let mine : y.own ≡ id = ap own_of made ∙ own in
    let F : List LinkView → Type 0 = λ xs. link_of xs id ≡ None in
    let free : link_of ls y.own ≡ None = ap (link_of ls) mine ∙ subst F same next.free in
    let range : is_id y.own ≡ true = ap is_id mine ∙ fits_id last next.steps id next.is in
    let P : List LinkView → Type 0 = λ xs. AreIdsSound id (ids_of xs) in
    let Q : ℕ → Type 0 = λ n. AreIdsSound n (ids_of (ls ++ y ∷ [])) in
    subst P (sym is) (subst Q mine (sound_push last ls y sound room free range))

pub adds_made : (now : LinksView) (last id : ℕ) (ls cut after : List LinkView) (y z : LinkView) → view_of last ls ≡ now → cut ≡ ls → IsNextFree (view_of last cut) id → y ≡ z → z.own ≡ id → after ≡ ls ++ y ∷ [] → Adds now (view_of id after) id z
adds_made now last id ls cut after y z view same next made own is =
    let F : List LinkView → Type 0 = λ xs. link_of xs id ≡ None in
    let P : LinksView → Type 0 = λ s. Adds s (view_of id after) id z in
    let Q : List LinkView → Type 0 = λ xs. Adds (view_of last ls) (view_of id xs) id z in
    let here : ls ++ z ∷ [] ≡ after = ap (λ l. ls ++ l ∷ []) (sym made) ∙ sym is in
    subst P view (subst Q here (adds (view_of last ls) id z (subst F same next.free) own))

-- ---- links that go

pub released : (now : LinksView) (last : ℕ) (ls after : List LinkView) (id : ℕ) → view_of last ls ≡ now → AreIdsSound last (ids_of ls) → is_some (link_of ls id) ≡ true → after ≡ without id ls → Releases now (view_of last after) id
released now last ls after id view sound live is =
    let l = some_of (link_of ls id) live in
    let P : LinksView → Type 0 = λ s. Releases s (view_of last after) id in
    let Q : List LinkView → Type 0 = λ xs. Releases (view_of last ls) (view_of last xs) id in
    subst P view (subst Q (sym is) (releases (view_of last ls) id l.0 sound l.1))

pub sound_released : (last : ℕ) (ls after : List LinkView) (id : ℕ) → AreIdsSound last (ids_of ls) → after ≡ without id ls → AreIdsSound last (ids_of after)
sound_released last ls after id sound is =
    let P : List LinkView → Type 0 = λ xs. AreIdsSound last (ids_of xs) in
    subst P (sym is) (sound_without last ls id sound)

-- ---- look-ups

pub range_of_found : (last : ℕ) (ls cut : List LinkView) (id : ℕ) (r : Option (Bor LinkView)) → cut ≡ ls → AreIdsSound last (ids_of ls) → option_copied r ≡ link_of cut id → IfSome r (λ _. (0 < id) × (id < no_id))
range_of_found last ls cut id None same sound e = tt
range_of_found last ls cut id (Some b) same sound e =
    let P : List LinkView → Type 0 = λ xs. Some b.now ≡ link_of xs id in
    live_in_range last ls id b.now sound (sym (subst P same e))
