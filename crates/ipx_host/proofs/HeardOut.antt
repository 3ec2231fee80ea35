-- With `once` a host hears one connection out, which is the first that is heard.
use Rattle.std.proofs.Common.{◌≡◌, ◌≢◌, ◌∙◌, ◌⊎◌, ◌-◌, ◌<◌, ◌==◌, ◌||◌, ◌&&◌, inl, inr, slice_get, ℕ, zero, suc, Bool, true, false, not, cond, List, [], ◌∷◌, ◌++◌, length, get_or, Option, Some, None, map, Result, Ok, Err, refl, sym, ap, subst, arith, append_assoc, append-nil}
use Rattle.std.proofs.lemmas.Iterator.Adapters.{position_from-zero}
use Rattle.std.proofs.lemmas.List.Elements.{All-append, All-cons, All-nil, All-push}
use Rattle.std.proofs.lemmas.List.Folds.{list_any-append}
use Rattle.std.proofs.lemmas.List.Quantifiers.{position-Some}
use Rattle.std.proofs.lemmas.Option.{get_or_from_slice_get, slice_get-get_or}
use Rattle.std.specs.List.{list_any, position}
use Rattle.std.specs.Prelude.{All, IfSome, MatchOption, if◌then◌else◌, nat_le, remove}
use Rattle.ipx_carrier.specs.Turns.{Peers, Turn}
use Rattle.ipx_wire.specs.declared.address.Address.{Address}
use Rattle.spx_messages.specs.EndpointView.{EndpointView, Held, held_at}
use Rattle.spx_messages.specs.Taking.{TakenView, Nothing, Part, PeerEnd, Whole, take_end}
use Rattle.spx_messages.specs.declared.fault.EndFault.{EndFault}
use Rattle.ipx_host.specs.Hosting.{HearsOneOut, Host, IsOneIfHeard, MovesSome, NotesIf, Serves, StepView, Steps, StepsWithoutStop, WritesAndPasses, end_of, takes_of}
use Rattle.ipx_host.specs.Passing.{PassesEach, PassesFrom, Take, TakesWhileOpen, held_after, phase_after, phase_with, takes_after, takes_each, takes_from}
use Rattle.ipx_host.specs.SessionActions.{ends, is_unheard, phase_heard}
use Rattle.ipx_host.specs.Sessions.{Admits, Asks as IsAsked, DoesNoted, Evicts, has_spoken, heard_by, is_at_limit, is_ended, is_of_node, is_unanswered, LetsLinkGo, LetsLinksGo, once_heard, place_of_own, place_to_free, session_of}
use Rattle.ipx_host.specs.SessionLogs.{ListenerCounts}
use Rattle.ipx_host.specs.Tending.{DoesAction, TendsFirst, TendsOn}
use Rattle.ipx_host.specs.declared.listening.ListenOutcome.{ListenOutcome}
use Rattle.ipx_host.specs.declared.listening.ListenOutcome.TheVariants as Stops
use Rattle.ipx_host.specs.declared.paced_host_core.Arrival.{Arrival}
use Rattle.ipx_host.specs.declared.paced_host_core.Arrival.TheVariants as Cames
use Rattle.ipx_host.specs.declared.paced_host_core.PacedHostCore.{PacedHostCore}
use Rattle.ipx_host.specs.declared.sessions.Phase.{Phase}
use Rattle.ipx_host.specs.declared.sessions.Phase.TheVariants as Standings
use Rattle.ipx_host.specs.declared.sessions.Session.{Session}
use Rattle.ipx_host.specs.declared.sessions.SessionAction.{SessionAction}
use Rattle.ipx_host.specs.declared.sessions.SessionAction.TheVariants.{Stays, Asks, Over, GivenUp}
use Rattle.ipx_host.proofs.Holding.{after_heard, any_at, any_ended, any_heard_by, any_removed, any_set, asked_ends, asked_unheard, done_ends, each_heard, none_heard, or_left, parted_some, same_head, same_some}

-- ---- one connection alone, of an id and from an address, which was heard

abbrev Is : ℕ → Address → Session → Type 0
Is id from c = (c.id ≡ id) × (c.from ≡ from) × (has_spoken c ≡ true)

-- it is the only one, and its end was taken just where so it says
abbrev Goes : ℕ → Address → Bool → List Session → Type 0
Goes id from ended cs = (c : Session) × (cs ≡ c ∷ []) × Is id from c × (is_ended c ≡ ended)

-- none was heard, or one is the only one
abbrev NoneOrOne : List Session → Type 0
NoneOrOne cs = (list_any has_spoken cs ≡ false)
    ⊎ ((c : Session) × (cs ≡ c ∷ []) × (has_spoken c ≡ true) × (is_ended c ≡ false))

unheard_of : (u : Bool) → not u ≡ true → u ≡ false
unheard_of true e = absurd (cc)
unheard_of false e = refl

unspoken : (u : Bool) → not u ≡ false → u ≡ true
unspoken true e = refl
unspoken false e = absurd (cc)

or_none : (x y : Bool) → (x || y) ≡ false → (x ≡ false) × (y ≡ false)
or_none true y e = absurd (cc)
or_none false y e = (refl, e)

none_by : (x y : Bool) → (x ≡ true → y ≡ true) → y ≡ false → x ≡ false
none_by true y up off = sym (up refl) ∙ off
none_by false y up off = refl

-- ---- what is heard, where one is the only one

heard_spoken : (s : Phase) → not (is_unheard (phase_heard s)) ≡ true
heard_spoken Standings.New = refl
heard_spoken Standings.NewProbed = refl
heard_spoken Standings.Open = refl
heard_spoken Standings.KeepaliveSent = refl
heard_spoken Standings.Ended = refl

heard_ends : (s : Phase) → ends (phase_heard s) ≡ ends s
heard_ends Standings.New = refl
heard_ends Standings.NewProbed = refl
heard_ends Standings.Open = refl
heard_ends Standings.KeepaliveSent = refl
heard_ends Standings.Ended = refl

once_or_not : (b : Bool) (now id : ℕ) (from : Address) (c : Session) → Is id from c
    → Is id from (cond b (once_heard now c) c) × (is_ended (cond b (once_heard now c) c) ≡ is_ended c)
once_or_not true now id from c is = ((is.0, is.1, heard_spoken c.phase), heard_ends c.phase)
once_or_not false now id from c is = (is, refl)

kept_alone : (k : Session) (ts : List Session) (e e' : EndpointView) (found : Option ℕ) → position has_spoken (k ∷ []) ≡ found
    → MatchOption found ((ts ≡ k ∷ []) × (e' ≡ e)) (λ place. IfSome (slice_get (k ∷ []) place) (λ c. ts ≡ c ∷ []) × LetsLinksGo (remove (k ∷ []) place) e e')
    → ts ≡ k ∷ []
kept_alone k ts e e' None is d = d.0
kept_alone k ts e e' (Some zero) is d = d.0
kept_alone k ts e e' (Some (suc n)) is d = absurd (omega (arith, (position-Some has_spoken (k ∷ []) (suc n) k is).0))

admits_none : (id : ℕ) (from : Address) (c k : Session) (e e' : EndpointView) (ts : List Session) → Is id from c → Admits true k e e' (c ∷ []) ts → ts ≡ c ∷ []
admits_none id from c k e e' ts is (inl p) = absurd (p.0 (inl (refl, or_left (has_spoken c) (list_any has_spoken []) is.2)))
admits_none id from c k e e' ts is (inr p) = p.1

both_left : (a b : Bool) → (a && b) ≡ true → a ≡ true
both_left true b h = refl
both_left false b h = h

not_unanswered : (u v : Bool) → not u ≡ true → (u && v) ≡ true → ⊥
not_unanswered true v e o = absurd (cc)
not_unanswered false v e o = absurd (cc)

own_at : (now : ℕ) (asker : Address) (c : Session) (e : EndpointView) (k id : ℕ) (from : Address) → Is id from c → k < 1
    → (is_unanswered now (get_or (c ∷ []) k c) && is_of_node e.network asker (get_or (c ∷ []) k c)) ≡ true → ⊥
own_at now asker c e zero id from one within is =
    not_unanswered (is_unheard c.phase) (nat_le 1500 (now - c.heard)) one.2 (both_left (is_unanswered now c) (is_of_node e.network asker c) is)
own_at now asker c e (suc k) id from one within is = omega (arith, within)

only_if : (b : Bool) (o : Option ℕ) (k : ℕ) → cond (not b) None o ≡ Some k → o ≡ Some k
only_if true o k h = h
only_if false o k h = absurd (cc)

own_by : (now id : ℕ) (from asker : Address) (c : Session) (e mid : EndpointView) (ts : List Session) (found : Option ℕ) → Is id from c → place_of_own true e.network e now asker (c ∷ []) ≡ found
    → Evicts found e mid (c ∷ []) ts → ts ≡ c ∷ []
own_by now id from asker c e mid ts None one is d = d.0
own_by now id from asker c e mid ts (Some k) one is d =
    let own : Session → Bool = λ k. is_unanswered now k && is_of_node e.network asker k in
    let at = position-Some own (c ∷ []) k c (only_if (is_at_limit e.network asker (c ∷ [])) (position own (c ∷ [])) k is) in
    absurd (own_at now asker c e k id from one at.0 at.1)

-- where its node is at its limit or not, it is not evicted for a request that found no link
no_room_if : (b : Bool) (now id : ℕ) (from asker : Address) (c : Session) (e e' : EndpointView) (ts : List Session) (found : Option ℕ) → Is id from c
    → (if b then place_of_own true e.network e now asker (c ∷ []) else position (is_unanswered now) (c ∷ [])) ≡ found
    → Evicts found e e' (c ∷ []) ts → ts ≡ c ∷ []
no_room_if true now id from asker c e e' ts found one is d = own_by now id from asker c e e' ts found one is d
no_room_if false now id from asker c e e' ts None one is d = d.0
no_room_if false now id from asker c e e' ts (Some zero) one is d =
    absurd (not_unanswered (is_unheard c.phase) (nat_le 1500 (now - c.heard)) one.2 (position-Some (is_unanswered now) (c ∷ []) 0 c is).1)
no_room_if false now id from asker c e e' ts (Some (suc n)) one is d = absurd (omega (arith, (position-Some (is_unanswered now) (c ∷ []) (suc n) c is).0))

no_room_by : (now id : ℕ) (from asker : Address) (c : Session) (e e' : EndpointView) (ts : List Session) (found : Option ℕ) → Is id from c → place_to_free true e.network e now asker (c ∷ []) ≡ found
    → Evicts found e e' (c ∷ []) ts → ts ≡ c ∷ []
no_room_by now id from asker c e e' ts found one is d = no_room_if (is_at_limit e.network asker (c ∷ [])) now id from asker c e e' ts found one is d

noted_alone : (came : Option Arrival) (now id : ℕ) (from : Address) (e e' : EndpointView) (c : Session) (ts : List Session) → Is id from c
    → DoesNoted true came now e e' (c ∷ []) ts → Goes id from (is_ended c) ts
noted_alone None now id from e e' c ts is d = (c, d.0, is, refl)
noted_alone (Some (Cames.Heard i)) now id from e e' c ts is d =
    let so = once_or_not (c.id == i) now id from c is in
    (heard_by i now c, kept_alone (heard_by i now c) ts e e' (position has_spoken (heard_by i now c ∷ [])) refl d, so.0, so.1)
noted_alone (Some (Cames.Accepted a)) now id from e e' c ts is (mid, between, evicts, admits) =
    let same = own_by now id from a.from c e mid between (place_of_own true e.network e now a.from (c ∷ [])) is refl evicts in
    (c, admits_none id from c (session_of a now) mid e' ts is (subst (λ (l : List Session). Admits true (session_of a now) mid e' l ts) same admits), is, refl)
noted_alone (Some (Cames.NoRoom asker)) now id from e e' c ts is d =
    (c, no_room_by now id from asker c e e' ts (place_to_free true e.network e now asker (c ∷ [])) is refl d, is, refl)

heard_alone : (b : Bool) (id : ℕ) (from : Address) (old new : PacedHostCore) (c : Session) (ts : List Session) → Is id from c → NotesIf b true old new (c ∷ []) ts → Goes id from (is_ended c) ts
heard_alone true id from old new c ts is n = noted_alone old.came old.moment id from old.endpoint new.endpoint c ts is n.1
heard_alone false id from old new c ts is n = (c, n.1, is, refl)

-- ---- what is heard, where none was

found_one : (there ts : List Session) (place : ℕ) → position has_spoken there ≡ Some place → list_any is_ended there ≡ false
    → IfSome (slice_get there place) (λ c. ts ≡ c ∷ []) → NoneOrOne ts
found_one [] ts place is unended k = absurd (cc)
found_one (d ∷ ds) ts place is unended k =
    let at = position-Some has_spoken (d ∷ ds) place d is in
    let one = get_or (d ∷ ds) place d in
    let only : ts ≡ one ∷ [] = subst (λ (o : Option Session). IfSome o (λ c. ts ≡ c ∷ [])) (slice_get-get_or (d ∷ ds) place d at.0) k in
    inr (one, only, at.1, none_by (is_ended one) (list_any is_ended (d ∷ ds)) (λ here. any_at is_ended (d ∷ ds) place d at.0 here) unended)

found_none : (there ts : List Session) (e e' : EndpointView) (found : Option ℕ) → position has_spoken there ≡ found → list_any is_ended there ≡ false
    → MatchOption found ((ts ≡ there) × (e' ≡ e)) (λ place. IfSome (slice_get there place) (λ c. ts ≡ c ∷ []) × LetsLinksGo (remove there place) e e')
    → NoneOrOne ts
found_none there ts e e' None is unended d =
    inl (ap (list_any has_spoken) d.0 ∙ none_heard there 0 (sym (position_from-zero has_spoken there) ∙ is))
found_none there ts e e' (Some place) is unended d = found_one there ts place is unended d.0

-- where none was heard, the end of none was taken
none_ended : (cs : List Session) → list_any has_spoken cs ≡ false → list_any is_ended cs ≡ false
none_ended cs none = none_by (list_any is_ended cs) (list_any has_spoken cs) (any_ended cs) none

admits_unheard : (a : Session) (e e' : EndpointView) (cs ts : List Session) → has_spoken a ≡ false → list_any has_spoken cs ≡ false → Admits true a e e' cs ts → list_any has_spoken ts ≡ false
admits_unheard a e e' cs ts unheard none (inl p) =
    ap (list_any has_spoken) p.1 ∙ list_any-append has_spoken cs (a ∷ []) ∙ ap (λ b. b || list_any has_spoken (a ∷ [])) none ∙ ap (λ b. b || false) unheard
admits_unheard a e e' cs ts unheard none (inr p) = ap (list_any has_spoken) p.1 ∙ none

none_removed : (cs : List Session) (place : ℕ) → list_any has_spoken cs ≡ false → list_any has_spoken (remove cs place) ≡ false
none_removed cs place none = none_by (list_any has_spoken (remove cs place)) (list_any has_spoken cs) (any_removed has_spoken cs place) none

room_unheard : (now : ℕ) (e e' : EndpointView) (cs ts : List Session) (found : Option ℕ) → list_any has_spoken cs ≡ false
    → MatchOption found ((ts ≡ cs) × (e' ≡ e)) (λ place. (ts ≡ remove cs place) × IfSome (slice_get cs place) (λ k. LetsLinkGo e e' k.id))
    → list_any has_spoken ts ≡ false
room_unheard now e e' cs ts None none d = ap (list_any has_spoken) d.0 ∙ none
room_unheard now e e' cs ts (Some place) none d = ap (list_any has_spoken) d.0 ∙ none_removed cs place none

noted_none : (came : Option Arrival) (now : ℕ) (e e' : EndpointView) (cs ts : List Session) → list_any has_spoken cs ≡ false → DoesNoted true came now e e' cs ts → NoneOrOne ts
noted_none None now e e' cs ts none d = inl (ap (list_any has_spoken) d.0 ∙ none)
noted_none (Some (Cames.Heard i)) now e e' cs ts none d =
    let there = map (heard_by i now) cs in
    let unended = none_by (list_any is_ended there) (list_any is_ended cs) (any_heard_by i now cs) (none_ended cs none) in
    found_none there ts e e' (position has_spoken there) refl unended d
noted_none (Some (Cames.Accepted a)) now e e' cs ts none (mid, between, evicts, admits) =
    inl (admits_unheard (session_of a now) mid e' between ts refl (room_unheard now e mid cs between (place_of_own true e.network e now a.from cs) none evicts) admits)
noted_none (Some (Cames.NoRoom asker)) now e e' cs ts none d = inl (room_unheard now e e' cs ts (place_to_free true e.network e now asker cs) none d)

heard_none : (b : Bool) (old new : PacedHostCore) (cs ts : List Session) → list_any has_spoken cs ≡ false → NotesIf b true old new cs ts → NoneOrOne ts
heard_none true old new cs ts none n = noted_none old.came old.moment old.endpoint new.endpoint cs ts none n.1
heard_none false old new cs ts none n = inl (ap (list_any has_spoken) n.1 ∙ none)

-- ---- what passes

abbrev IsNoEnd : Take → Type 0
IsNoEnd t = t.gave ≢ Ok PeerEnd

-- what the takes of a connection tell: its end is the last one, or there is none yet
abbrev Tells : ℕ → Bool → List Take → Type 0
Tells id false takes = All IsNoEnd takes
Tells id true takes = (earlier : List Take) × (takes ≡ earlier ++ end_of id ∷ []) × All IsNoEnd earlier

abbrev take_by : ℕ → Result TakenView EndFault → Take
take_by id r = record { id = id; gave = r }

tells_push : (id : ℕ) (takes : List Take) (r : Result TakenView EndFault) (s : Phase) → ends s ≡ false → All IsNoEnd takes → Tells id (ends (phase_with r s)) (takes ++ take_by id r ∷ [])
tells_push id takes (Ok Nothing) s off all = subst (λ b. Tells id b (takes ++ take_by id (Ok Nothing) ∷ [])) (sym off) (All-push IsNoEnd takes (take_by id (Ok Nothing)) all (λ e. cc))
tells_push id takes (Ok Part) s off all = subst (λ b. Tells id b (takes ++ take_by id (Ok Part) ∷ [])) (sym off) (All-push IsNoEnd takes (take_by id (Ok Part)) all (λ e. cc))
tells_push id takes (Ok (Whole m)) s off all = subst (λ b. Tells id b (takes ++ take_by id (Ok (Whole m)) ∷ [])) (sym off) (All-push IsNoEnd takes (take_by id (Ok (Whole m))) all (λ e. cc))
tells_push id takes (Ok PeerEnd) s off all = (takes, refl, all)
tells_push id takes (Err f) s off all = subst (λ b. Tells id b (takes ++ take_by id (Err f) ∷ [])) (sym off) (All-push IsNoEnd takes (take_by id (Err f)) all (λ e. cc))

not_ended : (s : Phase) → s ≢ Standings.Ended → ends s ≡ false
not_ended Standings.New other = refl
not_ended Standings.NewProbed other = refl
not_ended Standings.Open other = refl
not_ended Standings.KeepaliveSent other = refl
not_ended Standings.Ended other = absurd (other refl)

tells_after : (id n : ℕ) (h : Held) (s : Phase) (before : List Take) → TakesWhileOpen n h s → Tells id (ends s) before → Tells id (ends (phase_after n h s)) (before ++ takes_after id n h)
tells_after id zero h s before opened told = subst (Tells id (ends s)) (sym (append-nil before)) told
tells_after id (suc n) h s before opened told =
    let at = phase_after n h s in
    let r = (take_end (held_after n h)).0 in
    let no : ends at ≡ false = not_ended at opened.1 in
    let so : All IsNoEnd (before ++ takes_after id n h) = subst (λ b. Tells id b (before ++ takes_after id n h)) no (tells_after id n h s before opened.0 told) in
    subst (Tells id (ends (phase_with r at))) (append_assoc before (takes_after id n h) (take_by id r ∷ [])) (tells_push id (before ++ takes_after id n h) r at no so)

abbrev IsOf : ℕ → Take → Type 0
IsOf id t = t.id ≡ id

all_after : (id n : ℕ) (h : Held) → All (IsOf id) (takes_after id n h)
all_after id zero h = All-nil (IsOf id)
all_after id (suc n) h = All-push (IsOf id) (takes_after id n h) (take_by id (take_end (held_after n h)).0) (all_after id n h) refl

from_told : (o after : Option Held) (x y : List ℕ) (a b : Option (List ℕ)) (c c' : Session) (before : List Take) (p : PassesFrom o after x y a b c c') → has_spoken c ≡ true → Tells c.id (is_ended c) before
    → Tells c.id (is_ended c') (before ++ takes_from o after x y a b c c' p) × All (IsOf c.id) (takes_from o after x y a b c c' p) × Is c.id c.from c'
from_told None after x y a b c c' before p spoken told = (
  subst (λ (k : Session). Tells c.id (is_ended k) (before ++ [])) (sym p.2) (subst (Tells c.id (is_ended c)) (sym (append-nil before)) told),
  All-nil (IsOf c.id),
  (ap (λ (k : Session). k.id) p.2, ap (λ (k : Session). k.from) p.2, ap has_spoken p.2 ∙ spoken),
)
from_told (Some h) after x y a b c c' before p spoken told = (
  subst (λ (k : Session). Tells c.id (is_ended k) (before ++ takes_after c.id p.0 h)) (sym p.3) (tells_after c.id p.0 h c.phase before p.4 told),
  all_after c.id p.0 h,
  (ap (λ (k : Session). k.id) p.3, ap (λ (k : Session). k.from) p.3, ap has_spoken p.3 ∙ ap not (after_heard p.0 h c.phase (unheard_of (is_unheard c.phase) spoken))),
)

-- from one that is the only one
passed_alone : (id : ℕ) (from : Address) (old new : PacedHostCore) (c : Session) (cs : List Session) (x y : List ℕ) (a b : Option (List ℕ)) (takes before : List Take)
    → Is id from c → Tells id (is_ended c) before → WritesAndPasses old new (c ∷ []) cs x y a b takes
    → (c' : Session) × (cs ≡ c' ∷ []) × Is id from c' × Tells id (is_ended c') (before ++ takes) × All (IsOf id) takes
passed_alone id from old new c cs x y a b takes before is told m =
    let p = m.passes in
    let mine = takes_from (held_at old.endpoint c.id) (held_at p.0 c.id) m.between p.1 m.writing p.2 c p.3 p.6.from in
    let so = from_told (held_at old.endpoint c.id) (held_at p.0 c.id) m.between p.1 m.writing p.2 c p.3 before p.6.from is.2 (subst (λ (i : ℕ). Tells i (is_ended c) before) (sym is.0) told) in
    let all : takes ≡ mine = m.made ∙ append-nil mine in (
      p.3,
      p.5 ∙ ap (λ (l : List Session). p.3 ∷ l) p.7.0,
      (so.2.0 ∙ is.0, so.2.1 ∙ is.1, so.2.2),
      subst (λ (i : ℕ). Tells i (is_ended p.3) (before ++ takes)) is.0 (subst (λ (l : List Take). Tells c.id (is_ended p.3) (before ++ l)) (sym all) so.0),
      subst (λ (i : ℕ). All (IsOf i) takes) is.0 (subst (λ (l : List Take). All (IsOf c.id) l) (sym all) so.1),
    )

-- the same whether that connection passed data or it was not its turn
passed_one : (id : ℕ) (from : Address) (old new : PacedHostCore) (c : Session) (front front' rest cs : List Session) (x y : List ℕ) (a b : Option (List ℕ)) (takes before : List Take)
    → Is id from c → Tells id (is_ended c) before → front ++ rest ≡ c ∷ [] → cs ≡ rest ++ front' → WritesAndPasses old new front front' x y a b takes
    → (c' : Session) × (cs ≡ c' ∷ []) × Is id from c' × Tells id (is_ended c') (before ++ takes) × All (IsOf id) takes
passed_one id from old new c [] front' rest cs x y a b takes before is told only after m =
    let none : takes ≡ [] = m.made in
    let alone : cs ≡ c ∷ [] = after ∙ (ap (λ (l : List Session). rest ++ l) m.passes.0 ∙ (append-nil rest ∙ only)) in (
      c,
      alone,
      is,
      subst (Tells id (is_ended c)) (sym (ap (λ l. before ++ l) none ∙ append-nil before)) told,
      subst (λ (l : List Take). All (IsOf id) l) (sym none) (All-nil (IsOf id)),
    )
passed_one id from old new c (k ∷ []) front' [] cs x y a b takes before is told only after m =
    let same = same_head k c [] [] only in
    let mine : WritesAndPasses old new (c ∷ []) front' x y a b takes = subst (λ (j : Session). WritesAndPasses old new (j ∷ []) front' x y a b takes) same.0 m in
    let q = passed_alone id from old new c front' x y a b takes before is told mine in
    (q.0, after ∙ q.1, q.2, q.3, q.4)
passed_one id from old new c (k ∷ []) front' (r ∷ rs) cs x y a b takes before is told only after m = absurd (omega (arith, ap length only))
passed_one id from old new c (k ∷ j ∷ ks) front' rest cs x y a b takes before is told only after m = absurd (omega (arith, ap length only))

-- from none that was not heard
passed_none : (old new : EndpointView) (x y : List ℕ) (a b : Option (List ℕ)) (cs cs' : List Session) → list_any has_spoken cs ≡ false → (p : PassesEach old new x y a b cs cs')
    → takes_each old new x y a b cs cs' p ≡ []
passed_none old new x y a b [] cs' none p = refl
passed_none old new x y a b (c ∷ cs) cs' none p =
    let no = or_none (has_spoken c) (list_any has_spoken cs) none in
    ap (λ l. l ++ takes_each p.0 new p.1 y p.2 b cs p.4 p.7) (p.6.unheard (unspoken (is_unheard c.phase) no.0)).2
    ∙ passed_none p.0 new p.1 y p.2 b cs p.4 no.1 p.7

-- ---- what is tidied

asked_same : (now : ℕ) (old new : EndpointView) (c c' : Session) → IsAsked now old new c c'
    → (c'.id ≡ c.id) × (c'.from ≡ c.from) × (has_spoken c' ≡ has_spoken c) × (is_ended c' ≡ is_ended c)
asked_same now old new c c' (inl p) =
    (ap (λ (k : Session). k.id) p.4, ap (λ (k : Session). k.from) p.4, ap has_spoken p.4 ∙ ap not (asked_unheard c.phase), ap is_ended p.4 ∙ asked_ends c.phase)
asked_same now old new c c' (inr p) =
    (ap (λ (k : Session). k.id) p.1, ap (λ (k : Session). k.from) p.1, ap has_spoken p.1, ap is_ended p.1)

within_of : (cs : List Session) (place : ℕ) (c : Session) → slice_get cs place ≡ Some c → place < length cs
within_of [] place c at = absurd (cc)
within_of (k ∷ ks) zero c at = omega arith
within_of (k ∷ ks) (suc n) c at = omega (arith, within_of ks n c at)

done_none : (now place : ℕ) (c : Session) (fate : SessionAction) (old new : EndpointView) (cs cs' : List Session) (ns ms : ListenerCounts) → slice_get cs place ≡ Some c → list_any has_spoken cs ≡ false
    → DoesAction true now c place fate old new cs cs' ns ms None → list_any has_spoken cs' ≡ false
done_none now place c Stays old new cs cs' ns ms at none does = ap (list_any has_spoken) does.1 ∙ none
done_none now place c Asks old new cs cs' ns ms at none does =
    let within = within_of cs place c at in
    let here : get_or cs place c ≡ c = get_or_from_slice_get cs place c c at in
    let same : has_spoken does.0 ≡ has_spoken (get_or cs place c) = (asked_same now old new c does.0 does.1).2 ∙ sym (ap has_spoken here) in
    ap (list_any has_spoken) does.2 ∙ any_set has_spoken cs place does.0 c within same ∙ none
done_none now place c Over old new cs cs' ns ms at none does = ap (list_any has_spoken) does.1 ∙ none_removed cs place none
done_none now place c GivenUp old new cs cs' ns ms at none does = ap (list_any has_spoken) does.1 ∙ none_removed cs place none

done_alone : (now id : ℕ) (from : Address) (c k : Session) (fate : SessionAction) (old new : EndpointView) (cs' : List Session) (ns ms : ListenerCounts) → Is id from c → c ≡ k
    → DoesAction true now k 0 fate old new (c ∷ []) cs' ns ms None → Goes id from (is_ended c) cs'
done_alone now id from c k Stays old new cs' ns ms is same does = (c, does.1, is, refl)
done_alone now id from c k Asks old new cs' ns ms is same does =
    let so = asked_same now old new k does.0 does.1 in
    (does.0, does.2, (so.0 ∙ sym (ap (λ (j : Session). j.id) same) ∙ is.0, so.1 ∙ sym (ap (λ (j : Session). j.from) same) ∙ is.1, so.2 ∙ sym (ap has_spoken same) ∙ is.2), so.3 ∙ sym (ap is_ended same))
done_alone now id from c k Over old new cs' ns ms is same does =
    absurd (parted_some Over k.phase (unheard_of (is_unheard k.phase) (sym (ap has_spoken same) ∙ is.2)) does.2)
done_alone now id from c k GivenUp old new cs' ns ms is same does =
    absurd (parted_some GivenUp k.phase (unheard_of (is_unheard k.phase) (sym (ap has_spoken same) ∙ is.2)) does.2)

tended_alone : (id : ℕ) (from : Address) (c k : Session) (place : ℕ) (fate : SessionAction) (now : ℕ) (old new : EndpointView) (cs' : List Session) (ns ms : ListenerCounts) → Is id from c → slice_get (c ∷ []) place ≡ Some k
    → DoesAction true now k place fate old new (c ∷ []) cs' ns ms None → Goes id from (is_ended c) cs'
tended_alone id from c k zero fate now old new cs' ns ms is at does = done_alone now id from c k fate old new cs' ns ms is (same_some c k at) does
tended_alone id from c k (suc n) fate now old new cs' ns ms is at does = absurd (omega (arith, within_of (c ∷ []) (suc n) k at))

tends_none : (n : ℕ) (old new : PacedHostCore) (cs cs' : List Session) (ns ms : ListenerCounts) → list_any has_spoken cs ≡ false → TendsOn n true old new cs cs' ns ms → list_any has_spoken cs' ≡ false
tends_none zero old new cs cs' ns ms none run = ap (list_any has_spoken) run.1 ∙ none
tends_none (suc n) old new cs cs' ns ms none run =
    let t = run.4 in
    done_none run.0.moment t.place t.session t.tends.0 run.0.endpoint new.endpoint run.1 cs' run.2 ms t.there (tends_none n old run.0 cs run.1 ns run.2 none run.3) t.tends.2

tends_alone : (n : ℕ) (old new : PacedHostCore) (id : ℕ) (from : Address) (c : Session) (cs' : List Session) (ns ms : ListenerCounts) → Is id from c → TendsOn n true old new (c ∷ []) cs' ns ms → Goes id from (is_ended c) cs'
tends_alone zero old new id from c cs' ns ms is run = (c, run.1, is, refl)
tends_alone (suc n) old new id from c cs' ns ms is run =
    let g = tends_alone n old run.0 id from c run.1 ns run.2 is run.3 in
    let t : TendsFirst true run.0 new (g.0 ∷ []) cs' run.2 ms None = subst (λ (l : List Session). TendsFirst true run.0 new l cs' run.2 ms None) g.1 run.4 in
    let h = tended_alone id from g.0 t.session t.place t.tends.0 run.0.moment run.0.endpoint new.endpoint cs' run.2 ms g.2 t.there t.tends.2 in
    (h.0, h.1, h.2, h.3 ∙ g.3)

-- ---- where a host is between two steps

pub takes_push : (steps : List StepView) (s : StepView) → takes_of (steps ++ s ∷ []) ≡ takes_of steps ++ s.takes
takes_push [] s = append-nil s.takes
takes_push (k ∷ ks) s = ap (λ l. k.takes ++ l) (takes_push ks s) ∙ sym (append_assoc k.takes (takes_of ks) s.takes)

abbrev IsOnly : ℕ → Address → StepView → Type 0
IsOnly id from s = All (IsOneIfHeard id from) s.there

-- none was heard yet, and nothing was taken
abbrev Nobody : List Session → List StepView → Type 0
Nobody cs steps = (list_any has_spoken cs ≡ false) × (takes_of steps ≡ [])
    × ((id : ℕ) (from : Address) → All (IsOnly id from) steps)

-- one was heard, which is the only one
abbrev One : ℕ → Address → List Session → List StepView → Type 0
One id from cs steps = (ended : Bool) × Goes id from ended cs × All (IsOnly id from) steps
    × All (IsOf id) (takes_of steps) × Tells id ended (takes_of steps)

abbrev So : List Session → List StepView → Type 0
So cs steps = Nobody cs steps ⊎ ((id : ℕ) × (from : Address) × One id from cs steps)

one_goes : (id : ℕ) (from : Address) (cs cs' : List Session) (steps : List StepView) (o : One id from cs steps) → Goes id from (is_ended o.1.0) cs' → One id from cs' steps
one_goes id from cs cs' steps o g = (o.0, (g.0, g.1, g.2, g.3 ∙ o.1.3), o.2, o.3, o.4)

one_comes : (c : Session) (cs ts : List Session) (steps : List StepView) → Nobody cs steps → ts ≡ c ∷ [] → has_spoken c ≡ true → is_ended c ≡ false → One c.id c.from ts steps
one_comes c cs ts steps n is spoken unended = (
  false,
  (c, is, (refl, refl, spoken), unended),
  n.2 c.id c.from,
  subst (λ (l : List Take). All (IsOf c.id) l) (sym n.1) (All-nil (IsOf c.id)),
  subst (λ (l : List Take). All IsNoEnd l) (sym n.1) (All-nil IsNoEnd),
)

heard_so : (b : Bool) (old new : PacedHostCore) (cs ts : List Session) (steps : List StepView) → NotesIf b true old new cs ts → So cs steps → So ts steps
heard_so b old new cs ts steps notes (inl n) = elim (heard_none b old new cs ts n.0 notes) [
  | inl none ↦ inl (none, n.1, n.2)
  | inr q ↦ inr (q.0.id, q.0.from, one_comes q.0 cs ts steps n q.1 q.2 q.3)
]
heard_so b old new cs ts steps notes (inr o) =
    let g = o.2.1 in
    let mine : NotesIf b true old new (g.0 ∷ []) ts = subst (λ (l : List Session). NotesIf b true old new l ts) g.1 notes in
    inr (o.0, o.1, one_goes o.0 o.1 cs ts steps o.2 (heard_alone b o.0 o.1 old new g.0 ts g.2 mine))

none_only : (id : ℕ) (from : Address) (cs : List Session) → list_any has_spoken cs ≡ false → All (IsOneIfHeard id from) cs
none_only id from [] none = All-nil (IsOneIfHeard id from)
none_only id from (c ∷ cs) none =
    let no = or_none (has_spoken c) (list_any has_spoken cs) none in
    All-cons (IsOneIfHeard id from) c cs (λ spoken. absurd (let both : true ≡ false = sym spoken ∙ no.0 in cc)) (none_only id from cs no.1)

one_only : (id : ℕ) (from : Address) (c : Session) (cs : List Session) → cs ≡ c ∷ [] → Is id from c → All (IsOneIfHeard id from) cs
one_only id from c cs at is =
    subst (λ (l : List Session). All (IsOneIfHeard id from) l) (sym at)
    (All-cons (IsOneIfHeard id from) c [] (λ spoken. (is.0, is.1)) (All-nil (IsOneIfHeard id from)))

passed_so : (old new : PacedHostCore) (s : StepView) (cs : List Session) (x y : List ℕ) (a b : Option (List ℕ)) (steps : List StepView)
    → MovesSome old new s.there cs x y a b s.takes → So s.there steps → So cs (steps ++ s ∷ [])
passed_so old new s cs x y a b steps m (inl n) =
    let w = m.moves in
    let none = or_none (list_any has_spoken m.front) (list_any has_spoken m.rest) (sym (list_any-append has_spoken m.front m.rest) ∙ (sym (ap (list_any has_spoken) m.before) ∙ n.0)) in
    let nothing : s.takes ≡ [] = w.made ∙ passed_none old.endpoint new.endpoint w.between y w.writing b m.front m.front' none.0 w.passes in
    inl (
      ap (list_any has_spoken) m.after ∙ (list_any-append has_spoken m.rest m.front'
          ∙ (ap (λ k. k || list_any has_spoken m.front') none.1 ∙ (each_heard old.endpoint new.endpoint w.between y w.writing b m.front m.front' w.passes ∙ none.0))),
      takes_push steps s ∙ ap (λ l. l ++ s.takes) n.1 ∙ nothing,
      λ id from. All-push (IsOnly id from) steps s (n.2 id from) (none_only id from s.there n.0),
    )
passed_so old new s cs x y a b steps m (inr o) =
    let id = o.0 in
    let from = o.1 in
    let one = o.2 in
    let g = one.1 in
    let told : Tells id (is_ended g.0) (takes_of steps) = subst (λ (e : Bool). Tells id e (takes_of steps)) (sym g.3) one.4 in
    let q = passed_one id from old new g.0 m.front m.front' m.rest cs x y a b s.takes (takes_of steps) g.2 told (sym m.before ∙ g.1) m.after m.moves in
    inr (
      id,
      from,
      (
        is_ended q.0,
        (q.0, q.1, q.2, refl),
        All-push (IsOnly id from) steps s one.2 (one_only id from g.0 s.there g.1 g.2),
        subst (λ (l : List Take). All (IsOf id) l) (sym (takes_push steps s)) (All-append (IsOf id) (takes_of steps) s.takes one.3 q.4),
        subst (λ (l : List Take). Tells id (is_ended q.0) l) (sym (takes_push steps s)) q.3,
      ),
    )

tended_so : (n : ℕ) (old new : PacedHostCore) (cs cs' : List Session) (ns ms : ListenerCounts) (steps : List StepView) → TendsOn n true old new cs cs' ns ms → So cs steps → So cs' steps
tended_so n old new cs cs' ns ms steps run (inl k) = inl (tends_none n old new cs cs' ns ms k.0 run, k.1, k.2)
tended_so n old new cs cs' ns ms steps run (inr o) =
    let g = o.2.1 in
    let mine : TendsOn n true old new (g.0 ∷ []) cs' ns ms = subst (λ (l : List Session). TendsOn n true old new l cs' ns ms) g.1 run in
    inr (o.0, o.1, one_goes o.0 o.1 cs cs' steps o.2 (tends_alone n old new o.0 o.1 g.0 cs' ns ms g.2 mine))

-- ---- one step, and one after another

heard_and_passed : {K : Type 0} (old new : Host K) (stop : Option ListenOutcome) (drives : K → Turn → K → Type 0) (peers : Peers) (s : StepView) (steps : List StepView)
    → (st : Steps old new true stop drives peers s) → So old.sessions steps → So st.still (steps ++ s ∷ [])
heard_and_passed old new stop drives peers s steps st so =
    passed_so st.heard st.moved s st.still old.left new.left old.written new.written steps st.moves.0
    (heard_so st.hears.turn.heard st.hears.seen st.heard old.sessions s.there steps st.hears.noted so)

step_so : {K : Type 0} (old new : Host K) (drives : K → Turn → K → Type 0) (peers : Peers) (s : StepView) (steps : List StepView)
    → Steps old new true None drives peers s → So old.sessions steps → So new.sessions (steps ++ s ∷ [])
step_so old new drives peers s steps st so =
    tended_so st.tidied.0 st.moved new.core st.still new.sessions st.counted new.counts (steps ++ s ∷ []) st.tidied.2 (heard_and_passed old new None drives peers s steps st so)

run_so : {K : Type 0} (n : ℕ) (old new : Host K) (drives : K → Turn → K → Type 0) (peers : Peers) (steps : List StepView)
    → StepsWithoutStop n old new true drives peers steps → So old.sessions [] → So new.sessions steps
run_so {K} zero old new drives peers steps run so =
    subst (λ (h : Host K). So h.sessions steps) (sym run.0) (subst (λ (l : List StepView). So old.sessions l) (sym run.1) so)
run_so (suc n) old new drives peers steps run so =
    subst (λ (l : List StepView). So new.sessions l) (sym run.3)
    (step_so run.0 new drives peers run.2 run.1 run.5 (run_so n old run.0 drives peers run.1 run.4 so))

-- ---- and a last one

ended_spoken : (s : Phase) → s ≡ Standings.Ended → not (is_unheard s) ≡ true
ended_spoken s e = ap (λ (k : Phase). not (is_unheard k)) e

last_so : (cs : List Session) (place : ℕ) (c : Session) (steps : List StepView) → slice_get cs place ≡ Some c → c.phase ≡ Standings.Ended → So cs steps
    → (id : ℕ) × (from : Address) × HearsOneOut steps id from
last_so cs place c steps at ended (inl n) =
    let here : get_or cs place c ≡ c = get_or_from_slice_get cs place c c at in
    let some : list_any has_spoken cs ≡ true = any_at has_spoken cs place c (within_of cs place c at) (ap has_spoken here ∙ ended_spoken c.phase ended) in
    absurd (let both : true ≡ false = sym some ∙ n.0 in cc)
last_so cs place c steps at ended (inr o) =
    let one = o.2 in
    let g = one.1 in
    let mine : slice_get (g.0 ∷ []) place ≡ Some c = subst (λ (l : List Session). slice_get l place ≡ Some c) g.1 at in
    let is : is_ended g.0 ≡ true = alone_ended g.0 c place mine ended in
    let told : Tells o.0 true (takes_of steps) = subst (λ (e : Bool). Tells o.0 e (takes_of steps)) (sym g.3 ∙ is) one.4 in
    (o.0, o.1, record { only = one.2; of_it = one.3; earlier = told.0; last = told.1; no_other = told.2 })
  where
    alone_ended : (k c : Session) (place : ℕ) → slice_get (k ∷ []) place ≡ Some c → c.phase ≡ Standings.Ended → is_ended k ≡ true
    alone_ended k c zero at ended = ap is_ended (same_some k c at) ∙ ap ends ended
    alone_ended k c (suc n) at ended = absurd (omega (arith, within_of (k ∷ []) (suc n) c at))

ends_so : {K : Type 0} (old new : Host K) (drives : K → Turn → K → Type 0) (peers : Peers) (s : StepView) (steps : List StepView)
    → Steps old new true (Some Stops.Ended) drives peers s → So old.sessions steps → (id : ℕ) × (from : Address) × HearsOneOut (steps ++ s ∷ []) id from
ends_so old new drives peers s steps st so =
    let t = st.tidied in
    let f = t.6 in
    let among : So t.3 (steps ++ s ∷ []) = tended_so t.0 st.moved t.2 st.still t.3 st.counted t.4 (steps ++ s ∷ []) t.5 (heard_and_passed old new (Some Stops.Ended) drives peers s steps st so) in
    last_so t.3 f.place f.session (steps ++ s ∷ []) f.there (done_ends t.2.moment f.session f.place f.tends.0 t.2.endpoint new.core.endpoint t.3 new.sessions t.4 new.counts f.tends.2) among

pub heard_out : {K : Type 0} (old new : Host K) (once : Bool) (drives : K → Turn → K → Type 0) (peers : Peers) (steps : List StepView)
    → once ≡ true → old.sessions ≡ [] → Serves old new once Stops.Ended drives peers steps → (id : ℕ) × (from : Address) × HearsOneOut steps id from
heard_out old new false drives peers steps only nobody serves = absurd (cc)
heard_out old new true drives peers steps only nobody (inl s) =
    let nothing : So old.sessions [] = inl (ap (list_any has_spoken) nobody, refl, λ id from. All-nil (IsOnly id from)) in
    let run = run_so s.0 old s.1 drives peers s.2 s.5 nothing in
    subst (λ (l : List StepView). (id : ℕ) × (from : Address) × HearsOneOut l id from) (sym s.4) (ends_so s.1 new drives peers s.3 s.2 s.6 run)
heard_out old new true drives peers steps only nobody (inr s) = absurd (let no = s.0 in cc)
