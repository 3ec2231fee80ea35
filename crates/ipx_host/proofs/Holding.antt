-- Connections of a host, one behind the other.
use Rattle.std.proofs.Common.{◌&&◌, ◌≡◌, ◌||◌, ◌⊎◌, inl, inr, slice_get, ℕ, zero, suc, ◌+◌, ◌<◌, ◌≤◌, ◌==◌, Bool, true, false, not, cond, List, [], ◌∷◌, ◌++◌, length, take, drop, set, get_or, length-append, length-set, Option, Some, None, map, Result, Ok, Err, refl, sym, ap, ◌∙◌, subst, arith, append_assoc, append-nil}
use Rattle.std.proofs.lemmas.List.{get_or_default, take_more}
use Rattle.std.proofs.lemmas.List.Edits.{map_over_more}
use Rattle.std.proofs.lemmas.List.Elements.{All-more}
use Rattle.std.proofs.lemmas.Iterator.Adapters.{position_from-zero}
use Rattle.std.proofs.lemmas.List.Folds.{list_any-append}
use Rattle.std.proofs.lemmas.List.Quantifiers.{position-Some}
use Rattle.std.proofs.lemmas.Option.{get_or_from_slice_get, same_Some, slice_get-get_or}
use Rattle.std.specs.List.{list_any, position, position_from}
use Rattle.std.specs.Prelude.{All, IfSome, IsTrue, MatchOption, OnErr, OnOk, if◌then◌else◌, remove}
use Rattle.spx_link.specs.declared.state.State.{State}
use Rattle.spx_messages.specs.EndpointView.{EndpointView, Held, held_at}
use Rattle.spx_messages.specs.Taking.{TakenView, Nothing, Part, PeerEnd, Whole, take_end}
use Rattle.spx_messages.specs.declared.fault.EndFault.{EndFault}
use Rattle.ipx_wire.specs.declared.address.Address.{Address}
use Rattle.ipx_wire.specs.declared.address.Network.{Network}
use Rattle.ipx_host.specs.Sessions.{Admits, Asks as IsAsked, Evicts, has_spoken, heard_by, is_at_limit, is_ended, is_of_node, is_unanswered, KeepsHeard, KeepsOne, LetsLinkGo, LetsLinksGo, MakesSpace, once_heard, OnlyEnded, place_of_own, place_of_own_unanswered, place_to_free, without}
use Rattle.ipx_host.specs.HostOutput.{Writes}
use Rattle.ipx_host.specs.SessionLogs.{ListenerCounts}
use Rattle.ipx_host.specs.Tending.{DoesAction, IsActionFor, JustStays, Tends}
use Rattle.ipx_host.specs.declared.paced_host_core.PacedHostCore.{PacedHostCore}
use Rattle.ipx_host.specs.ListenOutcomes.{parted}
use Rattle.ipx_host.specs.declared.listening.ListenOutcome.{ListenOutcome}
use Rattle.ipx_host.specs.declared.listening.ListenOutcome.TheVariants as Stops
use Rattle.ipx_host.specs.SessionActions.{IsSessionAction, ends, is_unheard, phase_asked, phase_heard}
use Rattle.ipx_host.specs.Passing.{PassesEach, PassesFirst, PassesFrom, PassesOne, PassesSome, PassesUntilFull, held_after, phase_after, phase_with}
use Rattle.ipx_host.specs.declared.sessions.Session.{Session}
use Rattle.ipx_host.specs.declared.sessions.SessionAction.{SessionAction}
use Rattle.ipx_host.specs.declared.sessions.SessionAction.TheVariants.{Stays, Asks, Over, GivenUp}
use Rattle.ipx_host.specs.declared.sessions.Phase.{Phase}
use Rattle.ipx_host.specs.declared.sessions.Phase.TheVariants as Standings
use Rattle.ipx_host.proofs.Passed.{each_on}
use Rattle.ipx_host.proofs.Written.{writes_nothing}

pub on_err : {T E : Type 0} (r : Result T E) (P : Type 0) → P → OnErr r P
on_err (Ok x) P p = tt
on_err (Err e) P p = p

-- what becomes of a connection is one thing
pub fate_stays : (f : SessionAction) (phase : Phase) (state : Option State) (silent : ℕ) → IsSessionAction f phase state silent → (f ≡ Stays → ⊥) → IsSessionAction Stays phase state silent → ⊥
fate_stays Stays phase state silent is not stays = not refl
fate_stays Asks phase state silent is not stays = stays.2 is
fate_stays Over phase state silent is not stays = stays.1 is
fate_stays GivenUp phase state silent is not stays = stays.0 is

pub same_head : (x y : Session) (xs ys : List Session) → x ∷ xs ≡ y ∷ ys → (x ≡ y) × (xs ≡ ys)
same_head x y xs ys e = ((cc), (cc))

-- the first connection passed data and was moved to the end of the list
pub first_passed : (old new : EndpointView) (x y : List ℕ) (a b : Option (List ℕ)) (was now : List Session) (k c' : Session) → 0 < length was
    → now ≡ drop 1 (set was 0 c') ++ take 1 (set was 0 c') → PassesOne old new x y a b (get_or was 0 k) c' → x ≡ [] → PassesFirst old new x y a b was now
first_passed old new x y a b [] now k c' within turned one empty = absurd (omega arith)
first_passed old new x y a b (c ∷ cs) now k c' within turned one empty = (c, c', cs, refl, turned, one, empty)

-- no connection passed data yet
pub some_start : (e : EndpointView) (x : List ℕ) (a : Option (List ℕ)) (cs : List Session) → (p : PassesSome e e x x a a cs cs) × (length p.0 ≡ 0)
some_start e x a cs = (([], [], cs, refl, sym (append-nil cs), (refl, refl, refl, refl)), refl)

each_length : (old new : EndpointView) (x y : List ℕ) (a b : Option (List ℕ)) (cs cs' : List Session) → PassesEach old new x y a b cs cs' → length cs' ≡ length cs
each_length old new x y a b [] cs' p = ap length p.0
each_length old new x y a b (c ∷ cs) cs' p = ap length p.5 ∙ ap suc (each_length p.0 new p.1 y p.2 b cs p.4 p.7)

pub some_length : (old new : EndpointView) (x y : List ℕ) (a b : Option (List ℕ)) (was now : List Session) → PassesSome old new x y a b was now → length now ≡ length was
some_length old new x y a b was now p =
    omega (arith, ap length p.3, ap length p.4, length-append p.0 p.2, length-append p.2 p.1, each_length old new x y a b p.0 p.1 p.5)

some_step : (old mid new : EndpointView) (x y z : List ℕ) (a b d : Option (List ℕ)) (was now after first first' rest : List Session)
    → was ≡ first ++ rest → now ≡ rest ++ first' → PassesEach old mid x y a b first first' → length first < length was → PassesFirst mid new y z b d now after
    → (q : PassesSome old new x z a d was after) × (length q.0 ≡ length first + 1)
some_step old mid new x y z a b d was now after first first' [] is there each within p =
    absurd (omega (arith, within, ap length is, length-append first []))
some_step old mid new x y z a b d was now after first first' (r ∷ rs) is there each within p =
    let same = same_head r p.0 (rs ++ first') p.2 (sym there ∙ p.3) in
    let one : PassesOne mid new y z b d r p.1 = subst (λ (c : Session). PassesOne mid new y z b d c p.1) (sym same.0) p.5 in (
      (
        first ++ r ∷ [],
        first' ++ p.1 ∷ [],
        rs,
        is ∙ sym (append_assoc first (r ∷ []) rs),
        p.4 ∙ ap (λ (l : List Session). l ++ p.1 ∷ []) (sym same.1) ∙ append_assoc rs first' (p.1 ∷ []),
        each_on old mid new x y z a b d first first' r p.1 each one p.6,
      ),
      length-append first (r ∷ []),
    )

-- one more connection passed data, after the first `i`
pub some_more : (old mid new : EndpointView) (x y z : List ℕ) (a b d : Option (List ℕ)) (was now after : List Session) (i : ℕ)
    → (p : PassesSome old mid x y a b was now) × (length p.0 ≡ i) → i < length was → PassesFirst mid new y z b d now after
    → (q : PassesSome old new x z a d was after) × (length q.0 ≡ i + 1)
some_more old mid new x y z a b d was now after i p within one =
    let q = some_step old mid new x y z a b d was now after p.0.0 p.0.1 p.0.2 p.0.3 p.0.4 p.0.5 (omega (arith, within, p.1)) one in
    (q.0, q.1 ∙ ap (λ n. n + 1) p.1)

no_more : (cs : List Session) → length cs ≡ 0 → cs ≡ []
no_more [] none = refl
no_more (c ∷ cs) none = absurd (omega (arith, none))

-- all connections passed data
pub some_all : (old new : EndpointView) (x y : List ℕ) (a b : Option (List ℕ)) (was now : List Session) (i : ℕ)
    → (p : PassesSome old new x y a b was now) × (length p.0 ≡ i) → length was ≤ i → PassesUntilFull old new x y a b was now
some_all old new x y a b was now i p all =
    let none : length p.0.2 ≡ 0 = omega (arith, all, p.1, ap length p.0.3, length-append p.0.0 p.0.2) in
    (p.0, λ some. absurd (some (no_more p.0.2 none)))

-- ---- one that was heard is the only one, and its end leaves nothing to write

either : (b : Bool) → (b ≡ true) ⊎ (b ≡ false)
either true = inl refl
either false = inr refl

with_heard : (r : Result TakenView EndFault) (s : Phase) → is_unheard s ≡ false → is_unheard (phase_with r s) ≡ false
with_heard (Ok Nothing) s heard = heard
with_heard (Ok Part) s heard = heard
with_heard (Ok (Whole m)) s heard = heard
with_heard (Ok PeerEnd) s heard = refl
with_heard (Err f) s heard = heard

pub after_heard : (n : ℕ) (h : Held) (s : Phase) → is_unheard s ≡ false → is_unheard (phase_after n h s) ≡ false
after_heard zero h s heard = heard
after_heard (suc n) h s heard = with_heard (take_end (held_after n h)).0 (phase_after n h s) (after_heard n h s heard)

from_heard : (o after : Option Held) (x y : List ℕ) (a b : Option (List ℕ)) (c c' : Session) → is_unheard c.phase ≡ false → PassesFrom o after x y a b c c' → is_unheard c'.phase ≡ false
from_heard None after x y a b c c' heard p = ap (λ (k : Session). is_unheard k.phase) p.2 ∙ heard
from_heard (Some h) after x y a b c c' heard p =
    ap (λ (k : Session). is_unheard k.phase) p.3 ∙ after_heard p.0 h c.phase heard

-- what passes from a connection leaves whether it was heard
one_heard : (old new : EndpointView) (x y : List ℕ) (a b : Option (List ℕ)) (c c' : Session) → (is_unheard c.phase ≡ true) ⊎ (is_unheard c.phase ≡ false)
    → PassesOne old new x y a b c c' → has_spoken c' ≡ has_spoken c
one_heard old new x y a b c c' (inl is) p = ap has_spoken (p.unheard is).1
one_heard old new x y a b c c' (inr is) p =
    ap not (from_heard (held_at old c.id) (held_at new c.id) x y a b c c' is p.from ∙ sym is)

pub each_heard : (old new : EndpointView) (x y : List ℕ) (a b : Option (List ℕ)) (cs cs' : List Session) → PassesEach old new x y a b cs cs' → list_any has_spoken cs' ≡ list_any has_spoken cs
each_heard old new x y a b [] cs' p = ap (list_any has_spoken) p.0
each_heard old new x y a b (c ∷ cs) cs' p =
    ap (list_any has_spoken) p.5
    ∙ (ap (λ k. k || list_any has_spoken p.4) (one_heard old p.0 x p.1 a p.2 c p.3 (either (is_unheard c.phase)) p.6)
    ∙ ap (λ k. has_spoken c || k) (each_heard p.0 new p.1 y p.2 b cs p.4 p.7))

ended_phase : (s : Phase) → ends s ≡ true → s ≡ Standings.Ended
ended_phase Standings.New e = absurd (cc)
ended_phase Standings.NewProbed e = absurd (cc)
ended_phase Standings.Open e = absurd (cc)
ended_phase Standings.KeepaliveSent e = absurd (cc)
ended_phase Standings.Ended e = refl

ended_is_heard : (s : Phase) → ends s ≡ true → is_unheard s ≡ false
ended_is_heard Standings.New e = absurd (cc)
ended_is_heard Standings.NewProbed e = absurd (cc)
ended_is_heard Standings.Open e = refl
ended_is_heard Standings.KeepaliveSent e = refl
ended_is_heard Standings.Ended e = refl

or_true : (x y : Bool) → (x || y) ≡ true → (x ≡ true) ⊎ (y ≡ true)
or_true true y e = inl refl
or_true false y e = inr e

pub or_left : (x y : Bool) → x ≡ true → (x || y) ≡ true
or_left x y e = ap (λ k. k || y) e

or_right : (x y : Bool) → y ≡ true → (x || y) ≡ true
or_right true y e = refl
or_right false y e = e

-- where the end of one was taken, one was heard
pub any_ended : (cs : List Session) → list_any is_ended cs ≡ true → list_any has_spoken cs ≡ true
any_ended [] e = absurd (cc)
any_ended (c ∷ cs) e = elim (or_true (is_ended c) (list_any is_ended cs) e) [
  | inl here ↦ or_left (has_spoken c) (list_any has_spoken cs) (ap not (ended_is_heard c.phase here))
  | inr there ↦ or_right (has_spoken c) (list_any has_spoken cs) (any_ended cs there)
]

-- of one connection alone
alone_ends : (old new : EndpointView) (x y : List ℕ) (a b : Option (List ℕ)) (c : Session) (first' rest : List Session) → rest ≡ [] → (list_any is_ended (c ∷ []) ≡ true → x ≡ [])
    → PassesEach old new x y a b (c ∷ []) first' → list_any is_ended (first' ++ rest) ≡ true → y ≡ []
alone_ends old new x y a b c first' rest none before p ended =
    let last = p.7 in
    let is : first' ++ rest ≡ p.3 ∷ [] = ap (λ (l : List Session). first' ++ l) none ∙ append-nil first' ∙ p.5 ∙ ap (λ (l : List Session). p.3 ∷ l) last.0 in
    let some : (is_ended p.3 || false) ≡ true = subst (λ (l : List Session). list_any is_ended l ≡ true) is ended in
    let here : p.3.phase ≡ Standings.Ended = elim (or_true (is_ended p.3) false some) [ inl e ↦ ended_phase p.3.phase e | inr wrong ↦ absurd (cc) ] in
    last.2 ∙ p.6.behind (λ e. before (ap (λ (s : Phase). ends s || false) e)) here

some_ends : (old new : EndpointView) (x y : List ℕ) (a b : Option (List ℕ)) (first first' rest : List Session)
    → (list_any is_ended (first ++ rest) ≡ true → x ≡ []) → (list_any has_spoken (first ++ rest) ≡ true → length (first ++ rest) ≡ 1)
    → PassesEach old new x y a b first first' → list_any has_spoken (first' ++ rest) ≡ list_any has_spoken (first ++ rest)
    → list_any is_ended (first' ++ rest) ≡ true → y ≡ []
some_ends old new x y a b [] first' rest before one p same ended =
    p.2 ∙ before (subst (λ (l : List Session). list_any is_ended (l ++ rest) ≡ true) p.0 ended)
some_ends old new x y a b (k ∷ []) first' [] before one p same ended = alone_ends old new x y a b k first' [] refl before p ended
some_ends old new x y a b (k ∷ []) first' (r ∷ rs) before one p same ended =
    absurd (omega (arith, one (sym same ∙ any_ended (first' ++ r ∷ rs) ended)))
some_ends old new x y a b (k ∷ j ∷ ks) first' rest before one p same ended =
    absurd (omega (arith, one (sym same ∙ any_ended (first' ++ rest) ended)))

keeps_some : (once : Bool) (old new : EndpointView) (x y : List ℕ) (a b : Option (List ℕ)) (first first' rest : List Session)
    → KeepsOne once (first ++ rest) x → PassesEach old new x y a b first first' → KeepsOne once (first' ++ rest) y
keeps_some false old new x y a b first first' rest keeps p = tt
keeps_some true old new x y a b first first' rest keeps p =
    let k = keeps in
    let same : list_any has_spoken (first' ++ rest) ≡ list_any has_spoken (first ++ rest) =
    list_any-append has_spoken first' rest ∙ (ap (λ b. b || list_any has_spoken rest) (each_heard old new x y a b first first' p) ∙ sym (list_any-append has_spoken first rest)) in
    let size : length (first' ++ rest) ≡ length (first ++ rest) =
    length-append first' rest ∙ (ap (λ n. n + length rest) (each_length old new x y a b first first' p) ∙ sym (length-append first rest)) in (
      λ heard. size ∙ k.0 (sym same ∙ heard),
      λ ended. some_ends old new x y a b first first' rest k.1 k.0 p same ended,
    )

-- there is none yet
pub keeps_none : (once : Bool) (cs : List Session) (left : List ℕ) → cs ≡ [] → KeepsOne once cs left
keeps_none false cs left e = tt
keeps_none true cs left e = (
  λ heard. let no : false ≡ true = sym (ap (list_any has_spoken) e) ∙ heard in absurd (cc),
  λ ended. let no : false ≡ true = sym (ap (list_any is_ended) e) ∙ ended in absurd (cc),
)

-- more is written
pub keeps_written : (once : Bool) (cs : List Session) (x y : List ℕ) (a b : Option (List ℕ)) → Writes x y a b → KeepsOne once cs x → KeepsOne once cs y
keeps_written false cs x y a b wrote keeps = tt
keeps_written true cs x y a b wrote keeps = (keeps.0, λ ended. writes_nothing x y a b wrote (keeps.1 ended))

or_false : (x : Bool) → (x || false) ≡ x
or_false true = refl
or_false false = refl

-- one more comes, which was not heard, where none was
pub keeps_push : (once : Bool) (cs : List Session) (left : List ℕ) (c : Session) → (IsTrue once → list_any has_spoken cs ≡ false) → c.phase ≡ Standings.New
    → KeepsOne once cs left → KeepsOne once (cs ++ c ∷ []) left
keeps_push false cs left c only called keeps = tt
keeps_push true cs left c only called keeps =
    let unheard : list_any has_spoken (c ∷ []) ≡ false = ap (λ (s : Phase). not (is_unheard s) || false) called in
    let unended : list_any is_ended (c ∷ []) ≡ false = ap (λ (s : Phase). ends s || false) called in (
      λ heard. let no : false ≡ true = sym (ap (λ x. x || list_any has_spoken (c ∷ [])) (only refl) ∙ unheard) ∙ (sym (list_any-append has_spoken cs (c ∷ [])) ∙ heard) in absurd (cc),
      λ ended. keeps.1 (sym (or_false (list_any is_ended cs)) ∙ (sym (ap (λ y. list_any is_ended cs || y) unended) ∙ (sym (list_any-append is_ended cs (c ∷ [])) ∙ ended))),
    )

pub any_removed : (f : Session → Bool) (cs : List Session) (place : ℕ) → list_any f (remove cs place) ≡ true → list_any f cs ≡ true
any_removed f [] zero e = absurd (cc)
any_removed f [] (suc n) e = absurd (cc)
any_removed f (c ∷ cs) zero e = or_right (f c) (list_any f cs) e
any_removed f (c ∷ cs) (suc n) e = elim (or_true (f c) (list_any f (remove cs n)) e) [
  | inl here ↦ or_left (f c) (list_any f cs) here
  | inr there ↦ or_right (f c) (list_any f cs) (any_removed f cs n there)
]

removed_none : (cs : List Session) (place : ℕ) → place < length cs → length cs ≡ 1 → remove cs place ≡ []
removed_none [] place within one = absurd (omega arith)
removed_none (c ∷ []) zero within one = refl
removed_none (c ∷ []) (suc n) within one = absurd (omega arith)
removed_none (c ∷ d ∷ cs) place within one = absurd (omega arith)

-- one goes
pub keeps_removed : (once : Bool) (cs : List Session) (left : List ℕ) (place : ℕ) → place < length cs → KeepsOne once cs left → KeepsOne once (remove cs place) left
keeps_removed false cs left place within keeps = tt
keeps_removed true cs left place within keeps = (
  λ heard.
      let none = removed_none cs place within (keeps.0 (any_removed has_spoken cs place heard)) in
      let no : false ≡ true = sym (ap (list_any has_spoken) none) ∙ heard in absurd (cc),
  λ ended. keeps.1 (any_removed is_ended cs place ended),
)

pub any_set : (f : Session → Bool) (cs : List Session) (place : ℕ) (c' d : Session) → place < length cs → f c' ≡ f (get_or cs place d) → list_any f (set cs place c') ≡ list_any f cs
any_set f [] place c' d within same = absurd (omega arith)
any_set f (c ∷ cs) zero c' d within same = ap (λ b. b || list_any f cs) same
any_set f (c ∷ cs) (suc n) c' d within same = ap (λ b. f c || b) (any_set f cs n c' d (omega arith) same)

pub asked_unheard : (s : Phase) → is_unheard (phase_asked s) ≡ is_unheard s
asked_unheard Standings.New = refl
asked_unheard Standings.NewProbed = refl
asked_unheard Standings.Open = refl
asked_unheard Standings.KeepaliveSent = refl
asked_unheard Standings.Ended = refl

pub asked_ends : (s : Phase) → ends (phase_asked s) ≡ ends s
asked_ends Standings.New = refl
asked_ends Standings.NewProbed = refl
asked_ends Standings.Open = refl
asked_ends Standings.KeepaliveSent = refl
asked_ends Standings.Ended = refl

-- one changes, and neither whether it was heard nor whether its end was taken
pub keeps_set : (once : Bool) (cs : List Session) (left : List ℕ) (place : ℕ) (c' d : Session) → place < length cs
    → is_unheard c'.phase ≡ is_unheard (get_or cs place d).phase → ends c'.phase ≡ ends (get_or cs place d).phase
    → KeepsOne once cs left → KeepsOne once (set cs place c') left
keeps_set false cs left place c' d within unheard ended keeps = tt
keeps_set true cs left place c' d within unheard ended keeps = (
  λ heard. length-set cs place c' ∙ keeps.0 (sym (any_set has_spoken cs place c' d within (ap not unheard)) ∙ heard),
  λ ends_now. keeps.1 (sym (any_set is_ended cs place c' d within ended) ∙ ends_now),
)

-- one is asked
pub keeps_asked : (once : Bool) (cs : List Session) (left : List ℕ) (place : ℕ) (c' d : Session) → place < length cs → c'.phase ≡ phase_asked (get_or cs place d).phase
    → KeepsOne once cs left → KeepsOne once (set cs place c') left
keeps_asked once cs left place c' d within asked keeps =
    keeps_set once cs left place c' d within
    (ap is_unheard asked ∙ asked_unheard (get_or cs place d).phase) (ap ends asked ∙ asked_ends (get_or cs place d).phase) keeps

pub any_at : (f : Session → Bool) (cs : List Session) (place : ℕ) (d : Session) → place < length cs → f (get_or cs place d) ≡ true → list_any f cs ≡ true
any_at f [] place d within e = absurd (omega arith)
any_at f (c ∷ cs) zero d within e = or_left (f c) (list_any f cs) e
any_at f (c ∷ cs) (suc n) d within e = or_right (f c) (list_any f cs) (any_at f cs n d (omega arith) e)

-- the end that was taken of one leaves nothing to write
pub keeps_last : (once : Bool) (cs : List Session) (left : List ℕ) (place : ℕ) (d : Session) → IsTrue once → place < length cs → KeepsOne once cs left → (get_or cs place d).phase ≡ Standings.Ended → left ≡ []
keeps_last false cs left place d is within keeps ended = absurd (cc)
keeps_last true cs left place d is within keeps ended = keeps.1 (any_at is_ended cs place d within (ap ends ended))

heard_ended : (phase : Phase) → ends (phase_heard phase) ≡ true → ends phase ≡ true
heard_ended Standings.New e = absurd (cc)
heard_ended Standings.NewProbed e = absurd (cc)
heard_ended Standings.Open e = absurd (cc)
heard_ended Standings.KeepaliveSent e = absurd (cc)
heard_ended Standings.Ended e = refl

heard_either : (b : Bool) (now : ℕ) (c : Session) → is_ended (cond b (once_heard now c) c) ≡ true → is_ended c ≡ true
heard_either true now c e = heard_ended c.phase e
heard_either false now c e = e

pub any_heard_by : (id now : ℕ) (cs : List Session) → list_any is_ended (map (heard_by id now) cs) ≡ true → list_any is_ended cs ≡ true
any_heard_by id now [] e = absurd (cc)
any_heard_by id now (c ∷ cs) e = elim (or_true (is_ended (heard_by id now c)) (list_any is_ended (map (heard_by id now) cs)) e) [
  | inl here ↦ or_left (is_ended c) (list_any is_ended cs) (heard_either (c.id == id) now c here)
  | inr there ↦ or_right (is_ended c) (list_any is_ended cs) (any_heard_by id now cs there)
]

none_after : (b : Bool) (n : ℕ) (cs : List Session) → cond b (Some n) (position_from has_spoken (n + 1) cs) ≡ None
    → (position_from has_spoken (n + 1) cs ≡ None → list_any has_spoken cs ≡ false) → (b || list_any has_spoken cs) ≡ false
none_after true n cs e more = absurd (cc)
none_after false n cs e more = more e

pub none_heard : (cs : List Session) (n : ℕ) → position_from has_spoken n cs ≡ None → list_any has_spoken cs ≡ false
none_heard [] n e = refl
none_heard (c ∷ cs) n e = none_after (has_spoken c) n cs e (none_heard cs (n + 1))

kept_at : (there cs' : List Session) (left : List ℕ) (place : ℕ) → position has_spoken there ≡ Some place → (list_any is_ended there ≡ true → left ≡ [])
    → IfSome (slice_get there place) (λ c. cs' ≡ c ∷ [])
    → (list_any has_spoken cs' ≡ true → length cs' ≡ 1) × (list_any is_ended cs' ≡ true → left ≡ [])
kept_at [] cs' left place is before k = absurd (cc)
kept_at (d ∷ ds) cs' left place is before k =
    let within = (position-Some has_spoken (d ∷ ds) place d is).0 in
    let at = slice_get-get_or (d ∷ ds) place d within in
    let only : cs' ≡ get_or (d ∷ ds) place d ∷ [] = subst (λ (o : Option Session). IfSome o (λ c. cs' ≡ c ∷ [])) at k in (
      λ heard. ap length only,
      λ ended.
          let some : (is_ended (get_or (d ∷ ds) place d) || false) ≡ true = subst (λ (l : List Session). list_any is_ended l ≡ true) only ended in
          before (any_at is_ended (d ∷ ds) place d within (sym (or_false (is_ended (get_or (d ∷ ds) place d))) ∙ some)),
    )

kept : (there cs' : List Session) (left : List ℕ) (old new : EndpointView) (found : Option ℕ) → position has_spoken there ≡ found → (list_any is_ended there ≡ true → left ≡ [])
    → MatchOption found ((cs' ≡ there) × (new ≡ old)) (λ place. IfSome (slice_get there place) (λ c. cs' ≡ c ∷ []) × LetsLinksGo (remove there place) old new)
    → (list_any has_spoken cs' ≡ true → length cs' ≡ 1) × (list_any is_ended cs' ≡ true → left ≡ [])
kept there cs' left old new None is before k = (
  λ heard. let no : false ≡ true = sym (none_heard there 0 (sym (position_from-zero has_spoken there) ∙ is)) ∙ (sym (ap (list_any has_spoken) k.0) ∙ heard) in absurd (cc),
  λ ended. before (sym (ap (list_any is_ended) k.0) ∙ ended),
)
kept there cs' left old new (Some place) is before k = kept_at there cs' left place is before k.0

-- where one was heard with `once`, it stays alone
pub keeps_heard : (once : Bool) (cs cs' : List Session) (left : List ℕ) (old new : EndpointView) (id now : ℕ) → KeepsOne once cs left → KeepsHeard once old new (map (heard_by id now) cs) cs' → KeepsOne once cs' left
keeps_heard false cs cs' left old new id now keeps k = tt
keeps_heard true cs cs' left old new id now keeps k =
    kept (map (heard_by id now) cs) cs' left old new (position has_spoken (map (heard_by id now) cs)) refl (λ ended. keeps.1 (any_heard_by id now cs ended)) k

-- one more was heard, or not
pub heard_more : (f : Session → Session) (xs ys : List Session) (i : ℕ) (d c' : Session) → i < length ys → length ys ≡ length xs
    → ys ≡ map f (take i xs) ++ drop i xs → c' ≡ f (get_or ys i d) → set ys i c' ≡ map f (take (i + 1) xs) ++ drop (i + 1) xs
heard_more f xs ys i d c' within same so is =
    ap (λ (c : Session). set ys i c) is
    ∙ map_over_more f xs ys i (get_or ys i d) (omega arith) so (get_or_default ys i d (get_or ys i d) within)

-- one more just stays
pub first_more : (core : PacedHostCore) (items xs : List Session) (i : ℕ) (d : Session) (f : SessionAction) → xs ≡ items → i < length xs → All (JustStays core) (take i items)
    → IsActionFor core (get_or xs i d) f → f ≡ Stays → All (JustStays core) (take (i + 1) items)
first_more core items xs i d f same within all is stays =
    let fate : JustStays core (get_or items i d) = subst (λ (l : List Session). JustStays core (get_or l i d)) same (subst (λ (g : SessionAction). IsActionFor core (get_or xs i d) g) stays is) in
    All-more (JustStays core) items i d (omega (arith, within, ap length same)) all fate

-- where nothing was taken, and nothing then, all that is held is as it was
pub still_more : (took more : Bool) (a b c : EndpointView) → (took ≡ false → (id : ℕ) → held_at b id ≡ held_at a id)
    → (more ≡ false → (id : ℕ) → held_at c id ≡ held_at b id) → (took || more) ≡ false → (id : ℕ) → held_at c id ≡ held_at a id
still_more false more a b c before here none id = here none id ∙ before refl id
still_more true more a b c before here none id = absurd (cc)

-- with `once` all ends, whatever connection goes that was heard; and well where its end was taken
pub parted_some : (fate : SessionAction) (phase : Phase) → is_unheard phase ≡ false → None ≡ parted true fate phase → ⊥
parted_some fate Standings.New heard e = absurd (cc)
parted_some fate Standings.NewProbed heard e = absurd (cc)
parted_some Stays Standings.Open heard e = absurd (cc)
parted_some Asks Standings.Open heard e = absurd (cc)
parted_some Over Standings.Open heard e = absurd (cc)
parted_some GivenUp Standings.Open heard e = absurd (cc)
parted_some Stays Standings.KeepaliveSent heard e = absurd (cc)
parted_some Asks Standings.KeepaliveSent heard e = absurd (cc)
parted_some Over Standings.KeepaliveSent heard e = absurd (cc)
parted_some GivenUp Standings.KeepaliveSent heard e = absurd (cc)
parted_some Stays Standings.Ended heard e = absurd (cc)
parted_some Asks Standings.Ended heard e = absurd (cc)
parted_some Over Standings.Ended heard e = absurd (cc)
parted_some GivenUp Standings.Ended heard e = absurd (cc)

parted_ended : (fate : SessionAction) (phase : Phase) → Some Stops.Ended ≡ parted true fate phase → phase ≡ Standings.Ended
parted_ended fate Standings.New e = absurd (cc)
parted_ended fate Standings.NewProbed e = absurd (cc)
parted_ended Stays Standings.Open e = absurd (cc)
parted_ended Asks Standings.Open e = absurd (cc)
parted_ended Over Standings.Open e = absurd (cc)
parted_ended GivenUp Standings.Open e = absurd (cc)
parted_ended Stays Standings.KeepaliveSent e = absurd (cc)
parted_ended Asks Standings.KeepaliveSent e = absurd (cc)
parted_ended Over Standings.KeepaliveSent e = absurd (cc)
parted_ended GivenUp Standings.KeepaliveSent e = absurd (cc)
parted_ended fate Standings.Ended e = refl

-- a connection that is asked is not ended by that
asked_ended : (now : ℕ) (old new : EndpointView) (c c' : Session) → IsAsked now old new c c' → c'.phase ≡ Standings.Ended → c.phase ≡ Standings.Ended
asked_ended now old new c c' (inl p) ended =
    let asked : c'.phase ≡ phase_asked c.phase = ap (λ (k : Session). k.phase) p.4 in
    ended_phase c.phase (sym (asked_ends c.phase) ∙ (sym (ap ends asked) ∙ ap ends ended))
asked_ended now old new c c' (inr p) ended = sym (ap (λ (k : Session). k.phase) p.1) ∙ ended

pub same_some : (k c : Session) → Some k ≡ Some c → k ≡ c
same_some k c e = same_Some k c e

done_alone : (now : ℕ) (k c : Session) (fate : SessionAction) (old new : EndpointView) (cs' : List Session) (ns ms : ListenerCounts) → k ≡ c → DoesAction true now c 0 fate old new (k ∷ []) cs' ns ms None → OnlyEnded cs' → OnlyEnded (k ∷ [])
done_alone now k c Stays old new cs' ns ms at does alone = subst OnlyEnded does.1 alone
done_alone now k c Asks old new cs' ns ms at does alone =
    let same = same_head does.0 alone.0 [] [] (sym does.2 ∙ alone.1) in
    (k, refl, ap (λ (x : Session). x.phase) at ∙ asked_ended now old new c does.0 does.1 (ap (λ (x : Session). x.phase) same.0 ∙ alone.2))
done_alone now k c Over old new cs' ns ms at does alone = let no : [] ≡ alone.0 ∷ [] = sym does.1 ∙ alone.1 in absurd (cc)
done_alone now k c GivenUp old new cs' ns ms at does alone = let no : [] ≡ alone.0 ∷ [] = sym does.1 ∙ alone.1 in absurd (cc)

alone_is_heard : (cs' : List Session) → OnlyEnded cs' → list_any has_spoken cs' ≡ true
alone_is_heard cs' alone =
    any_ended cs' (ap (list_any is_ended) alone.1 ∙ ap (λ (x : Phase). ends x || false) alone.2)

done_among : (now : ℕ) (k j c : Session) (ks : List Session) (place : ℕ) (fate : SessionAction) (old new : EndpointView) (cs' : List Session) (ns ms : ListenerCounts) → (list_any has_spoken (k ∷ j ∷ ks) ≡ true → length (k ∷ j ∷ ks) ≡ 1)
    → DoesAction true now c place fate old new (k ∷ j ∷ ks) cs' ns ms None → OnlyEnded cs' → OnlyEnded (k ∷ j ∷ ks)
done_among now k j c ks place Stays old new cs' ns ms one does alone = subst OnlyEnded does.1 alone
done_among now k j c ks place Asks old new cs' ns ms one does alone =
    absurd (omega (arith, ap length does.2, ap length alone.1, length-set (k ∷ j ∷ ks) place does.0))
done_among now k j c ks place Over old new cs' ns ms one does alone =
    absurd (omega (arith, one (any_removed has_spoken (k ∷ j ∷ ks) place (sym (ap (list_any has_spoken) does.1) ∙ alone_is_heard cs' alone))))
done_among now k j c ks place GivenUp old new cs' ns ms one does alone =
    absurd (omega (arith, one (any_removed has_spoken (k ∷ j ∷ ks) place (sym (ap (list_any has_spoken) does.1) ∙ alone_is_heard cs' alone))))

-- with `once`, where all goes on, the only connection is ended just where it was
tended_in : (core : PacedHostCore) (new : EndpointView) (cs cs' : List Session) (ns ms : ListenerCounts) (place : ℕ) (c : Session) → place < length cs → slice_get cs place ≡ Some c
    → (list_any has_spoken cs ≡ true → length cs ≡ 1) → Tends true core c place new cs cs' ns ms None → OnlyEnded cs' → OnlyEnded cs
tended_in core new [] cs' ns ms place c within at one tends alone = absurd (omega arith)
tended_in core new (k ∷ []) cs' ns ms zero c within at one tends alone = done_alone core.moment k c tends.0 core.endpoint new cs' ns ms (same_some k c at) tends.2 alone
tended_in core new (k ∷ []) cs' ns ms (suc n) c within at one tends alone = absurd (omega arith)
tended_in core new (k ∷ j ∷ ks) cs' ns ms place c within at one tends alone = done_among core.moment k j c ks place tends.0 core.endpoint new cs' ns ms one tends.2 alone

there_is : (cs : List Session) (place : ℕ) → place < length cs → (c : Session) × (slice_get cs place ≡ Some c)
there_is [] place within = absurd (omega arith)
there_is (c ∷ cs) zero within = (c, refl)
there_is (c ∷ cs) (suc n) within = there_is cs n (omega arith)

pub tended_on : (once : Bool) (core : PacedHostCore) (new : EndpointView) (cs cs' : List Session) (ns ms : ListenerCounts) (left : List ℕ) (place : ℕ) → IsTrue once → place < length cs → KeepsOne once cs left
    → IfSome (slice_get cs place) (λ c. Tends once core c place new cs cs' ns ms None) → OnlyEnded cs' → OnlyEnded cs
tended_on false core new cs cs' ns ms left place is within keeps tends alone = absurd (cc)
tended_on true core new cs cs' ns ms left place is within keeps tends alone =
    let at = there_is cs place within in
    let here : Tends true core at.0 place new cs cs' ns ms None = subst (λ (o : Option Session). IfSome o (λ c. Tends true core c place new cs cs' ns ms None)) at.1 tends in
    tended_in core new cs cs' ns ms place at.0 within at.1 keeps.0 here alone

-- what an error was that was passed on
pub stop_is : {T : Type 0} (r : Result T ListenOutcome) (y s stop : ListenOutcome) → r ≡ Err y → y ≡ s → r ≡ Err stop → s ≡ stop
stop_is r y s stop at same e =
    let all : Err y ≡ Err stop = sym at ∙ e in
    (cc)

-- and where all ends well, it was
pub done_ends : (now : ℕ) (c : Session) (place : ℕ) (fate : SessionAction) (old new : EndpointView) (cs cs' : List Session) (ns ms : ListenerCounts) → DoesAction true now c place fate old new cs cs' ns ms (Some Stops.Ended) → c.phase ≡ Standings.Ended
done_ends now c place Stays old new cs cs' ns ms does = let no : Some Stops.Ended ≡ None = does.2 in absurd (cc)
done_ends now c place Asks old new cs cs' ns ms does = let no : Some Stops.Ended ≡ None = does.3 in absurd (cc)
done_ends now c place Over old new cs cs' ns ms does = parted_ended Over c.phase does.2
done_ends now c place GivenUp old new cs cs' ns ms does = parted_ended GivenUp c.phase does.2

ends_alone : (cs : List Session) (place : ℕ) (c : Session) → place < length cs → slice_get cs place ≡ Some c → c.phase ≡ Standings.Ended → (list_any has_spoken cs ≡ true → length cs ≡ 1) → OnlyEnded cs
ends_alone [] place c within at ended one = absurd (omega arith)
ends_alone (k ∷ []) zero c within at ended one = (k, refl, ap (λ (x : Session). x.phase) (same_some k c at) ∙ ended)
ends_alone (k ∷ []) (suc n) c within at ended one = absurd (omega arith)
ends_alone (k ∷ j ∷ ks) place c within at ended one =
    let here : get_or (k ∷ j ∷ ks) place k ≡ c = get_or_from_slice_get (k ∷ j ∷ ks) place c k at in
    absurd (omega (arith, one (any_at has_spoken (k ∷ j ∷ ks) place k within (ap has_spoken here ∙ ap (λ (x : Phase). not (is_unheard x)) ended))))

pub tended_ends : (once : Bool) (core : PacedHostCore) (new : EndpointView) (cs cs' : List Session) (ns ms : ListenerCounts) (left : List ℕ) (place : ℕ) → IsTrue once → place < length cs → KeepsOne once cs left
    → IfSome (slice_get cs place) (λ c. Tends once core c place new cs cs' ns ms (Some Stops.Ended)) → OnlyEnded cs
tended_ends false core new cs cs' ns ms left place is within keeps tends = absurd (cc)
tended_ends true core new cs cs' ns ms left place is within keeps tends =
    let at = there_is cs place within in
    let here : Tends true core at.0 place new cs cs' ns ms (Some Stops.Ended) = subst (λ (o : Option Session). IfSome o (λ c. Tends true core c place new cs cs' ns ms (Some Stops.Ended))) at.1 tends in
    ends_alone cs place at.0 within at.1 (done_ends core.moment at.0 place here.0 core.endpoint new cs cs' ns ms here.2) keeps.0

-- ---- links that go, one after another

pub links_more : (cs : List Session) (c : Session) (a b d : EndpointView) → LetsLinksGo cs a b → LetsLinkGo b d c.id → LetsLinksGo (cs ++ c ∷ []) a d
links_more [] c a b d all one = (d, subst (λ (e : EndpointView). LetsLinkGo e d c.id) all one, refl)
links_more (k ∷ ks) c a b d all one = (all.0, all.1, links_more ks c all.0 b d all.2 one)

pub links_on : (items : List Session) (i : ℕ) (c : Session) (a b d : EndpointView) → i < length items → LetsLinksGo (take i items) a b → LetsLinkGo b d (get_or items i c).id → LetsLinksGo (take (i + 1) items) a d
links_on items i c a b d within all one =
    subst (λ (l : List Session). LetsLinksGo l a d) (sym (take_more items i c within)) (links_more (take i items) (get_or items i c) a b d all one)

-- ---- and so it stays, whatever is done

pub keeps_admitted : (once : Bool) (cs cs' : List Session) (left : List ℕ) (c : Session) (old new : EndpointView) → c.phase ≡ Standings.New → Admits once c old new cs cs' → KeepsOne once cs left → KeepsOne once cs' left
keeps_admitted once cs cs' left c old new called (inl p) keeps =
    subst (λ (l : List Session). KeepsOne once l left) (sym p.1)
    (keeps_push once cs left c (λ is. elim (either (list_any has_spoken cs)) [ inl some ↦ absurd (p.0 (inl (is, some))) | inr none ↦ none ]) called keeps)
keeps_admitted once cs cs' left c old new called (inr p) keeps = subst (λ (l : List Session). KeepsOne once l left) (sym p.1) keeps

-- of its own node an unanswered one is evicted
own_within : (b : Bool) (now : ℕ) (own : Network) (from : Address) (cs : List Session) (place : ℕ) (d : Session)
    → (if not b then None else place_of_own_unanswered own now from cs) ≡ Some place → place < length cs
own_within true now own from cs place d is = (position-Some (λ (c : Session). is_unanswered now c && is_of_node own from c) cs place d is).0
own_within false now own from cs place d is = absurd (cc)

own_kept : (now : ℕ) (from : Address) (cs cs' : List Session) (left : List ℕ) (old new : EndpointView) (found : Option ℕ) → place_of_own true old.network old now from cs ≡ found
    → Evicts found old new cs cs' → KeepsOne true cs left → KeepsOne true cs' left
own_kept now from cs cs' left old new None is evicts keeps = subst (λ (l : List Session). KeepsOne true l left) (sym evicts.0) keeps
own_kept now from [] cs' left old new (Some place) is evicts keeps =
    absurd (omega (arith, own_within (is_at_limit old.network from []) now old.network from [] place (record { id = 0; from = from; heard = 0; phase = Standings.New }) is))
own_kept now from (d ∷ ds) cs' left old new (Some place) is evicts keeps =
    subst (λ (l : List Session). KeepsOne true l left) (sym evicts.0)
    (keeps_removed true (d ∷ ds) left place (own_within (is_at_limit old.network from (d ∷ ds)) now old.network from (d ∷ ds) place d is) keeps)

pub keeps_own : (once : Bool) (now : ℕ) (from : Address) (cs cs' : List Session) (left : List ℕ) (old new : EndpointView)
    → Evicts (place_of_own once old.network old now from cs) old new cs cs' → KeepsOne once cs left → KeepsOne once cs' left
keeps_own false now from cs cs' left old new evicts keeps = keeps
keeps_own true now from cs cs' left old new evicts keeps = own_kept now from cs cs' left old new (place_of_own true old.network old now from cs) refl evicts keeps

-- and the rest is there without it
pub are_without : (found : Option ℕ) (old new : EndpointView) (cs cs' : List Session) → Evicts found old new cs cs' → cs' ≡ without found cs
are_without None old new cs cs' evicts = evicts.0
are_without (Some place) old new cs cs' evicts = evicts.0

-- the place of a connection that is evicted for a request that found no link is one of the list
freed_by : (b : Bool) (e : EndpointView) (now : ℕ) (asker : Address) (cs : List Session) (place : ℕ) (d : Session)
    → (if b then place_of_own true e.network e now asker cs else position (is_unanswered now) cs) ≡ Some place → place < length cs
freed_by true e now asker cs place d is = own_within (is_at_limit e.network asker cs) now e.network asker cs place d is
freed_by false e now asker cs place d is = (position-Some (is_unanswered now) cs place d is).0

room_kept : (now : ℕ) (asker : Address) (cs cs' : List Session) (left : List ℕ) (old new : EndpointView) (found : Option ℕ) → place_to_free true old.network old now asker cs ≡ found
    → Evicts found old new cs cs' → KeepsOne true cs left → KeepsOne true cs' left
room_kept now asker cs cs' left old new None is evicts keeps = subst (λ (l : List Session). KeepsOne true l left) (sym evicts.0) keeps
room_kept now asker [] cs' left old new (Some place) is evicts keeps =
    absurd (omega (arith, freed_by (is_at_limit old.network asker []) old now asker [] place (record { id = 0; from = asker; heard = 0; phase = Standings.New }) is))
room_kept now asker (d ∷ ds) cs' left old new (Some place) is evicts keeps =
    subst (λ (l : List Session). KeepsOne true l left) (sym evicts.0)
    (keeps_removed true (d ∷ ds) left place (freed_by (is_at_limit old.network asker (d ∷ ds)) old now asker (d ∷ ds) place d is) keeps)

pub keeps_room : (once : Bool) (now : ℕ) (asker : Address) (cs cs' : List Session) (left : List ℕ) (old new : EndpointView) → MakesSpace once now asker old new cs cs' → KeepsOne once cs left → KeepsOne once cs' left
keeps_room false now asker cs cs' left old new makes keeps = keeps
keeps_room true now asker cs cs' left old new makes keeps = room_kept now asker cs cs' left old new (place_to_free true old.network old now asker cs) refl makes keeps

pub keeps_asks : (once : Bool) (cs : List Session) (left : List ℕ) (place : ℕ) (c' d : Session) (now : ℕ) (old new : EndpointView) → place < length cs → IsAsked now old new (get_or cs place d) c'
    → KeepsOne once cs left → KeepsOne once (set cs place c') left
keeps_asks once cs left place c' d now old new within (inl p) keeps = keeps_asked once cs left place c' d within (ap (λ (k : Session). k.phase) p.4) keeps
keeps_asks once cs left place c' d now old new within (inr p) keeps =
    let same : c'.phase ≡ (get_or cs place d).phase = ap (λ (k : Session). k.phase) p.1 in
    keeps_set once cs left place c' d within (ap is_unheard same) (ap ends same) keeps

or_turned : (x y : Bool) → (x || y) ≡ (y || x)
or_turned true true = refl
or_turned true false = refl
or_turned false true = refl
or_turned false false = refl

any_turned : (f : Session → Bool) (xs ys : List Session) → list_any f (xs ++ ys) ≡ list_any f (ys ++ xs)
any_turned f xs ys =
    list_any-append f xs ys ∙ or_turned (list_any f xs) (list_any f ys) ∙ sym (list_any-append f ys xs)

-- the order of connections does not matter
keeps_turned : (once : Bool) (xs ys : List Session) (left : List ℕ) → KeepsOne once (xs ++ ys) left → KeepsOne once (ys ++ xs) left
keeps_turned false xs ys left keeps = tt
keeps_turned true xs ys left keeps =
    let size : length (ys ++ xs) ≡ length (xs ++ ys) = omega (arith, length-append xs ys, length-append ys xs) in (
      λ heard. size ∙ keeps.0 (any_turned has_spoken xs ys ∙ heard),
      λ ended. keeps.1 (any_turned is_ended xs ys ∙ ended),
    )

keeps_passed : (once : Bool) (old new : EndpointView) (x y : List ℕ) (a b : Option (List ℕ)) (cs cs' : List Session)
    → PassesSome old new x y a b cs cs' → KeepsOne once cs x → KeepsOne once cs' y
keeps_passed once old new x y a b cs cs' p keeps =
    subst (λ (l : List Session). KeepsOne once l y) (sym p.4)
    (keeps_turned once p.1 p.2 y (keeps_some once old new x y a b p.0 p.1 p.2 (subst (λ (l : List Session). KeepsOne once l x) p.3 keeps) p.5))

pub keeps_taken : {T E : Type 0} (once : Bool) (old new : EndpointView) (x y : List ℕ) (a b : Option (List ℕ)) (cs cs' : List Session) (r : Result T E)
    → OnOk r (PassesUntilFull old new x y a b cs cs') → OnErr r (PassesSome old new x y a b cs cs') → KeepsOne once cs x → KeepsOne once cs' y
keeps_taken once old new x y a b cs cs' (Ok t) all some keeps = keeps_passed once old new x y a b cs cs' all.0 keeps
keeps_taken once old new x y a b cs cs' (Err e) all some keeps = keeps_passed once old new x y a b cs cs' some keeps
