-- The connections that a listening host holds were accepted by its calls.
use Rattle.std.proofs.Common.{◌≡◌, ◌≢◌, ◌⊎◌, ◌==◌, ℕ, zero, suc, Bool, true, false, cond, not, List, [], ◌∷◌, ◌++◌, map, Option, None, Some, refl, sym, ◌∙◌, inl, inr, ap, subst, arith}
use Rattle.std.specs.Prelude.{All, Contains, IfSome, MatchOption, drop, position, remove, slice_get, take}
use Rattle.std.proofs.lemmas.List.Quantifiers.{position-Some}
use Rattle.std.proofs.lemmas.Option.{get_or_from_slice_get, slice_get-get_or, slice_get_within}
use Rattle.std.proofs.lemmas.List.Elements.{All-append, All-cons, All-contains, All-drop, All-get_or, All-head, All-map, All-nil, All-push, All-set, All-tail, All-take, All-weaker, Contains-append_cases, Contains-append_left, Contains-append_right, Contains-push}
use Rattle.ipx_carrier.specs.Turns.{Peers, Turn}
use Rattle.ipx_wire.specs.declared.address.Address.{Address}
use Rattle.spx_messages.specs.EndpointView.{EndpointView, Held, held_at}
use Rattle.ipx_host.specs.Hosting.{Host, IsOneIfHeard, MovesSome, NotesIf, Serves, StepView, Steps, StepsTo, StepsWithoutStop, WriterBreaksOff, takes_of}
use Rattle.ipx_host.specs.Passing.{PassesEach, PassesFrom, Take, takes_each, takes_from}
use Rattle.ipx_host.specs.SessionActions.{is_unheard}
use Rattle.ipx_host.specs.SessionLogs.{ListenerCounts}
use Rattle.ipx_host.specs.Sessions.{Admits, Asks, DoesNoted, Evicts, KeepsHeard, LetsLinksGo, has_spoken, heard_by, once_heard, place_of_own, place_to_free, session_of}
use Rattle.ipx_host.specs.Tending.{DoesAction, TendsFirst, TendsOn, Tidies}
use Rattle.ipx_host.specs.declared.listening.ListenOutcome.{ListenOutcome}
use Rattle.ipx_host.specs.declared.listening.ListenOutcome.TheVariants.{Ended, Lost, Unwritten, Unwaited}
use Rattle.ipx_host.specs.declared.paced_host_core.Accepted.{Accepted}
use Rattle.ipx_host.specs.declared.paced_host_core.Arrival.{Arrival}
use Rattle.ipx_host.specs.declared.paced_host_core.Arrival.TheVariants as Cames
use Rattle.ipx_host.specs.declared.paced_host_core.PacedHostCore.{PacedHostCore}
use Rattle.ipx_host.specs.declared.sessions.Session.{Session}
use Rattle.ipx_host.specs.declared.sessions.SessionAction.{SessionAction}
use Rattle.ipx_host.specs.declared.sessions.SessionAction.TheVariants as ActionsOfSessions
use Rattle.theory_processes.specs.HostCalls.{HostCall}
use Rattle.theory_processes.specs.TurnCalls.{AcceptFrom}
use Rattle.theory_processes.proofs.HostTurning.{accept_left, accept_right}
use Rattle.theory_processes.proofs.Taking.{all_of}

-- a place is one of a connection
abbrev pub IsPlaceIn : List Session → Option ℕ → Type 0
IsPlaceIn cs found = (place : ℕ) → found ≡ Some place → slice_get cs place ≢ None

pub found_place : (f : Session → Bool) (cs : List Session) → IsPlaceIn cs (position f cs)
found_place f [] place is = absurd (cc is)
found_place f (c ∷ cs) place is = λ none. cc (sym none ∙ slice_get-get_or (c ∷ cs) place c (position-Some f (c ∷ cs) place c is).0)

-- ---- connections of which this holds

module _ (P : ℕ → Address → Type 0) where
  abbrev pub Fits : Session → Type 0
  Fits c = P c.id c.from

  abbrev pub Are : List Session → Type 0
  Are cs = All Fits cs

  heard_one : (b : Bool) (now : ℕ) (c : Session) → Fits c → Fits (cond b (once_heard now c) c)
  heard_one true now c is = is
  heard_one false now c is = is

  heard : (id now : ℕ) (cs : List Session) → Are cs → Are (map (heard_by id now) cs)
  heard id now cs are = All-map Fits (heard_by id now) cs (All-weaker Fits (λ c. Fits (heard_by id now c)) (λ c is. heard_one (c.id == id) now c is) cs are)

  removed : (cs : List Session) (place : ℕ) → Are cs → Are (remove cs place)
  removed cs place are = All-append Fits (take place cs) (drop (suc place) cs) (All-take Fits place cs are) (All-drop Fits (suc place) cs are)

  before : (xs ys : List Session) → Are (xs ++ ys) → Are xs
  before [] ys are = All-nil Fits
  before (x ∷ xs) ys are = All-cons Fits x xs (All-head Fits x (xs ++ ys) are) (before xs ys (All-tail Fits x (xs ++ ys) are))

  behind : (xs ys : List Session) → Are (xs ++ ys) → Are ys
  behind [] ys are = are
  behind (x ∷ xs) ys are = behind xs ys (All-tail Fits x (xs ++ ys) are)

  at : (cs : List Session) (place : ℕ) (c : Session) → slice_get cs place ≡ Some c → Are cs → Fits c
  at cs place c is are = subst Fits (get_or_from_slice_get cs place c c is) (All-get_or Fits cs place c (slice_get_within cs place c is) are)

  evicts : (found : Option ℕ) (old new : EndpointView) (cs cs' : List Session) → Evicts found old new cs cs' → Are cs → Are cs'
  evicts None old new cs cs' e are = subst Are (sym e.0) are
  evicts (Some place) old new cs cs' e are = subst Are (sym e.0) (removed cs place are)

  admits : (once : Bool) (c : Session) (old new : EndpointView) (cs cs' : List Session) → Admits once c old new cs cs' → Fits c → Are cs → Are cs'
  admits once c old new cs cs' a is are = elim a [
    | inl held ↦ subst Are (sym held.1) (All-push Fits cs c are is)
    | inr away ↦ subst Are (sym away.1) are
  ]

  keeps_heard : (once : Bool) (old new : EndpointView) (cs cs' : List Session) → KeepsHeard once old new cs cs' → Are cs → Are cs'
  keeps_heard false old new cs cs' k are = subst Are (sym k.0) are
  keeps_heard true old new cs cs' k are = by (position has_spoken cs) (found_place has_spoken cs) k
    where
      one : (place : ℕ) (o : Option Session) → o ≢ None → slice_get cs place ≡ o → IfSome o (λ c. cs' ≡ c ∷ []) → Are cs'
      one place None there is alone = absurd (there refl)
      one place (Some c) there is alone = subst Are (sym alone) (All-cons Fits c [] (at cs place c is are) (All-nil Fits))

      by : (o : Option ℕ) → IsPlaceIn cs o → MatchOption o ((cs' ≡ cs) × (new ≡ old)) (λ place. IfSome (slice_get cs place) (λ c. cs' ≡ c ∷ []) × LetsLinksGo (remove cs place) old new) → Are cs'
      by None found k = subst Are (sym k.0) are
      by (Some place) found k = one place (slice_get cs place) (found place refl) refl k.0

  noted : (once : Bool) (came : Option Arrival) (now : ℕ) (old new : EndpointView) (cs cs' : List Session) → DoesNoted once came now old new cs cs'
      → ((a : Accepted) → came ≡ Some (Cames.Accepted a) → P a.id a.from) → Are cs → Are cs'
  noted once None now old new cs cs' d is are = subst Are (sym d.0) are
  noted once (Some (Cames.Heard id)) now old new cs cs' d is are = keeps_heard once old new (map (heard_by id now) cs) cs' d (heard id now cs are)
  noted once (Some (Cames.Accepted a)) now old new cs cs' d is are =
      admits once (session_of a now) d.0 new d.1 cs' d.3 (is a refl) (evicts (place_of_own once old.network old now a.from cs) old d.0 cs d.1 d.2 are)
  noted once (Some (Cames.NoRoom asker)) now old new cs cs' d is are = evicts (place_to_free once old.network old now asker cs) old new cs cs' d are

  pub notes_if : (b once : Bool) (old new : PacedHostCore) (cs cs' : List Session) → NotesIf b once old new cs cs' → ((a : Accepted) → old.came ≡ Some (Cames.Accepted a) → P a.id a.from) → Are cs → Are cs'
  notes_if true once old new cs cs' n is are = noted once old.came old.moment old.endpoint new.endpoint cs cs' n.1 is are
  notes_if false once old new cs cs' n is are = subst Are (sym n.1) are

  -- ---- what passes

  passes_each : (old new : EndpointView) (waiting left : List ℕ) (written writes : Option (List ℕ)) (cs cs' : List Session) → PassesEach old new waiting left written writes cs cs' → Are cs → Are cs'
  passes_each old new waiting left written writes [] cs' p are = subst Are (sym p.0) are
  passes_each old new waiting left written writes (c ∷ cs) cs' p are = subst Are (sym p.5)
      (All-cons Fits p.3 p.4 (passes_one (held_at old c.id) p.6.from (All-head Fits c cs are)) (passes_each p.0 new p.1 left p.2 writes cs p.4 p.7 (All-tail Fits c cs are)))
    where
      passes_one : (o : Option Held) → PassesFrom o (held_at p.0 c.id) waiting p.1 written p.2 c p.3 → Fits c → Fits p.3
      passes_one None f is = subst Fits (sym f.2) is
      passes_one (Some h) f is = subst Fits (sym f.3) is

  pub moves : (old new : PacedHostCore) (cs cs' : List Session) (waiting left : List ℕ) (written writes : Option (List ℕ)) (ts : List Take) → MovesSome old new cs cs' waiting left written writes ts → Are cs → Are cs'
  moves old new cs cs' waiting left written writes ts m are = subst Are (sym m.after)
      (All-append Fits m.rest m.front' (behind m.front m.rest (subst Are m.before are))
      (passes_each old.endpoint new.endpoint m.moves.between left m.moves.writing writes m.front m.front' m.moves.passes (before m.front m.rest (subst Are m.before are))))

  -- ---- what is tended

  asked : (now : ℕ) (old new : EndpointView) (c c' : Session) → Asks now old new c c' → Fits c → Fits c'
  asked now old new c c' a is = elim a [ inl queued ↦ subst Fits (sym queued.4) is | inr refused ↦ subst Fits (sym refused.1) is ]

  does_action : (once : Bool) (now : ℕ) (c : Session) (place : ℕ) (fate : SessionAction) (old new : EndpointView) (cs cs' : List Session) (ns ms : ListenerCounts) (stop : Option ListenOutcome)
      → DoesAction once now c place fate old new cs cs' ns ms stop → Fits c → Are cs → Are cs'
  does_action once now c place ActionsOfSessions.Stays old new cs cs' ns ms stop d is are = subst Are (sym d.1) are
  does_action once now c place ActionsOfSessions.Asks old new cs cs' ns ms stop d is are = subst Are (sym d.2) (All-set Fits cs place d.0 (asked now old new c d.0 d.1 is) are)
  does_action once now c place ActionsOfSessions.Over old new cs cs' ns ms stop d is are = subst Are (sym d.1) (removed cs place are)
  does_action once now c place ActionsOfSessions.GivenUp old new cs cs' ns ms stop d is are = subst Are (sym d.1) (removed cs place are)

  tends_first : (once : Bool) (old new : PacedHostCore) (cs cs' : List Session) (ns ms : ListenerCounts) (stop : Option ListenOutcome) → TendsFirst once old new cs cs' ns ms stop → Are cs → Are cs'
  tends_first once old new cs cs' ns ms stop t are =
      does_action once old.moment t.session t.place t.tends.0 old.endpoint new.endpoint cs cs' ns ms stop t.tends.2 (at cs t.place t.session t.there are) are

  tends_on : (n : ℕ) (once : Bool) (old new : PacedHostCore) (cs cs' : List Session) (ns ms : ListenerCounts) → TendsOn n once old new cs cs' ns ms → Are cs → Are cs'
  tends_on zero once old new cs cs' ns ms t are = subst Are (sym t.1) are
  tends_on (suc n) once old new cs cs' ns ms t are = tends_first once t.0 new t.1 cs' t.2 ms None t.4 (tends_on n once old t.0 cs t.1 ns t.2 t.3 are)

  pub tidies : (once : Bool) (old new : PacedHostCore) (cs cs' : List Session) (ns ms : ListenerCounts) (stop : Option ListenOutcome) → Tidies once old new cs cs' ns ms stop → Are cs → Are cs'
  tidies once old new cs cs' ns ms None t are = tends_on t.0 once old new cs cs' ns ms t.2 are
  tidies once old new cs cs' ns ms (Some stop) t are = tends_first once t.2 new t.3 cs' t.4 ms (Some stop) t.6 (tends_on t.0 once old t.2 cs t.3 ns t.4 t.5 are)

-- ---- the connections that were taken from

-- one of these connections has the id of a take, and was heard from
abbrev pub IsOfHeard : List Session → Take → Type 0
IsOfHeard cs t = (c : Session) × Contains cs c × (c.id ≡ t.id) × (has_spoken c ≡ true)

of_one : (o after : Option Held) (waiting left : List ℕ) (written writes : Option (List ℕ)) (c c' : Session) (p : PassesFrom o after waiting left written writes c c')
    → All (λ (t : Take). t.id ≡ c.id) (takes_from o after waiting left written writes c c' p)
of_one None after waiting left written writes c c' p = All-nil (λ (t : Take). t.id ≡ c.id)
of_one (Some h) after waiting left written writes c c' p = all_of c.id p.0 h

-- nothing is taken from one that was not heard from
taken_first : (cs : List Session) (c : Session) (ts : List Take) → (is_unheard c.phase ≡ true → ts ≡ []) → All (λ (t : Take). t.id ≡ c.id) ts → All (IsOfHeard (c ∷ cs)) ts
taken_first cs c ts none ids = by (is_unheard c.phase) refl
  where
    by : (b : Bool) → is_unheard c.phase ≡ b → All (IsOfHeard (c ∷ cs)) ts
    by true is = subst (All (IsOfHeard (c ∷ cs))) (sym (none is)) (All-nil (IsOfHeard (c ∷ cs)))
    by false is = All-weaker (λ (t : Take). t.id ≡ c.id) (IsOfHeard (c ∷ cs)) (λ t same. (c, Contains-append_left (c ∷ []) cs c (Contains-push [] c), sym same, ap not is)) ts ids

taken_each : (old new : EndpointView) (waiting left : List ℕ) (written writes : Option (List ℕ)) (cs cs' : List Session) (p : PassesEach old new waiting left written writes cs cs')
    → All (IsOfHeard cs) (takes_each old new waiting left written writes cs cs' p)
taken_each old new waiting left written writes [] cs' p = All-nil (IsOfHeard [])
taken_each old new waiting left written writes (c ∷ cs) cs' p =
    All-append (IsOfHeard (c ∷ cs)) (takes_from (held_at old c.id) (held_at p.0 c.id) waiting p.1 written p.2 c p.3 p.6.from) (takes_each p.0 new p.1 left p.2 writes cs p.4 p.7)
    (taken_first cs c (takes_from (held_at old c.id) (held_at p.0 c.id) waiting p.1 written p.2 c p.3 p.6.from) (λ is. (p.6.unheard is).2) (of_one (held_at old c.id) (held_at p.0 c.id) waiting p.1 written p.2 c p.3 p.6.from))
    (All-weaker (IsOfHeard cs) (IsOfHeard (c ∷ cs)) (λ t x. (x.0, Contains-append_right (c ∷ []) cs x.0 x.1, x.2, x.3)) (takes_each p.0 new p.1 left p.2 writes cs p.4 p.7)
    (taken_each p.0 new p.1 left p.2 writes cs p.4 p.7))

taken : (old new : PacedHostCore) (cs cs' : List Session) (waiting left : List ℕ) (written writes : Option (List ℕ)) (ts : List Take) → MovesSome old new cs cs' waiting left written writes ts → All (IsOfHeard cs) ts
taken old new cs cs' waiting left written writes ts m =
    subst (All (IsOfHeard cs)) (sym m.moves.made)
    (All-weaker (IsOfHeard m.front) (IsOfHeard cs) (λ t x. (x.0, subst (λ ds. Contains ds x.0) (sym m.before) (Contains-append_left m.front m.rest x.0 x.1), x.2, x.3))
    (takes_each old.endpoint new.endpoint m.moves.between left m.moves.writing writes m.front m.front' m.moves.passes)
    (taken_each old.endpoint new.endpoint m.moves.between left m.moves.writing writes m.front m.front' m.moves.passes))

-- each take of a step is of a connection that was heard from
abbrev pub AreOfHeard : StepView → Type 0
AreOfHeard view = All (IsOfHeard view.there) view.takes

module _ {K : Type 0} (once : Bool) (drives : K → Turn → K → Type 0) (peers : Peers) where
  step : (old new : Host K) (stop : Option ListenOutcome) (view : StepView) → Steps old new once stop drives peers view → AreOfHeard view
  step old new stop view s = taken s.heard s.moved view.there s.still old.left new.left old.written new.written view.takes s.moves.0

  broken : (old new : Host K) (view : StepView) → WriterBreaksOff old new once drives peers view → AreOfHeard view
  broken old new view s = taken s.heard new.core view.there new.sessions old.left new.left old.written new.written view.takes s.moves

  steps_to : (old new : Host K) (stop : Option ListenOutcome) (view : StepView) → StepsTo old new once stop drives peers view → AreOfHeard view
  steps_to old new None view s = step old new None view s
  steps_to old new (Some Ended) view s = step old new (Some Ended) view s
  steps_to old new (Some Lost) view s = step old new (Some Lost) view s
  steps_to old new (Some Unwritten) view s = broken old new view s
  steps_to old new (Some Unwaited) view s = step old new None view s

  steps_on : (n : ℕ) (old new : Host K) (steps : List StepView) → StepsWithoutStop n old new once drives peers steps → All AreOfHeard steps
  steps_on zero old new steps s = subst (All AreOfHeard) (sym s.1) (All-nil AreOfHeard)
  steps_on (suc n) old new steps s = subst (All AreOfHeard) (sym s.3) (All-push AreOfHeard s.1 s.2 (steps_on n old s.0 s.1 s.4) (step s.0 new None s.2 s.5))

  pub all_of_heard : (old new : Host K) (stop : ListenOutcome) (steps : List StepView) → Serves old new once stop drives peers steps → All AreOfHeard steps
  all_of_heard old new stop steps s = elim s [
    | inl ends ↦ subst (All AreOfHeard) (sym ends.4) (All-push AreOfHeard ends.2 ends.3 (steps_on ends.0 old ends.1 ends.2 ends.5) (steps_to ends.1 new (Some stop) ends.3 ends.6))
    | inr lost ↦ steps_on lost.1 old new steps lost.3
  ]

-- the step of a take
step_of : (steps : List StepView) (t : Take) → Contains (takes_of steps) t → (s : StepView) × Contains steps s × Contains s.takes t
step_of [] t c = absurd (omega (arith, c.1))
step_of (s ∷ steps) t c = elim (Contains-append_cases s.takes (takes_of steps) t c) [
  | inl here ↦ (s, Contains-append_left (s ∷ []) steps s (Contains-push [] s), here)
  | inr later ↦ let it = step_of steps t later in (it.0, Contains-append_right (s ∷ []) steps it.0 it.1, it.2)
]

-- a take of a step is of the one connection that was heard from
pub from_one : (P : ℕ → Address → Type 0) (steps : List StepView) (id : ℕ) (from : Address) (earlier : List Take) (last : Take) → All (λ (s : StepView). Are P s.there) steps → All AreOfHeard steps
    → All (λ (s : StepView). All (IsOneIfHeard id from) s.there) steps → takes_of steps ≡ earlier ++ last ∷ [] → P id from
from_one P steps id from earlier last are heard only is =
    let at = step_of steps last (subst (λ (ts : List Take). Contains ts last) (sym is) (Contains-push earlier last)) in
    let s : StepView = at.0 in
    let took : IsOfHeard s.there last = All-contains (IsOfHeard s.there) s.takes last (All-contains AreOfHeard steps s heard at.1) at.2 in
    let c : Session = took.0 in
    let one : (c.id ≡ id) × (c.from ≡ from) = All-contains (IsOneIfHeard id from) s.there c (All-contains (λ (s : StepView). All (IsOneIfHeard id from) s.there) steps s only at.1) took.1 took.3 in
    let p : P c.id c.from = All-contains (λ (c : Session). P c.id c.from) s.there c (All-contains (λ (s : StepView). Are P s.there) steps s are at.1) took.1 in
    subst (λ f. P id f) one.1 (subst (λ i. P i c.from) one.0 p)

-- ---- what is known of a host: its calls accepted its connections, and what its core notes as accepted

pub record Knows (calls : List HostCall) (core : PacedHostCore) (cs : List Session) : Type 0 where
  pub sessions : Are (AcceptFrom calls) cs
  pub came : (a : Accepted) → core.came ≡ Some (Cames.Accepted a) → AcceptFrom calls a.id a.from

pub are_more : (xs ys : List HostCall) (cs : List Session) → Are (AcceptFrom xs) cs → Are (AcceptFrom (xs ++ ys)) cs
are_more xs ys cs are = All-weaker (λ (c : Session). AcceptFrom xs c.id c.from) (λ (c : Session). AcceptFrom (xs ++ ys) c.id c.from) (λ c is. accept_left xs ys c.id c.from is) cs are

pub knows_more : (xs ys : List HostCall) (core : PacedHostCore) (cs : List Session) → Knows xs core cs → Knows (xs ++ ys) core cs
knows_more xs ys core cs k = record { sessions = are_more xs ys cs k.sessions; came = λ a is. accept_left xs ys a.id a.from (k.came a is) }

-- after a turn
pub knows_turned : (xs ys : List HostCall) (old new : PacedHostCore) (cs : List Session)
    → ((a : Accepted) → new.came ≡ Some (Cames.Accepted a) → (old.came ≡ Some (Cames.Accepted a)) ⊎ AcceptFrom ys a.id a.from) → Knows xs old cs → Knows (xs ++ ys) new cs
knows_turned xs ys old new cs notes k = record {
  sessions = are_more xs ys cs k.sessions;
  came = λ a is. elim (notes a is) [ inl was ↦ accept_left xs ys a.id a.from (k.came a was) | inr by ↦ accept_right xs ys a.id a.from by ];
}

-- after what it heard is noted
pub knows_noted : (xs : List HostCall) (b once : Bool) (old new : PacedHostCore) (cs cs' : List Session) → NotesIf b once old new cs cs' → Knows xs old cs → Knows xs new cs'
knows_noted xs b once old new cs cs' n k = record { sessions = notes_if (AcceptFrom xs) b once old new cs cs' n k.came k.sessions; came = by b n }
  where
    by : (b : Bool) → NotesIf b once old new cs cs' → (a : Accepted) → new.came ≡ Some (Cames.Accepted a) → AcceptFrom xs a.id a.from
    by true n a is = absurd (cc (sym (ap (λ (c : PacedHostCore). c.came) n.0) ∙ is))
    by false n a is = k.came a (sym (ap (λ (c : PacedHostCore). c.came) n.0) ∙ is)

-- what the core notes stays
pub knows_same : (xs : List HostCall) (old new : PacedHostCore) (cs cs' : List Session) → new.came ≡ old.came → (Are (AcceptFrom xs) cs → Are (AcceptFrom xs) cs') → Knows xs old cs → Knows xs new cs'
knows_same xs old new cs cs' same keeps k = record { sessions = keeps k.sessions; came = λ a is. k.came a (sym same ∙ is) }

tends_on_came : (n : ℕ) (once : Bool) (old new : PacedHostCore) (cs cs' : List Session) (ns ms : ListenerCounts) → TendsOn n once old new cs cs' ns ms → new.came ≡ old.came
tends_on_came zero once old new cs cs' ns ms t = ap (λ (c : PacedHostCore). c.came) t.0
tends_on_came (suc n) once old new cs cs' ns ms t = ap (λ (c : PacedHostCore). c.came) t.4.core ∙ tends_on_came n once old t.0 cs t.1 ns t.2 t.3

pub tidies_came : (once : Bool) (old new : PacedHostCore) (cs cs' : List Session) (ns ms : ListenerCounts) (stop : Option ListenOutcome) → Tidies once old new cs cs' ns ms stop → new.came ≡ old.came
tidies_came once old new cs cs' ns ms None t = tends_on_came t.0 once old new cs cs' ns ms t.2
tidies_came once old new cs cs' ns ms (Some stop) t = ap (λ (c : PacedHostCore). c.came) t.6.core ∙ tends_on_came t.0 once old t.2 cs t.3 ns t.4 t.5
