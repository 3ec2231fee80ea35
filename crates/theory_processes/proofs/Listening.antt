-- The steps of a listening host, as calls.
use Rattle.std.proofs.Common.{◌≡◌, ◌≢◌, ◌++◌, ◌<◌, ◌≤◌, ℕ, zero, suc, Bool, true, false, not, is_some, ◌&&◌, ◌||◌, List, [], ◌∷◌, map, Option, None, Some, refl, sym, ◌∙◌, inl, inr, ap, subst}
use Rattle.std.specs.Prelude.{All, IfSome, MatchOption, flat_map, position, remove, slice_get}
use Rattle.std.proofs.lemmas.Bool.{cases_eq}
use Rattle.std.proofs.lemmas.Grind.{flat_map-append}
use Rattle.std.proofs.lemmas.List.{append-nil, append_assoc}
use Rattle.std.specs.List.{list_any}
use Rattle.std.proofs.lemmas.List.Elements.{All-append, All-cons, All-head, All-nil, All-push, All-tail, All-weaker}
use Rattle.ipx_carrier.specs.Turns.{Peers, Turn}
use Rattle.ipx_wire.specs.declared.address.Address.{Address}
use Rattle.ipx_wire.specs.declared.address.Network.{Network}
use Rattle.ipx_wire.specs.declared.address.Socket.{Socket}
use Rattle.ipx_config.specs.declared.host.HostConfig.{HostConfig}
use Rattle.spx_link.specs.Limits.{most_units}
use Rattle.spx_messages.specs.EndpointView.{EndpointView, buffers_at, buffers_in, held_at}
use Rattle.ipx_sockets.specs.PortTurns.{HostPort}
use Rattle.ipx_host.specs.HostPorts.{IsOpened}
use Rattle.ipx_host.specs.Hosting.{HearsAndNotesAll, Host, ListensWell, MovesSome, NotesIf, Serves, StepView, Steps, StepsTo, StepsWithoutStop, WriterBreaksOff, WritesAndPasses, end_of, takes_of}
use Rattle.ipx_host.specs.Passing.{PassesEach, Take, takes_each, takes_from}
use Rattle.ipx_host.specs.Sessions.{Admits, Asks, DoesNoted, Evicts, KeepsHeard, LetsLinkGo, LetsLinksGo, has_spoken, is_at_limit, is_first_own, is_of_node, is_to_go, is_unanswered, is_unheard_of, place_of_any, place_of_own, place_of_own_unanswered, place_to_free}
use Rattle.ipx_host.specs.SessionLogs.{ListenerCounts}
use Rattle.ipx_host.specs.Tending.{DoesAction, TendsFirst, TendsOn, Tidies}
use Rattle.ipx_host.specs.Turning.{Around, DrivesTurn}
use Rattle.ipx_host.specs.declared.listening.ListenOutcome.{ListenOutcome}
use Rattle.ipx_host.specs.declared.listening.ListenOutcome.TheVariants.{Ended, Lost, Unwritten, Unwaited}
use Rattle.ipx_host.specs.declared.paced_host_core.Arrival.{Arrival}
use Rattle.ipx_host.specs.declared.paced_host_core.Arrival.TheVariants as Cames
use Rattle.ipx_host.specs.declared.paced_host_core.PacedHostCore.{PacedHostCore}
use Rattle.ipx_host.specs.declared.sessions.Session.{Session}
use Rattle.ipx_host.specs.declared.sessions.SessionAction.{SessionAction}
use Rattle.ipx_host.specs.declared.sessions.SessionAction.TheVariants as ActionsOfSessions
use Rattle.theory_processes.specs.HostCalls.{AsksAgain, Begins, Closes, Dials, DoesHostCall, Fails, Gives, HandsIn, Hears, HostCall, Paces, Releases, Takes}
use Rattle.theory_processes.specs.Loops.{HostRuns}
use Rattle.theory_processes.specs.BetweenTurns.{TakesAre, message_of, take_call}
use Rattle.theory_processes.specs.ListeningCalls.{IsOfListener, ListensByCalls, ListensWellByCalls, take_in}
use Rattle.theory_processes.specs.PortCalls.{PassThrough}
use Rattle.theory_processes.specs.TurnCalls.{AcceptFrom, IsOfTurn, SameRules, paced_id}
use Rattle.theory_processes.proofs.Accepting.{Are, IsPlaceIn, Knows, all_of_heard, are_more, found_place, from_one, knows_more, knows_noted, knows_same, knows_turned, moves as keeps_moved, tidies as keeps_tidied, tidies_came}
use Rattle.theory_processes.proofs.Taking.{either, passes}
use Rattle.theory_processes.proofs.HostTurning.{Turned, host_turn, runs_more}
use Rattle.theory_processes.proofs.Through.{AreSilent, kept, rules_after, silent_more, silent_takes, through_more, turn_through}
use Rattle.theory_processes.proofs.Working.{probes, releases}

-- ---- calls between turns, one list after another

record Quietly (old new : EndpointView) (takes : List Take) : Type 0 where
  pub calls : List HostCall
  pub runs : HostRuns calls old new
  pub kinds : All IsOfListener calls
  pub took : flat_map take_in calls ≡ takes
  pub silent : AreSilent calls

nothing : (old new : EndpointView) → new ≡ old → Quietly old new []
nothing old new same = record { calls = []; runs = same; kinds = All-nil IsOfListener; took = refl; silent = (refl, refl) }

after : (x y z : EndpointView) (ts us : List Take) → Quietly x y ts → Quietly y z us → Quietly x z (ts ++ us)
after x y z ts us a b = record {
  calls = a.calls ++ b.calls;
  runs = runs_more a.calls b.calls x y z a.runs b.runs;
  kinds = All-append IsOfListener a.calls b.calls a.kinds b.kinds;
  took = flat_map-append take_in a.calls b.calls ∙ ap (λ l. l ++ flat_map take_in b.calls) a.took ∙ ap (λ l. ts ++ l) b.took;
  silent = silent_more a.calls b.calls a.silent b.silent;
}

-- ---- a turn

of_turn : (paced : Option ℕ) (c : HostCall) → IsOfTurn paced c → IsOfListener c × (take_in c ≡ [])
of_turn paced (Hears source bytes now answer) is = (tt, refl)
of_turn paced (Gives now given) is = (tt, refl)
of_turn paced (Dials socket to buffers now j) is = absurd is
of_turn paced (HandsIn j m) is = absurd is
of_turn paced (Closes j) is = absurd is
of_turn paced (Takes j answer) is = absurd is
of_turn paced (Paces j window manual) is = (tt, refl)
of_turn paced (AsksAgain j place) is = (tt, refl)
of_turn paced (Releases j) is = (tt, refl)
of_turn paced (Begins socket buffers) is = absurd is
of_turn paced Fails is = (tt, refl)

of_turns : (paced : Option ℕ) (calls : List HostCall) → All (IsOfTurn paced) calls → All IsOfListener calls × (flat_map take_in calls ≡ [])
of_turns paced [] all = (All-nil IsOfListener, refl)
of_turns paced (c ∷ calls) all =
    let first = of_turn paced c (All-head (IsOfTurn paced) c calls all) in
    let rest : All IsOfListener calls × (flat_map take_in calls ≡ []) = of_turns paced calls (All-tail (IsOfTurn paced) c calls all) in
    (All-cons IsOfListener c calls first.0 rest.0, ap (λ l. l ++ flat_map take_in calls) first.1 ∙ rest.1)

-- ---- links are released

fails : (old new : EndpointView) → DoesHostCall Fails old new → Quietly old new []
fails old new d = record { calls = Fails ∷ []; runs = (new, d, refl); kinds = All-cons IsOfListener Fails [] tt (All-nil IsOfListener); took = refl; silent = (refl, refl) }

lets_go : (old new : EndpointView) (id : ℕ) → LetsLinkGo old new id → Quietly old new []
lets_go old new id l = elim (releases old new id l) [
  | inl gone ↦ record { calls = Releases id ∷ []; runs = (new, gone, refl); kinds = All-cons IsOfListener (Releases id) [] tt (All-nil IsOfListener); took = refl; silent = (refl, refl) }
  | inr none ↦ fails old new none
]

lets_all_go : (cs : List Session) (old new : EndpointView) → LetsLinksGo cs old new → Quietly old new []
lets_all_go [] old new l = nothing old new l
lets_all_go (c ∷ cs) old new l = after old l.0 new [] [] (lets_go old l.0 c.id l.1) (lets_all_go cs l.0 new l.2)

-- ---- what is noted of a datagram

no_place : (cs : List Session) → IsPlaceIn cs None
no_place cs place is = absurd (cc is)

own_place : (once : Bool) (own : Network) (e : EndpointView) (now : ℕ) (from : Address) (cs : List Session) → IsPlaceIn cs (place_of_own once own e now from cs)
own_place once own e now from cs =
    let P = IsPlaceIn cs in
    let unanswered : P (place_of_own_unanswered own now from cs) = found_place (λ c. is_unanswered now c && is_of_node own from c) cs in
    let silent : P (position (is_first_own own e now from cs) cs) = found_place (is_first_own own e now from cs) cs in
    either P (not (is_at_limit own from cs)) None _ (no_place cs)
    (either P (once || is_some (place_of_own_unanswered own now from cs)) (place_of_own_unanswered own now from cs) _ unanswered
    (either P (list_any (is_unheard_of own from) cs) None _ (no_place cs) silent))

free_place : (once : Bool) (own : Network) (e : EndpointView) (now : ℕ) (asker : Address) (cs : List Session) → IsPlaceIn cs (place_to_free once own e now asker cs)
free_place once own e now asker cs =
    let P = IsPlaceIn cs in
    let any : P (place_of_any once own e now asker cs) =
    either P (once || is_some (position (is_unanswered now) cs)) (position (is_unanswered now) cs) _ (found_place (is_unanswered now) cs) (found_place (is_to_go own e now asker cs) cs) in
    either P (is_at_limit own asker cs) (place_of_own once own e now asker cs) (place_of_any once own e now asker cs) (own_place once own e now asker cs) any

evicts : (found : Option ℕ) (old new : EndpointView) (cs cs' : List Session) → IsPlaceIn cs found → Evicts found old new cs cs' → Quietly old new []
evicts None old new cs cs' in' e = nothing old new e.1
evicts (Some place) old new cs cs' in' e = by (slice_get cs place) (in' place refl) e.1
  where
    by : (o : Option Session) → o ≢ None → IfSome o (λ c. LetsLinkGo old new c.id) → Quietly old new []
    by None there l = absurd (there refl)
    by (Some c) there l = lets_go old new c.id l

admits : (once : Bool) (c : Session) (old new : EndpointView) (cs cs' : List Session) → Admits once c old new cs cs' → Quietly old new []
admits once c old new cs cs' a = elim a [ inl held ↦ nothing old new held.2 | inr turned_away ↦ lets_go old new c.id turned_away.2 ]

keeps_heard : (once : Bool) (old new : EndpointView) (cs cs' : List Session) → KeepsHeard once old new cs cs' → Quietly old new []
keeps_heard false old new cs cs' k = nothing old new k.1
keeps_heard true old new cs cs' k = by (position has_spoken cs) k
  where
    by : (o : Option ℕ) → MatchOption o ((cs' ≡ cs) × (new ≡ old)) (λ place. IfSome (slice_get cs place) (λ c. cs' ≡ c ∷ []) × LetsLinksGo (remove cs place) old new) → Quietly old new []
    by None k = nothing old new k.1
    by (Some place) k = lets_all_go (remove cs place) old new k.1

noted : (once : Bool) (came : Option Arrival) (now : ℕ) (old new : EndpointView) (cs cs' : List Session) → DoesNoted once came now old new cs cs' → Quietly old new []
noted once None now old new cs cs' d = nothing old new d.1
noted once (Some (Cames.Heard id)) now old new cs cs' d = keeps_heard once old new _ cs' d
noted once (Some (Cames.Accepted a)) now old new cs cs' d =
    after old d.0 new [] [] (evicts (place_of_own once old.network old now a.from cs) old d.0 cs d.1 (own_place once old.network old now a.from cs) d.2) (admits once _ d.0 new d.1 cs' d.3)
noted once (Some (Cames.NoRoom asker)) now old new cs cs' d = evicts (place_to_free once old.network old now asker cs) old new cs cs' (free_place once old.network old now asker cs) d

notes_if : (b once : Bool) (old new : PacedHostCore) (cs cs' : List Session) → NotesIf b once old new cs cs' → Quietly old.endpoint new.endpoint []
notes_if true once old new cs cs' n = noted once old.came old.moment old.endpoint new.endpoint cs cs' n.1
notes_if false once old new cs cs' n = nothing old.endpoint new.endpoint (ap (λ (c : PacedHostCore). c.endpoint) n.0)

-- ---- what passes

of_takes : (ts : List Take) → All IsOfListener (map take_call ts ++ Fails ∷ []) × (flat_map take_in (map take_call ts ++ Fails ∷ []) ≡ ts)
of_takes [] = (All-cons IsOfListener Fails [] tt (All-nil IsOfListener), refl)
of_takes (t ∷ ts) = let rest = of_takes ts in (All-cons IsOfListener (take_call t) (map take_call ts ++ Fails ∷ []) tt rest.0, ap (λ l. t ∷ l) rest.1)

took : (ts : List Take) (old new : EndpointView) → TakesAre ts old new → Quietly old new ts
took ts old new r = let q = of_takes ts in record { calls = map take_call ts ++ Fails ∷ []; runs = r; kinds = q.0; took = q.1; silent = silent_takes ts }

passes_each : (old new : EndpointView) (waiting left : List ℕ) (written writes : Option (List ℕ)) (cs cs' : List Session) → (p : PassesEach old new waiting left written writes cs cs')
    → Quietly old new (takes_each old new waiting left written writes cs cs' p)
passes_each old new waiting left written writes [] cs' p = nothing old new p.1
passes_each old new waiting left written writes (c ∷ cs) cs' p =
    after old p.0 new (takes_from (held_at old c.id) (held_at p.0 c.id) waiting p.1 written p.2 c p.3 p.6.from) (takes_each p.0 new p.1 left p.2 writes cs p.4 p.7)
    (took (takes_from (held_at old c.id) (held_at p.0 c.id) waiting p.1 written p.2 c p.3 p.6.from) old p.0 (passes old p.0 waiting p.1 written p.2 c p.3 p.6)) (passes_each p.0 new p.1 left p.2 writes cs p.4 p.7)

writes_and_passes : (old new : PacedHostCore) (cs cs' : List Session) (waiting left : List ℕ) (written writes : Option (List ℕ)) (ts : List Take) → WritesAndPasses old new cs cs' waiting left written writes ts
    → Quietly old.endpoint new.endpoint ts
writes_and_passes old new cs cs' waiting left written writes ts w =
    subst (Quietly old.endpoint new.endpoint) (sym w.made) (passes_each old.endpoint new.endpoint w.between left w.writing writes cs cs' w.passes)

moves : (old new : PacedHostCore) (cs cs' : List Session) (waiting left : List ℕ) (written writes : Option (List ℕ)) (ts : List Take) → MovesSome old new cs cs' waiting left written writes ts
    → Quietly old.endpoint new.endpoint ts
moves old new cs cs' waiting left written writes ts m = writes_and_passes old new m.front m.front' waiting left written writes ts m.moves

-- ---- what is tended

probed : (now : ℕ) (old new : EndpointView) (c c' : Session) → Asks now old new c c' → Quietly old new []
probed now old new c c' a = elim (probes now old new c c' a) [
  | inl asked ↦ record {
    calls = HandsIn c.id (message_of []) ∷ [];
    runs = (new, asked, refl);
    kinds = All-cons IsOfListener (HandsIn c.id (message_of [])) [] refl (All-nil IsOfListener);
    took = refl;
    silent = (refl, refl);
  }
  | inr refused ↦ fails old new refused
]

does_action : (once : Bool) (now : ℕ) (c : Session) (place : ℕ) (fate : SessionAction) (old new : EndpointView) (cs cs' : List Session) (ns ms : ListenerCounts) (stop : Option ListenOutcome)
    → DoesAction once now c place fate old new cs cs' ns ms stop → Quietly old new []
does_action once now c place ActionsOfSessions.Stays old new cs cs' ns ms stop d = nothing old new d.0
does_action once now c place ActionsOfSessions.Asks old new cs cs' ns ms stop d = probed now old new c d.0 d.1
does_action once now c place ActionsOfSessions.Over old new cs cs' ns ms stop d = lets_go old new c.id d.0
does_action once now c place ActionsOfSessions.GivenUp old new cs cs' ns ms stop d = lets_go old new c.id d.0

tends_first : (once : Bool) (old new : PacedHostCore) (cs cs' : List Session) (ns ms : ListenerCounts) (stop : Option ListenOutcome) → TendsFirst once old new cs cs' ns ms stop → Quietly old.endpoint new.endpoint []
tends_first once old new cs cs' ns ms stop t = does_action once old.moment t.session t.place t.tends.0 old.endpoint new.endpoint cs cs' ns ms stop t.tends.2

tends_on : (n : ℕ) (once : Bool) (old new : PacedHostCore) (cs cs' : List Session) (ns ms : ListenerCounts) → TendsOn n once old new cs cs' ns ms → Quietly old.endpoint new.endpoint []
tends_on zero once old new cs cs' ns ms t = nothing old.endpoint new.endpoint (ap (λ (c : PacedHostCore). c.endpoint) t.0)
tends_on (suc n) once old new cs cs' ns ms t = after old.endpoint t.0.endpoint new.endpoint [] [] (tends_on n once old t.0 cs t.1 ns t.2 t.3) (tends_first once t.0 new t.1 cs' t.2 ms None t.4)

tidies : (once : Bool) (old new : PacedHostCore) (cs cs' : List Session) (ns ms : ListenerCounts) (stop : Option ListenOutcome) → Tidies once old new cs cs' ns ms stop → Quietly old.endpoint new.endpoint []
tidies once old new cs cs' ns ms None t = tends_on t.0 once old new cs cs' ns ms t.2
tidies once old new cs cs' ns ms (Some stop) t = after old.endpoint t.2.endpoint new.endpoint [] [] (tends_on t.0 once old t.2 cs t.3 ns t.4 t.5) (tends_first once t.2 new t.3 cs' t.4 ms (Some stop) t.6)

-- ---- the rules of the core stay

unchanged : (old new : PacedHostCore) → new ≡ old → SameRules old new
unchanged old new is = record { network = ap (λ (c : PacedHostCore). c.network) is; from = ap (λ (c : PacedHostCore). c.from) is; paced = ap (λ (c : PacedHostCore). paced_id c.paced) is }

noted_rules : (b once : Bool) (old new : PacedHostCore) (cs cs' : List Session) → NotesIf b once old new cs cs' → SameRules old new
noted_rules true once old new cs cs' n = record { network = ap (λ (c : PacedHostCore). c.network) n.0; from = ap (λ (c : PacedHostCore). c.from) n.0; paced = ap (λ (c : PacedHostCore). paced_id c.paced) n.0 }
noted_rules false once old new cs cs' n = unchanged old new n.0

tends_on_rules : (n : ℕ) (once : Bool) (old new : PacedHostCore) (cs cs' : List Session) (ns ms : ListenerCounts) → TendsOn n once old new cs cs' ns ms → SameRules old new
tends_on_rules zero once old new cs cs' ns ms t = unchanged old new t.0
tends_on_rules (suc n) once old new cs cs' ns ms t = rules_after old t.0 new (tends_on_rules n once old t.0 cs t.1 ns t.2 t.3) (kept t.0 new t.4.core)

tidies_rules : (once : Bool) (old new : PacedHostCore) (cs cs' : List Session) (ns ms : ListenerCounts) (stop : Option ListenOutcome) → Tidies once old new cs cs' ns ms stop → SameRules old new
tidies_rules once old new cs cs' ns ms None t = tends_on_rules t.0 once old new cs cs' ns ms t.2
tidies_rules once old new cs cs' ns ms (Some stop) t = rules_after old t.2 new (tends_on_rules t.0 once old t.2 cs t.3 ns t.4 t.5) (kept t.2 new t.6.core)

-- ---- steps

knows_both : (before xs ys : List HostCall) (core : PacedHostCore) (cs : List Session) → Knows ((before ++ xs) ++ ys) core cs → Knows (before ++ (xs ++ ys)) core cs
knows_both before xs ys core cs k = subst (λ l. Knows l core cs) (append_assoc before xs ys) k

takes_more : (xs ys : List StepView) → takes_of (xs ++ ys) ≡ takes_of xs ++ takes_of ys
takes_more [] ys = refl
takes_more (x ∷ xs) ys = ap (λ l. x.takes ++ l) (takes_more xs ys) ∙ sym (append_assoc x.takes (takes_of xs) (takes_of ys))

one_more : (before : List StepView) (now : StepView) (steps : List StepView) → steps ≡ before ++ now ∷ [] → takes_of before ++ now.takes ≡ takes_of steps
one_more before now steps is = ap (λ l. takes_of before ++ l) (sym (append-nil now.takes)) ∙ sym (takes_more before (now ∷ [])) ∙ ap takes_of (sym is)

module _ (rules : PacedHostCore) where
  -- calls of a listening host that passed through its port. The rules of the core stay, and the calls accepted the
  -- connections that are held
  pub record Passes (old new : PacedHostCore) (cs cs' : List Session) (p q : HostPort) (takes : List Take) : Type 0 where
    pub by : ListensByCalls old.endpoint new.endpoint takes
    pub turns : List Turn
    pub through : PassThrough rules turns by.calls old.endpoint new.endpoint p q
    pub same : SameRules rules new
    pub keeps : (before : List HostCall) → Knows before old cs → Knows (before ++ by.calls) new cs'

  both : (x y z : PacedHostCore) (cs ds es : List Session) (p q r : HostPort) (ts us : List Take) → Passes x y cs ds p q ts → Passes y z ds es q r us → Passes x z cs es p r (ts ++ us)
  both x y z cs ds es p q r ts us a b = record {
    by = record {
      calls = a.by.calls ++ b.by.calls;
      runs = runs_more a.by.calls b.by.calls x.endpoint y.endpoint z.endpoint a.by.runs b.by.runs;
      kinds = All-append IsOfListener a.by.calls b.by.calls a.by.kinds b.by.kinds;
      took = flat_map-append take_in a.by.calls b.by.calls ∙ ap (λ l. l ++ flat_map take_in b.by.calls) a.by.took ∙ ap (λ l. ts ++ l) b.by.took;
    };
    turns = a.turns ++ b.turns;
    through = through_more rules a.turns b.turns a.by.calls b.by.calls x.endpoint y.endpoint z.endpoint p q r a.through b.through;
    same = b.same;
    keeps = λ before k. knows_both before a.by.calls b.by.calls z es (b.keeps (before ++ a.by.calls) (a.keeps before k));
  }

  -- between turns the port stays
  between : (old new : PacedHostCore) (cs cs' : List Session) (p : HostPort) (takes : List Take) → SameRules rules new → Quietly old.endpoint new.endpoint takes
      → ((xs : List HostCall) → Knows xs old cs → Knows xs new cs') → Passes old new cs cs' p p takes
  between old new cs cs' p takes same c keeps = record {
    by = record { calls = c.calls; runs = c.runs; kinds = c.kinds; took = c.took };
    turns = [];
    through = (refl, c.runs, c.silent.0, c.silent.1);
    same = same;
    keeps = λ before k. knows_more before c.calls new cs' (keeps before k);
  }

  -- a step, whose calls accepted the connections that were there
  pub record Stepped (old new : PacedHostCore) (cs cs' there : List Session) (p q : HostPort) (takes : List Take) : Type 0 where
    pub passes : Passes old new cs cs' p q takes
    pub accepted : (before : List HostCall) → Knows before old cs → Are (AcceptFrom (before ++ passes.by.calls)) there

  then_moves : (old heard new : PacedHostCore) (cs there cs' : List Session) (p q : HostPort) (takes : List Take) → Passes old heard cs there p q [] → SameRules heard new → Quietly heard.endpoint new.endpoint takes
      → ((xs : List HostCall) → Knows xs heard there → Knows xs new cs') → Stepped old new cs cs' there p q takes
  then_moves old heard new cs there cs' p q takes a r c keeps = record {
    passes = record {
      by = record {
        calls = a.by.calls ++ c.calls;
        runs = runs_more a.by.calls c.calls old.endpoint heard.endpoint new.endpoint a.by.runs c.runs;
        kinds = All-append IsOfListener a.by.calls c.calls a.by.kinds c.kinds;
        took = flat_map-append take_in a.by.calls c.calls ∙ ap (λ l. l ++ flat_map take_in c.calls) a.by.took ∙ c.took;
      };
      turns = a.turns ++ [];
      through = through_more rules a.turns [] a.by.calls c.calls old.endpoint heard.endpoint new.endpoint p q q a.through (refl, c.runs, c.silent.0, c.silent.1);
      same = rules_after rules heard new a.same r;
      keeps = λ before k. knows_both before a.by.calls c.calls new cs' (knows_more (before ++ a.by.calls) c.calls new cs' (keeps (before ++ a.by.calls) (a.keeps before k)));
    };
    accepted = λ before k. subst (λ l. Are (AcceptFrom l) there) (append_assoc before a.by.calls c.calls) (are_more (before ++ a.by.calls) c.calls there (a.keeps before k).sessions);
  }

  -- steps, one after another
  pub record Run (old new : PacedHostCore) (cs cs' : List Session) (p q : HostPort) (steps : List StepView) : Type 0 where
    pub passes : Passes old new cs cs' p q (takes_of steps)
    pub accepted : (before : List HostCall) → Knows before old cs → All (λ (s : StepView). Are (AcceptFrom (before ++ passes.by.calls)) s.there) steps

  no_step : (core : PacedHostCore) (cs : List Session) (p : HostPort) → SameRules rules core → Run core core cs cs p p []
  no_step core cs p same =
      let b : Passes core core cs cs p p [] = between core core cs cs p [] same (nothing core.endpoint core.endpoint refl) (λ xs k. k) in
      record { passes = b; accepted = λ before k. All-nil (λ (s : StepView). Are (AcceptFrom (before ++ b.by.calls)) s.there) }

  one_step : (x y z : PacedHostCore) (cs ds es : List Session) (p q r : HostPort) (before : List StepView) (now : StepView) (steps : List StepView) → steps ≡ before ++ now ∷ []
      → Run x y cs ds p q before → Stepped y z ds es now.there q r now.takes → Run x z cs es p r steps
  one_step x y z cs ds es p q r before now steps is a b =
      let xs : List HostCall = a.passes.by.calls in
      let ys : List HostCall = b.passes.by.calls in
      record {
        passes = record {
          by = record {
            calls = xs ++ ys;
            runs = runs_more xs ys x.endpoint y.endpoint z.endpoint a.passes.by.runs b.passes.by.runs;
            kinds = All-append IsOfListener xs ys a.passes.by.kinds b.passes.by.kinds;
            took = flat_map-append take_in xs ys ∙ ap (λ l. l ++ flat_map take_in ys) a.passes.by.took ∙ ap (λ l. takes_of before ++ l) b.passes.by.took ∙ one_more before now steps is;
          };
          turns = a.passes.turns ++ b.passes.turns;
          through = through_more rules a.passes.turns b.passes.turns xs ys x.endpoint y.endpoint z.endpoint p q r a.passes.through b.passes.through;
          same = b.passes.same;
          keeps = λ pre k. knows_both pre xs ys z es (b.passes.keeps (pre ++ xs) (a.passes.keeps pre k));
        };
        accepted = λ pre k.
            let Q : StepView → Type 0 = λ s. Are (AcceptFrom (pre ++ (xs ++ ys))) s.there in
            let earlier : All Q before = All-weaker (λ (s : StepView). Are (AcceptFrom (pre ++ xs)) s.there) Q
            (λ s are. subst (λ l. Are (AcceptFrom l) s.there) (append_assoc pre xs ys) (are_more (pre ++ xs) ys s.there are)) before (a.accepted pre k) in
            let last : Q now = subst (λ l. Are (AcceptFrom l) now.there) (append_assoc pre xs ys) (b.accepted (pre ++ xs) (a.passes.keeps pre k)) in
            subst (All Q) (sym is) (All-push Q before now earlier last);
      }

module _ {R : Type 0} (rules : PacedHostCore) (once : Bool) (peers : Peers) where
  turned : (old new : PacedHostCore) (around around' : Around R) (cs : List Session) → SameRules rules old → Turned DrivesTurn around around' old new → Passes rules old new cs cs around.port around'.port []
  turned old new around around' cs same t =
      let q = of_turns (paced_id old.paced) t.calls t.kinds in
      record {
        by = record { calls = t.calls; runs = t.runs; kinds = q.0; took = q.1 };
        turns = t.turn ∷ [];
        through = turn_through rules old new around around' same t;
        same = rules_after rules old new same t.rules;
        keeps = λ before k. knows_turned before t.calls old new cs t.notes k;
      }

  hears_and_notes : (old new : PacedHostCore) (around around' : Around R) (cs cs' : List Session) (ns ms : ListenerCounts) → SameRules rules old → HearsAndNotesAll around around' old new cs cs' ns ms once DrivesTurn peers
      → Passes rules old new cs cs' around.port around'.port []
  hears_and_notes old new around around' cs cs' ns ms same h =
      let first = turned old h.seen around around' cs same (host_turn DrivesTurn peers around around' old h.seen h.turn h.turned) in
      both rules old h.seen new cs cs cs' around.port around'.port around'.port [] [] first
      (between rules h.seen new cs cs' around'.port [] (rules_after rules h.seen new first.same (noted_rules h.turn.heard once h.seen new cs cs' h.noted)) (notes_if h.turn.heard once h.seen new cs cs' h.noted)
      (λ xs k. knows_noted xs h.turn.heard once h.seen new cs cs' h.noted k))

  step : (old new : Host (Around R)) (stop : Option ListenOutcome) (view : StepView) → SameRules rules old.core → Steps old new once stop DrivesTurn peers view
      → Stepped rules old.core new.core old.sessions new.sessions view.there old.around.port new.around.port view.takes
  step old new stop view same s =
      let m = s.moves.0 in
      then_moves rules old.core s.heard new.core old.sessions view.there new.sessions old.around.port new.around.port view.takes
      (hears_and_notes old.core s.heard old.around new.around old.sessions view.there old.counts s.counted same s.hears)
      (rules_after s.heard s.moved new.core (kept s.heard s.moved m.moves.core) (tidies_rules once s.moved new.core s.still new.sessions s.counted new.counts stop s.tidied))
      (subst (Quietly s.heard.endpoint new.core.endpoint) (append-nil view.takes)
      (after s.heard.endpoint s.moved.endpoint new.core.endpoint view.takes [] (moves s.heard s.moved view.there s.still old.left new.left old.written new.written view.takes m)
      (tidies once s.moved new.core s.still new.sessions s.counted new.counts stop s.tidied)))
      (λ xs k. knows_same xs s.moved new.core s.still new.sessions (tidies_came once s.moved new.core s.still new.sessions s.counted new.counts stop s.tidied)
      (keeps_tidied (AcceptFrom xs) once s.moved new.core s.still new.sessions s.counted new.counts stop s.tidied)
      (knows_same xs s.heard s.moved view.there s.still (ap (λ (c : PacedHostCore). c.came) m.moves.core) (keeps_moved (AcceptFrom xs) s.heard s.moved view.there s.still old.left new.left old.written new.written view.takes m) k))

  broken : (old new : Host (Around R)) (view : StepView) → SameRules rules old.core → WriterBreaksOff old new once DrivesTurn peers view
      → Stepped rules old.core new.core old.sessions new.sessions view.there old.around.port new.around.port view.takes
  broken old new view same s =
      then_moves rules old.core s.heard new.core old.sessions view.there new.sessions old.around.port new.around.port view.takes
      (hears_and_notes old.core s.heard old.around new.around old.sessions view.there old.counts new.counts same s.hears)
      (kept s.heard new.core s.moves.moves.core) (moves s.heard new.core view.there new.sessions old.left new.left old.written new.written view.takes s.moves)
      (λ xs k. knows_same xs s.heard new.core view.there new.sessions (ap (λ (c : PacedHostCore). c.came) s.moves.moves.core)
      (keeps_moved (AcceptFrom xs) s.heard new.core view.there new.sessions old.left new.left old.written new.written view.takes s.moves) k)

  steps_to : (old new : Host (Around R)) (stop : Option ListenOutcome) (view : StepView) → SameRules rules old.core → StepsTo old new once stop DrivesTurn peers view
      → Stepped rules old.core new.core old.sessions new.sessions view.there old.around.port new.around.port view.takes
  steps_to old new None view same s = step old new None view same s
  steps_to old new (Some Ended) view same s = step old new (Some Ended) view same s
  steps_to old new (Some Lost) view same s = step old new (Some Lost) view same s
  steps_to old new (Some Unwritten) view same s = broken old new view same s
  steps_to old new (Some Unwaited) view same s = step old new None view same s

  steps_on : (n : ℕ) (old new : Host (Around R)) (steps : List StepView) → SameRules rules old.core → StepsWithoutStop n old new once DrivesTurn peers steps
      → Run rules old.core new.core old.sessions new.sessions old.around.port new.around.port steps
  steps_on zero old new steps same s =
      subst (λ (h : Host (Around R)). Run rules old.core h.core old.sessions h.sessions old.around.port h.around.port steps) (sym s.0)
      (subst (Run rules old.core old.core old.sessions old.sessions old.around.port old.around.port) (sym s.1) (no_step rules old.core old.sessions old.around.port same))
  steps_on (suc n) old new steps same s =
      let first = steps_on n old s.0 s.1 same s.4 in
      one_step rules old.core s.0.core new.core old.sessions s.0.sessions new.sessions old.around.port s.0.around.port new.around.port s.1 s.2 steps s.3 first (step s.0 new None s.2 first.passes.same s.5)

  pub serves : (old new : Host (Around R)) (stop : ListenOutcome) (steps : List StepView) → SameRules rules old.core → Serves old new once stop DrivesTurn peers steps
      → Run rules old.core new.core old.sessions new.sessions old.around.port new.around.port steps
  serves old new stop steps same s = elim s [
    | inl ends ↦
        let first = steps_on ends.0 old ends.1 ends.2 same ends.5 in
        one_step rules old.core ends.1.core new.core old.sessions ends.1.sessions new.sessions old.around.port ends.1.around.port new.around.port ends.2 ends.3 steps ends.4 first
        (steps_to ends.1 new (Some stop) ends.3 first.passes.same ends.6)
    | inr lost ↦ steps_on lost.1 old new steps same lost.3
  ]

-- ---- a run that ended well

-- the sockets of a new host have buffers in range, if those of its file are
in_range : (file : HostConfig) (e : EndpointView) → (0 < file.buffers) × (file.buffers ≤ most_units) → buffers_at e file.socket ≡ Some file.buffers → ((s : Socket) → s.0 ≢ file.socket.0 → buffers_at e s ≡ None)
    → (s : Socket) (n : ℕ) → buffers_at e s ≡ Some n → (0 < n) × (n ≤ most_units)
in_range file e range listens alone s n is = elim (cases_eq s.0 file.socket.0) [
  | inl here ↦
      let same : file.buffers ≡ n = (let it : Some file.buffers ≡ Some n = sym listens ∙ ap (buffers_in e.listening) (sym here) ∙ is in cc) in
      subst (λ m. (0 < m) × (m ≤ most_units)) same range
  | inr apart ↦ absurd (cc (sym (alone s apart) ∙ is))
]

pub listens_well : {R : Type 0} (file : HostConfig) (once : Bool) (written writes : Option (List ℕ)) → file.network.0 ≢ 0 → (0 < file.buffers) × (file.buffers ≤ most_units)
    → (w : ListensWell {K = Around R} file once written writes DrivesTurn) → IsOpened file None w.start.around.port → ListensWellByCalls file written writes
listens_well {R} file once written writes network range w opened =
    let b = w.begins in
    let run = serves w.start.core once w.peers w.start w.serves.0 Ended w.steps (unchanged w.start.core w.start.core refl) w.serves.1 in
    let r = run.passes in
    let known : Knows [] w.start.core w.start.sessions = record {
      sessions = subst (Are (AcceptFrom [])) (sym b.nobody) (All-nil (λ (c : Session). AcceptFrom [] c.id c.from));
      came = λ a is. absurd (cc (sym b.unasked ∙ is));
    } in
    record {
      start = w.start.core.endpoint;
      last = w.serves.0.core.endpoint;
      new = record {
        network = λ is. network (ap (λ n. n.0) (sym b.network) ∙ is);
        none = b.unlinked;
        range = in_range file w.start.core.endpoint range b.listens b.alone;
      };
      network = b.network;
      node = b.node;
      listens = b.listens;
      alone = b.alone;
      takes = takes_of w.steps;
      calls = r.by;
      id = w.id;
      of_it = w.one.of_it;
      from = w.from;
      accepted = from_one (AcceptFrom r.by.calls) w.steps w.id w.from w.one.earlier (end_of w.id) (run.accepted [] known) (all_of_heard once DrivesTurn w.peers w.start w.serves.0 Ended w.steps w.serves.1) w.one.only w.one.last;
      earlier = w.one.earlier;
      ends = w.one.last;
      no_other = w.one.no_other;
      took = w.took;
      opened = w.start.around.port;
      closed = w.serves.0.around.port;
      as_opened = opened;
      rules = w.start.core;
      allows = b.from;
      own = b.own;
      turns = r.turns;
      through = r.through;
    }
