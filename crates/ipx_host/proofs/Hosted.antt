-- What a host that listens does, one step after another.
use Rattle.std.proofs.Common.{◌≡◌, ◌≢◌, ℕ, zero, suc, ◌+◌, ◌<◌, Bool, true, false, List, [], ◌∷◌, ◌++◌, length, length-append, take, Option, Some, None, Result, Ok, Err, ◌⊎◌, inl, inr, refl, sym, ap, ◌∙◌, subst, arith, append_assoc, append-nil}
use Rattle.std.specs.Prelude.{All, IfErr, IfOk, IfSome, IsTrue, OnErr, OnOk, slice_get}
use Rattle.std.specs.Io.KnownBytes.{Appends}
use Rattle.ipx_carrier.specs.Mapping.{node_at}
use Rattle.ipx_carrier.specs.Turns.{Peers, Turn}
use Rattle.ipx_config.specs.Host.{IsHostText}
use Rattle.ipx_config.specs.Loading.{IsFileText}
use Rattle.ipx_config.specs.AllowedPeers.{named_in}
use Rattle.ipx_config.specs.declared.host.HostConfig.{HostConfig}
use Rattle.ipx_wire.specs.declared.address.Socket.{Socket}
use Rattle.spx_messages.specs.EndpointView.{EndpointView, Held, buffers_at, held_at}
use Rattle.ipx_host.specs.Hosting.{BeginsListening, HearsAndNotesAll, Host, ListensUntil, ListensWell, WritesAndPasses, MovesSome, MovesUntilFull, Serves, ServesUntil, ServesWell, StepView, Steps, StepsWithoutStop, StepsTo, WriterBreaksOff, bytes_of, host, takes_of}
use Rattle.ipx_host.specs.HostOutput.{Writes, left_of}
use Rattle.ipx_host.specs.Midway.{around_of, counts_at, listening_at}
use Rattle.ipx_host.specs.SessionLogs.{ListenerCounts, nothing_counted}
use Rattle.ipx_host.specs.declared.serving.Sessions.{Sessions}
use Rattle.ipx_host.specs.Passing.{PassesEach, PassesFrom, PassesSome, PassesUntilFull, Take, bodies_after, bodies_of, held_after, left_with, takes_after, takes_each, takes_from}
use Rattle.ipx_host.specs.ListenOutcomes.{parted, stop_status}
use Rattle.ipx_host.specs.Turning.{TakesHostTurn}
use Rattle.ipx_host.specs.Tending.{DoesAction, JustStays, Tends, TendsFirst, TendsOn, Tidies}
use Rattle.ipx_host.specs.declared.sessions.Session.{Session}
use Rattle.ipx_host.specs.declared.sessions.SessionAction.{SessionAction}
use Rattle.ipx_host.specs.declared.sessions.SessionAction.TheVariants as ActionsOfSessions
use Rattle.ipx_host.specs.declared.sessions.Phase.{Phase}
use Rattle.ipx_host.specs.declared.sessions.Phase.TheVariants as Standings
use Rattle.ipx_host.specs.declared.paced_host_core.PacedHostCore.{PacedHostCore}
use Rattle.ipx_host.specs.declared.listening.ListeningHost.{ListeningHost}
use Rattle.ipx_host.specs.declared.running_host.RunningHost.{RunningHost}
use Rattle.ipx_host.specs.declared.listening.ListenOutcome.{ListenOutcome}
use Rattle.ipx_host.specs.declared.listening.ListenOutcome.TheVariants.{Ended, Lost, Unwritten, Unwaited}
use Rattle.ipx_host.specs.declared.output.Outlet.{Outlet}
use Rattle.spx_messages.specs.Taking.{take_end}
use Rattle.ipx_host.proofs.HeardOut.{heard_out, takes_push}
use Rattle.ipx_host.proofs.Written.{writes_none, writes_on}

-- ---- one tending after another

pub some_at : (cs : List Session) (place : ℕ) → place < length cs → (c : Session) × (slice_get cs place ≡ Some c)
some_at [] place within = absurd (omega arith)
some_at (c ∷ cs) zero within = (c, refl)
some_at (c ∷ cs) (suc n) within = some_at cs n (omega arith)

pub tended_first : (once once' : Bool) (old new : PacedHostCore) (cs cs' : List Session) (ns ms : ListenerCounts) (stop : Option ListenOutcome) (place : ℕ) → once' ≡ once → place < length cs
    → All (JustStays old) (take place cs) × IfSome (slice_get cs place) (λ c. JustStays old c → ⊥)
    → IfSome (slice_get cs place) (λ c. Tends once' old c place new.endpoint cs cs' ns ms stop) → new ≡ record old { endpoint = new.endpoint }
    → TendsFirst once old new cs cs' ns ms stop
tended_first once once' old new cs cs' ns ms stop place same within first tends core =
    let at = some_at cs place within in
    let here : Tends once' old at.0 place new.endpoint cs cs' ns ms stop = subst (λ (o : Option Session). IfSome o (λ c. Tends once' old c place new.endpoint cs cs' ns ms stop)) at.1 tends in
    record {
      place = place;
      session = at.0;
      there = at.1;
      first = first.0;
      something = subst (λ (o : Option Session). IfSome o (λ c. JustStays old c → ⊥)) at.1 first.1;
      tends = subst (λ (b : Bool). Tends b old at.0 place new.endpoint cs cs' ns ms stop) same here;
      core = core;
    }

-- one more
pub tends_more : (once : Bool) (first mid new : PacedHostCore) (cs ds es : List Session) (ns ms ks : ListenerCounts) (n : ℕ) → TendsOn n once first mid cs ds ns ms → TendsFirst once mid new ds es ms ks None
    → TendsOn (n + 1) once first new cs es ns ks
tends_more once first mid new cs ds es ns ms ks n run one =
    let next : suc n ≡ n + 1 = omega arith in
    subst (λ (k : ℕ). TendsOn k once first new cs es ns ks) next (mid, ds, ms, run, one)

-- what stops a host as it is tidied is that a connection parts
abbrev pub IsParting : Option ListenOutcome → Type 0
IsParting None = Unit {0}
IsParting (Some Ended) = Unit {0}
IsParting (Some Lost) = Unit {0}
IsParting (Some Unwritten) = ⊥
IsParting (Some Unwaited) = ⊥

parts : (once : Bool) (fate : SessionAction) (phase : Phase) → IsParting (parted once fate phase)
parts false fate phase = tt
parts true fate Standings.New = tt
parts true fate Standings.NewProbed = tt
parts true ActionsOfSessions.Stays Standings.Open = tt
parts true ActionsOfSessions.Asks Standings.Open = tt
parts true ActionsOfSessions.Over Standings.Open = tt
parts true ActionsOfSessions.GivenUp Standings.Open = tt
parts true ActionsOfSessions.Stays Standings.KeepaliveSent = tt
parts true ActionsOfSessions.Asks Standings.KeepaliveSent = tt
parts true ActionsOfSessions.Over Standings.KeepaliveSent = tt
parts true ActionsOfSessions.GivenUp Standings.KeepaliveSent = tt
parts true ActionsOfSessions.Stays Standings.Ended = tt
parts true ActionsOfSessions.Asks Standings.Ended = tt
parts true ActionsOfSessions.Over Standings.Ended = tt
parts true ActionsOfSessions.GivenUp Standings.Ended = tt

does_part : (once : Bool) (now : ℕ) (c : Session) (place : ℕ) (fate : SessionAction) (old new : EndpointView) (cs cs' : List Session) (ns ms : ListenerCounts) (stop : Option ListenOutcome)
    → DoesAction once now c place fate old new cs cs' ns ms stop → IsParting stop
does_part once now c place ActionsOfSessions.Stays old new cs cs' ns ms stop does = subst IsParting (sym does.2) tt
does_part once now c place ActionsOfSessions.Asks old new cs cs' ns ms stop does = subst IsParting (sym does.3) tt
does_part once now c place ActionsOfSessions.Over old new cs cs' ns ms stop does = subst IsParting (sym does.2) (parts once ActionsOfSessions.Over c.phase)
does_part once now c place ActionsOfSessions.GivenUp old new cs cs' ns ms stop does = subst IsParting (sym does.2) (parts once ActionsOfSessions.GivenUp c.phase)

pub tidied_parts : (once : Bool) (old new : PacedHostCore) (cs cs' : List Session) (ns ms : ListenerCounts) (stop : ListenOutcome) → Tidies once old new cs cs' ns ms (Some stop) → IsParting (Some stop)
tidied_parts once old new cs cs' ns ms stop tidied =
    let last = tidied.6 in
    does_part once tidied.2.moment last.session last.place last.tends.0 tidied.2.endpoint new.endpoint tidied.3 cs' tidied.4 ms (Some stop) last.tends.2

-- ---- what passes

pub bodies_append : (xs ys : List Take) → bodies_of (xs ++ ys) ≡ bodies_of xs ++ bodies_of ys
bodies_append [] ys = refl
bodies_append (t ∷ ts) ys =
    ap (λ l. left_with t.gave [] ++ l) (bodies_append ts ys) ∙ sym (append_assoc (left_with t.gave []) (bodies_of ts) (bodies_of ys))

-- what so many takes gave
bodies_are : (id n : ℕ) (h : Held) → bodies_of (takes_after id n h) ≡ bodies_after n h
bodies_are id zero h = refl
bodies_are id (suc n) h =
    let body = left_with (take_end (held_after n h)).0 [] in
    bodies_append (takes_after id n h) (record { id = id; gave = (take_end (held_after n h)).0 } ∷ [])
    ∙ ap (λ l. l ++ (body ++ [])) (bodies_are id n h) ∙ ap (λ l. bodies_after n h ++ l) (append-nil body)

from_writes : (o after : Option Held) (x y : List ℕ) (a b : Option (List ℕ)) (c c' : Session) (p : PassesFrom o after x y a b c c')
    → Writes (x ++ bodies_of (takes_from o after x y a b c c' p)) y a b
from_writes None after x y a b c c' p = subst (λ (l : List ℕ). Writes l y a b) (sym (append-nil x)) p.1
from_writes (Some h) after x y a b c c' p = subst (λ (l : List ℕ). Writes (x ++ l) y a b) (sym (bodies_are c.id p.0 h)) p.2

writes_after : (x y z : List ℕ) (a b : Option (List ℕ)) → Writes x y a b → Writes (x ++ z) (y ++ z) a b
writes_after x y z a b p = (p.0, ap (λ l. l ++ z) p.1 ∙ append_assoc p.0 y z, p.2)

writes_through : (x y v z : List ℕ) (a b c : Option (List ℕ)) → Writes x y a b → Writes (y ++ v) z b c → Writes (x ++ v) z a c
writes_through x y v z a b c p q = writes_on (x ++ v) (y ++ v) z a b c (writes_after x y v a b p) q

each_writes : (old new : EndpointView) (x y : List ℕ) (a b : Option (List ℕ)) (cs cs' : List Session) (p : PassesEach old new x y a b cs cs')
    → Writes (x ++ bodies_of (takes_each old new x y a b cs cs' p)) y a b
each_writes old new x y a b [] cs' p =
    let same : Writes (x ++ []) x a a = subst (λ (l : List ℕ). Writes l x a a) (sym (append-nil x)) (writes_none x a) in
    subst (λ (l : List ℕ). Writes (x ++ []) l a b) (sym p.2) (subst (λ (w : Option (List ℕ)). Writes (x ++ []) x a w) (sym p.3) same)
each_writes old new x y a b (c ∷ cs) cs' p =
    let one = takes_from (held_at old c.id) (held_at p.0 c.id) x p.1 a p.2 c p.3 p.6.from in
    let more = takes_each p.0 new p.1 y p.2 b cs p.4 p.7 in
    let first : Writes (x ++ bodies_of one) p.1 a p.2 = from_writes (held_at old c.id) (held_at p.0 c.id) x p.1 a p.2 c p.3 p.6.from in
    let rest : Writes (p.1 ++ bodies_of more) y p.2 b = each_writes p.0 new p.1 y p.2 b cs p.4 p.7 in
    subst (λ (l : List ℕ). Writes l y a b) (append_assoc x (bodies_of one) (bodies_of more) ∙ ap (λ l. x ++ l) (sym (bodies_append one more)))
    (writes_through (x ++ bodies_of one) p.1 (bodies_of more) y a p.2 b first rest)

moves_writes : (old new : PacedHostCore) (cs cs' : List Session) (x y : List ℕ) (a b : Option (List ℕ)) (takes : List Take) → WritesAndPasses old new cs cs' x y a b takes → Writes (x ++ bodies_of takes) y a b
moves_writes old new cs cs' x y a b takes m =
    let rest = each_writes old.endpoint new.endpoint m.between y m.writing b cs cs' m.passes in
    writes_through x m.between (bodies_of takes) y a m.writing b m.first (subst (λ (ts : List Take). Writes (m.between ++ bodies_of ts) y m.writing b) (sym m.made) rest)

pub moved_all : (core core' : PacedHostCore) (cs cs' : List Session) (x y z : List ℕ) (a b d : Option (List ℕ)) → Writes x y a b → PassesUntilFull core.endpoint core'.endpoint y z b d cs cs'
    → core' ≡ record core { endpoint = core'.endpoint } → (takes : List Take) × MovesUntilFull core core' cs cs' x z a d takes
moved_all core core' cs cs' x y z a b d wrote passes same =
    let p = passes.0 in (
      takes_each core.endpoint core'.endpoint y z b d p.0 p.1 p.5,
      (
        record {
          front = p.0;
          front' = p.1;
          rest = p.2;
          before = p.3;
          after = p.4;
          moves = record { between = y; writing = b; first = wrote; passes = p.5; made = refl; core = same };
        },
        passes.1,
      ),
    )

pub moved_some : (core core' : PacedHostCore) (cs cs' : List Session) (x y z : List ℕ) (a b d : Option (List ℕ)) → Writes x y a b → PassesSome core.endpoint core'.endpoint y z b d cs cs'
    → core' ≡ record core { endpoint = core'.endpoint } → (takes : List Take) × MovesSome core core' cs cs' x z a d takes
moved_some core core' cs cs' x y z a b d wrote p same = (
  takes_each core.endpoint core'.endpoint y z b d p.0 p.1 p.5,
  record {
    front = p.0;
    front' = p.1;
    rest = p.2;
    before = p.3;
    after = p.4;
    moves = record { between = y; writing = b; first = wrote; passes = p.5; made = refl; core = same };
  },
)

-- the writer fails before anything is taken
pub moved_none : (core : PacedHostCore) (cs : List Session) (x y : List ℕ) (a b : Option (List ℕ)) → Writes x y a b → (takes : List Take) × MovesSome core core cs cs x y a b takes
moved_none core cs x y a b wrote = moved_some core core cs cs x y y a b b wrote ([], [], cs, refl, sym (append-nil cs), (refl, refl, refl, refl)) refl

-- ---- one step

-- what was counted of connections is the same as long as nothing is counted
pub same_counts : (r r' : ℕ) (old new : Sessions) → r' ≡ r → new.never_heard ≡ old.never_heard → new.evicted ≡ old.evicted → new.turned_away ≡ old.turned_away
    → (new.of_never_heard ≡ old.of_never_heard) × (new.of_evicted ≡ old.of_evicted) × (new.of_turned_away ≡ old.of_turned_away)
    → counts_at r' new ≡ counts_at r old
same_counts r r' old new is never_heard evicted turned_away logs = let a = logs.0 in let b = logs.1 in let d = logs.2 in cc

pub stepped : {K : Type 0} (around around1 around2 around3 : K) (core core1 core2 core3 : PacedHostCore) (cs cs1 cs2 cs3 : List Session) (o o1 o2 o3 : Outlet) (ns ns1 ns2 ns3 : ListenerCounts) (once once' : Bool) (a b : Option (List ℕ))
    (stop : Option ListenOutcome) (drives : K → Turn → K → Type 0) (peers : Peers) (takes : List Take) (active : Bool)
    → (hears : HearsAndNotesAll around around1 core core1 cs cs1 ns ns1 once drives peers) → active ≡ hears.turn.active → o1 ≡ o → around2 ≡ around1 → once' ≡ once
    → MovesUntilFull core1 core2 cs1 cs2 (left_of o1) (left_of o2) a b takes → ns2 ≡ ns1 → around3 ≡ around2 → o3 ≡ o2 → Tidies once' core2 core3 cs2 cs3 ns2 ns3 stop
    → Steps (host around core cs (left_of o) a ns) (host around3 core3 cs3 (left_of o3) b ns3) once stop drives peers (record { active = active; there = cs1; takes = takes })
stepped {K} around around1 around2 around3 core core1 core2 core3 cs cs1 cs2 cs3 o o1 o2 o3 ns ns1 ns2 ns3 once once' a b stop drives peers takes active hears did unheard ticks same moves uncounted tidied unwritten tidies =
    subst (λ (k : K). Steps (host around core cs (left_of o) a ns) (host k core3 cs3 (left_of o3) b ns3) once stop drives peers (record { active = active; there = cs1; takes = takes })) (sym (tidied ∙ ticks))
    (record {
      heard = core1;
      counted = ns1;
      hears = hears;
      active = did;
      moved = core2;
      still = cs2;
      moves = subst (λ (k : Outlet). MovesUntilFull core1 core2 cs1 cs2 (left_of k) (left_of o3) a b takes) unheard
          (subst (λ (k : Outlet). MovesUntilFull core1 core2 cs1 cs2 (left_of o1) (left_of k) a b takes) (sym unwritten) moves);
      tidied = subst (λ (k : Bool). Tidies k core2 core3 cs2 cs3 ns1 ns3 stop) same (subst (λ (k : ListenerCounts). Tidies once' core2 core3 cs2 cs3 k ns3 stop) uncounted tidies);
    })

-- and one that the writer breaks off
pub broken_off : {K : Type 0} (around around1 : K) (core core1 core2 : PacedHostCore) (cs cs1 cs2 : List Session) (o o1 o2 : Outlet) (ns ns1 ns2 : ListenerCounts) (once : Bool) (a b : Option (List ℕ))
    (drives : K → Turn → K → Type 0) (peers : Peers) (takes : List Take) (active : Bool) → (hears : HearsAndNotesAll around around1 core core1 cs cs1 ns ns1 once drives peers) → active ≡ hears.turn.active → o1 ≡ o
    → MovesSome core1 core2 cs1 cs2 (left_of o1) (left_of o2) a b takes → ns2 ≡ ns1
    → WriterBreaksOff (host around core cs (left_of o) a ns) (host around1 core2 cs2 (left_of o2) b ns2) once drives peers (record { active = active; there = cs1; takes = takes })
broken_off {K} around around1 core core1 core2 cs cs1 cs2 o o1 o2 ns ns1 ns2 once a b drives peers takes active hears did unheard moves uncounted =
    subst (λ (k : ListenerCounts). WriterBreaksOff (host around core cs (left_of o) a ns) (host around1 core2 cs2 (left_of o2) b k) once drives peers (record { active = active; there = cs1; takes = takes })) (sym uncounted)
    (record {
      heard = core1;
      hears = hears;
      active = did;
      moves = subst (λ (k : Outlet). MovesSome core1 core2 cs1 cs2 (left_of k) (left_of o2) a b takes) unheard moves;
    })

-- the wait after a step changes nothing
pub same_listening : {R : Type 0} (l : ListeningHost R) (s : RunningHost R) (w : Option (List ℕ)) → s.core ≡ l.station.core → s.clock ≡ l.station.clock → s.host_socket ≡ l.station.host_socket
    → s.refused ≡ l.station.refused → host (around_of s) s.core l.sessions.held.items (left_of l.sessions.output) w (counts_at s.refused l.sessions) ≡ listening_at l w
same_listening l s w core clock socket refused = cc

-- so it stops the host after that step
pub waited : {K : Type 0} (old new now : Host K) (once : Bool) (drives : K → Turn → K → Type 0) (peers : Peers) (step : StepView)
    → now ≡ new → Steps old new once None drives peers step → StepsTo old now once (Some Unwaited) drives peers step
waited {K} old new now once drives peers step same s = subst (λ (h : Host K). Steps old h once None drives peers step) (sym same) s

pub not_both : (b : Bool) → b ≡ false → b ≡ true → ⊥
not_both b apart is = let both : false ≡ true = sym apart ∙ is in cc

-- a step that is tidied stops the host so
pub tidied_to : {K : Type 0} (old new : Host K) (once : Bool) (stop : ListenOutcome) (drives : K → Turn → K → Type 0) (peers : Peers) (step : StepView)
    → Steps old new once (Some stop) drives peers step → StepsTo old new once (Some stop) drives peers step
tidied_to old new once Ended drives peers step s = s
tidied_to old new once Lost drives peers step s = s
tidied_to old new once Unwritten drives peers step s = absurd (tidied_parts once s.moved new.core s.still new.sessions s.counted new.counts Unwritten s.tidied)
tidied_to old new once Unwaited drives peers step s = absurd (tidied_parts once s.moved new.core s.still new.sessions s.counted new.counts Unwaited s.tidied)

-- ---- one step after another

to_writes : {K : Type 0} (old new : Host K) (once : Bool) (stop : Option ListenOutcome) (drives : K → Turn → K → Type 0) (peers : Peers) (step : StepView)
    → StepsTo old new once stop drives peers step → Writes (old.left ++ bodies_of step.takes) new.left old.written new.written
to_writes old new once None drives peers step s = moves_writes s.heard s.moved s.moves.0.front s.moves.0.front' old.left new.left old.written new.written step.takes s.moves.0.moves
to_writes old new once (Some Ended) drives peers step s = moves_writes s.heard s.moved s.moves.0.front s.moves.0.front' old.left new.left old.written new.written step.takes s.moves.0.moves
to_writes old new once (Some Lost) drives peers step s = moves_writes s.heard s.moved s.moves.0.front s.moves.0.front' old.left new.left old.written new.written step.takes s.moves.0.moves
to_writes old new once (Some Unwritten) drives peers step s =
    moves_writes s.heard new.core s.moves.front s.moves.front' old.left new.left old.written new.written step.takes s.moves.moves
to_writes old new once (Some Unwaited) drives peers step s = moves_writes s.heard s.moved s.moves.0.front s.moves.0.front' old.left new.left old.written new.written step.takes s.moves.0.moves

-- what more was taken is written after what was taken before
more_writes : (x y z before now bytes : List ℕ) (a b c : Option (List ℕ)) → bytes ≡ before ++ now → Writes (x ++ before) y a b → Writes (y ++ now) z b c → Writes (x ++ bytes) z a c
more_writes x y z before now bytes a b c is first rest =
    let all : (x ++ before) ++ now ≡ x ++ bytes = append_assoc x before now ∙ ap (λ l. x ++ l) (sym is) in
    subst (λ (l : List ℕ). Writes l z a c) all (writes_through (x ++ before) y now z a b c first rest)

bytes_push : (steps : List StepView) (s : StepView) → bytes_of (steps ++ s ∷ []) ≡ bytes_of steps ++ bodies_of s.takes
bytes_push steps s = ap bodies_of (takes_push steps s) ∙ bodies_append (takes_of steps) s.takes

on_writes : {K : Type 0} (n : ℕ) (old new : Host K) (once : Bool) (drives : K → Turn → K → Type 0) (peers : Peers) (steps : List StepView)
    → StepsWithoutStop n old new once drives peers steps → Writes (old.left ++ bytes_of steps) new.left old.written new.written
on_writes {K} zero old new once drives peers steps run =
    let none : Writes (old.left ++ bytes_of steps) old.left old.written old.written =
    subst (λ (l : List ℕ). Writes l old.left old.written old.written) (sym (ap (λ ss. old.left ++ bytes_of ss) run.1 ∙ append-nil old.left)) (writes_none old.left old.written) in
    subst (λ (h : Host K). Writes (old.left ++ bytes_of steps) h.left old.written h.written) (sym run.0) none
on_writes (suc n) old new once drives peers steps run =
    more_writes old.left run.0.left new.left (bytes_of run.1) (bodies_of run.2.takes) (bytes_of steps) old.written run.0.written new.written (ap bytes_of run.3 ∙ bytes_push run.1 run.2)
    (on_writes n old run.0 once drives peers run.1 run.4) (to_writes run.0 new once None drives peers run.2 run.5)

-- one more
pub steps_more : {K : Type 0} (n : ℕ) (old last new : Host K) (once once' : Bool) (drives : K → Turn → K → Type 0) (peers here : Peers) (before : List StepView) (now : StepView)
    → once' ≡ once → here ≡ peers → StepsWithoutStop n old last once drives peers before → StepsTo last new once' None drives here now
    → (steps : List StepView) × StepsWithoutStop (n + 1) old new once drives peers steps
steps_more n old last new once once' drives peers here before now same among run step =
    let next : suc n ≡ n + 1 = omega arith in
    let one : Steps last new once None drives peers now =
    subst (λ (o : Bool). Steps last new o None drives peers now) same (subst (λ (p : Peers). Steps last new once' None drives p now) among step) in
    (before ++ now ∷ [], subst (λ (k : ℕ). StepsWithoutStop k old new once drives peers (before ++ now ∷ [])) next (last, before, now, refl, run, one))

-- and a last one
pub served : {K : Type 0} (n : ℕ) (old last new : Host K) (once once' : Bool) (stop : ListenOutcome) (drives : K → Turn → K → Type 0) (peers here : Peers) (before : List StepView) (now : StepView)
    → once' ≡ once → here ≡ peers → StepsWithoutStop n old last once drives peers before → StepsTo last new once' (Some stop) drives here now
    → (steps : List StepView) × Serves old new once stop drives peers steps × Writes (old.left ++ bytes_of steps) new.left old.written new.written
served n old last new once once' stop drives peers here before now same among run step =
    let one : StepsTo last new once (Some stop) drives peers now =
    subst (λ (o : Bool). StepsTo last new o (Some stop) drives peers now) same (subst (λ (p : Peers). StepsTo last new once' (Some stop) drives p now) among step) in (
      before ++ now ∷ [],
      inl (n, last, before, now, refl, run, one),
      more_writes old.left last.left new.left (bytes_of before) (bodies_of now.takes) (bytes_of (before ++ now ∷ [])) old.written last.written new.written (bytes_push before now)
          (on_writes n old last once drives peers before run) (to_writes last new once (Some stop) drives peers now one),
    )

pub served_long : {K : Type 0} (n : ℕ) (old new : Host K) (once : Bool) (drives : K → Turn → K → Type 0) (peers : Peers) (steps : List StepView) → n ≡ 18446744073709551615
    → StepsWithoutStop n old new once drives peers steps
    → (steps : List StepView) × Serves old new once Lost drives peers steps × Writes (old.left ++ bytes_of steps) new.left old.written new.written
served_long n old new once drives peers steps long run = (steps, inr (refl, n, long, run), on_writes n old new once drives peers steps run)

-- ---- and so the host ends well

all_written : (x y : List ℕ) (a b : Option (List ℕ)) → Writes x y a b → y ≡ [] → Appends a b x
all_written x y a b p none =
    let all : p.0 ≡ x = sym (p.1 ∙ ap (λ l. p.0 ++ l) none ∙ append-nil p.0) in
    subst (Appends a b) all p.2

pub ended_well : {K : Type 0} (old new : Host K) (once : Bool) (stop : ListenOutcome) (drives : K → Turn → K → Type 0) (peers : Peers) (steps : List StepView)
    → Serves old new once stop drives peers steps → Writes (old.left ++ bytes_of steps) new.left old.written new.written → stop_status stop ≡ 0 → new.left ≡ []
    → ServesWell old once new.written drives peers steps
ended_well old new once Ended drives peers steps serves wrote status none = (new, serves, none, refl, all_written (old.left ++ bytes_of steps) new.left old.written new.written wrote none)
ended_well old new once Lost drives peers steps serves wrote status none = absurd (cc)
ended_well old new once Unwritten drives peers steps serves wrote status none = absurd (cc)
ended_well old new once Unwaited drives peers steps serves wrote status none = absurd (cc)

-- one that was started has no connection yet, and nothing to write
pub begins_so : {K T E : Type 0} (file : HostConfig) (started : Result T E) (at : T → Host K) (among : T → Peers) (a : Option (List ℕ))
    → IfOk started (λ l. (at l).core.endpoint.network ≡ file.network) → IfOk started (λ l. (at l).core.endpoint.node ≡ node_at file.address)
    → IfOk started (λ l. (at l).core.endpoint.router ≡ node_at file.router) → IfOk started (λ l. among l ≡ (file.router ∷ []) ∷ [])
    → IfOk started (λ l. buffers_at (at l).core.endpoint file.socket ≡ Some file.buffers)
    → IfOk started (λ l. (s : Socket) → s.0 ≢ file.socket.0 → buffers_at (at l).core.endpoint s ≡ None)
    → IfOk started (λ l. (id : ℕ) → held_at (at l).core.endpoint id ≡ None) → IfOk started (λ l. (at l).core.came ≡ None) → IfOk started (λ l. (at l).core.paced ≡ None)
    → IfOk started (λ l. named_in (at l).core.from ≡ named_in file.from) → IfOk started (λ l. (at l).core.network ≡ file.network)
    → IfOk started (λ l. (at l).sessions ≡ []) → IfOk started (λ l. (at l).left ≡ []) → IfOk started (λ l. (at l).counts ≡ nothing_counted) → ((l : T) → (at l).written ≡ a)
    → IfOk started (λ l. BeginsListening file (at l) (among l) a)
begins_so file (Err e) at among a network node router routed listens alone links accepted unpaced from own nobody nothing uncounted written = tt
begins_so file (Ok l) at among a network node router routed listens alone links accepted unpaced from own nobody nothing uncounted written = record {
  network = network;
  node = node;
  router = router;
  among = routed;
  listens = listens;
  alone = alone;
  unlinked = links;
  unasked = accepted;
  unpaced = unpaced;
  from = from;
  own = own;
  nobody = nobody;
  nothing = nothing;
  known = written l;
  uncounted = uncounted;
}

pub begun : {K T E : Type 0} (file : HostConfig) (X : Type 0) (started : Result T E) (at : T → Host K) (its : T → Bool) (among : T → Peers) (once : Bool) (a b : Option (List ℕ)) (drives : K → Turn → K → Type 0) (P : K → Type 0) (status : ℕ)
    → IfOk started (λ l. BeginsListening file (at l) (among l) a) → IfOk started (λ l. its l ≡ once) → IfOk started (λ l. P (at l).around)
    → OnErr started ((status ≡ 1) × X) → (status ≡ 0 → IfOk started (λ l. IsTrue (its l))) → (status ≡ 0 → IfOk started (λ l. (steps : List StepView) × ServesWell (at l) (its l) b drives (among l) steps)) → status ≡ 0
    → (w : ListensWell file once a b drives) × P w.start.around
begun file X (Err e) at its among once a b drives P status begins same opened unstarted only well ends = absurd (omega (arith, unstarted.0, ends))
begun {K} file X (Ok l) at its among once a b drives P status begins same opened unstarted only well ends =
    let run = well ends in
    let took : Appends (at l).written b ((at l).left ++ bytes_of run.0) = run.1.4 in
    let bare : Appends (at l).written b (bytes_of run.0) = subst (λ (x : List ℕ). Appends (at l).written b (x ++ bytes_of run.0)) begins.nothing took in
    let one = heard_out (at l) run.1.0 (its l) drives (among l) run.0 (only ends) begins.nobody run.1.1 in (
      record {
        start = at l;
        peers = among l;
        steps = run.0;
        begins = begins;
        serves = subst (λ (o : Bool). ServesWell (at l) o b drives (among l) run.0) same run.1;
        id = one.0;
        from = one.1;
        one = one.2;
        took = subst (λ (w : Option (List ℕ)). Appends w b (bytes_of run.0)) begins.known bare;
      },
      opened,
    )

-- ---- or it ends for another reason

-- without `once` no connection that goes ends it
lost_once : (once : Bool) (old new : PacedHostCore) (cs cs' : List Session) (ns ms : ListenerCounts) → Tidies once old new cs cs' ns ms (Some Lost) → IsTrue once
lost_once true old new cs cs' ns ms tidied = refl
lost_once false old new cs cs' ns ms tidied =
    let last = tidied.6 in
    absurd (never_parts tidied.2.moment last.session last.place last.tends.0 tidied.2.endpoint new.endpoint tidied.3 cs' tidied.4 ms last.tends.2)
  where
    never_parts : (now : ℕ) (c : Session) (place : ℕ) (fate : SessionAction) (old new : EndpointView) (cs cs' : List Session) (ns ms : ListenerCounts) → DoesAction false now c place fate old new cs cs' ns ms (Some Lost) → ⊥
    never_parts now c place ActionsOfSessions.Stays old new cs cs' ns ms does = let no : Some Lost ≡ None = does.2 in cc
    never_parts now c place ActionsOfSessions.Asks old new cs cs' ns ms does = let no : Some Lost ≡ None = does.3 in cc
    never_parts now c place ActionsOfSessions.Over old new cs cs' ns ms does = let no : Some Lost ≡ None = does.2 in cc
    never_parts now c place ActionsOfSessions.GivenUp old new cs cs' ns ms does = let no : Some Lost ≡ None = does.2 in cc

steps_counted : {K : Type 0} (n : ℕ) (old new : Host K) (once : Bool) (drives : K → Turn → K → Type 0) (peers : Peers) (steps : List StepView) → StepsWithoutStop n old new once drives peers steps → length steps ≡ n
steps_counted zero old new once drives peers steps run = ap length run.1
steps_counted (suc n) old new once drives peers steps run =
    let before : length run.1 ≡ n = steps_counted n old run.0 once drives peers run.1 run.4 in
    omega (arith, before, ap length run.3, length-append run.1 (run.2 ∷ []))

lost_so : {K : Type 0} (old new : Host K) (once : Bool) (stop : ListenOutcome) (drives : K → Turn → K → Type 0) (peers : Peers) (steps : List StepView)
    → Serves old new once stop drives peers steps → stop ≡ Lost → IsTrue once ⊎ (length steps ≡ 18446744073709551615)
lost_so {K} old new once stop drives peers steps (inl s) is =
    let last : Steps s.1 new once (Some Lost) drives peers s.3 = subst (λ (o : ListenOutcome). StepsTo s.1 new once (Some o) drives peers s.3) is s.6 in
    inl (lost_once once last.moved new.core last.still new.sessions last.counted new.counts last.tidied)
lost_so old new once stop drives peers steps (inr s) is = inr (steps_counted s.1 old new once drives peers steps s.3 ∙ s.2)

pub stopped_so : {K T E : Type 0} (file : HostConfig) (X : Type 0) (started : Result T E) (at : T → Host K) (its : T → Bool) (among : T → Peers) (once : Bool) (a b : Option (List ℕ)) (drives : K → Turn → K → Type 0) (P : K → Type 0) (status : ℕ)
    → IfOk started (λ l. BeginsListening file (at l) (among l) a) → IfOk started (λ l. its l ≡ once) → IfOk started (λ l. P (at l).around)
    → OnErr started ((status ≡ 1) × X)
    → IfOk started (λ l. ((status ≡ 1) × X) ⊎ ((stop : ListenOutcome) × (steps : List StepView) × (status ≡ stop_status stop) × ServesUntil (at l) (its l) stop b drives (among l) steps)) → status ≡ 1
    → X ⊎ ((stop : ListenOutcome) × (stop_status stop ≡ 1) × (u : ListensUntil file once stop a b drives) × P u.start.around)
stopped_so file X (Err e) at its among once a b drives P status begins same opened unstarted runs ends = inl unstarted.1
stopped_so file X (Ok l) at its among once a b drives P status begins same opened unstarted (inl idle) ends = inl idle.1
stopped_so file X (Ok l) at its among once a b drives P status begins same opened unstarted (inr run) ends =
    let serves : ServesUntil (at l) once run.0 b drives (among l) run.1 = subst (λ (o : Bool). ServesUntil (at l) o run.0 b drives (among l) run.1) same run.3 in
    let bare : Writes (bytes_of run.1) serves.0.left (at l).written b = subst (λ (x : List ℕ). Writes (x ++ bytes_of run.1) serves.0.left (at l).written b) begins.nothing serves.3 in
    inr (
      run.0,
      sym run.2 ∙ ends,
      record {
        start = at l;
        peers = among l;
        steps = run.1;
        begins = begins;
        serves = serves;
        lost = lost_so (at l) serves.0 once run.0 drives (among l) run.1 serves.1;
        took = subst (λ (w : Option (List ℕ)). Writes (bytes_of run.1) serves.0.left w b) begins.known bare;
      },
      opened,
    )

-- the status of a file that can't be loaded is 1 or 2
pub loaded_so : (X : Type 0) (Well : HostConfig → Type 0) (loaded : Result HostConfig ℕ) (status : ℕ)
    → IfErr loaded (λ s. (s ≡ 1) ⊎ (s ≡ 2)) → IfOk loaded (λ h. (text : List ℕ) × IsFileText text × IsHostText text h)
    → IfOk loaded (λ h. status ≡ 0 → Well h) → IfErr loaded (λ s. (status ≡ s) × X) → status ≡ 0
    → (text : List ℕ) × (file : HostConfig) × IsFileText text × IsHostText text file × Well file
loaded_so X Well (Ok h) status fault said well unloaded ends = (said.0, h, said.1, said.2, well ends)
loaded_so X Well (Err s) status (inl e) said well unloaded ends = absurd (omega (arith, unloaded.0, e, ends))
loaded_so X Well (Err s) status (inr e) said well unloaded ends = absurd (omega (arith, unloaded.0, e, ends))

-- a status above those of a host that was loaded is that of a file, and nothing is done then
pub untouched_by : {T : Type 0} (X P : Type 0) (loaded : Result T ℕ) (status : ℕ) → OnOk loaded P → (P → X) → IfErr loaded (λ s. (status ≡ s) × X) → X
untouched_by X P (Ok h) status few other unloaded = other few
untouched_by X P (Err s) status few other unloaded = unloaded.1

-- a status of 1, of a file or of its host
pub stopped_by : (X : Type 0) (Until : HostConfig → Type 0) (loaded : Result HostConfig ℕ) (status : ℕ) → IfOk loaded (λ h. (text : List ℕ) × IsFileText text × IsHostText text h)
    → IfOk loaded (λ h. status ≡ 1 → X ⊎ Until h) → IfErr loaded (λ s. (status ≡ s) × X) → status ≡ 1
    → X ⊎ ((text : List ℕ) × (file : HostConfig) × IsFileText text × IsHostText text file × Until file)
stopped_by X Until (Ok h) status said stops unloaded ends = elim (stops ends) [
  | inl none ↦ inl none
  | inr until ↦ inr (said.0, h, said.1, said.2, until)
]
stopped_by X Until (Err s) status said stops unloaded ends = inl unloaded.1
