-- What a datagram, a poll and whole turns of the core of a host do, as calls.
use Rattle.std.proofs.Common.{◌≡◌, ◌≢◌, ◌<◌, ◌≤◌, ◌+◌, ◌⊎◌, ℕ, List, [], ◌∷◌, ◌++◌, length, Option, None, Some, refl, sym, ◌∙◌, inl, inr, ap, subst, arith}
use Rattle.std.specs.Prelude.{All, Contains, flat_map}
use Rattle.std.proofs.lemmas.Grind.{flat_map-append}
use Rattle.std.proofs.lemmas.List.{append-nil}
use Rattle.std.proofs.lemmas.List.Elements.{All-append, All-cons, All-nil, Contains-append_left, Contains-append_right, Contains-push}
use Rattle.ipx_wire.specs.declared.address.Address.{Address}
use Rattle.spx_messages.specs.Changes.{SameBut}
use Rattle.spx_messages.specs.EndpointView.{EndpointView}
use Rattle.spx_messages.specs.declared.arrived.Arrived.{Arrived}
use Rattle.spx_messages.specs.declared.arrived.Arrived.TheVariants as Arriveds
use Rattle.ipx_carrier.specs.Device.{Reception}
use Rattle.ipx_carrier.specs.Turns.{FailsAfter, FailsAtPort, FailsMidTurn, Given, GivesAll, GivesEach, HearsAnswer, HearsEach, IsTurn, Peers, Turn, Turns, Ways, by_ip, packets_of, received_of}
use Rattle.ipx_carrier.specs.declared.fault.RunFault.{RunFault}
use Rattle.ipx_carrier.specs.declared.fault.RunFault.TheVariants.{Device, OutOfMemory}
use Rattle.ipx_config.specs.AllowedPeers.{may_ask, named_in}
use Rattle.ipx_host.specs.Barring.{HearAllowedOutOfMemory, HearsAllowed, IsBarred}
use Rattle.ipx_host.specs.Noting.{IsPacketFrom, Notes}
use Rattle.ipx_host.specs.Paced.{GivesAsPlanned, GivesOnceTold, bytes_given}
use Rattle.ipx_host.specs.Turning.{TakesHostTurn, gives, hear_out_of_memory, hears, next_out_of_memory}
use Rattle.ipx_host.specs.declared.paced_host_core.Accepted.{Accepted}
use Rattle.ipx_host.specs.declared.paced_host_core.Arrival.{Arrival}
use Rattle.ipx_host.specs.declared.paced_host_core.Arrival.TheVariants as Cames
use Rattle.ipx_host.specs.declared.paced_host_core.PacedHostCore.{PacedHostCore}
use Rattle.ipx_host.specs.declared.running_host.Activity.{Activity}
use Rattle.theory_processes.specs.HostCalls.{ByACore, Fails, Gives, Hears, HostCall}
use Rattle.theory_processes.specs.Loops.{HostRuns, answer_in, answers_in, host_gave, host_heard, if_given}
use Rattle.theory_processes.specs.PortCalls.{AreOfTurn, LoseRequest}
use Rattle.theory_processes.specs.TurnCalls.{AcceptFrom, IsOfTurn, MakesCalls, ReadsAllowed, SameRules, paced_id}
use Rattle.theory_processes.proofs.Planning.{Sets, hears_id, plans, plans_id, polls_id}

-- ---- lists of calls

pub runs_more : (a b : List HostCall) (x y z : EndpointView) → HostRuns a x y → HostRuns b y z → HostRuns (a ++ b) x z
runs_more [] b x y z first later = subst (λ e. HostRuns b e z) first later
runs_more (c ∷ a) b x y z first later = (first.0, first.1, runs_more a b first.0 y z first.2 later)

-- ---- the same requests are barred

barred_before : (old new : PacedHostCore) → SameRules old new → (bytes : List ℕ) → IsBarred new bytes → IsBarred old bytes
barred_before old new r bytes b = (b.0, b.1, ap (λ f. may_ask (named_in f) old.network b.0) (sym r.from) ∙ ap (λ n. may_ask (named_in new.from) n b.0) (sym r.network) ∙ b.2)

pub barred_after : (old new : PacedHostCore) → SameRules old new → (bytes : List ℕ) → IsBarred old bytes → IsBarred new bytes
barred_after old new r bytes b = (b.0, b.1, ap (λ f. may_ask (named_in f) new.network b.0) r.from ∙ ap (λ n. may_ask (named_in old.from) n b.0) r.network ∙ b.2)

pub reads_before : (old new : PacedHostCore) → SameRules old new → (xs read : List (List ℕ)) → ReadsAllowed new xs read → ReadsAllowed old xs read
reads_before old new r [] read is = is
reads_before old new r (x ∷ xs) read is = elim is [
  | inl barred ↦ inl (barred_before old new r x barred.0, reads_before old new r xs read barred.1)
  | inr first ↦ inr ((λ barred. first.0 (barred_after old new r x barred)), first.1, first.2, reads_before old new r xs first.1 first.3)
]

reads_more : (core : PacedHostCore) (xs ys read more : List (List ℕ)) → ReadsAllowed core xs read → ReadsAllowed core ys more → ReadsAllowed core (xs ++ ys) (read ++ more)
reads_more core [] ys read more first later = subst (λ r. ReadsAllowed core ys (r ++ more)) (sym first) later
reads_more core (x ∷ xs) ys read more first later = elim first [
  | inl barred ↦ inl (barred.0, reads_more core xs ys read more barred.1 later)
  | inr one ↦ inr (one.0, one.1 ++ more, ap (λ r. r ++ more) one.2, reads_more core xs ys one.1 more one.3 later)
]

-- ---- what is noted as accepted

-- it was noted before, or one of these calls accepted it
abbrev pub Accepts : PacedHostCore → PacedHostCore → List HostCall → Type 0
Accepts old new calls = (a : Accepted) → new.came ≡ Some (Cames.Accepted a) → (old.came ≡ Some (Cames.Accepted a)) ⊎ AcceptFrom calls a.id a.from

pub accept_left : (xs ys : List HostCall) (id : ℕ) (from : Address) → AcceptFrom xs id from → AcceptFrom (xs ++ ys) id from
accept_left xs ys id from a = record { source = a.source; bytes = a.bytes; now = a.now; call = Contains-append_left xs ys (Hears a.source a.bytes a.now (Arriveds.Accepted id)) a.call; packet = a.packet }

pub accept_right : (xs ys : List HostCall) (id : ℕ) (from : Address) → AcceptFrom ys id from → AcceptFrom (xs ++ ys) id from
accept_right xs ys id from a = record { source = a.source; bytes = a.bytes; now = a.now; call = Contains-append_right xs ys (Hears a.source a.bytes a.now (Arriveds.Accepted id)) a.call; packet = a.packet }

-- what was noted stays
same_came : (old new : PacedHostCore) (calls : List HostCall) → new.came ≡ old.came → Accepts old new calls
same_came old new calls same a is = inl (sym same ∙ is)

accepts_more : (x y z : PacedHostCore) (xs ys : List HostCall) → Accepts x y xs → Accepts y z ys → Accepts x z (xs ++ ys)
accepts_more x y z xs ys first later a is = elim (later a is) [
  | inl was ↦ elim (first a was) [ inl before ↦ inl before | inr by ↦ inr (accept_left xs ys a.id a.from by) ]
  | inr by ↦ inr (accept_right xs ys a.id a.from by)
]

-- only what the endpoint accepted is noted so
note_is : (answer : Arrived) (read : Option ℕ) (bytes : List ℕ) (came : Option Arrival) → Notes answer read bytes came → (a : Accepted) → came ≡ Some (Cames.Accepted a)
    → (answer ≡ Arriveds.Accepted a.id) × IsPacketFrom bytes a.from
note_is (Arriveds.Bad f) read bytes came n a is = absurd (cc (sym n ∙ is))
note_is Arriveds.NotOurs read bytes came n a is = absurd (cc (sym n ∙ is))
note_is (Arriveds.BadSpx f) read bytes came n a is = absurd (cc (sym n ∙ is))
note_is Arriveds.NoListener read bytes came n a is = absurd (cc (sym n ∙ is))
note_is Arriveds.NoRoom read bytes came n a is = absurd (cc (sym n.2 ∙ is))
note_is Arriveds.Stranger read bytes came n a is = absurd (cc (sym n ∙ is))
note_is (Arriveds.Accepted id) read bytes came n a is =
    let b : Accepted = record { id = id; from = n.0 } in
    let both : Some (Cames.Accepted b) ≡ Some (Cames.Accepted a) = sym n.2 ∙ is in
    let same : b ≡ a = cc both in
    (ap (λ (x : Accepted). Arriveds.Accepted x.id) same, subst (IsPacketFrom bytes) (ap (λ (x : Accepted). x.from) same) n.1)
note_is (Arriveds.Link id r) None bytes came n a is = absurd (cc (sym n ∙ is))
note_is (Arriveds.Link id r) (Some j) bytes came n a is = absurd (cc (sym n ∙ is))

heard_accepts : (old new : PacedHostCore) (bytes : List ℕ) (now : ℕ) (answer : Arrived) → Notes answer new.endpoint.heard bytes new.came → Accepts old new (Hears ByACore bytes now answer ∷ [])
heard_accepts old new bytes now answer n a is =
    let it = note_is answer new.endpoint.heard bytes new.came n a is in
    inr (record {
      source = ByACore;
      bytes = bytes;
      now = now;
      call = subst (λ r. Contains (Hears ByACore bytes now r ∷ []) (Hears ByACore bytes now (Arriveds.Accepted a.id))) (sym it.0) (Contains-push [] (Hears ByACore bytes now (Arriveds.Accepted a.id)));
      packet = it.1;
    })

-- ---- one after another

nothing : (old new : PacedHostCore) → new ≡ old → MakesCalls old new [] []
nothing old new same = record {
  calls = [];
  runs = ap (λ (c : PacedHostCore). c.endpoint) same;
  kinds = All-nil (IsOfTurn (paced_id old.paced));
  reads = refl;
  gave = refl;
  rules = record { network = ap (λ (c : PacedHostCore). c.network) same; from = ap (λ (c : PacedHostCore). c.from) same; paced = ap (λ (c : PacedHostCore). paced_id c.paced) same };
  notes = same_came old new [] (ap (λ (c : PacedHostCore). c.came) same);
}

after : (x y z : PacedHostCore) (r s : List (List ℕ)) (p q : List Given) → MakesCalls x y r p → MakesCalls y z s q → MakesCalls x z (r ++ s) (p ++ q)
after x y z r s p q a b = record {
  calls = a.calls ++ b.calls;
  runs = runs_more a.calls b.calls x.endpoint y.endpoint z.endpoint a.runs b.runs;
  kinds = All-append (IsOfTurn (paced_id x.paced)) a.calls b.calls a.kinds (subst (λ i. All (IsOfTurn i) b.calls) a.rules.paced b.kinds);
  reads = subst (λ h. ReadsAllowed x (r ++ s) h) (sym (flat_map-append host_heard a.calls b.calls))
      (reads_more x r s (flat_map host_heard a.calls) (flat_map host_heard b.calls) a.reads (reads_before x y a.rules s (flat_map host_heard b.calls) b.reads));
  gave = flat_map-append host_gave a.calls b.calls ∙ ap (λ g. g ++ flat_map host_gave b.calls) a.gave ∙ ap (λ g. p ++ g) b.gave;
  rules = record { network = b.rules.network ∙ a.rules.network; from = b.rules.from ∙ a.rules.from; paced = b.rules.paced ∙ a.rules.paced };
  notes = accepts_more x y z a.calls b.calls a.notes b.notes;
}

-- ---- a datagram

one : (paced : Option ℕ) (call : HostCall) → IsOfTurn paced call → All (IsOfTurn paced) (call ∷ [])
one paced call is = All-cons (IsOfTurn paced) call [] is (All-nil (IsOfTurn paced))

pub hear : (old new : PacedHostCore) (bytes : List ℕ) (now : ℕ) → HearsAllowed old bytes now new → MakesCalls old new (bytes ∷ []) []
hear old new bytes now h = elim h [
  | inl read ↦ record {
    calls = Hears ByACore bytes now read.1.0 ∷ [];
    runs = (new.endpoint, read.1.1, refl);
    kinds = one (paced_id old.paced) (Hears ByACore bytes now read.1.0) tt;
    reads = inr (read.0, [], refl, refl);
    gave = refl;
    rules = record {
      network = ap (λ (c : PacedHostCore). c.network) read.3;
      from = ap (λ (c : PacedHostCore). c.from) read.3;
      paced = hears_id old.paced read.2.0 _ now new.endpoint new.paced read.2.2;
    };
    notes = heard_accepts old new bytes now read.1.0 read.1.2;
  }
  | inr barred ↦ record {
    calls = [];
    runs = ap (λ (c : PacedHostCore). c.endpoint) barred.1;
    kinds = All-nil (IsOfTurn (paced_id old.paced));
    reads = inl (barred.0, refl);
    gave = refl;
    rules = record { network = ap (λ (c : PacedHostCore). c.network) barred.1; from = ap (λ (c : PacedHostCore). c.from) barred.1; paced = ap (λ (c : PacedHostCore). paced_id c.paced) barred.1 };
    notes = λ a is. absurd (cc (sym (ap (λ (c : PacedHostCore). c.came) barred.1) ∙ is));
  }
]

pub lose : (old new : PacedHostCore) (bytes : List ℕ) (now : ℕ) → HearAllowedOutOfMemory old bytes now new → MakesCalls old new [] []
lose old new bytes now m = record {
  calls = Fails ∷ [];
  runs = (new.endpoint, m.1.1.same, refl);
  kinds = one (paced_id old.paced) Fails tt;
  reads = refl;
  gave = refl;
  rules = record { network = ap (λ (c : PacedHostCore). c.network) m.2; from = ap (λ (c : PacedHostCore). c.from) m.2; paced = ap (λ (c : PacedHostCore). paced_id c.paced) m.2 };
  notes = same_came old new (Fails ∷ []) (ap (λ (c : PacedHostCore). c.came) m.2);
}

-- ---- a poll

planned_poll : (old new : PacedHostCore) (now : ℕ) (given : Option Given) → GivesAsPlanned old now given new → MakesCalls old new [] (if_given given)
planned_poll old new now given g =
    let s : Sets (paced_id old.paced) old.endpoint g.ready = plans old.paced now g.paced old.endpoint g.ready g.plans in
    let poll : List HostCall = Gives now given ∷ [] in
    record {
      calls = s.calls ++ poll;
      runs = runs_more s.calls poll old.endpoint g.ready new.endpoint s.runs (new.endpoint, g.gives, refl);
      kinds = All-append (IsOfTurn (paced_id old.paced)) s.calls poll s.kinds (one (paced_id old.paced) (Gives now given) tt);
      reads = flat_map-append host_heard s.calls poll ∙ ap (λ h. h ++ []) s.heard;
      gave = flat_map-append host_gave s.calls poll ∙ ap (λ p. p ++ flat_map host_gave poll) s.gave ∙ append-nil (if_given given);
      rules = record {
        network = ap (λ (c : PacedHostCore). c.network) g.core;
        from = ap (λ (c : PacedHostCore). c.from) g.core;
        paced = polls_id g.paced new.endpoint (bytes_given given) now new.paced g.notes ∙ plans_id old.paced now g.paced old.endpoint g.ready g.plans;
      };
      notes = same_came old new (s.calls ++ poll) (ap (λ (c : PacedHostCore). c.came) g.core);
    }

pub give : (old new : PacedHostCore) (now : ℕ) (given : Option Given) → GivesOnceTold old now given new → MakesCalls old new [] (if_given given)
give old new now given g = elim g [
  | inl untold ↦ record {
    calls = [];
    runs = ap (λ (c : PacedHostCore). c.endpoint) untold.2;
    kinds = All-nil (IsOfTurn (paced_id old.paced));
    reads = refl;
    gave = ap if_given (sym untold.1);
    rules = record { network = ap (λ (c : PacedHostCore). c.network) untold.2; from = ap (λ (c : PacedHostCore). c.from) untold.2; paced = ap (λ (c : PacedHostCore). paced_id c.paced) untold.2 };
    notes = same_came old new [] (ap (λ (c : PacedHostCore). c.came) untold.2);
  }
  | inr told ↦ planned_poll old new now given told.1
]

-- ---- turns

abbrev pub answers : List Reception → List (List ℕ)
answers rs = answers_in (λ port bytes. bytes) rs

one_heard : (now port : ℕ) (bytes : Option (List ℕ)) (old new : PacedHostCore) → HearsAnswer hears now port bytes old new → MakesCalls old new (answer_in (λ b. b) bytes) []
one_heard now port None old new h = nothing old new h
one_heard now port (Some bytes) old new h = hear old new bytes now h

all_heard : (now port : ℕ) (rs : List Reception) (old new : PacedHostCore) → HearsEach hears now port rs old new → MakesCalls old new (answers rs) []
all_heard now port [] old new h = nothing old new h
all_heard now port (r ∷ rs) old new h = after old h.0 new (answer_in (λ b. b) r.bytes) (answers rs) [] [] (one_heard now port r.bytes old h.0 h.2) (all_heard now (port + 1) rs h.0 new h.3)

all_given : (now : ℕ) (ps : List Given) (old new : PacedHostCore) → GivesEach gives now ps old new → MakesCalls old new [] ps
all_given now [] old new g = nothing old new g
all_given now (p ∷ ps) old new g = after old g.0 new [] [] (p ∷ []) ps (give old g.0 now (Some p) g.1) (all_given now ps g.0 new g.2)

given_out : (now : ℕ) (ps : List Given) (old new : PacedHostCore) → GivesAll gives now ps old new → MakesCalls old new [] ps
given_out now ps old new g = elim g [
  | inl full ↦ all_given now ps old new full.0
  | inr rest ↦ subst (λ xs. MakesCalls old new [] xs) (append-nil ps) (after old rest.0 new [] [] ps [] (all_given now ps old rest.0 rest.1) (give rest.0 new now None rest.3))
]

pub a_turn : (t : Turn) (old new : PacedHostCore) → IsTurn hears gives 1 t old new → MakesCalls old new (answers t.answers) t.packets
a_turn t old new is =
    subst (λ rs. MakesCalls old new rs t.packets) (append-nil (answers t.answers))
    (after old is.1 new (answers t.answers) [] [] t.packets (all_heard t.moment 0 t.answers old is.1 is.2) (given_out t.moment t.packets is.1 new is.3))

pub turns : (course : List Turn) (old new : PacedHostCore) → Turns hears gives 1 course old new → MakesCalls old new (answers (received_of course)) (packets_of course)
turns [] old new t = nothing old new t
turns (turn ∷ course) old new t =
    subst (λ rs. MakesCalls old new rs (packets_of (turn ∷ course))) (sym (flat_map-append (λ (r : Reception). answer_in (λ b. b) r.bytes) turn.answers (received_of course)))
    (after old t.0 new (answers turn.answers) (answers (received_of course)) turn.packets (packets_of course) (a_turn turn old t.0 t.1) (turns course t.0 new t.2))

-- ---- a turn that a fault ended

-- what was read is what the ports gave before the fault
abbrev pub ReadsBefore : RunFault → Turn → PacedHostCore → PacedHostCore → Type 0
ReadsBefore fault t old new = (received lost : List (List ℕ)) × (answers t.answers ≡ received ++ lost) × (length lost ≤ 1)
    × (lost ≢ [] → fault ≡ OutOfMemory) × MakesCalls old new received t.packets

-- a port at which the device failed gave nothing
of_memory : (now port : ℕ) (last : List Reception) (fault : RunFault) (old new : PacedHostCore) → FailsAtPort hear_out_of_memory now port last fault old new → answers last ≢ [] → fault ≡ OutOfMemory
of_memory now port last Device old new f some = absurd (some (ap answers f.0))
of_memory now port last OutOfMemory old new f some = refl

-- at the port the device failed, or memory ran out for one datagram
few : (now port : ℕ) (last : List Reception) (fault : RunFault) (old new : PacedHostCore) → FailsAtPort hear_out_of_memory now port last fault old new → length (answers last) ≤ 1
few now port last Device old new f = subst (λ rs. length (answers rs) ≤ 1) (sym f.0) (omega arith)
few now port last OutOfMemory old new f = subst (λ rs. length (answers rs) ≤ 1) (sym f.1) (omega arith)

failed : (now port : ℕ) (last : List Reception) (fault : RunFault) (old new : PacedHostCore) → FailsAtPort hear_out_of_memory now port last fault old new → MakesCalls old new [] []
failed now port last Device old new f = nothing old new f.1
failed now port last OutOfMemory old new f = lose old new f.0 now f.2

failed_after : {A : Type 0} (now : ℕ) (ways : Ways A) (ps : List Given) (sent : List A) (fault : RunFault) (old new : PacedHostCore)
    → FailsAfter gives next_out_of_memory 64 now ways ps sent fault old new → MakesCalls old new [] ps
failed_after now ways ps sent Device old new f = all_given now ps old new f.0
failed_after now ways ps sent OutOfMemory old new f = absurd f.4

pub faults : {A : Type 0} (ways : Ways A) (t : Turn) (sent : List A) (fault : RunFault) (old new : PacedHostCore)
    → FailsMidTurn hears hear_out_of_memory gives next_out_of_memory 1 ways t sent fault old new → ReadsBefore fault t old new
faults ways t sent fault old new b = elim b [
  | inl hearing ↦ (
    answers hearing.0,
    answers hearing.1,
    ap answers hearing.3 ∙ flat_map-append (λ (r : Reception). answer_in (λ b. b) r.bytes) hearing.0 hearing.1,
    few t.moment (length hearing.0) hearing.1 fault hearing.2 new hearing.6,
    of_memory t.moment (length hearing.0) hearing.1 fault hearing.2 new hearing.6,
    subst (λ rs. MakesCalls old new rs t.packets) (append-nil (answers hearing.0))
        (subst (λ ps. MakesCalls old new (answers hearing.0 ++ []) ps) (sym hearing.7)
        (after old hearing.2 new (answers hearing.0) [] [] [] (all_heard t.moment 0 hearing.0 old hearing.2 hearing.5) (failed t.moment (length hearing.0) hearing.1 fault hearing.2 new hearing.6))),
  )
  | inr sending ↦ (
    answers t.answers,
    [],
    sym (append-nil (answers t.answers)),
    omega arith,
    λ some. absurd (some refl),
    subst (λ rs. MakesCalls old new rs t.packets) (append-nil (answers t.answers))
        (after old sending.1 new (answers t.answers) [] [] t.packets (all_heard t.moment 0 t.answers old sending.1 sending.2) (failed_after t.moment ways t.packets sent fault sending.1 new sending.3)),
  )
]

-- ---- a turn of a host over its socket

-- a turn, what it did to what is around the core, and its calls
pub record Turned {K : Type 0} (drives : K → Turn → K → Type 0) (around around' : K) (old new : PacedHostCore) : Type 0 where
  pub turn : Turn
  pub driven : drives around turn around'
  pub calls : List HostCall
  pub runs : HostRuns calls old.endpoint new.endpoint
  pub kinds : All (IsOfTurn (paced_id old.paced)) calls
  pub passed : AreOfTurn old turn calls ⊎ LoseRequest old turn calls old.endpoint
  pub rules : SameRules old new
  pub notes : Accepts old new calls

-- a turn in which memory ran out, as a call that is refused
pub record Lost (t : Turn) (old new : PacedHostCore) : Type 0 where
  pub same : SameBut old.endpoint new.endpoint
  pub loses : LoseRequest old t (Fails ∷ []) old.endpoint
  pub rules : SameRules old new
  pub notes : Accepts old new (Fails ∷ [])

lost_first : (t : Turn) (old new : PacedHostCore) (last : List Reception) → t.answers ≡ last → FailsAtPort hear_out_of_memory t.moment 0 last OutOfMemory old new → t.packets ≡ [] → Lost t old new
lost_first t old new last are f none =
    let asks = f.2.1.0.asks in
    record {
      same = f.2.1.1.same;
      loses = record {
        bytes = f.0;
        from = f.2.1.0.packet.header.from;
        brought = ap answers (are ∙ f.1);
        asks = record { packet = f.2.1.0.packet; header = f.2.1.0.header; body = f.2.1.0.body; is = asks.comes.is; request = asks.request; from = refl };
        allowed = f.2.0;
        before = [];
        later = [];
        refused = refl;
        there = old.endpoint;
        runs = refl;
        acceptable = f.2.1.0;
        heard = refl;
        gave = refl;
        sent = none;
      };
      rules = record { network = ap (λ (c : PacedHostCore). c.network) f.2.2; from = ap (λ (c : PacedHostCore). c.from) f.2.2; paced = ap (λ (c : PacedHostCore). paced_id c.paced) f.2.2 };
      notes = same_came old new (Fails ∷ []) (ap (λ (c : PacedHostCore). c.came) f.2.2);
    }

-- the one port gave a datagram, so none was heard before it
lost : (t : Turn) (old mid new : PacedHostCore) (heard last : List Reception) → t.answers ≡ heard ++ last → length heard < 1 → HearsEach hears t.moment 0 heard old mid
    → FailsAtPort hear_out_of_memory t.moment (length heard) last OutOfMemory mid new → t.packets ≡ [] → Lost t old new
lost t old mid new [] last are few h f none = lost_first t old new last are (subst (λ c. FailsAtPort hear_out_of_memory t.moment 0 last OutOfMemory c new) h f) none
lost t old mid new (r ∷ rs) last are few h f none = absurd (omega (arith, few))

broken_off : {A : Type 0} (ways : Ways A) (t : Turn) (sent : List A) (old new : PacedHostCore)
    → FailsMidTurn hears hear_out_of_memory gives next_out_of_memory 1 ways t sent OutOfMemory old new → Lost t old new
broken_off ways t sent old new b = elim b [
  | inl hearing ↦ lost t old hearing.2 new hearing.0 hearing.1 hearing.3 hearing.4 hearing.5 hearing.6 hearing.7
  | inr sending ↦ absurd sending.3.4
]

pub host_turn : {K : Type 0} (drives : K → Turn → K → Type 0) (peers : Peers) (around around' : K) (old new : PacedHostCore) (turn : Activity)
    → TakesHostTurn around around' drives peers old new turn → Turned drives around around' old new
host_turn drives peers around around' old new turn t = elim t [
  | inl whole ↦
      let m : MakesCalls old new (answers whole.0.answers) whole.0.packets = a_turn whole.0 old new whole.1 in
      record {
        turn = whole.0;
        driven = whole.2;
        calls = m.calls;
        runs = m.runs;
        kinds = m.kinds;
        passed = inl (record { reads = m.reads; gave = m.gave });
        rules = m.rules;
        notes = m.notes;
      }
  | inr part ↦
      let m : Lost part.0 old new = broken_off (by_ip peers) part.0 part.1 old new part.2 in
      record {
        turn = part.0;
        driven = part.3;
        calls = Fails ∷ [];
        runs = (new.endpoint, m.same, refl);
        kinds = one (paced_id old.paced) Fails tt;
        passed = inr m.loses;
        rules = m.rules;
        notes = m.notes;
      }
]
