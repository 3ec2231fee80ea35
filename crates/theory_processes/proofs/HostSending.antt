-- The rounds of a sending host, as calls.
use Rattle.std.proofs.Common.{◌≡◌, ◌≢◌, ◌==◌, ◌+◌, ◌-◌, ◌%◌, ◌<◌, ◌≤◌, ℕ, List, [], ◌∷◌, ◌++◌, map, Option, None, Some, refl, sym, ◌∙◌, inl, inr, ap, subst, arith}
use Rattle.std.specs.Prelude.{All, IfSome, flat_map}
use Rattle.std.specs.List.{concat}
use Rattle.std.specs.Io.KnownBytes.{Consumes, IsAtEnd}
use Rattle.std.proofs.Math.Nat.{mod-eq_of_lt}
use Rattle.std.proofs.lemmas.Bool.{cond-true}
use Rattle.std.proofs.lemmas.Bool.Decides.{Decides-eqb}
use Rattle.std.proofs.lemmas.Grind.{flat_map-append}
use Rattle.std.proofs.lemmas.List.{append-nil}
use Rattle.std.proofs.lemmas.List.Elements.{All-append, All-cons, All-head, All-nil, All-tail}
use Rattle.ipx_carrier.specs.Turns.{Peers, Turn}
use Rattle.ipx_config.specs.Destinations.{dialed_ip}
use Rattle.ipx_config.specs.declared.host.HostConfig.{HostConfig}
use Rattle.ipx_wire.specs.declared.address.Address.{Address}
use Rattle.spx_link.specs.Links.{id_after}
use Rattle.spx_link.specs.Offer.{dialed}
use Rattle.spx_messages.specs.EndpointView.{EndpointView, Held, held_at}
use Rattle.spx_messages.specs.Message.{MessageView}
use Rattle.spx_theory.specs.Names.{NameLaws}
use Rattle.ipx_host.specs.Dropping.{DropsCame}
use Rattle.ipx_host.specs.Feeding.{FeedState, Feeds}
use Rattle.ipx_host.specs.HostPorts.{IsOpened}
use Rattle.ipx_host.specs.Passing.{Take}
use Rattle.ipx_host.specs.SendRounds.{LastRound, Round, Rounds, RunsOut, SendState, feeding_of}
use Rattle.ipx_host.specs.SendSteps.{FeedsOn}
use Rattle.ipx_host.specs.Sent.{IsDialing, SendsWholeInput}
use Rattle.ipx_host.specs.Transfer.{IsWholeAt as IsWholeLink}
use Rattle.ipx_host.specs.Turning.{Around, DrivesTurn}
use Rattle.ipx_host.specs.declared.paced_host_core.PacedHostCore.{PacedHostCore}
use Rattle.ipx_sockets.specs.PortTurns.{HostPort}
use Rattle.theory_processes.specs.HostCalls.{AsksAgain, Begins, Closes, Dials, DialsAt, Fails, Gives, HandsIn, Hears, HostCall, Paces, Releases, Takes}
use Rattle.theory_processes.specs.Loops.{HostRuns}
use Rattle.theory_processes.specs.Senders.{message_in, messages_in}
use Rattle.theory_processes.specs.BetweenTurns.{TakesOf, hands_on, message_of, take_call}
use Rattle.theory_processes.specs.PortCalls.{PassThrough}
use Rattle.theory_processes.specs.SendingCalls.{SendsByCalls, bodies_in}
use Rattle.theory_processes.specs.TurnCalls.{IsOfTurn, SameRules, paced_id}
use Rattle.theory_processes.proofs.Addressing.{goes_on, same_held}
use Rattle.theory_processes.proofs.Keeping.{MakesNone, keeps_id}
use Rattle.theory_processes.proofs.Taking.{drops}
use Rattle.theory_processes.proofs.HostTurning.{Turned, host_turn, runs_more}
use Rattle.theory_processes.proofs.Through.{AreSilent, kept, rules_after, silent_more, silent_takes, through_more, turn_through}
use Rattle.theory_processes.proofs.Working.{closes, hands}

-- ---- calls that make no connection, and hand in these bytes at an id

pub record Sends (id : ℕ) (old new : EndpointView) (bytes : List ℕ) : Type 0 where
  pub calls : List HostCall
  pub runs : HostRuns calls old new
  pub none : All MakesNone calls
  pub bodies : bodies_in id calls ≡ bytes
  pub silent : AreSilent calls

bodies_more : (id : ℕ) (a b : List HostCall) → bodies_in id (a ++ b) ≡ bodies_in id a ++ bodies_in id b
bodies_more id a b =
    ap (flat_map (λ (m : MessageView). m.body)) (flat_map-append (message_in id) a b)
    ∙ flat_map-append (λ (m : MessageView). m.body) (messages_in id a) (messages_in id b)

after : (id : ℕ) (x y z : EndpointView) (bs cs : List ℕ) → Sends id x y bs → Sends id y z cs → Sends id x z (bs ++ cs)
after id x y z bs cs a b = record {
  calls = a.calls ++ b.calls;
  runs = runs_more a.calls b.calls x y z a.runs b.runs;
  none = All-append MakesNone a.calls b.calls a.none b.none;
  bodies = bodies_more id a.calls b.calls ∙ ap (λ l. l ++ bodies_in id b.calls) a.bodies ∙ ap (λ l. bs ++ l) b.bodies;
  silent = silent_more a.calls b.calls a.silent b.silent;
}

nothing : (id : ℕ) (old new : EndpointView) → new ≡ old → Sends id old new []
nothing id old new same = record { calls = []; runs = same; none = All-nil MakesNone; bodies = refl; silent = (refl, refl) }

-- ---- calls that hand in nothing

quiet_of_turn : (paced : Option ℕ) (id : ℕ) (c : HostCall) → IsOfTurn paced c → MakesNone c × (message_in id c ≡ [])
quiet_of_turn paced id (Hears source bytes now answer) is = (tt, refl)
quiet_of_turn paced id (Gives now given) is = (tt, refl)
quiet_of_turn paced id (Dials socket to buffers now j) is = absurd is
quiet_of_turn paced id (HandsIn j m) is = absurd is
quiet_of_turn paced id (Closes j) is = absurd is
quiet_of_turn paced id (Takes j answer) is = absurd is
quiet_of_turn paced id (Paces j window manual) is = (tt, refl)
quiet_of_turn paced id (AsksAgain j place) is = (tt, refl)
quiet_of_turn paced id (Releases j) is = (tt, refl)
quiet_of_turn paced id (Begins socket buffers) is = absurd is
quiet_of_turn paced id Fails is = (tt, refl)

-- a list of calls that make no connection and hand in nothing
abbrev AreQuiet : ℕ → List HostCall → Type 0
AreQuiet id calls = All MakesNone calls × (messages_in id calls ≡ [])

quiet_turn : (paced : Option ℕ) (id : ℕ) (calls : List HostCall) → All (IsOfTurn paced) calls → AreQuiet id calls
quiet_turn paced id [] all = (All-nil MakesNone, refl)
quiet_turn paced id (c ∷ calls) all =
    let first = quiet_of_turn paced id c (All-head (IsOfTurn paced) c calls all) in
    let rest : AreQuiet id calls = quiet_turn paced id calls (All-tail (IsOfTurn paced) c calls all) in
    (All-cons MakesNone c calls first.0 rest.0, ap (λ ms. ms ++ messages_in id calls) first.1 ∙ rest.1)

quiet_takes : (id : ℕ) (takes : List Take) → AreQuiet id (map take_call takes ++ Fails ∷ [])
quiet_takes id [] = (All-cons MakesNone Fails [] tt (All-nil MakesNone), refl)
quiet_takes id (t ∷ takes) = let rest = quiet_takes id takes in (All-cons MakesNone (take_call t) (map take_call takes ++ Fails ∷ []) tt rest.0, rest.1)

quietly : (id : ℕ) (calls : List HostCall) (old new : EndpointView) → HostRuns calls old new → AreQuiet id calls → AreSilent calls → Sends id old new []
quietly id calls old new runs q silent = record { calls = calls; runs = runs; none = q.0; bodies = ap (flat_map (λ (m : MessageView). m.body)) q.1; silent = silent }

-- ---- between turns

dropped : (id : ℕ) (old new : EndpointView) → DropsCame old new id → Sends id old new []
dropped id old new d = let t : TakesOf id old new = drops old new id d in quietly id (map take_call t.0 ++ Fails ∷ []) old new t.2 (quiet_takes id t.0) (silent_takes t.0)

-- the bytes of a read
handed : (id : ℕ) (old new : EndpointView) (bytes : List ℕ) → HostRuns (hands_on id bytes) old new → Sends id old new bytes
handed id old new [] runs = nothing id old new runs
handed id old new (b ∷ bs) runs =
    let m : MessageView = message_of (b ∷ bs) in
    record {
      calls = HandsIn id m ∷ [];
      runs = runs;
      none = All-cons MakesNone (HandsIn id m) [] tt (All-nil MakesNone);
      bodies = ap (λ (ms : List MessageView). flat_map (λ (x : MessageView). x.body) (ms ++ [])) (cond-true (id == id) (m ∷ []) [] ((Decides-eqb id id).1 refl)) ∙ append-nil (b ∷ bs);
      silent = (refl, refl);
    }

fed : (id : ℕ) (old new : FeedState) (bytes : List ℕ) → Feeds old new id bytes → Sends id old.endpoint new.endpoint bytes
fed id old new bytes f = elim f [
  | inl reads ↦ handed id old.endpoint new.endpoint bytes (hands old.endpoint new.endpoint id bytes reads.handed)
  | inr other ↦ elim other [
    | inl ends ↦ subst (Sends id old.endpoint new.endpoint) (sym ends.none) (record {
      calls = Closes id ∷ [];
      runs = (new.endpoint, closes old.endpoint new.endpoint id ends.queued, refl);
      none = All-cons MakesNone (Closes id) [] tt (All-nil MakesNone);
      bodies = refl;
      silent = (refl, refl);
    })
    | inr leaves ↦ subst (Sends id old.endpoint new.endpoint) (sym leaves.none) (nothing id old.endpoint new.endpoint (ap (λ (s : FeedState). s.endpoint) leaves.same))
  ]
]

fed_on : (id : ℕ) (seen : EndpointView) (old new : FeedState) (bytes : List ℕ) → FeedsOn id seen old new bytes → Sends id seen new.endpoint bytes
fed_on id seen old new bytes f =
    after id seen f.dropped new.endpoint [] bytes (dropped id seen f.dropped f.drops)
    (fed id (record old { endpoint = f.dropped; acked_bytes = f.acked_bytes }) new bytes f.feeds)

-- ---- rounds

module _ (rules : PacedHostCore) (id : ℕ) where
  -- such calls, which passed through a port. The rules of the core stay
  pub record Passes (old new : PacedHostCore) (p q : HostPort) (bytes : List ℕ) : Type 0 where
    pub calls : List HostCall
    pub runs : HostRuns calls old.endpoint new.endpoint
    pub none : All MakesNone calls
    pub bodies : bodies_in id calls ≡ bytes
    pub turns : List Turn
    pub through : PassThrough rules turns calls old.endpoint new.endpoint p q
    pub same : SameRules rules new

  both : (x y z : PacedHostCore) (p q r : HostPort) (bs cs : List ℕ) → Passes x y p q bs → Passes y z q r cs → Passes x z p r (bs ++ cs)
  both x y z p q r bs cs a b = record {
    calls = a.calls ++ b.calls;
    runs = runs_more a.calls b.calls x.endpoint y.endpoint z.endpoint a.runs b.runs;
    none = All-append MakesNone a.calls b.calls a.none b.none;
    bodies = bodies_more id a.calls b.calls ∙ ap (λ l. l ++ bodies_in id b.calls) a.bodies ∙ ap (λ l. bs ++ l) b.bodies;
    turns = a.turns ++ b.turns;
    through = through_more rules a.turns b.turns a.calls b.calls x.endpoint y.endpoint z.endpoint p q r a.through b.through;
    same = b.same;
  }

  -- between turns the port stays
  between : (old new : PacedHostCore) (p : HostPort) (bytes : List ℕ) → SameRules rules new → Sends id old.endpoint new.endpoint bytes → Passes old new p p bytes
  between old new p bytes same s = record { calls = s.calls; runs = s.runs; none = s.none; bodies = s.bodies; turns = []; through = (refl, s.runs, s.silent.0, s.silent.1); same = same }

module _ {R : Type 0} (rules : PacedHostCore) (peers : Peers) (id : ℕ) where
  turned : (old new : PacedHostCore) (around around' : Around R) → SameRules rules old → Turned DrivesTurn around around' old new → Passes rules id old new around.port around'.port []
  turned old new around around' same t =
      let q = quiet_turn (paced_id old.paced) id t.calls t.kinds in
      record {
        calls = t.calls;
        runs = t.runs;
        none = q.0;
        bodies = ap (flat_map (λ (m : MessageView). m.body)) q.1;
        turns = t.turn ∷ [];
        through = turn_through rules old new around around' same t;
        same = rules_after rules old new same t.rules;
      }

  round : (old new : SendState (Around R)) (bytes : List ℕ) → SameRules rules old.core → Round old new bytes DrivesTurn peers id → Passes rules id old.core new.core old.around.port new.around.port bytes
  round old new bytes same r =
      let t = turned old.core r.seen old.around new.around same (host_turn DrivesTurn peers old.around new.around old.core r.seen r.turn r.turned) in
      both rules id old.core r.seen new.core old.around.port new.around.port new.around.port [] bytes t
      (between rules id r.seen new.core new.around.port bytes (rules_after rules r.seen new.core t.same (kept r.seen new.core r.core)) (fed_on id r.seen.endpoint (feeding_of old) (feeding_of new) bytes r.fed))

  rounds : (old new : SendState (Around R)) (bodies : List (List ℕ)) → SameRules rules old.core → Rounds old bodies new DrivesTurn peers id → Passes rules id old.core new.core old.around.port new.around.port (concat bodies)
  rounds old new [] same r = subst (λ (s : SendState (Around R)). Passes rules id old.core s.core old.around.port s.around.port []) (sym r) (between rules id old.core old.core old.around.port [] same (nothing id old.core.endpoint old.core.endpoint refl))
  rounds old new (bytes ∷ more) same r =
      let first = round old r.0 bytes same r.1 in
      both rules id old.core r.0.core new.core old.around.port r.0.around.port new.around.port bytes (concat more) first (rounds r.0 new more first.same r.2)

  pub runs_out : (old new : SendState (Around R)) (bodies : List (List ℕ)) → SameRules rules old.core → RunsOut old bodies new DrivesTurn peers id → Passes rules id old.core new.core old.around.port new.around.port (concat bodies)
  runs_out old new bodies same r =
      let l : LastRound r.0 new DrivesTurn peers id = r.2 in
      let first = rounds old r.0 bodies same r.1 in
      subst (Passes rules id old.core new.core old.around.port new.around.port) (append-nil (concat bodies))
      (both rules id old.core r.0.core new.core old.around.port r.0.around.port new.around.port (concat bodies) [] first
      (turned r.0.core new.core r.0.around new.around first.same (host_turn DrivesTurn peers r.0.around new.around r.0.core new.core l.turn l.turned)))

-- ---- the call that begins it

-- the endpoint before the connection was dialled: it held nothing
undialled : EndpointView → ℕ → EndpointView
undialled e id = record e { links = record { last = id - 1; links = [] }; parts = [] }

next_of : (id : ℕ) → 0 < id → id < 65535 → id ≡ id_after (id - 1) 0
next_of id low high =
    let few : (id - 1) + 0 < 65534 = omega (arith, low, high) in
    let is : ((id - 1) + 0) % 65534 ≡ (id - 1) + 0 = mod-eq_of_lt few in
    omega (arith, low, is)

module _ {K : Type 0} (file : HostConfig) (to : Address) (p : SendState K) (peers : Peers) (id : ℕ) (d : IsDialing file to p peers id) (low : 0 < file.buffers) (high : file.buffers ≤ 8192) where
  dials : DialsAt (undialled p.core.endpoint id) file.socket to file.buffers 0 id p.core.endpoint
  unfolding undialled
  dials = record {
    range = (low, high);
    room = λ e. cc e;
    free = record { steps = 0; is = next_of id d.range.0 d.range.1; free = refl; passed = λ k below. absurd (omega (arith, below)) };
    adds = record {
      held = d.link;
      others = λ q apart. d.alone q apart;
      last = d.last;
      count = d.count;
      self = record { network = refl; node = refl; router = refl; buffers = λ s. refl };
    };
  }

-- ---- a whole run

there : (o : Option Held) (h : Held) → o ≡ Some h → o ≢ None
there o h some none = cc (sym some ∙ none)

-- a reader that is at its end gave all that it had
all_of : (a b : Option (List ℕ)) (bs got : List ℕ) → Consumes a b bs → IsAtEnd b → got ≡ bs → IfSome a (λ xs. got ≡ xs)
all_of None b bs got p q e = tt
all_of (Some x) None bs got p q e = absurd p
all_of (Some x) (Some y) bs got p q e = e ∙ sym (p ∙ ap (λ l. bs ++ l) q ∙ append-nil bs)

pub sends : {R : Type 0} → NameLaws → (file : HostConfig) (to : Address) (known left : Option (List ℕ)) → file.network.0 ≢ 0
    → (w : SendsWholeInput {K = Around R} file to known left DrivesTurn) → IsOpened file (dialed_ip file to) w.sends.start.around.port → SendsByCalls file to known
unfolding undialled
sends {R} laws file to known left network w opened =
    let s = w.sends in
    let t = s.transfers in
    let e : EndpointView = s.start.core.endpoint in
    let r = runs_out s.start.core s.peers s.id s.start s.last t.bodies (record { network = refl; from = refl; paced = refl }) t.runs in
    let link : IsWholeLink s.last.core.endpoint s.id = s.whole in
    let input : Consumes known left (concat t.bodies) = subst (λ a. Consumes a left (concat t.bodies)) s.begins (subst (λ b. Consumes s.start.known b (concat t.bodies)) s.ends t.fed) in
    record {
      start = undialled e s.id;
      last = s.last.core.endpoint;
      id = s.id;
      more = r.calls;
      new = record {
        network = λ is. network (ap (λ n. n.0) (sym s.dials.network) ∙ is);
        none = λ q. refl;
        range = λ socket buffers is. absurd (cc (sym (s.dials.no_listener socket) ∙ is));
      };
      network = s.dials.network;
      node = s.dials.node;
      alone = s.dials.no_listener;
      runs = (e, dials file to s.start s.peers s.id s.dials w.buffers.0 w.buffers.1, r.runs);
      keeps = keeps_id s.id r.calls e s.last.core.endpoint r.runs r.none s.dials.no_listener (there (held_at s.last.core.endpoint s.id) link.0 link.1);
      handed = all_of known left (concat t.bodies) (bodies_in s.id r.calls) input s.all r.bodies;
      whole = record { held = link.0; holds = link.1; ended = link.2.end_queued; acknowledged = link.2.queue };
      goes = goes_on laws r.calls e s.last.core.endpoint s.id to r.runs r.none s.dials.no_listener
          (λ h is. ap (λ (x : Held). x.link.remote) (same_held (held_at e s.id) h (record { link = dialed s.id file.socket to file.buffers 0; rest = None }) is s.dials.link)) link.0 link.1;
      opened = s.start.around.port;
      closed = s.last.around.port;
      as_opened = opened;
      rules = s.start.core;
      turns = r.turns;
      through = r.through;
    }
