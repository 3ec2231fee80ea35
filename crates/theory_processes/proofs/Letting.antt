-- A paced core gives units only as its pacer planned.
use Rattle.std.proofs.Common.{◌≡◌, ◌≢◌, ◌<◌, ◌≤◌, ◌==◌, ℕ, Bool, true, false, List, [], ◌∷◌, ◌++◌, Option, Some, None, refl, sym, ◌∙◌, inl, inr, ap, subst, arith, cond, length, take}
use Rattle.std.specs.Prelude.{◌&&◌, ◌||◌, IfSome, is_some, nat_le, nat_lt, unwrap_or, slice_get}
use Rattle.std.proofs.lemmas.List.{append-nil}
use Rattle.std.proofs.lemmas.Bool.{and_parts, cases_eq, ltb-true}
use Rattle.std.proofs.lemmas.Bool.Decides.{Decides-eqb}
use Rattle.ipx_carrier.specs.GivenPackets.{given_in}
use Rattle.ipx_carrier.specs.HostCore.{at_port}
use Rattle.ipx_carrier.specs.Turns.{Given}
use Rattle.ipx_wire.specs.declared.address.Node.{Node}
use Rattle.ipx_host.specs.Barring.{HearsAllowed}
use Rattle.ipx_host.specs.Paced.{CountsGiven, FollowsPlan, GivesAsPlanned, GivesOnceTold, IsToldOf, LinkReads, NotesDatagram, NotesGiven, NotesHeard, NotesPoll, Plans, PlansLink, asked_again_at, bytes_given, is_given_up, paced_numbers, planned}
use Rattle.ipx_host.specs.declared.paced_host_core.PacedHostCore.{PacedHostCore}
use Rattle.spx_congestion.specs.Capping.{HasLetGo, LetsGo, UnitsAreCapped, unit_at}
use Rattle.spx_congestion.specs.Capping as letting
use Rattle.spx_congestion.specs.Giving.{gave_of}
use Rattle.spx_congestion.specs.Pacing.{PacerView, made_pacer, plan_of}
use Rattle.spx_congestion.specs.declared.plan.Plan.{Plan}
use Rattle.spx_congestion.specs.declared.sent_kind.SentKind.TheVariants as Gaves
use Rattle.spx_link.specs.Limits.{end_stream, most_sends, most_units}
use Rattle.spx_link.specs.LinkView.{LinkView, due, is_working, numbers_of}
use Rattle.spx_link.specs.Offer.{pace_link}
use Rattle.spx_link.specs.Poll.{OutgoingView, acknowledges, asked_again, confirms, is_waiting, late, late_if_working, lost, may_probe, may_send, most_probes, place_below, poll_ack, poll_again, poll_at, poll_confirm, poll_late, poll_link, poll_probe, poll_reply, poll_request, poll_unit, probes_once, probes_or_lost, replies, requests, requests_or_lost, sends, sends_again, sends_again_or_lost, wanted}
use Rattle.spx_link.specs.declared.numbers.Numbers.{Numbers}
use Rattle.spx_link.specs.declared.outgoing.Sent.{Sent}
use Rattle.spx_link.specs.declared.outgoing.Sent.TheVariants as Sents
use Rattle.spx_link.specs.declared.queue.Queued.{Queued}
use Rattle.spx_link.specs.declared.received.Received.{Received}
use Rattle.spx_link.specs.declared.received.Received.TheVariants as Receiveds
use Rattle.spx_link.specs.declared.state.State.{State}
use Rattle.spx_link.specs.declared.state.State.TheVariants as States
use Rattle.spx_messages.specs.Arrives.{Arrives}
use Rattle.spx_messages.specs.EndpointView.{EndpointView, Held, held_at}
use Rattle.spx_messages.specs.Polls.{FirstLinkGives, GivesNothing, Polls, polled_held}
use Rattle.spx_messages.specs.declared.arrived.Arrived.{Arrived}
use Rattle.spx_messages.specs.declared.arrived.Arrived.TheVariants as Arriveds
use Rattle.theory_processes.specs.PacedRuns.{HasPaced, PacedCoresGiveSeldom, begins, carries_unit, gives, hears, loses, unit_given, unit_said, works}

-- ---- what a poll gives

-- a new unit only below the window, and on a manual link a unit again only if one was asked for
abbrev IsLet : LinkView → Sent → Type 0
IsLet l Sents.Request = Unit {0}
IsLet l Sents.Reply = Unit {0}
IsLet l Sents.Confirm = Unit {0}
IsLet l Sents.Unit = l.out < l.window
IsLet l Sents.Again = is_some l.again ≡ true
IsLet l Sents.Ack = Unit {0}
IsLet l Sents.Probe = Unit {0}

abbrev Lets : LinkView → Option OutgoingView → Type 0
Lets l None = Unit {0}
Lets l (Some given) = IsLet l given.what

abbrev LetsBy : LinkView → Option OutgoingView × LinkView → Type 0
LetsBy l p = Lets l p.0

-- either way
lets_if : (l : LinkView) (b : Bool) (x y : Option OutgoingView × LinkView) → (b ≡ true → LetsBy l x) → (b ≡ false → LetsBy l y) → LetsBy l (cond b x y)
lets_if l true x y one two = one refl
lets_if l false x y one two = two refl

lets_probe : (l : LinkView) (now : ℕ) → LetsBy l (poll_probe l now)
lets_probe l now = lets_if l (may_probe l now) (probes_or_lost l now) (None, l) (λ b. lets_if l (nat_le (most_probes l) l.probes) (None, lost l) (probes_once l now) (λ c. tt) (λ c. tt)) (λ b. tt)

lets_ack : (l : LinkView) (now : ℕ) → LetsBy l (poll_ack l now)
lets_ack l now = lets_if l l.owes_ack (acknowledges l now) (poll_probe l now) (λ b. tt) (λ b. lets_probe l now)

lets_late : (l : LinkView) (now : ℕ) (place : Option ℕ) → (is_some place ≡ true → is_some l.again ≡ true) → LetsBy l (poll_late l now place)
lets_late l now None asked = lets_ack l now
lets_late l now (Some place) asked = again (slice_get l.queue place)
  where
    again : (q : Option Queued) → LetsBy l (sends_again_or_lost l now place q)
    again None = tt
    again (Some q) = lets_if l (nat_le most_sends q.count) (None, lost l) (sends_again l now place q) (λ c. tt) (λ c. asked refl)

asked_only : (count : ℕ) (again : Option ℕ) → is_some (place_below count again) ≡ true → is_some again ≡ true
asked_only count None some = some
asked_only count (Some place) some = refl

wanted_only : (l : LinkView) (now : ℕ) → l.manual ≡ true → is_some (late_if_working l now) ≡ true → is_some l.again ≡ true
wanted_only l now manual = working (is_working l.state) refl
  where
    working : (b : Bool) → is_working l.state ≡ b → is_some (late_if_working l now) ≡ true → is_some l.again ≡ true
    working true is some =
        let path : late_if_working l now ≡ asked_again l = ap (λ b. cond b (wanted l now) None) is ∙ ap (λ b. cond b (asked_again l) (late l now)) manual in
        asked_only (length (take l.out l.queue)) l.again (subst (λ o. is_some o ≡ true) path some)
    working false is some =
        let path : late_if_working l now ≡ None = ap (λ b. cond b (wanted l now) None) is in
        let no : false ≡ true = subst (λ o. is_some o ≡ true) path some in
        absurd (cc no)

lets_unit : (l : LinkView) (now : ℕ) → l.manual ≡ true → LetsBy l (poll_unit l now)
lets_unit l now manual = lets_if l (may_send l) (sends l now (slice_get l.queue l.out)) (poll_again l now) (λ b. sent (opens b) (slice_get l.queue l.out)) (λ b. lets_late l now (late_if_working l now) (wanted_only l now manual))
  where
    opens : may_send l ≡ true → l.out < l.window
    opens may =
        let one = and_parts (is_working l.state) (is_waiting l && (nat_lt 0 l.room && (nat_lt l.out most_units && nat_lt l.out l.window))) may in
        let two = and_parts (is_waiting l) (nat_lt 0 l.room && (nat_lt l.out most_units && nat_lt l.out l.window)) one.1 in
        let three = and_parts (nat_lt 0 l.room) (nat_lt l.out most_units && nat_lt l.out l.window) two.1 in
        let four = and_parts (nat_lt l.out most_units) (nat_lt l.out l.window) three.1 in
        ltb-true l.out l.window four.1

    sent : l.out < l.window → (q : Option Queued) → LetsBy l (sends l now q)
    sent below None = tt
    sent below (Some q) = below

lets_confirm : (l : LinkView) (now : ℕ) → l.manual ≡ true → LetsBy l (poll_confirm l now)
lets_confirm l now manual = lets_if l l.owes_confirm (confirms l now) (poll_unit l now) (λ b. tt) (λ b. lets_unit l now manual)

lets_reply : (l : LinkView) (now : ℕ) → l.manual ≡ true → LetsBy l (poll_reply l now)
lets_reply l now manual = lets_if l l.owes_reply (replies l now) (poll_confirm l now) (λ b. tt) (λ b. lets_confirm l now manual)

lets_request : (l : LinkView) (now : ℕ) → LetsBy l (poll_request l now)
lets_request l now = lets_if l ((l.asked_count == 0) || due l.asked_at now) (requests_or_lost l now) (None, l) (λ b. lets_if l (nat_le most_sends l.asked_count) (None, lost l) (requests l now) (λ c. tt) (λ c. tt)) (λ b. tt)

lets_at : (state : State) (l : LinkView) (now : ℕ) → l.manual ≡ true → LetsBy l (poll_at state l now)
lets_at States.Opening l now manual = lets_request l now
lets_at States.Live l now manual = lets_reply l now manual
lets_at States.Ending l now manual = lets_reply l now manual
lets_at States.PeerEnded l now manual = lets_reply l now manual
lets_at States.Confirmed l now manual = lets_reply l now manual
lets_at States.Lost l now manual = tt

polled : (l : LinkView) (now : ℕ) (given : OutgoingView) → l.manual ≡ true → (poll_link l now).0 ≡ Some given → IsLet l given.what
polled l now given manual gave = subst (Lets l) gave (lets_at l.state l now manual)

-- ---- a planned link

planned_manual : (again : Option ℕ) (window : ℕ) (l : LinkView) → (asked_again_at again (pace_link l window true)).manual ≡ true
planned_manual None window l = refl
planned_manual (Some place) window l = refl

planned_window : (again : Option ℕ) (window : ℕ) (l : LinkView) → (asked_again_at again (pace_link l window true)).window ≡ window
planned_window None window l = refl
planned_window (Some place) window l = refl

planned_out : (again : Option ℕ) (window : ℕ) (l : LinkView) → (asked_again_at again (pace_link l window true)).out ≡ l.out
planned_out None window l = refl
planned_out (Some place) window l = refl

planned_again : (again : Option ℕ) (window : ℕ) (l : LinkView) → (asked_again_at again (pace_link l window true)).again ≡ again
planned_again None window l = refl
planned_again (Some place) window l = refl

-- so what it gives is let go by the plan
lets_go : (plan : Plan) (p : PacerView) (l : LinkView) (what : Sent) (stream : ℕ) → plan ≡ plan_of p → p.out ≡ l.out → IsLet (planned plan l) what → LetsGo p (gave_of what stream)
lets_go plan p l Sents.Request stream is out let' = tt
lets_go plan p l Sents.Reply stream is out let' = tt
lets_go plan p l Sents.Confirm stream is out let' = tt
lets_go plan p l Sents.Unit stream is out let' =
    let below : p.out < (plan_of p).window = subst (λ n. n < (plan_of p).window) (planned_out plan.again plan.window l ∙ sym out)
    (subst (λ n. (planned plan l).out < n) (planned_window plan.again plan.window l ∙ ap (λ (q : Plan). q.window) is) let') in
    either (stream == end_stream) below
  where
    either : (b : Bool) → p.out < (plan_of p).window → LetsGo p (cond b Gaves.End Gaves.Unit)
    either true below = below
    either false below = below
lets_go plan p l Sents.Again stream is out let' = subst (λ o. is_some o ≡ true) (planned_again plan.again plan.window l ∙ ap (λ (q : Plan). q.again) is) let'
lets_go plan p l Sents.Ack stream is out let' = tt
lets_go plan p l Sents.Probe stream is out let' = tt

-- ---- the time of a unit

times_are : (what : Sent) (stream now : ℕ) → unit_at (gave_of what stream) now ≡ cond (carries_unit what) (now ∷ []) []
times_are Sents.Request stream now = refl
times_are Sents.Reply stream now = refl
times_are Sents.Confirm stream now = refl
times_are Sents.Unit stream now = either (stream == end_stream)
  where
    either : (b : Bool) → unit_at (cond b Gaves.End Gaves.Unit) now ≡ now ∷ []
    either true = refl
    either false = refl
times_are Sents.Again stream now = refl
times_are Sents.Ack stream now = refl
times_are Sents.Probe stream now = refl

of_id : (id j now : ℕ) (what : Sent) → j ≡ id → unit_said id now (Some (j, what)) ≡ cond (carries_unit what) (now ∷ []) []
of_id id j now what same = rw ((Decides-eqb j id).1 same) refl

of_other : (id j now : ℕ) (what : Sent) → j ≢ id → unit_said id now (Some (j, what)) ≡ []
of_other id j now what apart = when (j == id) refl
  where
    when : (b : Bool) → (j == id) ≡ b → unit_said id now (Some (j, what)) ≡ []
    when true is = absurd (apart ((Decides-eqb j id).0 is))
    when false is = rw is refl

-- ---- the state of the core

pub record Lets-so-far (id : ℕ) (core : PacedHostCore) (units : List ℕ) (last : ℕ) : Type 0 where
  pub pacer : PacerView
  pub paced : core.paced ≡ Some (record { id = id; pacer = pacer })
  pub since : ℕ
  pub before : since ≤ last
  pub lets : HasLetGo pacer units since

-- it reads a datagram
reads_link : (id : ℕ) (j : ℕ) (r : Received) (old new : EndpointView) (bytes : List ℕ) (now : ℕ) (before : Option Numbers) (p q : PacerView) (units : List ℕ) (since : ℕ) → HasLetGo p units since → since ≤ now
    → Arrives old bytes now (Arriveds.Link j r) new → NotesHeard id (Arriveds.Link j r) before now p q (held_at new id) → (l : ℕ) × (l ≤ now) × HasLetGo q units l
reads_link id j r old new bytes now before p q units since lets late arrives notes = elim (cases_eq j id) [
  | inl same ↦ elim arrives.answers [
    | inl asked ↦ heard same asked.0.changes.held (λ e. cc (sym asked.1 ∙ e))
    | inr read ↦ heard same read.changes.held read.read
  ]
  | inr apart ↦ (since, late, subst (λ x. HasLetGo x units since) (sym (notes.stays (λ (l : LinkReads id (Arriveds.Link j r)). apart (link_id l.1)))) lets)
]
  where
    link_id : {s : Received} → Arriveds.Link j r ≡ Arriveds.Link id s → j ≡ id
    link_id e = cc

    heard : {h : Held} → j ≡ id → held_at new j ≡ Some h → r ≢ Receiveds.Stranger → (l : ℕ) × (l ≤ now) × HasLetGo q units l
    heard {h = h} same at read =
        let told : IsToldOf r p (unwrap_or before (numbers_of h.link)) (numbers_of h.link) now q = subst (λ o. IfSome o (λ (k : Held). IsToldOf r p (unwrap_or before (numbers_of k.link)) (numbers_of k.link) now q)) (ap (held_at new) (sym same) ∙ at) (notes.hears r (ap (λ k. Arriveds.Link k r) same) read) in
        (now, omega arith, letting.hears p q units since (unwrap_or before (numbers_of h.link)) (numbers_of h.link) told.0 now lets late told.2)

abbrev Later : ℕ → PacerView → List ℕ → Type 0
Later now q units = (l : ℕ) × (l ≤ now) × HasLetGo q units l

-- no link read it
reads_none : (id : ℕ) (answer : Arrived) (before : Option Numbers) (now : ℕ) (p q : PacerView) (there : Option Held) (units : List ℕ) (since : ℕ) → HasLetGo p units since → since ≤ now → (LinkReads id answer → ⊥) → NotesHeard id answer before now p q there → Later now q units
reads_none id answer before now p q there units since lets in_time unread notes = (since, in_time, subst (λ x. HasLetGo x units since) (sym (notes.stays unread)) lets)

reads : (id : ℕ) (answer : Arrived) (old new : EndpointView) (bytes : List ℕ) (now : ℕ) (before : Option Numbers) (p q : PacerView) (units : List ℕ) (since : ℕ) → HasLetGo p units since → since ≤ now
    → Arrives old bytes now answer new → NotesHeard id answer before now p q (held_at new id) → Later now q units
reads id (Arriveds.Bad f) old new bytes now before p q units since lets late arrives notes = reads_none id (Arriveds.Bad f) before now p q (held_at new id) units since lets late (λ l. cc l.1) notes
reads id Arriveds.NotOurs old new bytes now before p q units since lets late arrives notes = reads_none id Arriveds.NotOurs before now p q (held_at new id) units since lets late (λ l. cc l.1) notes
reads id (Arriveds.BadSpx f) old new bytes now before p q units since lets late arrives notes = reads_none id (Arriveds.BadSpx f) before now p q (held_at new id) units since lets late (λ l. cc l.1) notes
reads id Arriveds.NoListener old new bytes now before p q units since lets late arrives notes = reads_none id Arriveds.NoListener before now p q (held_at new id) units since lets late (λ l. cc l.1) notes
reads id Arriveds.NoRoom old new bytes now before p q units since lets late arrives notes = reads_none id Arriveds.NoRoom before now p q (held_at new id) units since lets late (λ l. cc l.1) notes
reads id Arriveds.Stranger old new bytes now before p q units since lets late arrives notes = reads_none id Arriveds.Stranger before now p q (held_at new id) units since lets late (λ l. cc l.1) notes
reads id (Arriveds.Accepted k) old new bytes now before p q units since lets late arrives notes = reads_none id (Arriveds.Accepted k) before now p q (held_at new id) units since lets late (λ l. cc l.1) notes
reads id (Arriveds.Link j r) old new bytes now before p q units since lets late arrives notes = reads_link id j r old new bytes now before p q units since lets late arrives notes

it_hears : (id : ℕ) (old new : PacedHostCore) (units : List ℕ) (last : ℕ) (bytes : List ℕ) (now : ℕ) → Lets-so-far id old units last → last ≤ now → HearsAllowed old bytes now new → Lets-so-far id new units now
it_hears id old new units last bytes now t later h = elim h [
  | inl heard ↦
      let answer = heard.2.0 in
      let before : Option Numbers = paced_numbers old.paced old.endpoint in
      let notes : NotesDatagram (Some (record { id = id; pacer = t.pacer })) answer before now new.endpoint new.paced = subst (λ o. NotesDatagram o answer before now new.endpoint new.paced) t.paced heard.2.2 in
      let since_late = t.before in
      let it : Later now notes.0 units = reads id answer old.endpoint new.endpoint bytes now before t.pacer notes.0 units t.since t.lets (omega (arith, since_late, later)) heard.2.1 notes.2 in
      record { pacer = notes.0; paced = notes.1; since = it.0; before = it.1; lets = it.2 }
  | inr barred ↦
      let since_late = t.before in
      record { pacer = t.pacer; paced = ap (λ (c : PacedHostCore). c.paced) barred.1 ∙ t.paced; since = t.since; before = omega (arith, since_late, later); lets = t.lets }
]

-- ---- it gives

-- the pacer has planned, and the link, if it is there, is set so
record IsReady (id : ℕ) (ready : EndpointView) (units : List ℕ) (now : ℕ) (p : PacerView) : Type 0 where
  since : ℕ
  late : since ≤ now
  lets : HasLetGo p units since
  plan : Plan
  is : plan ≡ plan_of p
  link : (h : Held) → held_at ready id ≡ Some h → (l : LinkView) × (p.out ≡ l.out) × (h.link ≡ planned plan l)

follows : (b : Bool) (id : ℕ) (plan : Plan) (held : Held) (old ready : EndpointView) → FollowsPlan b id plan held old ready → (h : Held) → held_at ready id ≡ Some h → h.link ≡ planned plan held.link
follows true id plan held old ready f h at = absurd (cc (sym f.gone ∙ at))
follows false id plan held old ready f h at = ap (λ (k : Held). k.link) (some_is (sym at ∙ f.held))
  where
    some_is : {x y : Held} → Some x ≡ Some y → x ≡ y
    some_is e = cc

readies : (id now : ℕ) (p q : PacerView) (o : Option Held) (old ready : EndpointView) (units : List ℕ) (since : ℕ) → held_at old id ≡ o → HasLetGo p units since → since ≤ now → PlansLink id now p q o old ready → IsReady id ready units now q
readies id now p q None old ready units since holds lets late plans' =
    record {
      since = since;
      late = late;
      lets = subst (λ x. HasLetGo x units since) (sym plans'.0) lets;
      plan = plan_of q;
      is = refl;
      link = λ h at. absurd (cc (sym (ap (λ e. held_at e id) plans'.1 ∙ holds) ∙ at));
    }
readies id now p q (Some held) old ready units since holds lets late plans' =
    record {
      since = now;
      late = omega arith;
      lets = letting.plans p q units since held.link.out now lets late plans'.1.tends;
      plan = plans'.0;
      is = plans'.1.value;
      link = λ h at. (held.link, plans'.1.counts, follows (is_given_up q held.link) id plans'.0 held old ready plans'.2 h at);
    }

-- what is noted of a packet of another id
noted_other : (id j now : ℕ) (what : Sent) (bytes : List ℕ) (o : Option Held) (p q : PacerView) → j ≢ id → NotesGiven id (Some (j, what)) bytes o now p q → q ≡ p
noted_other id j now what bytes None p q apart n = n
noted_other id j now what bytes (Some h) p q apart n = n.1 apart

polls_now : (id : ℕ) (ready new : EndpointView) (units bytes : List ℕ) (now : ℕ) (p q : PacerView) (polled' : Option (Node × ℕ)) (room written : List ℕ) → IsReady id ready units now p → Polls ready now polled' room written new
    → NotesGiven id new.said bytes (held_at new id) now p q → Later now q (units ++ unit_given id now (given_in written (at_port polled')) new.said)
polls_now id ready new units bytes now p q None room written r polls notes =
    let g : GivesNothing ready now room written new = polls.gives in
    let same : q ≡ p = subst (λ s. NotesGiven id s bytes (held_at new id) now p q) g.said notes in
    (r.since, r.late, subst (λ us. HasLetGo q us r.since) (sym (append-nil units)) (subst (λ x. HasLetGo x units r.since) (sym same) r.lets))
polls_now id ready new units bytes now p q (Some to) room written r polls notes =
    let f : FirstLinkGives ready now to.0 to.1 room written new = polls.gives in
    let what : Sent = f.given.what in
    let noted : NotesGiven id (Some (f.id, what)) bytes (held_at new id) now p q = subst (λ s. NotesGiven id s bytes (held_at new id) now p q) f.said notes in
    let list_is : units ++ unit_said id now (Some (f.id, what)) ≡ units ++ unit_said id now new.said = ap (λ s. units ++ unit_said id now s) (sym f.said) in
    elim (cases_eq f.id id) [
      | inl same ↦
          let h : Held = polled_held f.held now in
          let there : held_at new id ≡ Some h = ap (held_at new) (sym same) ∙ f.becomes in
          let counts : CountsGiven what bytes h.link.out now p q = (subst (λ o. NotesGiven id (Some (f.id, what)) bytes o now p q) there noted).0 same in
          let ready_at : held_at ready id ≡ Some f.held = ap (held_at ready) (sym same) ∙ f.at in
          let link = r.link f.held ready_at in
          let manual : f.held.link.manual ≡ true = ap (λ (l : LinkView). l.manual) link.2 ∙ planned_manual r.plan.again r.plan.window link.0 in
          let let' : IsLet (planned r.plan link.0) what = subst (λ l. IsLet l what) link.2 (polled f.held.link now f.given manual f.gives) in
          let goes : LetsGo p (gave_of what counts.stream) = lets_go r.plan p link.0 what counts.stream r.is link.1 let' in
          let lets : HasLetGo q (units ++ unit_at (gave_of what counts.stream) now) now = subst (λ x. HasLetGo x (units ++ unit_at (gave_of what counts.stream) now) now) (sym counts.value)
          (letting.gives p units r.since (gave_of what counts.stream) h.link.out now r.lets r.late goes) in
          let times : unit_at (gave_of what counts.stream) now ≡ unit_said id now (Some (f.id, what)) = times_are what counts.stream now ∙ sym (of_id id f.id now what same) in
          (now, omega arith, subst (λ us. HasLetGo q us now) (ap (λ us. units ++ us) times ∙ list_is) lets)
      | inr apart ↦
          let same : q ≡ p = noted_other id f.id now what bytes (held_at new id) p q apart noted in
          let none : units ≡ units ++ unit_said id now (Some (f.id, what)) = sym (ap (λ us. units ++ us) (of_other id f.id now what apart) ∙ append-nil units) in
          (r.since, r.late, subst (λ us. HasLetGo q us r.since) (none ∙ list_is) (subst (λ x. HasLetGo x units r.since) (sym same) r.lets))
    ]

it_gives : (id : ℕ) (old new : PacedHostCore) (units : List ℕ) (last now : ℕ) (given : Option Given) → Lets-so-far id old units last → last ≤ now → GivesOnceTold old now given new
    → Lets-so-far id new (units ++ unit_given id now given new.endpoint.said) now
it_gives id old new units last now given t later h = elim h [
  | inl untold ↦
      let since_late = t.before in
      let none : units ≡ units ++ unit_given id now given new.endpoint.said = sym (ap (λ g. units ++ unit_given id now g new.endpoint.said) untold.1 ∙ append-nil units) in
      record { pacer = t.pacer; paced = ap (λ (c : PacedHostCore). c.paced) untold.2 ∙ t.paced; since = t.since; before = omega (arith, since_late, later); lets = subst (λ us. HasLetGo t.pacer us t.since) none t.lets }
  | inr told ↦
      let g : GivesAsPlanned old now given new = told.1 in
      let since_late = t.before in
      let plans' : Plans (Some (record { id = id; pacer = t.pacer })) now g.paced old.endpoint g.ready = subst (λ o. Plans o now g.paced old.endpoint g.ready) t.paced g.plans in
      let ready : IsReady id g.ready units now plans'.0 = readies id now t.pacer plans'.0 (held_at old.endpoint id) old.endpoint g.ready units t.since refl t.lets (omega (arith, since_late, later)) plans'.2 in
      let notes : NotesPoll (Some (record { id = id; pacer = plans'.0 })) new.endpoint (bytes_given given) now new.paced = subst (λ o. NotesPoll o new.endpoint (bytes_given given) now new.paced) plans'.1 g.notes in
      let it = polls_now id g.ready new.endpoint units (bytes_given given) now plans'.0 notes.0 g.gives.0 g.gives.1 g.gives.2 ready g.gives.3 notes.2 in
      record {
        pacer = notes.0;
        paced = notes.1;
        since = it.0;
        before = it.1;
        lets = subst (λ o. HasLetGo notes.0 (units ++ unit_given id now o new.endpoint.said) it.0) (sym g.gives.4) it.2;
      }
]

so_far : (id : ℕ) (core : PacedHostCore) (units : List ℕ) (last : ℕ) → HasPaced id core units last → Lets-so-far id core units last
so_far id core units last (begins c paced) = record { pacer = made_pacer; paced = paced; since = 0; before = omega arith; lets = letting.made }
so_far id core units last (hears old new us l bytes now before later h) = it_hears id old new us l bytes now (so_far id old us l before) later h
so_far id core units last (loses old new us l bytes now before later h) =
    let t = so_far id old us l before in
    let since_late = t.before in
    record { pacer = t.pacer; paced = ap (λ (c : PacedHostCore). c.paced) h.2 ∙ t.paced; since = t.since; before = omega (arith, since_late, later); lets = t.lets }
so_far id core units last (gives old new us l now given before later h) = it_gives id old new us l now given (so_far id old us l before) later h
so_far id core units last (works old new us l before same) =
    let t = so_far id old us l before in record { pacer = t.pacer; paced = same ∙ t.paced; since = t.since; before = t.before; lets = t.lets }

pub gives_seldom : UnitsAreCapped → PacedCoresGiveSeldom
gives_seldom capped id core units last paced from = let t = so_far id core units last paced in capped t.pacer units t.since t.lets from
