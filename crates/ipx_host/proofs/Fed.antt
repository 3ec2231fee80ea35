-- What a sending host keeps of its link as it takes what it received, and what it feeds.
use Rattle.std.proofs.Common.{◌≡◌, ◌≢◌, ◌↔◌, ◌⊎◌, ℕ, zero, suc, ◌+◌, ◌<◌, ◌%◌, Bool, true, false, List, [], ◌∷◌, length, Option, Some, None, Result, Ok, Err, inl, inr, refl, sym, ap, ◌∙◌, subst, arith}
use Rattle.std.specs.Prelude.{IfSome, IsSome, IsTrue, if◌then◌else◌}
use Rattle.std.specs.Option.{option_map}
use Rattle.spx_link.specs.declared.state.State.{State}
use Rattle.spx_link.specs.declared.state.State.TheVariants.{Live}
use Rattle.spx_link.specs.declared.unit.Unit.{Unit as Piece}
use Rattle.spx_link.specs.LinkView.{LinkView, is_end}
use Rattle.spx_link.specs.Links.{IsNextFree, LinksView, count_of, link_of}
use Rattle.spx_link.specs.Offer.{first_of as first_held, take_held}
use Rattle.spx_messages.specs.declared.message_fault.MessageFault.TheVariants as MessageFaults
use Rattle.spx_messages.specs.Joining.{is_overlong}
use Rattle.spx_messages.specs.Changes.{ChangesEnd, SameBut, SameSelf}
use Rattle.spx_messages.specs.EndpointView.{EndpointView, Held, held_at}
use Rattle.spx_messages.specs.Taking.{IsPushed, PeerEnd, TakenView, joins_on, overlong, overrun, result_view, take_end, taken_held, takes_data, takes_first}
use Rattle.spx_messages.specs.declared.fault.EndFault.{EndFault}
use Rattle.spx_messages.specs.declared.fault.EndFault.TheVariants as EndFaults
use Rattle.spx_messages.specs.declared.taken.Taken.{Taken}
use Rattle.ipx_host.specs.Books.{EntersAcknowledged}
use Rattle.ipx_host.specs.Dropping.{DropsCame}
use Rattle.ipx_host.specs.Feeding.{Feeds, FeedState, KeepsQueue, LeavesIntake, SameQueue, feed_state}
use Rattle.ipx_host.specs.SendRounds.{IsSendStep, SendState, feeding_of, place}
use Rattle.ipx_host.specs.SendSteps.{FeedsOn, GoesOnOrEnds, IsFeedFault, IsStepFault, SeenSoFar, Sees}
use Rattle.ipx_host.specs.Transfer.{IsWaiting, IsWholeAt, ended_at, joined_at, left_at, state_at, verdict_at}
use Rattle.ipx_carrier.specs.Turns.{Peers, Turn}
use Rattle.ipx_host.specs.Turning.{TakesHostTurn}
use Rattle.ipx_host.specs.declared.running_host.Activity.{Activity}
use Rattle.ipx_host.specs.declared.paced_host_core.PacedHostCore.{PacedHostCore}
use Rattle.ipx_host.specs.declared.acked_bytes.Ledger.{Ledger}
use Rattle.ipx_host.specs.declared.send_outcome.SendOutcome.{SendOutcome}
use Rattle.ipx_host.specs.declared.send_outcome.SendOutcome.TheVariants.{Unwaited}

-- ---- what was received is taken

queue_kept : (l : LinkView) → SameQueue l l
queue_kept l = record { queue = refl; out = refl; next = refl; ended = refl }

queue_held : (l : LinkView) (us : List Piece) → SameQueue l (take_held l us).1
queue_held l [] = queue_kept l
queue_held l (u ∷ us) = record { queue = refl; out = refl; next = refl; ended = refl }

queue_lost : (h : Held) → SameQueue h.link (overrun h).link
queue_lost h =
    let taken = queue_held h.link h.link.held in
    record { queue = taken.queue; out = taken.out; next = taken.next; ended = taken.ended }

pub either_one : {A : Type 0} (P : A → Type 0) (b : Bool) (x y : A) → P x → P y → P (if b then x else y)
either_one P true x y p q = p
either_one P false x y p q = q

queue_first : (h : Held) (o : Option Piece) → SameQueue h.link (takes_first h o).1.link
queue_first h None = queue_kept h.link
queue_first h (Some u) =
    let P : (Result TakenView EndFault × Held) → Type 0 = λ x. SameQueue h.link x.1.link in
    let taken : SameQueue h.link (taken_held h).link = queue_held h.link h.link.held in
    let joined : P (joins_on h u) = either_one P u.last _ _ taken taken in
    let whole : P (takes_data h u) = either_one P (is_overlong h.rest u) (Err overlong, overrun h) (joins_on h u) (queue_lost h) joined in
    either_one P (is_end u) (Ok PeerEnd, taken_held h) (takes_data h u) taken whole

queue_taken : (h : Held) → SameQueue h.link (take_end h).1.link
queue_taken h = queue_first h (first_held h.link.held)

abbrev pub no_memory : EndFault
no_memory = EndFaults.Message MessageFaults.OutOfMemory

pub for_memory : (r : Result Taken EndFault) → (r ≡ Err no_memory) ⊎ (r ≢ Err no_memory)
for_memory (Ok t) = inr (λ e. cc)
for_memory (Err (EndFaults.Offer f)) = inr (λ e. cc)
for_memory (Err (EndFaults.Message MessageFaults.OutOfMemory)) = inl refl
for_memory (Err (EndFaults.Message (MessageFaults.TooLong n))) = inr (λ e. cc)
for_memory (Err (EndFaults.Message (MessageFaults.BadStream n))) = inr (λ e. cc)
for_memory (Err (EndFaults.Message MessageFaults.Overlong)) = inr (λ e. cc)
for_memory (Err (EndFaults.Links f)) = inr (λ e. cc)
for_memory (Err EndFaults.NoSuchEnd) = inr (λ e. cc)

abbrev Leaves : EndpointView → EndpointView → ℕ → Option Held → Type 0
Leaves old new id o = KeepsQueue o (held_at new id) × ((q : ℕ) → q ≢ id → held_at new q ≡ held_at old q) × SameSelf old new
    × (new.links.last ≡ old.links.last) × (count_of new.links ≡ count_of old.links)

took_at : (old new : EndpointView) (id : ℕ) (r : Result Taken EndFault) (o : Option Held) → held_at old id ≡ o
    → IfSome o (λ h. r ≢ Err no_memory → (result_view r ≡ (take_end h).0) × ChangesEnd old new id (take_end h).1)
    → IfSome o (λ h. r ≡ Err no_memory → IsPushed h × SameBut old new) → (held_at old id ≡ None → SameBut old new) → Leaves old new id o
took_at old new id r None is takes memory none =
    let same = none is in
    (subst (KeepsQueue None) (sym (same.held id ∙ is)) tt, (λ q other. same.held q), same.self, same.last, same.count)
took_at old new id r (Some h) is takes memory none =
    elim (for_memory r) [
      | inl e ↦ let same = (memory e).1 in (subst (KeepsQueue (Some h)) (sym (same.held id ∙ is)) (queue_kept h.link), (λ q other. same.held q), same.self, same.last, same.count)
      | inr e ↦ let change = (takes e).1 in (subst (KeepsQueue (Some h)) (sym change.held) (queue_taken h), change.others, change.self, change.last, change.count)
    ]

pub took : (old new : EndpointView) (id : ℕ) (r : Result Taken EndFault)
    → IfSome (held_at old id) (λ h. r ≢ Err no_memory → (result_view r ≡ (take_end h).0) × ChangesEnd old new id (take_end h).1)
    → IfSome (held_at old id) (λ h. r ≡ Err no_memory → IsPushed h × SameBut old new) → (held_at old id ≡ None → SameBut old new) → Leaves old new id (held_at old id)
took old new id r takes memory none = took_at old new id r (held_at old id) refl takes memory none

pub keeps_same : (a : Option Held) → KeepsQueue a a
keeps_same None = tt
keeps_same (Some h) = queue_kept h.link

pub keeps_on : (a b c : Option Held) → KeepsQueue a b → KeepsQueue b c → KeepsQueue a c
keeps_on None None None p q = tt
keeps_on None None (Some z) p q = absurd q
keeps_on None (Some y) c p q = absurd p
keeps_on (Some x) None c p q = absurd p
keeps_on (Some x) (Some y) None p q = absurd q
keeps_on (Some x) (Some y) (Some z) p q =
    record { queue = q.queue ∙ p.queue; out = q.out ∙ p.out; next = q.next ∙ p.next; ended = q.ended ∙ p.ended }

-- ---- ids

none_live : (links : List LinkView) (id : ℕ) → length links ≡ 0 → IsSome (link_of links id) → ⊥
none_live [] id none live = absurd (cc)
none_live (l ∷ ls) id none live = absurd (omega arith)

-- if no link is held, the next id is the one after the last
free_next : (s : LinksView) (id steps : ℕ) → id ≡ (s.last + steps) % 65534 + 1 → ((k : ℕ) → k < steps → IsSome (link_of s.links ((s.last + k) % 65534 + 1)))
    → count_of s ≡ 0 → s.last < 65534 → id ≡ s.last + 1
free_next s id zero is passed none few = omega arith
free_next s id (suc more) is passed none few = absurd (none_live s.links _ none (passed 0 (omega arith)))

pub next_id : (s : LinksView) (id : ℕ) → IsNextFree s id → count_of s ≡ 0 → s.last < 65534 → id ≡ s.last + 1
next_id s id next none few = free_next s id next.steps next.is next.passed none few

-- ---- one step

pub sees : (joined joined' : Bool) (left left' : Option ℕ) (core core' : PacedHostCore) (id id' : ℕ) (closed closed' whole waits : Bool) (state : Option State) (verdict : Option SendOutcome)
    → state ≡ state_at core.endpoint id → core' ≡ core → id' ≡ id → closed' ≡ closed → joined' ≡ joined_at joined state → left' ≡ left_at left state core.moment
    → IsTrue whole ↔ IsWholeAt core'.endpoint id' → IsTrue waits ↔ IsWaiting closed' left' core'.moment → verdict ≡ verdict_at whole joined' waits state
    → Sees (record { joined = joined; left = left }) (record { joined = joined'; left = left' }) core.endpoint core.moment id closed (option_map (ended_at closed) verdict)
sees joined joined' left left' core core' id id' closed closed' whole waits state verdict at same one unclosed was gone all waiting tells =
    record {
      joined = was ∙ ap (joined_at joined) at;
      left = gone ∙ ap (λ s. left_at left s core.moment) at;
      whole = whole;
      all = subst (λ (i : ℕ). IsTrue whole ↔ IsWholeAt core.endpoint i) one (subst (λ (k : PacedHostCore). IsTrue whole ↔ IsWholeAt k.endpoint id') same all);
      waits = waits;
      waiting = subst (λ b. IsTrue waits ↔ IsWaiting b left' core.moment) unclosed (subst (λ (k : PacedHostCore). IsTrue waits ↔ IsWaiting closed' left' k.moment) same waiting);
      tells = ap (option_map (ended_at closed)) (tells ∙ ap (verdict_at whole joined' waits) at);
    }

-- what was noted remains while the step goes on
pub sees_later : (joined joined' : Bool) (left left' : Option ℕ) (old : SeenSoFar) (seen : EndpointView) (moment id : ℕ) (closed : Bool) (verdict : Option SendOutcome) → joined' ≡ joined → left' ≡ left
    → Sees old (record { joined = joined; left = left }) seen moment id closed verdict → Sees old (record { joined = joined'; left = left' }) seen moment id closed verdict
sees_later joined joined' left left' old seen moment id closed verdict p q s =
    record {
      joined = p ∙ s.joined;
      left = q ∙ s.left;
      whole = s.whole;
      all = s.all;
      waits = s.waits;
      waiting = subst (λ (l : Option ℕ). IsTrue s.waits ↔ IsWaiting closed l moment) (sym q) s.waiting;
      tells = subst (λ (b : Bool). verdict ≡ option_map (ended_at closed) (verdict_at s.whole b s.waits (state_at seen id))) (sym p) s.tells;
    }

pub same_intake : (e e' : EndpointView) (r r' c c' : Bool) (l l' : Ledger) (k : Option (List ℕ)) → e' ≡ e → r' ≡ r → c' ≡ c → l' ≡ l → feed_state e' r' c' l' k ≡ feed_state e r c l k
same_intake e e' r r' c c' l l' k p q s t = cc

-- what the link acknowledges was counted, what was received was dropped, and then the link was fed
pub stepped : (id id' : ℕ) (core core' : PacedHostCore) (start dropped : EndpointView) (read read' closed closed' : Bool) (acked_bytes acked_bytes' : Ledger) (known : Option (List ℕ)) (new : FeedState) (bytes : List ℕ)
    → id' ≡ id → core' ≡ core → read' ≡ read → closed' ≡ closed → EntersAcknowledged (held_at core.endpoint id) acked_bytes acked_bytes' → DropsCame core'.endpoint dropped id'
    → Feeds (feed_state dropped read' closed' acked_bytes' known) new id' bytes → (state_at core.endpoint id ≢ Some Live → LeavesIntake (feed_state dropped read' closed' acked_bytes' known) new bytes)
    → FeedsOn id core.endpoint (feed_state start read closed acked_bytes known) new bytes
stepped id id' core core' start dropped read read' closed closed' acked_bytes acked_bytes' known new bytes p q r s follows drops fed only =
    record {
      acked_bytes = acked_bytes';
      follows = follows;
      dropped = dropped;
      drops = subst (λ (i : ℕ). DropsCame core.endpoint dropped i) p (subst (λ (k : PacedHostCore). DropsCame k.endpoint dropped id') q drops);
      feeds = subst (λ (i : ℕ). Feeds (feed_state dropped read closed acked_bytes' known) new i bytes) p
          (subst (λ (b : Bool). Feeds (feed_state dropped b closed acked_bytes' known) new id' bytes) r
          (subst (λ (b : Bool). Feeds (feed_state dropped read' b acked_bytes' known) new id' bytes) s fed));
      only = λ other. subst (λ (b : Bool). LeavesIntake (feed_state dropped b closed acked_bytes' known) new bytes) r
          (subst (λ (b : Bool). LeavesIntake (feed_state dropped read' b acked_bytes' known) new bytes) s (only other));
    }

-- the clock is as the turn left it
pub turned : {K : Type 0} (around now after : K) (drives : K → Turn → K → Type 0) (peers : Peers) (old seen : PacedHostCore) (turn : Activity)
    → after ≡ now → TakesHostTurn around now drives peers old seen turn → TakesHostTurn around after drives peers old seen turn
turned {K} around now after drives peers old seen turn same taken = subst (λ (k : K). TakesHostTurn around k drives peers old seen turn) (sym same) taken

-- and so is the core, except its endpoint
pub same_core : (seen core : PacedHostCore) → core ≡ seen → core ≡ record seen { endpoint = core.endpoint }
same_core seen core same = subst (λ (k : PacedHostCore). k ≡ record seen { endpoint = k.endpoint }) (sym same) refl

pub went_on : (seen look mid shown : PacedHostCore) → look ≡ seen → mid ≡ record look { endpoint = mid.endpoint } → shown ≡ mid
    → shown ≡ record seen { endpoint = shown.endpoint }
went_on seen look mid shown looked fed showed =
    let on : mid ≡ record seen { endpoint = mid.endpoint } = subst (λ (k : PacedHostCore). mid ≡ record k { endpoint = mid.endpoint }) looked fed in
    subst (λ (k : PacedHostCore). k ≡ record seen { endpoint = k.endpoint }) (sym showed) on

-- a step that goes on waits; its faults are faults of both
goes_ok : (id : ℕ) (seen : EndpointView) (old new : FeedState) (v : Option SendOutcome) (more : Bool) → GoesOnOrEnds IsFeedFault id seen old new v (Ok more) → GoesOnOrEnds {T = Unit {0}} IsStepFault id seen old new v (Ok tt)
goes_ok id seen old new (Some w) more goes = absurd (let no = goes.0 in cc)
goes_ok id seen old new None more goes = (tt, goes.1)

goes_unwaited : (id : ℕ) (seen : EndpointView) (old new : FeedState) (v : Option SendOutcome) (more : Bool) → GoesOnOrEnds IsFeedFault id seen old new v (Ok more) → GoesOnOrEnds {T = Unit {0}} IsStepFault id seen old new v (Err Unwaited)
goes_unwaited id seen old new (Some w) more goes = absurd (let no = goes.0 in cc)
goes_unwaited id seen old new None more goes = (inr refl, tt)

goes_err : (id : ℕ) (seen : EndpointView) (old new : FeedState) (v : Option SendOutcome) (f : SendOutcome) → GoesOnOrEnds {T = Bool} IsFeedFault id seen old new v (Err f) → GoesOnOrEnds {T = Unit {0}} IsStepFault id seen old new v (Err f)
goes_err id seen old new (Some w) f goes =
    let same : f ≡ w = (let is = goes.0 in cc) in
    (subst (λ (x : SendOutcome). ◌≡◌ {A = Result (Unit {0}) SendOutcome} (Err f) (Err x)) same refl, goes.1)
goes_err id seen old new None f goes = (inl goes.0, tt)

pub step_ok : {K : Type 0} (old new : SendState K) (more : Bool) (drives : K → Turn → K → Type 0) (peers : Peers) (id : ℕ) (before after : Activity → Type 0)
    → ((turn : Activity) → before turn → after turn) → IsSendStep IsFeedFault before old new (Ok more) drives peers id → IsSendStep {T = Unit {0}} IsStepFault after old new (Ok tt) drives peers id
step_ok old new more drives peers id before after on s = record {
  seen = s.seen;
  turn = s.turn;
  turned = s.turned;
  verdict = s.verdict;
  sees = s.sees;
  goes = goes_ok id s.seen.endpoint (feeding_of old) (feeding_of new) s.verdict more s.goes;
  waited = on s.turn s.waited;
  core = s.core;
}

pub step_unwaited : {K : Type 0} (old new : SendState K) (more : Bool) (drives : K → Turn → K → Type 0) (peers : Peers) (id : ℕ) (before after : Activity → Type 0)
    → ((turn : Activity) → before turn → after turn) → IsSendStep IsFeedFault before old new (Ok more) drives peers id → IsSendStep {T = Unit {0}} IsStepFault after old new (Err Unwaited) drives peers id
step_unwaited old new more drives peers id before after on s = record {
  seen = s.seen;
  turn = s.turn;
  turned = s.turned;
  verdict = s.verdict;
  sees = s.sees;
  goes = goes_unwaited id s.seen.endpoint (feeding_of old) (feeding_of new) s.verdict more s.goes;
  waited = on s.turn s.waited;
  core = s.core;
}

pub step_err : {K : Type 0} (old new : SendState K) (f : SendOutcome) (drives : K → Turn → K → Type 0) (peers : Peers) (id : ℕ) (before after : Activity → Type 0)
    → ((turn : Activity) → before turn → after turn) → IsSendStep {T = Bool} IsFeedFault before old new (Err f) drives peers id → IsSendStep {T = Unit {0}} IsStepFault after old new (Err f) drives peers id
step_err old new f drives peers id before after on s = record {
  seen = s.seen;
  turn = s.turn;
  turned = s.turned;
  verdict = s.verdict;
  sees = s.sees;
  goes = goes_err id s.seen.endpoint (feeding_of old) (feeding_of new) s.verdict f s.goes;
  waited = on s.turn s.waited;
  core = s.core;
}

-- if the clock and the core are unchanged, a place is
pub same_place : {K : Type 0} (around around' : K) (core core' : PacedHostCore) (n : SeenSoFar) (r c : Bool) (l : Ledger) (k : Option (List ℕ))
    → around' ≡ around → core' ≡ core → place around core n r c l k ≡ place around' core' n r c l k
same_place around around' core core' n r c l k p q = cc

pub step_waited : {K : Type 0} (old : SendState K) (around around' : K) (core core' : PacedHostCore) (n : SeenSoFar) (r c : Bool) (l : Ledger) (k : Option (List ℕ)) (answer : Result (Unit {0}) SendOutcome) (drives : K → Turn → K → Type 0) (peers : Peers) (id : ℕ) (waits : Activity → Type 0)
    → around' ≡ around → core' ≡ core → IsSendStep IsStepFault waits old (place around core n r c l k) answer drives peers id → IsSendStep IsStepFault waits old (place around' core' n r c l k) answer drives peers id
step_waited {K} old around around' core core' n r c l k answer drives peers id waits p q s =
    subst (λ (x : SendState K). IsSendStep IsStepFault waits old x answer drives peers id) (same_place around around' core core' n r c l k p q) s
