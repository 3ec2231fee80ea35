-- The rounds of a sending host, one after another.
use Rattle.std.proofs.Common.{◌≡◌, ◌≤◌, ◌∙◌, ◌+◌, lit≤, ℕ, true, false, List, [], ◌∷◌, ◌++◌, Option, Some, None, Result, Ok, Err, inl, inr, refl, sym, ap, subst, append_assoc, arith, length, length-append}
use Rattle.std.proofs.lemmas.List.Elements.{All-cons}
use Rattle.std.specs.List.{All, concat}
use Rattle.std.specs.Io.KnownBytes.{Consumes, IsAtEnd}
use Rattle.std.specs.Prelude.{IfOk, OnErr}
use Rattle.ipx_carrier.specs.Turns.{Peers, Turn}
use Rattle.ipx_config.specs.declared.host.HostConfig.{HostConfig}
use Rattle.ipx_wire.specs.declared.address.Address.{Address}
use Rattle.spx_link.specs.declared.state.State.{State}
use Rattle.spx_messages.specs.EndpointView.{EndpointView, held_at}
use Rattle.ipx_host.specs.Books.{EntersAcknowledged}
use Rattle.ipx_config.specs.Destinations.{is_nowhere}
use Rattle.ipx_host.specs.Feeding.{Feeds, FeedState, HandsOn}
use Rattle.ipx_host.specs.declared.running_host.Activity.{Activity}
use Rattle.ipx_host.specs.SendRounds.{IsSendStep, LastRound, SendState, Round, Rounds, Transfers, feeding_of}
use Rattle.ipx_host.specs.Sent.{IsDialing, SendsInput}
use Rattle.ipx_host.specs.SendSteps.{GoesOnOrEnds, IsStepFault, Sees}
use Rattle.ipx_host.specs.Transfer.{state_at}
use Rattle.ipx_host.specs.Turning.{TakesHostTurn}
use Rattle.ipx_host.specs.declared.paced_host_core.PacedHostCore.{PacedHostCore}
use Rattle.ipx_host.specs.declared.send_outcome.SendOutcome.{SendOutcome}
use Rattle.ipx_host.specs.declared.send_outcome.SendOutcome.TheVariants.{Done}

consumes_none : (a : Option (List ℕ)) → Consumes a a []
consumes_none None = tt
consumes_none (Some x) = refl

consumes_on : (a b c : Option (List ℕ)) (bs cs : List ℕ) → Consumes a b bs → Consumes b c cs → Consumes a c (bs ++ cs)
consumes_on None b c bs cs p q = tt
consumes_on (Some x) None c bs cs p q = absurd p
consumes_on (Some x) (Some y) None bs cs p q = absurd q
consumes_on (Some x) (Some y) (Some z) bs cs p q = p ∙ ap (λ l. bs ++ l) q ∙ sym (append_assoc bs cs z)

-- what left the reader in one feeding is its body
fed_bytes : (old new : FeedState) (id : ℕ) (bytes : List ℕ) → Feeds old new id bytes → Consumes old.known new.known bytes
fed_bytes old new id bytes (inl reads) = reads.taken
fed_bytes old new id bytes (inr (inl ends)) =
    subst (λ l. Consumes old.known new.known l) (sym ends.none) (subst (λ (i : FeedState). Consumes old.known i.known []) (sym ends.is) (consumes_none old.known))
fed_bytes old new id bytes (inr (inr rests)) =
    subst (λ l. Consumes old.known new.known l) (sym rests.none) (subst (λ (i : FeedState). Consumes old.known i.known []) (sym rests.same) (consumes_none old.known))

-- and in a sequence of rounds the bodies, one after another
pub rounds_bytes : {K : Type 0} (old : SendState K) (bodies : List (List ℕ)) (new : SendState K) (drives : K → Turn → K → Type 0) (peers : Peers) (id : ℕ)
    → Rounds old bodies new drives peers id → Consumes old.known new.known (concat bodies)
rounds_bytes {K} old [] new drives peers id same = subst (λ (p : SendState K). Consumes old.known p.known []) (sym same) (consumes_none old.known)
rounds_bytes old (bytes ∷ more) new drives peers id (next, round, rest) =
    consumes_on old.known next.known new.known bytes (concat more)
    (fed_bytes (record (feeding_of old) { endpoint = round.fed.dropped; acked_bytes = round.fed.acked_bytes }) (feeding_of next) id bytes round.fed.feeds)
    (rounds_bytes next more new drives peers id rest)

-- a body is one message, or none
handed_short : (old new : EndpointView) (id : ℕ) (bytes : List ℕ) → HandsOn old new id bytes → length bytes ≤ 65535
handed_short old new id [] hands = lit≤ tt
handed_short old new id (b ∷ bs) hands = hands.short

none_short : (bytes : List ℕ) → bytes ≡ [] → length bytes ≤ 65535
none_short bytes none = subst (λ (l : List ℕ). length l ≤ 65535) (sym none) (lit≤ tt)

fed_short : (old new : FeedState) (id : ℕ) (bytes : List ℕ) → Feeds old new id bytes → length bytes ≤ 65535
fed_short old new id bytes (inl reads) = handed_short old.endpoint new.endpoint id bytes reads.handed
fed_short old new id bytes (inr (inl ends)) = none_short bytes ends.none
fed_short old new id bytes (inr (inr rests)) = none_short bytes rests.none

pub rounds_short : {K : Type 0} (old : SendState K) (bodies : List (List ℕ)) (new : SendState K) (drives : K → Turn → K → Type 0) (peers : Peers) (id : ℕ)
    → Rounds old bodies new drives peers id → All (λ b. length b ≤ 65535) bodies
rounds_short old [] new drives peers id same = λ k d below. absurd (omega (arith, below))
rounds_short old (bytes ∷ more) new drives peers id (next, round, rest) =
    All-cons (λ b. length b ≤ 65535) bytes more
    (fed_short (record (feeding_of old) { endpoint = round.fed.dropped; acked_bytes = round.fed.acked_bytes }) (feeding_of next) id bytes round.fed.feeds)
    (rounds_short next more new drives peers id rest)

-- if all is read, the reader is at its end
fed_end : (old new : FeedState) (id : ℕ) (bytes : List ℕ) → Feeds old new id bytes → (old.read ≡ true → IsAtEnd old.known) → new.read ≡ true → IsAtEnd new.known
fed_end old new id bytes (inl reads) was is = (reads.all is).1
fed_end old new id bytes (inr (inl ends)) was is = subst (λ (i : FeedState). IsAtEnd i.known) (sym ends.is) (was ends.read)
fed_end old new id bytes (inr (inr rests)) was is = subst (λ (i : FeedState). i.read ≡ true → IsAtEnd i.known) (sym rests.same) was is

pub rounds_end : {K : Type 0} (old : SendState K) (bodies : List (List ℕ)) (new : SendState K) (drives : K → Turn → K → Type 0) (peers : Peers) (id : ℕ)
    → Rounds old bodies new drives peers id → (old.read ≡ true → IsAtEnd old.known) → new.read ≡ true → IsAtEnd new.known
rounds_end {K} old [] new drives peers id same was is = subst (λ (p : SendState K). p.read ≡ true → IsAtEnd p.known) (sym same) was is
rounds_end old (bytes ∷ more) new drives peers id (next, round, rest) was is =
    rounds_end next more new drives peers id rest
    (fed_end (record (feeding_of old) { endpoint = round.fed.dropped; acked_bytes = round.fed.acked_bytes }) (feeding_of next) id bytes round.fed.feeds was) is

-- one more
rounds_more : {K : Type 0} (old : SendState K) (bodies : List (List ℕ)) (last new : SendState K) (drives : K → Turn → K → Type 0) (peers : Peers) (id : ℕ) (bytes : List ℕ)
    → Rounds old bodies last drives peers id → Round last new bytes drives peers id → Rounds old (bodies ++ bytes ∷ []) new drives peers id
rounds_more {K} old [] last new drives peers id bytes same round =
    (new, subst (λ (p : SendState K). Round p new bytes drives peers id) same round, refl)
rounds_more old (b ∷ more) last new drives peers id bytes run round =
    (run.0, run.1, rounds_more run.0 more last new drives peers id bytes run.2 round)

-- the same step, of the same id and peers
pub same_step : {K T : Type 0} (faults : Option State → SendOutcome → Type 0) (old new : SendState K) (answer : Result T SendOutcome) (drives : K → Turn → K → Type 0) (peers here : Peers) (id id' : ℕ) (waits : Activity → Type 0)
    → id' ≡ id → here ≡ peers → IsSendStep faults waits old new answer drives here id' → IsSendStep faults waits old new answer drives peers id
same_step faults old new answer drives peers here id id' waits same among s =
    subst (λ (i : ℕ). IsSendStep faults waits old new answer drives peers i) same (subst (λ (p : Peers). IsSendStep faults waits old new answer drives p id') among s)

-- a step that ends the transfer, whatever its turn did
pub ends_so : {K : Type 0} (old new : SendState K) (verdict : SendOutcome) (drives : K → Turn → K → Type 0) (peers : Peers) (id : ℕ) (waits : Activity → Type 0)
    → IsSendStep {T = Unit {0}} IsStepFault waits old new (Err verdict) drives peers id → IsSendStep {T = Unit {0}} IsStepFault (λ turn. Unit {0}) old new (Err verdict) drives peers id
ends_so old new verdict drives peers id waits s = record {
  seen = s.seen;
  turn = s.turn;
  turned = s.turned;
  verdict = s.verdict;
  sees = s.sees;
  goes = s.goes;
  waited = tt;
  core = s.core;
}

-- a run goes on by a step without an outcome
round_of : {K : Type 0} (last new : SendState K) (drives : K → Turn → K → Type 0) (peers : Peers) (id : ℕ) (waits : Activity → Type 0) (s : IsSendStep {T = Unit {0}} IsStepFault waits last new (Ok tt) drives peers id) (v : Option SendOutcome) → s.verdict ≡ v
    → (bytes : List ℕ) × Round last new bytes drives peers id
round_of last new drives peers id waits s (Some w) is =
    let goes = subst (λ (v : Option SendOutcome). GoesOnOrEnds {T = Unit {0}} IsStepFault id s.seen.endpoint (feeding_of last) (feeding_of new) v (Ok tt)) is s.goes in
    absurd (let no = goes.0 in cc)
round_of last new drives peers id waits s None is =
    let goes = subst (λ (v : Option SendOutcome). GoesOnOrEnds {T = Unit {0}} IsStepFault id s.seen.endpoint (feeding_of last) (feeding_of new) v (Ok tt)) is s.goes in (
      goes.1.0,
      record {
        seen = s.seen;
        turn = s.turn;
        turned = s.turned;
        sees = subst (λ (v : Option SendOutcome). Sees last.noted new.noted s.seen.endpoint s.seen.moment id last.closed v) is s.sees;
        fed = goes.1.1;
        core = s.core;
      },
    )

-- one round more
count_more : (bodies : List (List ℕ)) (bytes : List ℕ) → length (bodies ++ bytes ∷ []) ≡ length bodies + 1
count_more bodies bytes = omega (arith, length-append bodies (bytes ∷ []))

pub rounds_step : {K : Type 0} (old : SendState K) (bodies : List (List ℕ)) (last new : SendState K) (drives : K → Turn → K → Type 0) (peers : Peers) (id : ℕ) (count : ℕ) (waits : Activity → Type 0)
    → length bodies ≡ count → Rounds old bodies last drives peers id → IsSendStep {T = Unit {0}} IsStepFault waits last new (Ok tt) drives peers id
    → (more : List (List ℕ)) × (length more ≡ count + 1) × Rounds old more new drives peers id
rounds_step old bodies last new drives peers id count waits so run step =
    let round = round_of last new drives peers id waits step step.verdict refl in
    (bodies ++ round.0 ∷ [], omega (arith, so, count_more bodies round.0), rounds_more old bodies last new drives peers id round.0 run round.1)

not_fault : (state : Option State) → IsStepFault state Done → ⊥
not_fault state (inl (live, inl e)) = cc
not_fault state (inl (live, inr e)) = cc
not_fault state (inr e) = cc

-- and takes a last turn in the step that answers that it is done
last_of : {K : Type 0} (last new : SendState K) (drives : K → Turn → K → Type 0) (peers : Peers) (id : ℕ) (waits : Activity → Type 0) (s : IsSendStep {T = Unit {0}} IsStepFault waits last new (Err Done) drives peers id) (v : Option SendOutcome) → s.verdict ≡ v
    → LastRound last new drives peers id
last_of last new drives peers id waits s None is =
    let goes = subst (λ (v : Option SendOutcome). GoesOnOrEnds {T = Unit {0}} IsStepFault id s.seen.endpoint (feeding_of last) (feeding_of new) v (Err Done)) is s.goes in
    absurd (not_fault (state_at s.seen.endpoint id) goes.0)
last_of last new drives peers id waits s (Some w) is =
    let goes = subst (λ (v : Option SendOutcome). GoesOnOrEnds {T = Unit {0}} IsStepFault id s.seen.endpoint (feeding_of last) (feeding_of new) v (Err Done)) is s.goes in
    let same : w ≡ Done = (let it = goes.0 in cc) in
    let at : new.core ≡ s.seen = subst (λ (e : EndpointView). new.core ≡ record s.seen { endpoint = e }) (ap (λ (i : FeedState). i.endpoint) goes.1.is) s.core in
    let sees : Sees last.noted new.noted s.seen.endpoint s.seen.moment id last.closed (Some Done) =
    subst (λ (v : Option SendOutcome). Sees last.noted new.noted s.seen.endpoint s.seen.moment id last.closed v) (is ∙ ap (λ (f : SendOutcome). Some f) same) s.sees in
    record {
      turn = s.turn;
      turned = subst (λ (k : PacedHostCore). TakesHostTurn last.around new.around drives peers last.core k s.turn) (sym at) s.turned;
      sees = subst (λ (k : PacedHostCore). Sees last.noted new.noted k.endpoint k.moment id last.closed (Some Done)) (sym at) sees;
      follows = subst (λ (k : PacedHostCore). EntersAcknowledged (held_at k.endpoint id) last.acked_bytes new.acked_bytes) (sym at) goes.1.follows;
      read = ap (λ (i : FeedState). i.read) goes.1.is;
      closed = ap (λ (i : FeedState). i.closed) goes.1.is;
      known = ap (λ (i : FeedState). i.known) goes.1.is;
    }

pub last_round : {K : Type 0} (last new : SendState K) (drives : K → Turn → K → Type 0) (peers : Peers) (id : ℕ) (f : SendOutcome) (waits : Activity → Type 0)
    → f ≡ Done → IsSendStep {T = Unit {0}} IsStepFault waits last new (Err f) drives peers id → LastRound last new drives peers id
last_round last new drives peers id f waits done step =
    let s = subst (λ (v : SendOutcome). IsSendStep {T = Unit {0}} IsStepFault waits last new (Err v) drives peers id) done step in
    last_of last new drives peers id waits s s.verdict refl

-- if a transfer ended well, the reader is at its end
pub transfers_end : {K : Type 0} (old new : SendState K) (drives : K → Turn → K → Type 0) (peers : Peers) (id : ℕ)
    → Transfers old new drives peers id → (old.read ≡ true → IsAtEnd old.known) → IsAtEnd new.known
transfers_end old new drives peers id t was =
    let last = t.runs.2 in
    subst (λ k. IsAtEnd k) (sym last.known) (rounds_end old t.bodies t.runs.0 drives peers id t.runs.1 was (sym last.read ∙ t.read))

-- what was opened and ran well is a transfer of the host of a file
pub sends : {S E K : Type 0} (X : Type 0) (opened : Result S E) (r : ℕ) (file : HostConfig) (to : Address) (known left : Option (List ℕ)) (drives : K → Turn → K → Type 0) (P : K → Type 0) (at : S → Option (List ℕ) → SendState K) (among : S → Peers) (id : S → ℕ)
    → is_nowhere file to ≡ false → ((s : S) (k : Option (List ℕ)) → (at s k).known ≡ k)
    → IfOk opened (λ s. (k : Option (List ℕ)) → IsDialing file to (at s k) (among s) (id s))
    → IfOk opened (λ s. P (at s known).around)
    → IfOk opened (λ s. r ≡ 0 → (last : SendState K) × Transfers (at s known) last drives (among s) (id s) × (last.known ≡ left))
    → OnErr opened ((r ≡ 1) × X) → r ≡ 0 → (w : SendsInput file to known left drives) × P w.start.around
sends X (Ok s) r file to known left drives P at among id goes begins dials port ran failed zero =
    let run = ran zero in
    let dial = dials known in (
      record {
        goes = goes;
        id = id s;
        peers = among s;
        start = at s known;
        last = run.0;
        dials = dial;
        begins = begins s known;
        transfers = run.1;
        ends = run.2;
        all = subst (λ k. IsAtEnd k) run.2 (transfers_end (at s known) run.0 drives (among s) (id s) run.1 (λ read. absurd (let no = sym dial.unread ∙ read in cc)));
        whole = run.1.whole;
      },
      port,
    )
sends X (Err e) r file to known left drives P at among id goes begins dials port ran failed zero = absurd (omega (arith, failed.0, zero))

-- what holds of a value that succeeded
pub on_ok : {S E : Type 0} (P : S → Type 0) (o : Result S E) (s : S) → o ≡ Ok s → P s → IfOk o P
on_ok {S} {E} P o s is p = subst (λ (x : Result S E). IfOk x P) (sym is) p
