-- A connection that goes, and how many of those that go were never heard from.
use Rattle.std.proofs.Common.{◌≡◌, ℕ, zero, ◌+◌, ◌<◌, ◌⊎◌, Bool, true, false, cond, List, length, get_or, Option, None, Some, inl, inr, refl, sym, ap, ◌∙◌, subst, arith}
use Rattle.std.proofs.lemmas.List.Sums.{sum_by-remove, sum_by-set}
use Rattle.std.proofs.lemmas.Option.{slice_get-get_or}
use Rattle.std.specs.Prelude.{IfSome, remove, slice_get, slice_set}
use Rattle.ipx_carrier.specs.Counting.{counted}
use Rattle.spx_messages.specs.EndpointView.{EndpointView}
use Rattle.ipx_host.specs.SessionActions.{is_unheard}
use Rattle.ipx_host.specs.ListenOutcomes.{parted}
use Rattle.ipx_host.specs.Tending.{IsActionFor, Tends}
use Rattle.ipx_host.specs.Sessions.{Asks, CountsUnheard, IsAskedUnless, LetsLinkGo, raised_if, unheard_in}
use Rattle.ipx_host.specs.Midway.{counts_at}
use Rattle.ipx_host.specs.SessionLogs.{ListenerCounts, with_gone, with_refused}
use Rattle.ipx_host.specs.declared.serving.Sessions.{Sessions}
use Rattle.ipx_host.specs.declared.listening.ListenOutcome.{ListenOutcome}
use Rattle.ipx_host.specs.declared.paced_host_core.PacedHostCore.{PacedHostCore}
use Rattle.ipx_host.specs.declared.sessions.Session.{Session}
use Rattle.ipx_host.specs.declared.sessions.SessionAction.{SessionAction}
use Rattle.ipx_host.specs.declared.sessions.SessionAction.TheVariants as ActionsOfSessions
use Rattle.ipx_host.proofs.Holding.{asked_unheard, same_some}
use Rattle.ipx_host.proofs.Hosted.{some_at}

counted_twice : (n b : ℕ) → counted (counted n + b) ≡ counted (n + b)
counted_twice n b = omega arith

pub none_went : (cs : List Session) (n : ℕ) → CountsUnheard cs cs n n
none_went cs n = (zero, omega arith, inl (refl, refl))

-- a count that rises, and then again
rises : (a b n m k : ℕ) → ((a ≡ 0) × (m ≡ n)) ⊎ (m ≡ counted (n + a)) → ((b ≡ 0) × (k ≡ m)) ⊎ (k ≡ counted (m + b))
    → ((b + a ≡ 0) × (k ≡ n)) ⊎ (k ≡ counted (n + (b + a)))
rises a b n m k (inl c) (inl d) = let e = c.0 in let f = d.0 in inl (omega (arith, e, f), d.1 ∙ c.1)
rises a b n m k (inl c) (inr d) =
    let e = c.0 in
    let f = c.1 in
    let same : m + b ≡ n + (b + a) = omega (arith, e, f) in
    inr (d ∙ ap counted same)
rises a b n m k (inr c) (inl d) =
    let e = d.0 in
    let same : n + a ≡ n + (b + a) = omega (arith, e) in
    inr (d.1 ∙ c ∙ ap counted same)
rises a b n m k (inr c) (inr d) =
    let same : n + a + b ≡ n + (b + a) = omega arith in
    inr (d ∙ ap (λ (i : ℕ). counted (i + b)) c ∙ counted_twice (n + a) b ∙ ap counted same)

-- some went, and then others
pub more_went : (cs ds es : List Session) (n m k : ℕ) → CountsUnheard cs ds n m → CountsUnheard ds es m k → CountsUnheard cs es n k
more_went cs ds es n m k (a, first, counts) (b, then, goes_on) =
    (b + a, omega (arith, first, then), rises a b n m k counts goes_on)

one_went : (b : Bool) (u u' n n' : ℕ) → u' + cond b 1 0 ≡ u → n' ≡ raised_if b n → (gone : ℕ) × (u ≡ u' + gone) × (((gone ≡ 0) × (n' ≡ n)) ⊎ (n' ≡ counted (n + gone)))
one_went true u u' n n' sum is = (1, omega (arith, sum), inr is)
one_went false u u' n n' sum is = (0, omega (arith, sum), inl (refl, is))

at_place : (cs : List Session) (place : ℕ) (c : Session) → place < length cs → slice_get cs place ≡ Some c → get_or cs place c ≡ c
at_place cs place c within at = same_some (get_or cs place c) c (sym (slice_get-get_or cs place c within) ∙ at)

-- one is removed
pub removed : (cs cs' : List Session) (place n n' : ℕ) → place < length cs → cs' ≡ remove cs place → IfSome (slice_get cs place) (λ c. n' ≡ raised_if (is_unheard c.phase) n)
    → CountsUnheard cs cs' n n'
removed cs cs' place n n' within goes counts =
    let at = some_at cs place within in
    let c = at.0 in
    let here : n' ≡ raised_if (is_unheard c.phase) n = subst (λ (o : Option Session). IfSome o (λ k. n' ≡ raised_if (is_unheard k.phase) n)) at.1 counts in
    let sum : unheard_in (remove cs place) + cond (is_unheard c.phase) 1 0 ≡ unheard_in cs =
    subst (λ (k : Session). unheard_in (remove cs place) + cond (is_unheard k.phase) 1 0 ≡ unheard_in cs) (at_place cs place c within at.1)
    (sum_by-remove (λ (k : Session). cond (is_unheard k.phase) 1 0) cs place c within) in
    one_went (is_unheard c.phase) (unheard_in cs) (unheard_in cs') n n'
    (subst (λ (l : List Session). unheard_in l + cond (is_unheard c.phase) 1 0 ≡ unheard_in cs) (sym goes) sum) here

asks_unheard : (now : ℕ) (old new : EndpointView) (c c' : Session) → Asks now old new c c' → is_unheard c'.phase ≡ is_unheard c.phase
asks_unheard now old new c c' (inl p) = ap (λ (k : Session). is_unheard k.phase) p.4 ∙ asked_unheard c.phase
asks_unheard now old new c c' (inr p) = ap (λ (k : Session). is_unheard k.phase) p.1

-- one is probed
pub probed : (cs cs' : List Session) (place now n n' r r' : ℕ) (old new : EndpointView) → place < length cs
    → IfSome (slice_get cs place) (λ c. (c' : Session) × Asks now old new c c' × (cs' ≡ slice_set cs place c') × (refused : Bool) × IsAskedUnless refused old new c c' × (r' ≡ raised_if refused r)) → n' ≡ n
    → CountsUnheard cs cs' n n'
probed cs cs' place now n n' r r' old new within asks same =
    let at = some_at cs place within in
    let c = at.0 in
    let here : (c' : Session) × Asks now old new c c' × (cs' ≡ slice_set cs place c') × (refused : Bool) × IsAskedUnless refused old new c c' × (r' ≡ raised_if refused r) =
    subst (λ (o : Option Session). IfSome o (λ k. (c' : Session) × Asks now old new k c' × (cs' ≡ slice_set cs place c') × (refused : Bool) × IsAskedUnless refused old new k c' × (r' ≡ raised_if refused r))) at.1 asks in
    let is : cond (is_unheard here.0.phase) 1 0 ≡ cond (is_unheard c.phase) 1 0 = ap {B = ℕ} (λ (b : Bool). cond b 1 0) (asks_unheard now old new c here.0 here.1) in
    let sum : unheard_in (slice_set cs place here.0) + cond (is_unheard c.phase) 1 0 ≡ unheard_in cs + cond (is_unheard here.0.phase) 1 0 =
    subst (λ (k : Session). unheard_in (slice_set cs place here.0) + cond (is_unheard k.phase) 1 0 ≡ unheard_in cs + cond (is_unheard here.0.phase) 1 0)
    (at_place cs place c within at.1) (sum_by-set (λ (k : Session). cond (is_unheard k.phase) 1 0) cs place here.0 c within) in
    let all : unheard_in cs' ≡ unheard_in (slice_set cs place here.0) = ap unheard_in here.2 in
    (0, omega (arith, sum, is, all), inl (refl, same))

-- ---- one whose action is that it goes

goes : (once : Bool) (core : PacedHostCore) (new : EndpointView) (cs cs' : List Session) (place : ℕ) (k : Session) (fate : SessionAction) (ns ms : ListenerCounts) (stop : Option ListenOutcome)
    → (fate ≡ ActionsOfSessions.Stays → ⊥) → (fate ≡ ActionsOfSessions.Asks → ⊥) → IsActionFor core k fate → LetsLinkGo core.endpoint new k.id → cs' ≡ remove cs place
    → stop ≡ parted once fate k.phase → ms ≡ with_gone k ns → Tends once core k place new cs cs' ns ms stop
goes once core new cs cs' place k ActionsOfSessions.Stays ns ms stop stays asks due link gone stops counts = absurd (stays refl)
goes once core new cs cs' place k ActionsOfSessions.Asks ns ms stop stays asks due link gone stops counts = absurd (asks refl)
goes once core new cs cs' place k ActionsOfSessions.Over ns ms stop stays asks due link gone stops counts =
    (ActionsOfSessions.Over, due, (link, gone, stops, counts))
goes once core new cs cs' place k ActionsOfSessions.GivenUp ns ms stop stays asks due link gone stops counts =
    (ActionsOfSessions.GivenUp, due, (link, gone, stops, counts))

pub goes_tended : (once : Bool) (core : PacedHostCore) (new : EndpointView) (cs cs' : List Session) (place : ℕ) (k : Session) (fate : SessionAction) (ns ms : ListenerCounts) (stop : Option ListenOutcome)
    → slice_get cs place ≡ Some k → (fate ≡ ActionsOfSessions.Stays → ⊥) → (fate ≡ ActionsOfSessions.Asks → ⊥) → IsActionFor core k fate
    → IfSome (slice_get cs place) (λ c. LetsLinkGo core.endpoint new c.id) → cs' ≡ remove cs place → IfSome (slice_get cs place) (λ c. stop ≡ parted once fate c.phase)
    → ms ≡ with_gone k ns → IfSome (slice_get cs place) (λ c. Tends once core c place new cs cs' ns ms stop)
goes_tended once core new cs cs' place k fate ns ms stop there stays asks due links gone stops counts =
    let link : LetsLinkGo core.endpoint new k.id = subst (λ (o : Option Session). IfSome o (λ c. LetsLinkGo core.endpoint new c.id)) there links in
    let stopped : stop ≡ parted once fate k.phase = subst (λ (o : Option Session). IfSome o (λ c. stop ≡ parted once fate c.phase)) there stops in
    subst (λ (o : Option Session). IfSome o (λ c. Tends once core c place new cs cs' ns ms stop)) (sym there)
    (goes once core new cs cs' place k fate ns ms stop stays asks due link gone stopped counts)

-- ---- what is counted with it

-- one goes
pub counts_gone : (c : Session) (r : ℕ) (old new : Sessions) → new.never_heard ≡ raised_if (is_unheard c.phase) old.never_heard → new.evicted ≡ old.evicted → new.turned_away ≡ old.turned_away
    → (new.of_never_heard ≡ old.of_never_heard) × (new.of_evicted ≡ old.of_evicted) × (new.of_turned_away ≡ old.of_turned_away)
    → counts_at r new ≡ with_gone c (counts_at r old)
counts_gone c r old new never_heard evicted turned_away logs = let a = logs.0 in let b = logs.1 in let d = logs.2 in cc

-- one is asked, or memory is refused
pub counts_asked : (refused : Bool) (r r' : ℕ) (old new : Sessions) → r' ≡ raised_if refused r → new.never_heard ≡ old.never_heard → new.evicted ≡ old.evicted → new.turned_away ≡ old.turned_away
    → (new.of_never_heard ≡ old.of_never_heard) × (new.of_evicted ≡ old.of_evicted) × (new.of_turned_away ≡ old.of_turned_away)
    → counts_at r' new ≡ with_refused refused (counts_at r old)
counts_asked refused r r' old new is never_heard evicted turned_away logs = let a = logs.0 in let b = logs.1 in let d = logs.2 in cc

pub asks_tended : (once : Bool) (core : PacedHostCore) (new : EndpointView) (cs cs' : List Session) (place r r' : ℕ) (s s' : Sessions) → place < length cs
    → IfSome (slice_get cs place) (λ c. IsActionFor core c ActionsOfSessions.Asks)
    → IfSome (slice_get cs place) (λ c. (c' : Session) × Asks core.moment core.endpoint new c c' × (cs' ≡ slice_set cs place c') × (refused : Bool) × IsAskedUnless refused core.endpoint new c c' × (r' ≡ raised_if refused r))
    → s'.never_heard ≡ s.never_heard → s'.evicted ≡ s.evicted → s'.turned_away ≡ s.turned_away
    → (s'.of_never_heard ≡ s.of_never_heard) × (s'.of_evicted ≡ s.of_evicted) × (s'.of_turned_away ≡ s.of_turned_away)
    → IfSome (slice_get cs place) (λ c. Tends once core c place new cs cs' (counts_at r s) (counts_at r' s') None)
asks_tended once core new cs cs' place r r' s s' within due asks never_heard evicted turned_away logs =
    let at = some_at cs place within in
    let c = at.0 in
    let is = subst (λ (o : Option Session). IfSome o (λ k. IsActionFor core k ActionsOfSessions.Asks)) at.1 due in
    let here : (c' : Session) × Asks core.moment core.endpoint new c c' × (cs' ≡ slice_set cs place c') × (refused : Bool) × IsAskedUnless refused core.endpoint new c c' × (r' ≡ raised_if refused r) =
    subst (λ (o : Option Session). IfSome o (λ k. (c' : Session) × Asks core.moment core.endpoint new k c' × (cs' ≡ slice_set cs place c') × (refused : Bool) × IsAskedUnless refused core.endpoint new k c' × (r' ≡ raised_if refused r))) at.1 asks in
    subst (λ (o : Option Session). IfSome o (λ k. Tends once core k place new cs cs' (counts_at r s) (counts_at r' s') None)) (sym at.1)
    (ActionsOfSessions.Asks, is, (here.0, here.1, here.2, refl, here.3, here.4, counts_asked here.3 r r' s s' here.5 never_heard evicted turned_away logs))
