-- Routers that live for one call: what they receive, and the packets that they give.
use Rattle.std.proofs.Common.{◌≡◌, ◌+◌, ◌-◌, ℕ, All, Bool, true, false, cond, List, [], ◌∷◌, ◌++◌, length, map, Option, None, Some, refl, sym, ◌∙◌, inl, inr, ap, subst, arith}
use Rattle.std.specs.Prelude.{Contains, MatchBool, flat_map, nat_le, nat_lt}
use Rattle.std.proofs.lemmas.Bool.{leb-true, le-leb}
use Rattle.std.proofs.lemmas.List.{append-nil}
use Rattle.ipx_router.specs.Advertisements.{AreAdvertisements, is_due}
use Rattle.ipx_router.specs.Answer.{Receives}
use Rattle.ipx_router.specs.Knowledge.{Known, known_at, routes_in, services_in}
use Rattle.ipx_router.specs.NewRouter.{IsOwnNetwork}
use Rattle.ipx_router.specs.OutcomeView.{Dropped, Forward, Heard, OutcomeView, Replies}
use Rattle.ipx_router.specs.RouterPackets.{SendingView}
use Rattle.ipx_router.specs.RouterView.{RouterView}
use Rattle.ipx_router.specs.declared.port.Port.{Port}
use Rattle.ipx_tables.specs.Content.{still}
use Rattle.ipx_carrier.specs.Counting.{counted}
use Rattle.ipx_carrier.specs.OutcomeCounters.{outcome_counted}
use Rattle.ipx_carrier.specs.RouterCore.{CoreView, RouterGives, RouterHears, put, put_answer}
use Rattle.ipx_carrier.specs.RouterQueues.{AreFirst, TellsNow, given_of, max_queued}
use Rattle.ipx_carrier.specs.declared.outcome_counters.OutcomeCounters.{OutcomeCounters}
use Rattle.theory_processes.specs.Course.{IsNewCore}
use Rattle.theory_processes.specs.HostCalls.{Source}
use Rattle.theory_processes.specs.Loops.{RouterRuns, router_gave}
use Rattle.theory_processes.specs.RouterCalls.{HearsOn, Passes, RouterCall}
use Rattle.theory_processes.specs.Lives.{HearOnly, Life, SendsNone, given_by}
use Rattle.theory_processes.proofs.Holding.{contains_map}
use Rattle.theory_processes.proofs.Queues.{Fit, IsNew, sent_in}
use Rattle.theory_processes.proofs.Lists.{contains_none}
use Rattle.theory_processes.proofs.Sending.{match_bool}

-- a core with these parts, which has dropped nothing
abbrev pub core_of : RouterView → OutcomeCounters → Bool → List SendingView → CoreView
core_of r o started queue = record { router = r; queue = queue; started = started; dropped = 0; outcomes = o }

-- a router that advertised at time 0
abbrev pub told_once : RouterView → RouterView
told_once r = record r { advertised_at = Some 0 }

-- ---- at time 0 nothing is old

none_left : (m : ℕ) → 0 - m ≡ 0
none_left m = omega arith

still_all : {M : Type 0} (o : Option (M × ℕ)) → o ≡ still 0 o
still_all None = refl
still_all (Some v) = sym (ap (λ b. cond b (Some v) None) (ap (λ n. nat_lt n 180000) (none_left v.1)))

not_due : (last : Option ℕ) (m : ℕ) → last ≡ Some m → is_due last 0 ≡ false
not_due last m is = ap (λ l. is_due l 0) is ∙ ap (λ n. nat_le 60000 n) (none_left m)

tells_nothing : (r : RouterView) (m : ℕ) → r.advertised_at ≡ Some m → TellsNow r 0 [] r
tells_nothing r m at =
    let k : Known = known_at r 0 in
    let none : List SendingView = [] in (
      subst (λ b. MatchBool b (AreAdvertisements k.ports k.routes k.services 0 1 k.ports none × (r.advertised_at ≡ Some 0)) ((none ≡ []) × (r.advertised_at ≡ r.advertised_at))) (sym (not_due r.advertised_at m at)) (refl, refl),
      record { routes = λ p. still_all (routes_in r.routes p); services = λ p. still_all (services_in r.services p) },
      record { ports = refl; most_routes = refl; most_services = refl },
    )

-- ---- a queue

-- nothing is put after these
put_none : (r : RouterView) (o : OutcomeCounters) (q : List SendingView) → Fit q → put [] (core_of r o true q) ≡ core_of r o true q
put_none r o q fits =
    let none : List SendingView = [] in
    let e : nat_le (length q + length none) max_queued ≡ true = le-leb (length q + length none) max_queued (omega (arith, fits)) in
    ap (λ b. record { router = r; queue = cond b (q ++ none) q; started = true; dropped = cond b 0 (counted (0 + length none)); outcomes = o }) e
    ∙ ap (core_of r o true) (append-nil q)

-- these are put into an empty queue
put_all : (r : RouterView) (o : OutcomeCounters) (q : List SendingView) → Fit q → put q (core_of r o true []) ≡ core_of r o true q
put_all r o q fits =
    let none : List SendingView = [] in
    let e : nat_le (length none + length q) max_queued ≡ true = le-leb (length none + length q) max_queued (omega (arith, fits)) in
    ap (λ b. record { router = r; queue = cond b (none ++ q) none; started = true; dropped = cond b 0 (counted (0 + length q)); outcomes = o }) e

abbrev passes : List SendingView → List RouterCall
passes [] = []
passes (s ∷ q) = Passes 0 (Some (given_of s)) ∷ passes q

gave_passes : (q : List SendingView) → flat_map router_gave (passes q) ≡ map given_of q
gave_passes [] = refl
gave_passes (s ∷ q) = ap (λ gs. given_of s ∷ gs) (gave_passes q)

hear_nothing : (ports : List Port) (call : RouterCall) (q : List SendingView) → HearOnly ports call (passes q)
hear_nothing ports call [] = tt
hear_nothing ports call (s ∷ q) = (inr refl, hear_nothing ports call q)

shorter : (s : SendingView) (q : List SendingView) → Fit (s ∷ q) → Fit q
shorter s q fits = omega (arith, fits)

-- the packets of a queue are given, one after another
pass_all : (r : RouterView) (o : OutcomeCounters) (m : ℕ) → r.advertised_at ≡ Some m → (q : List SendingView) → Fit q → RouterRuns (passes q) (core_of r o true q) (core_of r o true [])
pass_all r o m at [] fits = refl
pass_all r o m at (s ∷ q) fits =
    let ready : CoreView = core_of r o true (s ∷ q) in
    let is : ready ≡ put [] (put [] ready) = sym (ap (put []) (put_none r o (s ∷ q) fits) ∙ put_none r o (s ∷ q) fits) in
    let gives : RouterGives ready 0 (Some (given_of s)) (core_of r o true q) = (ready, ([], [], r, refl, tells_nothing r m at, is), ((Some s, refl, refl), refl)) in
    (core_of r o true q, gives, pass_all r o m at q (shorter s q fits))

-- ---- lives

-- some lives, which give these packets
pub record Lives (ports : List Port) (call : RouterCall) (sent : List SendingView) : Type 0 where
  pub lives : List (Life ports call)
  pub gave : (s : SendingView) → IsNew sent s → Contains (given_by lives) (given_of s)

new_core : (r : RouterView) (o : OutcomeCounters) (started : Bool) → All IsOwnNetwork r.ports → IsNewCore (core_of r o started [])
new_core r o started own = record { networks = own; none = λ s is. contains_none s is }

no_lives : (ports : List Port) (call : RouterCall) (sent : List SendingView) → ((s : SendingView) → IsNew sent s → ⊥) → Lives ports call sent
no_lives ports call sent none = record { lives = []; gave = λ s is. absurd (none s is) }

-- one life, whose calls give these packets
one_life : (ports : List Port) (call : RouterCall) (sent : List SendingView) (l : Life ports call) → flat_map router_gave l.calls ≡ map given_of sent → Lives ports call sent
one_life ports call sent l gave = record {
  lives = l ∷ [];
  gave = λ s is. subst (λ gs. Contains gs (given_of s)) (sym (append-nil (flat_map router_gave l.calls) ∙ gave)) (contains_map given_of sent s is.0);
}

-- ---- a router receives, and gives what it answers

module _ (ports : List Port) (r after : RouterView) (o : OutcomeCounters) (source : Source) (port : ℕ) (bytes : List ℕ) (now : ℕ) (a : OutcomeView) (own : All IsOwnNetwork r.ports) (there : r.ports ≡ ports)
    (receives : Receives r (port + 1) bytes now a after) where
  abbrev call : RouterCall
  call = HearsOn source port bytes now

  abbrev first : CoreView
  first = core_of (told_once r) o true []

  abbrev heard : CoreView
  heard = core_of (told_once after) (outcome_counted a o) true []

  hears : RouterHears first port bytes now (put_answer a heard)
  hears = (
    a,
    told_once after,
    record { answers = receives.answers; rest = record { ports = receives.rest.ports; most_routes = receives.rest.most_routes; most_services = receives.rest.most_services }; told = refl; valid = receives.valid },
    refl,
  )

  queued : (b : OutcomeView) (counts : OutcomeCounters) → Fit (sent_in b) → put_answer b (core_of (told_once after) counts true []) ≡ core_of (told_once after) counts true (sent_in b)
  queued (Forward next node out) counts fits = put_all (told_once after) counts (sent_in (Forward next node out)) fits
  queued (Replies sent) counts fits = put_all (told_once after) counts sent fits
  queued (Heard n) counts fits = refl
  queued (Dropped reason) counts fits = refl

  gives_all : (SendsNone a → ⊥) → Fit (sent_in a) → Life ports call
  gives_all some fits =
      let full : CoreView = core_of (told_once after) (outcome_counted a o) true (sent_in a) in
      record {
        first = first;
        last = core_of (told_once after) (outcome_counted a o) true [];
        calls = call ∷ passes (sent_in a);
        new = new_core (told_once r) o true own;
        there = there;
        runs = (full, subst (λ c. RouterHears first port bytes now c) (queued a (outcome_counted a o) fits) hears, pass_all (told_once after) (outcome_counted a o) 0 refl (sent_in a) fits);
        hears = (inl (refl, λ none. some (none r after a there receives)), hear_nothing ports call (sent_in a));
      }

  answered : (SendsNone a → ⊥) → Lives ports call (sent_in a)
  unfolding gives_all
  answered some = when (nat_le (length (sent_in a)) max_queued) refl
    where
      when : (b : Bool) → nat_le (length (sent_in a)) max_queued ≡ b → Lives ports call (sent_in a)
      when true fits = one_life ports call (sent_in a) (gives_all some (leb-true (length (sent_in a)) max_queued fits)) (gave_passes (sent_in a))
      when false full = no_lives ports call (sent_in a) (λ s is. absurd (cc (sym full ∙ le-leb (length (sent_in a)) max_queued is.1)))

  pub answer_lives : Lives ports call (sent_in a)
  answer_lives = from a refl
    where
      same : (b : OutcomeView) → a ≡ b → (SendsNone b → ⊥) → Lives ports call (sent_in b)
      same b is some = subst (λ o. Lives ports call (sent_in o)) is (answered (λ none. some (subst SendsNone is none)))

      from : (b : OutcomeView) → a ≡ b → Lives ports call (sent_in b)
      from (Forward next node out) is = same (Forward next node out) is (λ none. none)
      from (Replies sent) is = same (Replies sent) is (λ none. none)
      from (Heard n) is = no_lives ports call [] (λ s has. contains_none s has.0)
      from (Dropped reason) is = no_lives ports call [] (λ s has. contains_none s has.0)

-- ---- it starts

pub first_lives : (ports : List Port) (call : RouterCall) (r : RouterView) (o : OutcomeCounters) (started : Bool) (first : List SendingView) → All IsOwnNetwork r.ports → r.ports ≡ ports → AreFirst started r first
    → Lives ports call first
first_lives ports call r o started [] own there are = no_lives ports call [] (λ s is. contains_none s is.0)
first_lives ports call r o started (s ∷ q) own there are = when (nat_le (length (s ∷ q)) max_queued) refl
  where
    life : Fit (s ∷ q) → Life ports call
    life fits =
        let t : RouterView = told_once r in
        let ready : CoreView = core_of t o true (s ∷ q) in
        let is : ready ≡ put [] (put (s ∷ q) (core_of t o true [])) = sym (ap (put []) (put_all t o (s ∷ q) fits) ∙ put_none t o (s ∷ q) fits) in
        let gives : RouterGives (core_of t o started []) 0 (Some (given_of s)) (core_of t o true q) = (ready, (s ∷ q, [], t, are, tells_nothing t 0 refl, is), ((Some s, refl, refl), refl)) in
        record {
          first = core_of t o started [];
          last = core_of t o true [];
          calls = passes (s ∷ q);
          new = new_core t o started own;
          there = there;
          runs = (core_of t o true q, gives, pass_all t o 0 refl q (shorter s q fits));
          hears = hear_nothing ports call (s ∷ q);
        }

    when : (b : Bool) → nat_le (length (s ∷ q)) max_queued ≡ b → Lives ports call (s ∷ q)
    when true fits = one_life ports call (s ∷ q) (life (leb-true (length (s ∷ q)) max_queued fits)) (gave_passes (s ∷ q))
    when false full = no_lives ports call (s ∷ q) (λ t is. absurd (cc (sym full ∙ le-leb (length (s ∷ q)) max_queued is.1)))

-- ---- it advertises

-- packets are advertised only at a time that the router notes
noted : (r after : RouterView) (now : ℕ) (s : SendingView) (q : List SendingView) → TellsNow r now (s ∷ q) after → after.advertised_at ≡ Some now
noted r after now s q t =
    let k : Known = known_at r now in
    elim (match_bool (AreAdvertisements k.ports k.routes k.services now 1 k.ports (s ∷ q) × (after.advertised_at ≡ Some now)) ((s ∷ q ≡ []) × (after.advertised_at ≡ r.advertised_at)) (is_due r.advertised_at now) t.0) [
      | inl due ↦ due.1
      | inr other ↦ absurd (cc other.0)
    ]

pub told_lives : (ports : List Port) (call : RouterCall) (r after : RouterView) (o : OutcomeCounters) (now : ℕ) (told : List SendingView) → All IsOwnNetwork r.ports → r.ports ≡ ports → TellsNow r now told after
    → Lives ports call told
told_lives ports call r after o now [] own there tells = no_lives ports call [] (λ s is. contains_none s is.0)
told_lives ports call r after o now (s ∷ q) own there tells = when (nat_le (length (s ∷ q)) max_queued) refl
  where
    life : Fit (s ∷ q) → Life ports call
    life fits =
        let ready : CoreView = core_of after o true (s ∷ q) in
        let is : ready ≡ put (s ∷ q) (put [] (core_of after o true [])) = sym (ap (put (s ∷ q)) (put_none after o [] (omega arith)) ∙ put_all after o (s ∷ q) fits) in
        let gives : RouterGives (core_of r o true []) now (Some (given_of s)) (core_of after o true q) = (ready, ([], s ∷ q, after, refl, tells, is), ((Some s, refl, refl), refl)) in
        record {
          first = core_of r o true [];
          last = core_of after o true [];
          calls = Passes now (Some (given_of s)) ∷ passes q;
          new = new_core r o true own;
          there = there;
          runs = (core_of after o true q, gives, pass_all after o now (noted r after now s q tells) q (shorter s q fits));
          hears = (inr refl, hear_nothing ports call q);
        }

    when : (b : Bool) → nat_le (length (s ∷ q)) max_queued ≡ b → Lives ports call (s ∷ q)
    when true fits = one_life ports call (s ∷ q) (life (leb-true (length (s ∷ q)) max_queued fits)) (ap (λ gs. given_of s ∷ gs) (gave_passes q))
    when false full = no_lives ports call (s ∷ q) (λ t is. absurd (cc (sym full ∙ le-leb (length (s ∷ q)) max_queued is.1)))
