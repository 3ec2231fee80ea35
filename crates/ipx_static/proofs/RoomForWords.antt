-- If a core counts no full table, its router had room for each packet.
use Rattle.std.proofs.Common.{◌≡◌, ◌≢◌, ◌<◌, ◌≤◌, ◌+◌, ◌-◌, ◌^◌, ℕ, Bool, true, false, List, [], ◌∷◌, Some, refl, sym, ap, ◌∙◌, subst, inl, inr, ◌⊎◌, arith}
use Rattle.std.specs.Prelude.{MatchBool}
use Rattle.ipx_router.specs.declared.reason.Reason.TheVariants.{Bad, Propagated, NotOurs, NoRoute, HopLimit, BadControl, TableFull}
use Rattle.ipx_router.specs.OutcomeView.{OutcomeView, Forward, Replies, Heard, Dropped}
use Rattle.ipx_router.specs.RouterPackets.{SendingView}
use Rattle.ipx_router.specs.RouterView.{RouterView}
use Rattle.ipx_router.specs.Advertisements.{is_due}
use Rattle.ipx_carrier.specs.declared.outcome_counters.OutcomeCounters.{OutcomeCounters}
use Rattle.ipx_carrier.specs.Counting.{raised}
use Rattle.ipx_carrier.specs.OutcomeCounters.{outcome_counted}
use Rattle.ipx_carrier.specs.PriorityRouterCore.{PriorityCoreView, PriorityHears, put_by_priority}
use Rattle.ipx_static.specs.WithStatics.{WithStaticsView, HearsIfDue, HearsAdvertisements}
use Rattle.ipx_static.proofs.EachWord.{ReceivesEach}

-- the queues do not matter to the router and its counts
answer_router : (a : OutcomeView) (c : PriorityCoreView) → (put_by_priority a c).router ≡ c.router
answer_router (Forward port next bytes) c = refl
answer_router (Replies sent) c = refl
answer_router (Heard n) c = refl
answer_router (Dropped reason) c = refl

answer_outcomes : (a : OutcomeView) (c : PriorityCoreView) → (put_by_priority a c).outcomes ≡ c.outcomes
answer_outcomes (Forward port next bytes) c = refl
answer_outcomes (Replies sent) c = refl
answer_outcomes (Heard n) c = refl
answer_outcomes (Dropped reason) c = refl

-- an answer is that a table was full, or the count of that stays
full_or_not : (a : OutcomeView) (f : OutcomeCounters) → ((a ≢ Dropped TableFull) × ((outcome_counted a f).table_full ≡ f.table_full)) ⊎ ((outcome_counted a f).table_full ≡ raised f.table_full)
full_or_not (Forward port next bytes) f = inl (λ e. cc, refl)
full_or_not (Replies sent) f = inl (λ e. cc, refl)
full_or_not (Heard n) f = inl (λ e. cc, refl)
full_or_not (Dropped (Bad fault)) f = inl (λ e. cc, refl)
full_or_not (Dropped Propagated) f = inl (λ e. cc, refl)
full_or_not (Dropped NotOurs) f = inl (λ e. cc, refl)
full_or_not (Dropped (NoRoute network)) f = inl (λ e. cc, refl)
full_or_not (Dropped HopLimit) f = inl (λ e. cc, refl)
full_or_not (Dropped (BadControl fault)) f = inl (λ e. cc, refl)
full_or_not (Dropped TableFull) f = inr refl

abbrev pub full : PriorityCoreView → ℕ
full c = c.outcomes.table_full

heard_outcomes : (old new : PriorityCoreView) (port : ℕ) (bytes : List ℕ) (now : ℕ) (h : PriorityHears old port bytes now new) → full new ≡ (outcome_counted h.0 old.outcomes).table_full
heard_outcomes old new port bytes now h = ap full h.3 ∙ ap (λ (f : OutcomeCounters). f.table_full) (answer_outcomes h.0 (record old { router = h.1; outcomes = outcome_counted h.0 old.outcomes }))

pub heard_router : (old new : PriorityCoreView) (port : ℕ) (bytes : List ℕ) (now : ℕ) (h : PriorityHears old port bytes now new) → new.router ≡ h.1
heard_router old new port bytes now h = ap (λ (c : PriorityCoreView). c.router) h.3 ∙ answer_router h.0 (record old { router = h.1; outcomes = outcome_counted h.0 old.outcomes })

raised_by : (n : ℕ) → n < 2 ^ 64 → (n ≤ raised n) × (raised n < 2 ^ 64)
raised_by n less = (omega (arith, less), omega (arith, less))

raised_one : (n : ℕ) → n + 1 < 2 ^ 64 → raised n ≡ n + 1
raised_one n less = omega (arith, less)

-- the count never goes down
pub one_on : (old new : PriorityCoreView) (port : ℕ) (bytes : List ℕ) (now : ℕ) → PriorityHears old port bytes now new → full old < 2 ^ 64 → (full old ≤ full new) × (full new < 2 ^ 64)
one_on old new port bytes now h less =
    let is = heard_outcomes old new port bytes now h in
    elim (full_or_not h.0 old.outcomes) [
      | inl same ↦ (omega (arith, is, same.1), omega (arith, is, same.1, less))
      | inr up ↦ let by = raised_by (full old) less in (omega (arith, is, up, by.0), omega (arith, is, up, by.1))
    ]

pub all_on : (now : ℕ) (ws : List SendingView) (old new : PriorityCoreView) → HearsAdvertisements PriorityHears now ws old new → full old < 2 ^ 64 → (full old ≤ full new) × (full new < 2 ^ 64)
all_on now [] old new is less = (omega (arith, ap full is), omega (arith, ap full is, less))
all_on now (w ∷ ws) old new h less =
    let first = one_on old h.0 (w.port - 1) w.bytes now h.1 less in
    let rest = all_on now ws h.0 new h.2 first.1 in
    (omega (arith, first.0, rest.0), rest.1)

-- a response for which a table is full is answered so
abbrev pub HasSpace : OutcomeView → Type 0
HasSpace a = a ≢ Dropped TableFull

pub room_for_each : (now : ℕ) (ws : List SendingView) (old new : PriorityCoreView) → HearsAdvertisements PriorityHears now ws old new → full old + 1 < 2 ^ 64 → full new ≡ full old → ReceivesEach HasSpace now ws old.router new.router
room_for_each now [] old new is less same = ap (λ (c : PriorityCoreView). c.router) is
room_for_each now (w ∷ ws) old new h less same =
    let mid = h.0 in
    let outcomes = heard_outcomes old mid (w.port - 1) w.bytes now h.1 in
    let first = one_on old mid (w.port - 1) w.bytes now h.1 (omega (arith, less)) in
    let rest = (all_on now ws mid new h.2 first.1).0 in
    elim (full_or_not h.1.0 old.outcomes) [
      | inl room ↦
          let stays : full mid ≡ full old = outcomes ∙ room.1 in
          let later : ReceivesEach HasSpace now ws mid.router new.router = room_for_each now ws mid new h.2 (omega (arith, less, stays)) (same ∙ sym stays) in
          (h.1.0, h.1.1, h.1.2, room.0, subst (λ (r : RouterView). ReceivesEach HasSpace now ws r new.router) (heard_router old mid (w.port - 1) w.bytes now h.1) later)
      | inr up ↦ absurd (omega (arith, same, rest, outcomes, up, raised_one (full old) less))
    ]

-- for any answer
abbrev pub AsItMay : OutcomeView → Type 0
AsItMay a = Unit {0}

pub each_received : (now : ℕ) (ws : List SendingView) (old new : PriorityCoreView) → HearsAdvertisements PriorityHears now ws old new → ReceivesEach AsItMay now ws old.router new.router
each_received now [] old new is = ap (λ (c : PriorityCoreView). c.router) is
each_received now (w ∷ ws) old new h = (
  h.1.0,
  h.1.1,
  h.1.2,
  tt,
  subst (λ (r : RouterView). ReceivesEach AsItMay now ws r new.router) (heard_router old h.0 (w.port - 1) w.bytes now h.1) (each_received now ws h.0 new h.2),
)

pub of_true : (P Q : Type 0) (b : Bool) → b ≡ true → MatchBool b P Q → P
of_true P Q true e h = h
of_true P Q false e h = cc

pub heard_words : (old new : WithStaticsView PriorityCoreView) (now : ℕ) → is_due old.refreshed_at now ≡ true → HearsIfDue PriorityHears old now new → HearsAdvertisements PriorityHears now old.advertisements old.core new.core
heard_words old new now due h =
    (of_true (HearsAdvertisements PriorityHears now old.advertisements old.core new.core × (new ≡ record old { core = new.core; refreshed_at = Some now })) (new ≡ old) (is_due old.refreshed_at now) due h).0

pub of_false : (P Q : Type 0) (b : Bool) → b ≡ false → MatchBool b P Q → Q
of_false P Q true e h = cc
of_false P Q false e h = h
