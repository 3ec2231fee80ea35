use Rattle.std.proofs.Common.{◌≡◌, ◌∙◌, ◌≤◌, ◌<◌, ◌+◌, ◌-◌, ◌^◌, ℕ, List, length, get_or, slice_set, arith, ap, refl}
use Rattle.std.specs.List.{sum_by}
use Rattle.std.proofs.lemmas.List.Sums.{get_or-le-sum_by, sum_by-set}
use Rattle.ipx_router.specs.declared.reason.Reason.{Reason}
use Rattle.ipx_router.specs.declared.reason.Reason.TheVariants.{Bad, Propagated, NotOurs, NoRoute, HopLimit, BadControl, TableFull}
use Rattle.ipx_router.specs.OutcomeView.{OutcomeView, Forward, Replies, Heard, Dropped}
use Rattle.ipx_carrier.specs.Counting.{counted, raised}
use Rattle.ipx_carrier.specs.OutcomeCounters.{outcome_counted, outcomes_after}
use Rattle.ipx_carrier.specs.declared.outcome_counters.OutcomeCounters.{OutcomeCounters}
use Rattle.ipx_metrics.specs.PortCounts.{changed_at, outcomes_over, no_traffic, with_heard_there, with_sent_there}
use Rattle.ipx_metrics.specs.declared.port_counts.PortCounts.{PortCounts}

raised_grows : (n : ℕ) → n < 2 ^ 64 → n ≤ raised n
raised_grows n h = omega arith

-- if one term of a sum rises by as much as the sum is to rise, the sum does
moved_sum : {X : Type 0} (f : X → ℕ) (xs : List X) (i : ℕ) (y d : X) (before after : ℕ) → i < length xs → before ≡ sum_by f xs → before ≤ after → after < 2 ^ 64
    → f y ≡ counted (f (get_or xs i d) + (after - before)) → after ≡ sum_by f (slice_set xs i y)
moved_sum f xs i y d before after h e le few is =
    let here = get_or-le-sum_by f xs i d h in
    let set = sum_by-set f xs i y d h in
    omega arith

-- if a term is unchanged, so is the sum
unmoved_sum : {X : Type 0} (f : X → ℕ) (xs : List X) (i : ℕ) (y d : X) → i < length xs → f y ≡ f (get_or xs i d) → sum_by f (slice_set xs i y) ≡ sum_by f xs
unmoved_sum f xs i y d h is =
    let set = sum_by-set f xs i y d h in
    omega arith

-- each count fits 64 bits
pub record AreFew (f : OutcomeCounters) : Type 0 where
  pub forwarded : f.forwarded < 2 ^ 64
  pub answered : f.answered < 2 ^ 64
  pub heard : f.heard < 2 ^ 64
  pub bad : f.bad < 2 ^ 64
  pub propagated : f.propagated < 2 ^ 64
  pub not_ours : f.not_ours < 2 ^ 64
  pub no_route : f.no_route < 2 ^ 64
  pub hop_limit : f.hop_limit < 2 ^ 64
  pub bad_control : f.bad_control < 2 ^ 64
  pub table_full : f.table_full < 2 ^ 64

-- none fell
pub record NoneFell (before after : OutcomeCounters) : Type 0 where
  pub forwarded : before.forwarded ≤ after.forwarded
  pub answered : before.answered ≤ after.answered
  pub heard : before.heard ≤ after.heard
  pub bad : before.bad ≤ after.bad
  pub propagated : before.propagated ≤ after.propagated
  pub not_ours : before.not_ours ≤ after.not_ours
  pub no_route : before.no_route ≤ after.no_route
  pub hop_limit : before.hop_limit ≤ after.hop_limit
  pub bad_control : before.bad_control ≤ after.bad_control
  pub table_full : before.table_full ≤ after.table_full

fell_by_none : (reason : Reason) (f : OutcomeCounters) → AreFew f → NoneFell f (outcomes_after reason f)
fell_by_none (Bad fault) f few = record {
  forwarded = omega arith;
  answered = omega arith;
  heard = omega arith;
  bad = raised_grows f.bad few.bad;
  propagated = omega arith;
  not_ours = omega arith;
  no_route = omega arith;
  hop_limit = omega arith;
  bad_control = omega arith;
  table_full = omega arith;
}
fell_by_none Propagated f few = record {
  forwarded = omega arith;
  answered = omega arith;
  heard = omega arith;
  bad = omega arith;
  propagated = raised_grows f.propagated few.propagated;
  not_ours = omega arith;
  no_route = omega arith;
  hop_limit = omega arith;
  bad_control = omega arith;
  table_full = omega arith;
}
fell_by_none NotOurs f few = record {
  forwarded = omega arith;
  answered = omega arith;
  heard = omega arith;
  bad = omega arith;
  propagated = omega arith;
  not_ours = raised_grows f.not_ours few.not_ours;
  no_route = omega arith;
  hop_limit = omega arith;
  bad_control = omega arith;
  table_full = omega arith;
}
fell_by_none (NoRoute network) f few = record {
  forwarded = omega arith;
  answered = omega arith;
  heard = omega arith;
  bad = omega arith;
  propagated = omega arith;
  not_ours = omega arith;
  no_route = raised_grows f.no_route few.no_route;
  hop_limit = omega arith;
  bad_control = omega arith;
  table_full = omega arith;
}
fell_by_none HopLimit f few = record {
  forwarded = omega arith;
  answered = omega arith;
  heard = omega arith;
  bad = omega arith;
  propagated = omega arith;
  not_ours = omega arith;
  no_route = omega arith;
  hop_limit = raised_grows f.hop_limit few.hop_limit;
  bad_control = omega arith;
  table_full = omega arith;
}
fell_by_none (BadControl fault) f few = record {
  forwarded = omega arith;
  answered = omega arith;
  heard = omega arith;
  bad = omega arith;
  propagated = omega arith;
  not_ours = omega arith;
  no_route = omega arith;
  hop_limit = omega arith;
  bad_control = raised_grows f.bad_control few.bad_control;
  table_full = omega arith;
}
fell_by_none TableFull f few = record {
  forwarded = omega arith;
  answered = omega arith;
  heard = omega arith;
  bad = omega arith;
  propagated = omega arith;
  not_ours = omega arith;
  no_route = omega arith;
  hop_limit = omega arith;
  bad_control = omega arith;
  table_full = raised_grows f.table_full few.table_full;
}

pub none_fell : (a : OutcomeView) (f : OutcomeCounters) → AreFew f → NoneFell f (outcome_counted a f)
none_fell (Forward port next bytes) f few = record {
  forwarded = raised_grows f.forwarded few.forwarded;
  answered = omega arith;
  heard = omega arith;
  bad = omega arith;
  propagated = omega arith;
  not_ours = omega arith;
  no_route = omega arith;
  hop_limit = omega arith;
  bad_control = omega arith;
  table_full = omega arith;
}
none_fell (Replies sent) f few = record {
  forwarded = omega arith;
  answered = raised_grows f.answered few.answered;
  heard = omega arith;
  bad = omega arith;
  propagated = omega arith;
  not_ours = omega arith;
  no_route = omega arith;
  hop_limit = omega arith;
  bad_control = omega arith;
  table_full = omega arith;
}
none_fell (Heard n) f few = record {
  forwarded = omega arith;
  answered = omega arith;
  heard = raised_grows f.heard few.heard;
  bad = omega arith;
  propagated = omega arith;
  not_ours = omega arith;
  no_route = omega arith;
  hop_limit = omega arith;
  bad_control = omega arith;
  table_full = omega arith;
}
none_fell (Dropped reason) f few = fell_by_none reason f few

abbrev made : ℕ → ℕ → ℕ → ℕ → ℕ → ℕ → ℕ → ℕ → ℕ → ℕ → OutcomeCounters
made n0 n1 n2 n3 n4 n5 n6 n7 n8 n9 = record {
  forwarded = n0;
  answered = n1;
  heard = n2;
  bad = n3;
  propagated = n4;
  not_ours = n5;
  no_route = n6;
  hop_limit = n7;
  bad_control = n8;
  table_full = n9;
}

-- counts are the same if each is
counts_same : (a b : OutcomeCounters) → a.forwarded ≡ b.forwarded → a.answered ≡ b.answered → a.heard ≡ b.heard → a.bad ≡ b.bad → a.propagated ≡ b.propagated → a.not_ours ≡ b.not_ours → a.no_route ≡ b.no_route → a.hop_limit ≡ b.hop_limit → a.bad_control ≡ b.bad_control → a.table_full ≡ b.table_full → a ≡ b
counts_same a b e0 e1 e2 e3 e4 e5 e6 e7 e8 e9 =
    ap (λ v. made v a.answered a.heard a.bad a.propagated a.not_ours a.no_route a.hop_limit a.bad_control a.table_full) e0
    ∙ ap (λ v. made b.forwarded v a.heard a.bad a.propagated a.not_ours a.no_route a.hop_limit a.bad_control a.table_full) e1
    ∙ ap (λ v. made b.forwarded b.answered v a.bad a.propagated a.not_ours a.no_route a.hop_limit a.bad_control a.table_full) e2
    ∙ ap (λ v. made b.forwarded b.answered b.heard v a.propagated a.not_ours a.no_route a.hop_limit a.bad_control a.table_full) e3
    ∙ ap (λ v. made b.forwarded b.answered b.heard b.bad v a.not_ours a.no_route a.hop_limit a.bad_control a.table_full) e4
    ∙ ap (λ v. made b.forwarded b.answered b.heard b.bad b.propagated v a.no_route a.hop_limit a.bad_control a.table_full) e5
    ∙ ap (λ v. made b.forwarded b.answered b.heard b.bad b.propagated b.not_ours v a.hop_limit a.bad_control a.table_full) e6
    ∙ ap (λ v. made b.forwarded b.answered b.heard b.bad b.propagated b.not_ours b.no_route v a.bad_control a.table_full) e7
    ∙ ap (λ v. made b.forwarded b.answered b.heard b.bad b.propagated b.not_ours b.no_route b.hop_limit v a.table_full) e8
    ∙ ap (λ v. made b.forwarded b.answered b.heard b.bad b.propagated b.not_ours b.no_route b.hop_limit b.bad_control v) e9

-- the counts of ports add up to the router's, and still do if one port counts what the router does
pub still_sums : (ports : List PortCounts) (i n : ℕ) (before after : OutcomeCounters) → i < length ports → before ≡ outcomes_over ports → NoneFell before after → AreFew after
    → after ≡ outcomes_over (changed_at ports i (with_heard_there before after n))
still_sums ports i n before after h e up few =
    let y = with_heard_there before after n (get_or ports i no_traffic) in
    let each = λ (of : OutcomeCounters → ℕ) (le : of before ≤ of after) (fits : of after < 2 ^ 64) (is : of y.outcomes ≡ counted (of (get_or ports i no_traffic).outcomes + (of after - of before))) (sum : of before ≡ sum_by (λ p. of p.outcomes) ports).
    moved_sum (λ p. of p.outcomes) ports i y no_traffic (of before) (of after) h sum le fits is in
    counts_same after (outcomes_over (changed_at ports i (with_heard_there before after n)))
    (each (λ f. f.forwarded) up.forwarded few.forwarded refl (ap (λ f. f.forwarded) e))
    (each (λ f. f.answered) up.answered few.answered refl (ap (λ f. f.answered) e))
    (each (λ f. f.heard) up.heard few.heard refl (ap (λ f. f.heard) e))
    (each (λ f. f.bad) up.bad few.bad refl (ap (λ f. f.bad) e))
    (each (λ f. f.propagated) up.propagated few.propagated refl (ap (λ f. f.propagated) e))
    (each (λ f. f.not_ours) up.not_ours few.not_ours refl (ap (λ f. f.not_ours) e))
    (each (λ f. f.no_route) up.no_route few.no_route refl (ap (λ f. f.no_route) e))
    (each (λ f. f.hop_limit) up.hop_limit few.hop_limit refl (ap (λ f. f.hop_limit) e))
    (each (λ f. f.bad_control) up.bad_control few.bad_control refl (ap (λ f. f.bad_control) e))
    (each (λ f. f.table_full) up.table_full few.table_full refl (ap (λ f. f.table_full) e))

-- a port that sends changes no count of what came
pub sums_sent : (ports : List PortCounts) (i n : ℕ) → i < length ports → outcomes_over (changed_at ports i (with_sent_there n)) ≡ outcomes_over ports
sums_sent ports i n h =
    let y = with_sent_there n (get_or ports i no_traffic) in
    let each : (of : OutcomeCounters → ℕ) → sum_by (λ p. of p.outcomes) (slice_set ports i y) ≡ sum_by (λ p. of p.outcomes) ports = λ of. unmoved_sum (λ p. of p.outcomes) ports i y no_traffic h refl in
    counts_same (outcomes_over (changed_at ports i (with_sent_there n))) (outcomes_over ports)
    (each (λ f. f.forwarded)) (each (λ f. f.answered)) (each (λ f. f.heard)) (each (λ f. f.bad)) (each (λ f. f.propagated))
    (each (λ f. f.not_ours)) (each (λ f. f.no_route)) (each (λ f. f.hop_limit)) (each (λ f. f.bad_control)) (each (λ f. f.table_full))
