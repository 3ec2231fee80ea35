-- Rounds of two links: a network that loses nothing for a while, and users that take everything that arrives.
use Rattle.std.specs.Prelude.{ℕ, ⊤, ◌+◌, ◌-◌, ◌/◌, ◌<◌, ◌≤◌, ◌≡◌, ◌++◌, min, List, [], ◌∷◌, length, None, Some, slice_get}
use Rattle.spx_link.specs.declared.unit.Unit.{Unit}
use Rattle.spx_link.specs.declared.queue.Queued.{Queued}
use Rattle.spx_link.specs.declared.received.Received.{Received}
use Rattle.spx_link.specs.Limits.{most_units, resend_after}
use Rattle.spx_link.specs.LinkView.{LinkView}
use Rattle.spx_link.specs.Offer.{take_link}
use Rattle.spx_link.specs.Poll.{OutgoingView, poll_link}
use Rattle.spx_link.specs.Receive.{receive_link}

-- everything that the first link gives at a time, read by the second one, in order
pub data Conveys : LinkView → LinkView → ℕ → LinkView → LinkView → Type 0 where
  stops : {a b a' : LinkView} {now : ℕ} → poll_link a now ≡ (None, a') → Conveys a b now a' b
  goes : {a b a1 b1 a' b' : LinkView} {now : ℕ} (o : OutgoingView) (r : Received)
      → poll_link a now ≡ (Some o, a1) → receive_link b o.header o.body ≡ (r, b1)
      → Conveys a1 b1 now a' b' → Conveys a b now a' b'

-- everything that a link holds is taken
pub data TakesAll : LinkView → LinkView → List Unit → Type 0 where
  nothing : {l k : LinkView} → take_link l ≡ (None, k) → TakesAll l k []
  another : {l m k : LinkView} {us : List Unit} (u : Unit)
      → take_link l ≡ (Some u, m) → TakesAll m k us → TakesAll l k (u ∷ us)

-- a round at a time: what the first link gives is read by the second, whose user takes everything, and then
-- in the other direction; with the units that the users took
pub record LosslessRound (a b : LinkView) (now : ℕ) (a' b' : LinkView)
    (units_b units_a : List Unit) : Type 0 where
  pub told : LinkView
  pub heard : LinkView
  pub answered : LinkView
  pub there : Conveys a b now told heard
  pub taken : TakesAll heard answered units_b
  pub second : LinkView
  pub back : Conveys answered told now b' second
  pub taken_back : TakesAll second a' units_a

-- one round after another, at these times
pub data InTurn : LinkView → LinkView → List ℕ → LinkView → LinkView → List Unit → List Unit → Type 0 where
  over : {a b : LinkView} → InTurn a b [] a b [] []
  after : {a b a1 b1 a' b' : LinkView} {now : ℕ} {moments : List ℕ}
      {ub ua units_b units_a : List Unit} → LosslessRound a b now a1 b1 ub ua
      → InTurn a1 b1 moments a' b' units_b units_a
      → InTurn a b (now ∷ moments) a' b' (ub ++ units_b) (ua ++ units_a)

-- what a joined link sent, it sent at this time or before
pub record HasSentBy (l : LinkView) (moment : ℕ) : Type 0 where
  pub spoke : l.spoke ≤ moment
  pub sent : (k : ℕ) (q : Queued) → k < l.out → slice_get l.queue k ≡ Some q → q.at ≤ moment

-- each time is 500 ms or more after the one before
abbrev pub Rise : ℕ → List ℕ → Type 0
Rise since [] = ⊤
Rise since (now ∷ moments) = (since + resend_after ≤ now) × Rise now moments

-- rounds at times that are 500 ms or more apart, the first of them 500 ms or more after everything that the
-- two links sent
pub record LosslessRounds (a b : LinkView) (moments : List ℕ) (a' b' : LinkView)
    (units_b units_a : List Unit) : Type 0 where
  pub since : ℕ
  pub first : HasSentBy a since
  pub second : HasSentBy b since
  pub rise : Rise since moments
  pub turns : InTurn a b moments a' b' units_b units_a

-- how many units are queued and not yet sent
abbrev pub waiting : LinkView → ℕ
waiting l = length l.queue - l.out

-- how many of them a round carries
abbrev pub round_share : LinkView → ℕ
round_share b = min b.buffers most_units

-- n divided into shares of m, of which the last may be smaller
abbrev pub shares : ℕ → ℕ → ℕ
shares n m = (n + (m - 1)) / m

-- how many rounds are enough for what the first has to send: one until nothing is held, one until no answer
-- is owed, one for the probe that asks for the allocation, followed by the shares
abbrev pub rounds_for : LinkView → LinkView → ℕ
rounds_for a b = 3 + shares (waiting a) (round_share b)

-- for any two links at any time there is exactly one round
pub record RoundIsOne (a b : LinkView) (now : ℕ) : Type 0 where
  pub first : LinkView
  pub second : LinkView
  pub units_b : List Unit
  pub units_a : List Unit
  pub round : LosslessRound a b now first second units_b units_a
  pub alone : (a' b' : LinkView) (us vs : List Unit) → LosslessRound a b now a' b' us vs
      → (a' ≡ first) × (b' ≡ second) × (us ≡ units_b) × (vs ≡ units_a)

-- so there are rounds, one after another, at any times
pub record RoundsExist (a b : LinkView) (moments : List ℕ) : Type 0 where
  pub first : LinkView
  pub second : LinkView
  pub units_b : List Unit
  pub units_a : List Unit
  pub turns : InTurn a b moments first second units_b units_a
