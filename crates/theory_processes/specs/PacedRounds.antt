-- Rounds of two links of which the first is paced: a network that loses nothing for a while, and a pacer that
-- plans before each poll of its link. Defined by this project.
use Rattle.std.specs.Prelude.{ℕ, ⊤, ◌-◌, ◌^◌, ◌<◌, ◌≤◌, ◌≡◌, ◌≢◌, ◌++◌, ◌↔◌, ◌&&◌, Bool, IsTrue, true, false, List, [], ◌∷◌, Option, None, Some}
use Rattle.spx_link.specs.declared.unit.Unit.{Unit}
use Rattle.spx_link.specs.declared.received.Received.{Received}
use Rattle.spx_link.specs.declared.received.Received.TheVariants.{Joined, Stranger}
use Rattle.spx_link.specs.LinkView.{LinkView, is_working, numbers_of}
use Rattle.spx_link.specs.Offer.{again_link, lose_link, pace_link}
use Rattle.spx_link.specs.Poll.{OutgoingView, poll_link}
use Rattle.spx_link.specs.Receive.{receive_link}
use Rattle.spx_congestion.specs.Giving.{gave_of}
use Rattle.spx_congestion.specs.Hearing.{Hears}
use Rattle.spx_congestion.specs.Pacing.{PacerView, Tends, given_by, has_given_up, plan_of, with_outstanding}
use Rattle.spx_congestion.specs.Waiting.{TimesOut}
use Rattle.spx_theory.specs.LosslessRounds.{HasSentBy, Rise, TakesAll}

-- a manual link that is set by a plan: so many units may be outstanding, and the one at a place is sent again
abbrev pub set_by : ℕ → Option ℕ → LinkView → LinkView
set_by window None l = pace_link l window true
set_by window (Some place) l = again_link (pace_link l window true) place

-- before a poll the pacer plans, for as many units as are outstanding. The link is set by its plan
pub record Plans (l : LinkView) (p : PacerView) (now : ℕ) (l' : LinkView) (p' : PacerView) : Type 0 where
  pub tends : Tends p l.out now p'
  pub sets : l' ≡ set_by (plan_of p').window (plan_of p').again l

-- a pacer after its link gave a packet now
abbrev pub noted : PacerView → LinkView → OutgoingView → ℕ → PacerView
noted p l o now = given_by (with_outstanding p l.out now) (gave_of o.what o.header.stream) now

-- everything that a paced link gives at a time, read by its peer, in order. Its pacer plans before each poll, and
-- counts each packet. If it has given up, a link that sends units is lost
pub data PacedConveys : LinkView → PacerView → LinkView → ℕ → LinkView → PacerView → LinkView → Type 0 where
  loses : {a b a1 : LinkView} {p p1 : PacerView} {now : ℕ} → Plans a p now a1 p1
      → (is_working a1.state && has_given_up p1) ≡ true → PacedConveys a p b now (lose_link a1) p1 b
  rests : {a b a1 a' : LinkView} {p p1 : PacerView} {now : ℕ} → Plans a p now a1 p1
      → (is_working a1.state && has_given_up p1) ≡ false → poll_link a1 now ≡ (None, a')
      → PacedConveys a p b now a' p1 b
  gives : {a b a1 a2 b1 a' b' : LinkView} {p p1 p' : PacerView} {now : ℕ} (o : OutgoingView) (r : Received)
      → Plans a p now a1 p1 → (is_working a1.state && has_given_up p1) ≡ false
      → poll_link a1 now ≡ (Some o, a2) → receive_link b o.header o.body ≡ (r, b1)
      → PacedConveys a2 (noted p1 a2 o now) b1 now a' p' b' → PacedConveys a p b now a' p' b'

-- a pacer is told once how a packet that its link read changed the link's numbers, and of no other packet
pub record IsTold (r : Received) (old : PacerView) (before after : LinkView) (now : ℕ) (new : PacerView) : Type 0 where
  pub read : r ≢ Stranger → (joined : Bool) × (IsTrue joined ↔ (r ≡ Joined))
      × Hears old (numbers_of before) (numbers_of after) joined now new
  pub other : r ≡ Stranger → new ≡ old

-- everything that a peer gives at a time, read by a paced link, in order. Its pacer is told of each packet
pub data PacedReads : LinkView → LinkView → PacerView → ℕ → LinkView → LinkView → PacerView → Type 0 where
  silent : {b a b' : LinkView} {p : PacerView} {now : ℕ} → poll_link b now ≡ (None, b') → PacedReads b a p now b' a p
  hears : {b a b1 a1 b' a' : LinkView} {p p1 p' : PacerView} {now : ℕ} (o : OutgoingView) (r : Received)
      → poll_link b now ≡ (Some o, b1) → receive_link a o.header o.body ≡ (r, a1) → IsTold r p a a1 now p1
      → PacedReads b1 a1 p1 now b' a' p' → PacedReads b a p now b' a' p'

-- a round at a time, with plans: what the paced link gives is read by the peer, whose user takes everything, and
-- then in the other direction; with the units that the users took
pub record PacedRound (a : LinkView) (p : PacerView) (b : LinkView) (now : ℕ) (a' : LinkView) (p' : PacerView)
    (b' : LinkView) (units_b units_a : List Unit) : Type 0 where
  pub told : LinkView
  pub planned : PacerView
  pub heard : LinkView
  pub answered : LinkView
  pub there : PacedConveys a p b now told planned heard
  pub taken : TakesAll heard answered units_b
  pub second : LinkView
  pub back : PacedReads answered told planned now b' second p'
  pub taken_back : TakesAll second a' units_a

-- a round may begin: if units are outstanding, the wait for their acknowledgement is over. A clock can show the
-- time
pub record IsRipe (a : LinkView) (p : PacerView) (now : ℕ) : Type 0 where
  pub waited : 0 < a.out → TimesOut p a.out now
  pub shown : now < 2 ^ 64 - 1

-- one round after another, at these times
pub data PacedTurns : LinkView → PacerView → LinkView → List ℕ → LinkView → PacerView → LinkView → List Unit
    → List Unit → Type 0 where
  over : {a b : LinkView} {p : PacerView} → PacedTurns a p b [] a p b [] []
  after : {a b a1 b1 a' b' : LinkView} {p p1 p' : PacerView} {now : ℕ} {moments : List ℕ}
      {ub ua units_b units_a : List Unit} → PacedRound a p b now a1 p1 b1 ub ua
      → PacedTurns a1 p1 b1 moments a' p' b' units_b units_a
      → PacedTurns a p b (now ∷ moments) a' p' b' (ub ++ units_b) (ua ++ units_a)

-- each of these rounds may begin when it does
abbrev pub AreRipe : {a b a' b' : LinkView} {p p' : PacerView} {moments : List ℕ} {units_b units_a : List Unit}
    → PacedTurns a p b moments a' p' b' units_b units_a → Type 0
AreRipe over = ⊤
AreRipe (after {a = a} {p = p} {now = now} round more) = IsRipe a p now × AreRipe more

-- rounds at times that are 500 ms or more apart, each once the wait is over. The first of them is 500 ms or more
-- after all that the two links sent, and after the last plan
pub record PacedRounds (a : LinkView) (p : PacerView) (b : LinkView) (moments : List ℕ) (a' : LinkView)
    (p' : PacerView) (b' : LinkView) (units_b units_a : List Unit) : Type 0 where
  pub since : ℕ
  pub first : a.spoke ≤ since
  pub planned : p.tick ≤ since
  pub second : HasSentBy b since
  pub rise : Rise since moments
  pub turns : PacedTurns a p b moments a' p' b' units_b units_a
  pub ripe : AreRipe turns
