-- A joined link after a poll, for each kind of packet, and when a poll gives nothing.
use Rattle.std.proofs.Common.{ℕ, ◌+◌, ◌<◌, ◌≡◌, ◌⊎◌, true, false, length, set, take, Option, Some, None, nat_le, refl, sym, ◌∙◌, inl, inr, ⊎_elim, arith, get_or, slice_get, length-take}
use Rattle.std.proofs.lemmas.Bool.{cond-true, cond-false, cases_Bool}
use Rattle.std.proofs.lemmas.List.Quantifiers.{position-Some}
use Rattle.std.proofs.lemmas.Option.{slice_get-get_or}
use Rattle.spx_link.specs.declared.queue.Queued.{Queued}
use Rattle.spx_link.specs.declared.outgoing.Sent.{Sent}
use Rattle.spx_link.specs.declared.outgoing.Sent.TheVariants as Sents
use Rattle.spx_link.specs.Limits.{most_sends, confirm_stream}
use Rattle.spx_link.specs.ByClock.{pace_of}
use Rattle.spx_link.specs.LinkView.{LinkView, due, is_working}
use Rattle.spx_link.specs.SequenceMarks.{mark}
use Rattle.spx_link.specs.Offer.{the_end, queued}
use Rattle.spx_link.specs.Receive.{is_system}
use Rattle.spx_link.specs.LinkTurns.{is_joined}
use Rattle.spx_link.specs.Poll.{OutgoingView, base, late, asked_again, wanted, late_if_working, count_again, poll_link, replies, confirms, sends, sends_again, acknowledges, most_probes, probes_once}
use Rattle.spx_theory.proofs.PollCases.{IsResting, probing, poll_by}
use Rattle.spx_theory.proofs.Ending.{late_due, place_under, wanted_working}

-- a flag is set: it gives something at any time
abbrev pub Owed : LinkView → Type 0
Owed l = (l.owes_reply ≡ true) ⊎ (l.owes_confirm ≡ true) ⊎ (l.owes_ack ≡ true)

fewer_marks : (l m : LinkView) → (m.owes_reply ≡ true → l.owes_reply ≡ true) → (m.owes_confirm ≡ true → l.owes_confirm ≡ true) → (m.owes_ack ≡ true → l.owes_ack ≡ true) → Owed m → Owed l
fewer_marks l m reply confirm ack (inl e) = inl (reply e)
fewer_marks l m reply confirm ack (inr (inl e)) = inr (inl (confirm e))
fewer_marks l m reply confirm ack (inr (inr e)) = inr (inr (ack e))

pub record SameQueue (l m : LinkView) : Type 0 where
  pub owed : Owed l
  pub queue : m.queue ≡ l.queue
  pub out : m.out ≡ l.out
  pub probes : m.probes ≡ l.probes

-- the first unit that was not sent is outstanding, sent now
pub record SentNext (l : LinkView) (now : ℕ) (m : LinkView) : Type 0 where
  pub unit : Queued
  pub there : slice_get l.queue l.out ≡ Some unit
  pub queue : m.queue ≡ set l.queue l.out (record { unit = unit.unit; at = now; count = 1 })
  pub out : m.out ≡ l.out + 1
  pub probes : m.probes ≡ l.probes

-- one that is outstanding was sent again, now
pub record SentAgain (l : LinkView) (now : ℕ) (g : OutgoingView) (m : LinkView) : Type 0 where
  pub place : ℕ
  pub unit : Queued
  pub below : place < l.out
  pub there : slice_get l.queue place ≡ Some unit
  pub queue : m.queue ≡ set l.queue place (record { unit = unit.unit; at = now; count = count_again l unit.count })
  pub out : m.out ≡ l.out
  pub probes : m.probes ≡ l.probes
  pub number : g.header.seq ≡ mark (base l + place)

pub record Probed (l : LinkView) (g : OutgoingView) (m : LinkView) : Type 0 where
  pub queue : m.queue ≡ l.queue
  pub none : l.out ≡ 0
  pub out : m.out ≡ l.out
  pub asks : g.header.wants_ack ≡ true
  pub system : is_system g.header ≡ true

abbrev pub KindOf : Sent → LinkView → ℕ → OutgoingView → LinkView → Type 0
KindOf Sents.Request l now g m = ⊥
KindOf Sents.Reply l now g m = SameQueue l m
KindOf Sents.Confirm l now g m = SameQueue l m
KindOf Sents.Unit l now g m = SentNext l now m
KindOf Sents.Again l now g m = SentAgain l now g m
KindOf Sents.Ack l now g m = SameQueue l m
KindOf Sents.Probe l now g m = Probed l g m

pub record Gave (l : LinkView) (now : ℕ) (g : OutgoingView) (m : LinkView) : Type 0 where
  pub state : m.state ≡ l.state
  pub own : m.own ≡ l.own
  pub peer : m.peer ≡ l.peer
  pub queued : m.end_queued ≡ l.end_queued
  pub ended : m.peer_ended ≡ l.peer_ended
  pub spoke : m.spoke ≡ now
  pub from : g.header.from_id ≡ l.own
  pub to : g.header.to_id ≡ l.peer
  pub marks : Owed m → Owed l
  pub confirm : (m.owes_confirm ≡ l.owes_confirm) ⊎ (g.header.stream ≡ confirm_stream)
  pub pace : pace_of m ≡ pace_of l
  pub kind : KindOf g.what l now g m

-- a unit that is due (or asked for, with manual retransmission), or a probe, was sent ten times
pub record LateTooOften (l : LinkView) (now : ℕ) : Type 0 where
  pub place : ℕ
  pub unit : Queued
  pub below : place < l.out
  pub there : slice_get l.queue place ≡ Some unit
  pub due' : l.manual ≡ false → due unit.at now ≡ true
  pub often : nat_le most_sends unit.count ≡ true

pub record ProbedTooOften (l : LinkView) (now : ℕ) : Type 0 where
  pub due' : due l.spoke now ≡ true
  pub often : nat_le (most_probes l) l.probes ≡ true

pub record GivesUp (l : LinkView) (now : ℕ) : Type 0 where
  pub working : is_working l.state ≡ true
  pub why : LateTooOften l now ⊎ ProbedTooOften l now

abbrev pub Kinds : LinkView → ℕ → Option OutgoingView → LinkView → Type 0
Kinds l now None m = ((m ≡ l) × IsResting l now) ⊎ GivesUp l now
Kinds l now (Some g) m = Gave l now g m

abbrev pub KindsBy : LinkView → ℕ → Option OutgoingView × LinkView → Type 0
KindsBy l now r = Kinds l now r.0 r.1

pub record IsLate (l : LinkView) (now k : ℕ) : Type 0 where
  pub working : is_working l.state ≡ true
  pub below : k < l.out
  pub within : k < length l.queue

wanted_below : (l : LinkView) (now k : ℕ) → wanted l now ≡ Some k → k < length (take l.out l.queue)
wanted_below l now k is =
    ⊎_elim
    (λ (hand : l.manual ≡ true). place_under (length (take l.out l.queue)) k l.again (sym (cond-true l.manual (asked_again l) (late l now) hand) ∙ is))
    (λ (clock : l.manual ≡ false).
    (position-Some (λ (x : Queued). due x.at now) (take l.out l.queue) k (queued the_end) (sym (cond-false l.manual (asked_again l) (late l now) clock) ∙ is)).0)
    (cases_Bool l.manual)

is_late : (l : LinkView) (now k : ℕ) → late_if_working l now ≡ Some k → IsLate l now k
is_late l now k is =
    let w = wanted_working l now k is in
    let at : k < length (take l.out l.queue) = wanted_below l now k w.1 in
    record { working = w.0; below = omega (arith, at, length-take l.out l.queue); within = omega (arith, at, length-take l.out l.queue) }

pub poll_kinds : (l : LinkView) (now : ℕ) → is_joined l.state ≡ true → KindsBy l now (poll_link l now)
poll_kinds l now joined =
    poll_by l now (KindsBy l now) (record {
      replied = λ e. record { state = refl; own = refl; peer = refl; queued = refl; ended = refl; spoke = refl; pace = refl; from = refl; to = refl; marks = fewer_marks l (replies l now).1 (λ x. absurd (cc x)) (λ x. x) (λ x. absurd (cc x)); confirm = inl refl; kind = record { owed = inl e; queue = refl; out = refl; probes = refl } };
      confirmed = λ e. record { state = refl; own = refl; peer = refl; queued = refl; ended = refl; spoke = refl; pace = refl; from = refl; to = refl; marks = fewer_marks l (confirms l now).1 (λ x. x) (λ x. absurd (cc x)) (λ x. absurd (cc x)); confirm = inr refl; kind = record { owed = inr (inl e); queue = refl; out = refl; probes = refl } };
      sent = λ q may is. record { state = refl; own = refl; peer = refl; queued = refl; ended = refl; spoke = refl; pace = refl; from = refl; to = refl; marks = fewer_marks l (sends l now (Some q)).1 (λ x. x) (λ x. x) (λ x. absurd (cc x)); confirm = inl refl; kind = record { unit = q; there = is; queue = refl; out = refl; probes = refl } };
      again = λ k q late' is few. record { state = refl; own = refl; peer = refl; queued = refl; ended = refl; spoke = refl; pace = refl; from = refl; to = refl; marks = fewer_marks l (sends_again l now k q).1 (λ x. x) (λ x. x) (λ x. absurd (cc x)); confirm = inl refl; kind = record { place = k; unit = q; below = (is_late l now k late').below; there = is; queue = refl; out = refl; probes = refl; number = refl } };
      gave_up = λ k q late' is many. inr (record { working = (is_late l now k late').working; why = inl (record { place = k; unit = q; below = (is_late l now k late').below; there = is; due' = λ clock. late_due l now k q clock late' is; often = many }) });
      nowhere = λ k late' is.
          let there : None ≡ Some (get_or l.queue k (queued the_end)) = sym is ∙ slice_get-get_or l.queue k (queued the_end) (is_late l now k late').within in
          absurd (cc there);
      acked = λ e. record { state = refl; own = refl; peer = refl; queued = refl; ended = refl; spoke = refl; pace = refl; from = refl; to = refl; marks = fewer_marks l (acknowledges l now).1 (λ x. x) (λ x. x) (λ x. absurd (cc x)); confirm = inl refl; kind = record { owed = inr (inr e); queue = refl; out = refl; probes = refl } };
      probed = λ may few. record { state = refl; own = refl; peer = refl; queued = refl; ended = refl; spoke = refl; pace = refl; from = refl; to = refl; marks = fewer_marks l (probes_once l now).1 (λ x. x) (λ x. x) (λ x. x); confirm = inl refl; kind = record { queue = refl; none = (probing l now may).out; out = refl; asks = refl; system = refl } };
      gave_up_probing = λ may many. inr (record { working = (probing l now may).working; why = inr (record { due' = (probing l now may).rested; often = many }) });
      rests = λ r. inl (refl, r);
    }) joined
