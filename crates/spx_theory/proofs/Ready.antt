-- Two links in step between rounds, and what stays of that while one reads and takes.
use Rattle.std.proofs.Common.{ℕ, ◌+◌, ◌<◌, ◌≤◌, ◌≡◌, ◌⊎◌, ◌||◌, true, false, List, length, Some, refl, sym, ap, ◌∙◌, inl, inr, ⊎_elim, arith, slice_get}
use Rattle.std.proofs.lemmas.Bool.{cases_Bool, le-leb}
use Rattle.spx_link.specs.declared.unit.Unit.{Unit}
use Rattle.spx_link.specs.declared.queue.Queued.{Queued}
use Rattle.spx_link.specs.declared.state.State.{State}
use Rattle.spx_link.specs.declared.state.State.TheVariants as S
use Rattle.spx_link.specs.Limits.{most_sends, resend_after}
use Rattle.spx_link.specs.ByClock.{IsUnpaced}
use Rattle.spx_link.specs.LinkView.{LinkView, is_working}
use Rattle.spx_link.specs.Machine.{End, AreSound}
use Rattle.spx_link.specs.Offer.{the_end}
use Rattle.spx_link.specs.Receive.{after_end}
use Rattle.spx_link.specs.LinkTurns.{is_joined}
use Rattle.spx_theory.specs.Tracks.{Follows, Formed}
use Rattle.spx_theory.proofs.Hearing.{Owes}
use Rattle.spx_theory.proofs.RoundPolls.{Owed}
use Rattle.spx_theory.proofs.RoundTakes.{TookAll}
use Rattle.spx_theory.proofs.Amid.{Mid}
use Rattle.spx_theory.proofs.Entries.{owes_on}
use Rattle.spx_theory.proofs.Hearers.{Course, HeardBy, heard_same}
use Rattle.spx_theory.specs.Named.{AreNamed}

-- no outstanding unit and no probe was sent ten times
abbrev pub Able : LinkView → Type 0
Able l = ((k : ℕ) (q : Queued) → k < l.out → slice_get l.queue k ≡ Some q → q.count < most_sends) × (l.probes < most_sends)

-- no outstanding unit was sent later
abbrev pub SentBy : LinkView → ℕ → Type 0
SentBy l since = (k : ℕ) (q : Queued) → k < l.out → slice_get l.queue k ≡ Some q → q.at ≤ since

-- two links between rounds, if the second has queued no end
pub record Ready (since since_b : ℕ) (a b : LinkView) (c d : End) : Type 0 where
  pub first : Follows a c d
  pub second : Follows b d c
  pub line : AreSound c d
  pub names : AreNamed a b
  pub joined : is_joined a.state ≡ true
  pub joined_b : is_joined b.state ≡ true
  pub spoke : a.spoke ≤ since
  pub spoke_b : b.spoke ≤ since_b
  pub by : SentBy a since
  pub by_b : SentBy b since_b
  pub able : is_working a.state ≡ true → Able a
  pub back : is_working b.state ≡ true → Able b ⊎ (Owes a × (c.read ≡ d.sent))
  pub ended : b.peer_ended ≡ true → length c.units ≤ c.base
  pub open' : b.end_queued ≡ false
  pub pace : IsUnpaced a
  pub pace_b : IsUnpaced b

pub mid_start : (now since : ℕ) (a b : LinkView) (c d : End) → since + resend_after ≤ now → Follows a c d → Follows b d c → AreSound c d → is_joined b.state ≡ true → a.spoke ≤ since → SentBy a since
    → (is_working a.state ≡ true → Able a) → (b.peer_ended ≡ true → Owes b ⊎ (length c.units ≤ c.base)) → IsUnpaced a → IsUnpaced b → Mid now a b c d a b c d
mid_start now since a b c d past first second line joined spoke by able ended pace pace_b =
    record {
      first = first;
      second = second;
      line = line;
      grew = record { base = refl; sent = omega arith; limit = refl; read = refl; taken = refl; buffers = refl; units = refl };
      fed = record { sent = refl; taken = refl; buffers = refl; units = refl; base = omega arith; limit = omega arith; read = omega arith };
      state = refl;
      own = refl;
      peer = refl;
      queued = refl;
      ended_a = refl;
      spoke = omega (arith, spoke, past);
      by = λ k q below is. omega (arith, by k q below is, past);
      hears = heard_same b;
      joined = joined;
      met = λ works k q below is. inl (le-leb (q.at + resend_after) now (omega (arith, by k q below is, past)), (able works).0 k q below is);
      probes = λ works. inl (able works).1;
      ended = ended;
      gave = inl (refl, refl);
      owed = λ o. o;
      asks = inl refl;
      closes = λ owes ends all. inl owes;
      unread = λ z. z;
      pace = pace;
      pace_b = pace_b;
    }

-- a link that owes an answer has a flag set
pub owed_by : (b : LinkView) → Owes b → Owed b
owed_by b owes =
    ⊎_elim
    (λ (ack : b.owes_ack ≡ true). inr (inr ack))
    (λ (other : b.owes_ack ≡ false). inr (inl (sym (ap (λ x. x || b.owes_confirm) other) ∙ owes)))
    (cases_Bool b.owes_ack)

after_end_stops : (s : State) → is_working (after_end s) ≡ false
after_end_stops S.Opening = refl
after_end_stops S.Live = refl
after_end_stops S.Ending = refl
after_end_stops S.PeerEnded = refl
after_end_stops S.Confirmed = refl
after_end_stops S.Lost = refl

-- a link that still sends after it read has the same state
pub still_sends : (l m : LinkView) → Course l m → is_working m.state ≡ true → m.state ≡ l.state
still_sends l m (inl same) works = same.0
still_sends l m (inr (inl done)) works = absurd (cc (sym (ap is_working done.0) ∙ works))
still_sends l m (inr (inr ended)) works =
    elim ended.2 [
      | inl s ↦ absurd (cc (sym (ap is_working s ∙ after_end_stops l.state) ∙ works))
      | inr s ↦ absurd (cc (sym (ap is_working s.0) ∙ works))
    ]

-- no unit of a link that queued no end is an end
pub never_ended : (a b : LinkView) (c d : End) → Follows a c d → Follows b d c → b.end_queued ≡ false → a.peer_ended ≡ true → ⊥
never_ended a b c d f g open' is =
    let shut : Formed d.units true = (f.tracks.ended is).0 in
    let there = shut.there refl in
    let queued : b.end_queued ≡ true = (g.tracks.formed.end there.0 the_end there.1 refl).0 in
    cc (sym open' ∙ queued)

pub still_owes : (l k : LinkView) (us : List Unit) → TookAll l k us → Owes l → Owes k
still_owes l k us t owes = owes_on l k t.acks (λ e. t.confirm ∙ e) owes

pub able_heard : (l m : LinkView) → HeardBy l m → Able l → Able m
able_heard l m h able =
    (λ k q below is. let was = h.sent k q below is in able.0 was.0 q was.1 was.2, omega (arith, able.1, h.probes))

pub able_empty : (l : LinkView) → l.out ≡ 0 → l.probes < most_sends → Able l
able_empty l none few = (λ k q below is. absurd (omega (arith, below, none)), few)

pub able_same : (l k : LinkView) (us : List Unit) → TookAll l k us → Able l → Able k
able_same l k us t able =
    (λ i q below is. able.0 i q (omega (arith, below, t.out)) (ap (λ qs. slice_get qs i) (sym t.queue) ∙ is), omega (arith, able.1, t.probes))
