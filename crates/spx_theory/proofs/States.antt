-- The states of a link, and the laws of its states, all together.
use Rattle.std.proofs.Common.{ℕ, ◌≡◌, ◌≢◌, ◌⊎◌, ◌==◌, ◌||◌, true, nat_le, Option, Some, None, slice_get, refl, sym, ap, ◌∙◌, inl, inr}
use Rattle.std.proofs.lemmas.Bool.{cond_both}
use Rattle.spx_link.specs.declared.queue.Queued.{Queued}
use Rattle.spx_link.specs.declared.state.State.{State}
use Rattle.spx_link.specs.Limits.{most_sends}
use Rattle.spx_link.specs.LinkView.{LinkView, due}
use Rattle.spx_link.specs.Offer.{refusal}
use Rattle.spx_link.specs.Poll.{OutgoingView, lost, requests, requests_or_lost, poll_request, may_probe, most_probes, probes_once, probes_or_lost, poll_probe, acknowledges, poll_ack, late_if_working, sends_again, sends_again_or_lost, poll_late, poll_again, may_send, sends, poll_unit, confirms, poll_confirm, replies, poll_reply, poll_at, poll_link}
use Rattle.spx_theory.specs.States.{StateLaws, is_quiet}
use Rattle.spx_theory.proofs.ReadingStates.{reading}
use Rattle.spx_theory.proofs.Calling.{take_state}
use Rattle.spx_link.specs.declared.outgoing.Sent.TheVariants as Sents
use Rattle.spx_link.specs.declared.state.State.TheVariants as S

-- the state stays, or the link is lost
abbrev pub StaysOrLost : LinkView → Option OutgoingView × LinkView → Type 0
StaysOrLost l r = (r.1.state ≡ l.state) ⊎ (r.1.state ≡ S.Lost)

again_state : (l : LinkView) (now k : ℕ) (o : Option Queued) → StaysOrLost l (sends_again_or_lost l now k o)
again_state l now k None = inl refl
again_state l now k (Some q) = cond_both {A = Option OutgoingView × LinkView} (nat_le most_sends q.count) (None, lost l) (sends_again l now k q) (StaysOrLost l) (λ y. inr refl) (λ n. inl refl)

sends_state : (l : LinkView) (now : ℕ) (o : Option Queued) → StaysOrLost l (sends l now o)
sends_state l now None = inl refl
sends_state l now (Some q) = inl refl

probe_state : (l : LinkView) (now : ℕ) → StaysOrLost l (poll_probe l now)
probe_state l now =
    cond_both {A = Option OutgoingView × LinkView} (may_probe l now) (probes_or_lost l now) (None, l) (StaysOrLost l)
    (λ y. cond_both {A = Option OutgoingView × LinkView} (nat_le (most_probes l) l.probes) (None, lost l) (probes_once l now) (StaysOrLost l) (λ t. inr refl) (λ f. inl refl)) (λ n. inl refl)

ack_state : (l : LinkView) (now : ℕ) → StaysOrLost l (poll_ack l now)
ack_state l now = cond_both {A = Option OutgoingView × LinkView} l.owes_ack (acknowledges l now) (poll_probe l now) (StaysOrLost l) (λ y. inl refl) (λ n. probe_state l now)

late_state : (l : LinkView) (now : ℕ) (o : Option ℕ) → StaysOrLost l (poll_late l now o)
late_state l now None = ack_state l now
late_state l now (Some k) = again_state l now k (slice_get l.queue k)

unit_state : (l : LinkView) (now : ℕ) → StaysOrLost l (poll_unit l now)
unit_state l now = cond_both {A = Option OutgoingView × LinkView} (may_send l) (sends l now (slice_get l.queue l.out)) (poll_again l now) (StaysOrLost l) (λ y. sends_state l now (slice_get l.queue l.out)) (λ n. late_state l now (late_if_working l now))

reply_state : (l : LinkView) (now : ℕ) → StaysOrLost l (poll_reply l now)
reply_state l now =
    cond_both {A = Option OutgoingView × LinkView} l.owes_reply (replies l now) (poll_confirm l now) (StaysOrLost l) (λ y. inl refl)
    (λ n. cond_both {A = Option OutgoingView × LinkView} l.owes_confirm (confirms l now) (poll_unit l now) (StaysOrLost l) (λ y. inl refl) (λ m. unit_state l now))

request_state : (l : LinkView) (now : ℕ) → StaysOrLost l (poll_request l now)
request_state l now =
    cond_both {A = Option OutgoingView × LinkView} ((l.asked_count == 0) || due l.asked_at now) (requests_or_lost l now) (None, l) (StaysOrLost l)
    (λ y. cond_both {A = Option OutgoingView × LinkView} (nat_le most_sends l.asked_count) (None, lost l) (requests l now) (StaysOrLost l) (λ t. inr refl) (λ f. inl refl)) (λ n. inl refl)

state_at : (st : State) (l : LinkView) (now : ℕ) → StaysOrLost l (poll_at st l now)
state_at S.Opening l now = request_state l now
state_at S.Live l now = reply_state l now
state_at S.Ending l now = reply_state l now
state_at S.PeerEnded l now = reply_state l now
state_at S.Confirmed l now = reply_state l now
state_at S.Lost l now = inl refl

request_asks : (l : LinkView) (now : ℕ) (g : OutgoingView) → (poll_request l now).0 ≡ Some g → g.what ≡ Sents.Request
request_asks l now g =
    cond_both {A = Option OutgoingView × LinkView} ((l.asked_count == 0) || due l.asked_at now) (requests_or_lost l now) (None, l) (λ r. r.0 ≡ Some g → g.what ≡ Sents.Request)
    (λ y. cond_both {A = Option OutgoingView × LinkView} (nat_le most_sends l.asked_count) (None, lost l) (requests l now) (λ r. r.0 ≡ Some g → g.what ≡ Sents.Request)
    (λ t is. absurd (cc is)) (λ f is. given l now g is))
    (λ n is. absurd (cc is))
  where
    given : (k : LinkView) (at : ℕ) (o : OutgoingView) → (requests k at).0 ≡ Some o → o.what ≡ Sents.Request
    given k at o is = same_what _ o is
      where
        same_what : (p q : OutgoingView) → Some p ≡ Some q → q.what ≡ p.what
        same_what p q is' = let same : p ≡ q = cc is' in ap (λ (x : OutgoingView). x.what) (sym same)

asks_at : (st : State) (l : LinkView) (now : ℕ) (g : OutgoingView) → is_quiet st ≡ true → (poll_at st l now).0 ≡ Some g → g.what ≡ Sents.Request
asks_at S.Opening l now g quiet is = request_asks l now g is
asks_at S.Live l now g quiet is = absurd (cc quiet)
asks_at S.Ending l now g quiet is = absurd (cc quiet)
asks_at S.PeerEnded l now g quiet is = absurd (cc quiet)
asks_at S.Confirmed l now g quiet is = absurd (cc quiet)
asks_at S.Lost l now g quiet is = absurd (cc is)

refuses_at : (st : State) → is_quiet st ≡ true → refusal st ≢ None
refuses_at S.Opening quiet is = cc is
refuses_at S.Live quiet is = cc quiet
refuses_at S.Ending quiet is = cc quiet
refuses_at S.PeerEnded quiet is = cc quiet
refuses_at S.Confirmed quiet is = cc quiet
refuses_at S.Lost quiet is = cc is

polls_open : (l : LinkView) (now : ℕ) → (poll_link l now).1.state ≡ S.Opening → l.state ≡ S.Opening
polls_open l now is = elim (state_at l.state l now) [ inl same ↦ sym same ∙ is | inr gone ↦ absurd (cc (sym gone ∙ is)) ]

stays_quiet : (l : LinkView) (now : ℕ) → is_quiet l.state ≡ true → is_quiet (poll_link l now).1.state ≡ true
stays_quiet l now quiet = elim (state_at l.state l now) [ inl same ↦ ap is_quiet same ∙ quiet | inr gone ↦ ap is_quiet gone ]

pub state_laws : StateLaws
state_laws =
    record {
      polls_open = polls_open;
      reads_open = λ l h body read. (reading l h body).opens refl read;
      joins = λ l h body is. (reading l h body).joins is;
      takes_open = λ l. take_state l l.held;
      quiet_asks = λ l now g quiet is. asks_at l.state l now g quiet is;
      quiet_stays = stays_quiet;
      quiet_joins = λ l h body quiet read. (reading l h body).quiet quiet read;
      quiet_refuses = λ l quiet. refuses_at l.state quiet;
    }
