-- How receiving changes the state.
use Rattle.std.proofs.Common.{ℕ, ◌≡◌, ◌≢◌, Bool, true, false, cond, List, Option, refl, sym, ◌∙◌, ap}
use Rattle.std.proofs.lemmas.Bool.{cond_both}
use Rattle.ipx_wire.specs.declared.spx.packet.SpxHeader.{SpxHeader}
use Rattle.spx_link.specs.declared.unit.Unit.{Unit}
use Rattle.spx_link.specs.declared.state.State.{State}
use Rattle.spx_link.specs.declared.received.Received.{Received}
use Rattle.spx_link.specs.LinkView.{LinkView, free}
use Rattle.spx_link.specs.Units.{unit_in}
use Rattle.std.specs.Prelude.{nat_le, nat_lt, ◌==◌, ◌&&◌}
use Rattle.spx_link.specs.Limits.{end_stream}
use Rattle.spx_link.specs.Receive.{read_numbers, read_system, read_unit, read_packet, is_system, is_own, is_reply, joined_link, receive_at, receive_link, beyond_expected, put, is_taken, leading, any_end, keep_end, keep_units, settle, keep, in_turn, not_behind, repeated, may_confirm, with_ack_owed, after_end}
use Rattle.spx_theory.specs.Tracks.{IsOpen, may_end}
use Rattle.spx_theory.specs.States.{is_quiet}
use Rattle.spx_link.specs.declared.state.State.TheVariants as S
use Rattle.spx_link.specs.declared.received.Received.TheVariants as R

pub record Calm (l : LinkView) (r : Received × LinkView) : Type 0 where
  pub queued : r.1.end_queued ≡ l.end_queued
  pub may : may_end r.1.state ≡ true → may_end l.state ≡ true
  pub opens : r.1.state ≡ S.Opening → l.state ≡ S.Opening
  pub answer : r.0 ≢ R.Joined

calm : (l k : LinkView) (r : Received) → k.state ≡ l.state → k.end_queued ≡ l.end_queued → r ≢ R.Joined → Calm l (r, k)
calm l k r state queued answer = record { queued = queued; may = λ e. ap may_end (sym state) ∙ e; opens = λ e. sym state ∙ e; answer = answer }

after_may : (s : State) → may_end (after_end s) ≡ true → may_end s ≡ true
after_may S.Opening e = refl
after_may S.Live e = refl
after_may S.Ending e = absurd (cc e)
after_may S.PeerEnded e = absurd (cc e)
after_may S.Confirmed e = absurd (cc e)
after_may S.Lost e = absurd (cc e)

after_opens : (s : State) → after_end s ≡ S.Opening → s ≡ S.Opening
after_opens S.Opening e = refl
after_opens S.Live e = absurd (cc e)
after_opens S.Ending e = absurd (cc e)
after_opens S.PeerEnded e = absurd (cc e)
after_opens S.Confirmed e = absurd (cc e)
after_opens S.Lost e = absurd (cc e)

calm_settle : (l : LinkView) (ahead : List (Option Unit)) → Calm l (settle l ahead)
calm_settle l ahead =
    cond_both {A = Received × LinkView} (any_end (leading ahead)) (R.PeerEnded, keep_end l (leading ahead)) (R.Kept, keep_units l (leading ahead) ahead) (Calm l)
    (λ yes. record { queued = refl; may = after_may l.state; opens = after_opens l.state; answer = λ e. cc })
    (λ no. calm l _ R.Kept refl refl (λ e. cc))

calm_keep : (l : LinkView) (h : SpxHeader) (body : List ℕ) → Calm l (keep l h body)
calm_keep l h body =
    cond_both {A = Received × LinkView} (is_taken (beyond_expected l h) l.ahead) (R.Repeat, record l { owes_ack = true }) (settle l (put (beyond_expected l h) (unit_in h body) l.ahead)) (Calm l)
    (λ yes. calm l _ R.Repeat refl refl (λ e. cc)) (λ no. calm_settle l (put (beyond_expected l h) (unit_in h body) l.ahead))

calm_in_turn : (l : LinkView) (h : SpxHeader) (body : List ℕ) → Calm l (in_turn l h body)
calm_in_turn l h body =
    cond_both {A = Received × LinkView} (nat_lt (beyond_expected l h) (free l)) (keep l h body) (R.OverAllocation, record l { owes_ack = true }) (Calm l)
    (λ yes. calm_keep l h body) (λ no. calm l _ R.OverAllocation refl refl (λ e. cc))

calm_not_behind : (l : LinkView) (h : SpxHeader) (body : List ℕ) → Calm l (not_behind l h body)
calm_not_behind l h body =
    cond_both {A = Received × LinkView} l.peer_ended (R.Ahead, l) (in_turn l h body) (Calm l) (λ yes. calm l l R.Ahead refl refl (λ e. cc)) (λ no. calm_in_turn l h body)

calm_repeated : (l : LinkView) (h : SpxHeader) → Calm l (R.Repeat, repeated l h)
calm_repeated l h =
    cond_both {A = LinkView} ((h.stream == end_stream) && l.peer_ended) (record l { owes_confirm = true }) (record l { owes_ack = true }) (λ k. Calm l (R.Repeat, k))
    (λ yes. calm l _ R.Repeat refl refl (λ e. cc)) (λ no. calm l _ R.Repeat refl refl (λ e. cc))

calm_unit : (l : LinkView) (h : SpxHeader) (body : List ℕ) → Calm l (read_unit l h body)
calm_unit l h body =
    cond_both {A = Received × LinkView} (nat_le 32768 (beyond_expected l h)) (R.Repeat, repeated l h) (not_behind l h body) (Calm l) (λ yes. calm_repeated l h) (λ no. calm_not_behind l h body)

calm_system : (l : LinkView) (h : SpxHeader) → Calm l (read_system l h)
calm_system l h =
    cond_both {A = Received × LinkView} (may_confirm l h) (R.Confirmed, record (with_ack_owed l h.wants_ack) { state = S.Confirmed }) (R.System, with_ack_owed l h.wants_ack) (Calm l)
    (λ yes. record { queued = refl; may = λ e. absurd (cc e); opens = λ e. absurd (cc e); answer = λ e. cc }) (λ no. calm l _ R.System refl refl (λ e. cc))

calm_packet : (l : LinkView) (h : SpxHeader) (body : List ℕ) → Calm l (read_packet l h body)
calm_packet l h body =
    let m : LinkView = read_numbers l h in
    let one : Calm m (cond {A = Received × LinkView} (is_system h) (read_system m h) (read_unit m h body)) =
    cond_both {A = Received × LinkView} (is_system h) (read_system m h) (read_unit m h body) (Calm m) (λ yes. calm_system m h) (λ no. calm_unit m h body) in
    record { queued = one.queued; may = one.may; opens = one.opens; answer = one.answer }

calm_own : (b : Bool) (l : LinkView) (x : Received × LinkView) → Calm l x → Calm l (cond b x (R.Stranger, l))
calm_own true l x c = c
calm_own false l x c = calm l l R.Stranger refl refl (λ e. cc)

pub record Reading' (s : State) (l : LinkView) (r : Received × LinkView) : Type 0 where
  pub open' : s ≡ l.state → IsOpen l → IsOpen r.1
  pub opens : s ≡ l.state → r.0 ≢ R.Stranger → r.1.state ≢ S.Opening
  pub joins : r.0 ≡ R.Joined → s ≡ S.Opening
  pub quiet : is_quiet s ≡ true → r.0 ≢ R.Stranger → r.0 ≡ R.Joined

by_calm : (s : State) (l : LinkView) (r : Received × LinkView) → s ≢ S.Opening → is_quiet s ≡ false → Calm l r → Reading' s l r
by_calm s l r not_open loud c =
    record {
      open' = λ is o e. c.queued ∙ o (c.may e);
      opens = λ is read e. not_open (is ∙ c.opens e);
      joins = λ e. absurd (c.answer e);
      quiet = λ e. absurd (cc (sym loud ∙ e));
    }

reply : (b : Bool) (l : LinkView) (h : SpxHeader) → Reading' S.Opening l (cond b (R.Joined, read_numbers (joined_link l h) h) (R.Stranger, l))
reply true l h = record { open' = λ is o e. o (ap may_end (sym is)); opens = λ is read e. cc; joins = λ e. refl; quiet = λ e read. refl }
reply false l h = record { open' = λ is o. o; opens = λ is read. absurd (read refl); joins = λ e. refl; quiet = λ e read. absurd (read refl) }

pub reading_at : (s : State) (l : LinkView) (h : SpxHeader) (body : List ℕ) → Reading' s l (receive_at s l h body)
reading_at S.Opening l h body = reply (is_reply l h) l h
reading_at S.Live l h body = by_calm S.Live l _ (λ e. cc) refl (calm_own (is_own l h) l (read_packet l h body) (calm_packet l h body))
reading_at S.Ending l h body = by_calm S.Ending l _ (λ e. cc) refl (calm_own (is_own l h) l (read_packet l h body) (calm_packet l h body))
reading_at S.PeerEnded l h body = by_calm S.PeerEnded l _ (λ e. cc) refl (calm_own (is_own l h) l (read_packet l h body) (calm_packet l h body))
reading_at S.Confirmed l h body = by_calm S.Confirmed l _ (λ e. cc) refl (calm_own (is_own l h) l (read_packet l h body) (calm_packet l h body))
reading_at S.Lost l h body = record { open' = λ is o. o; opens = λ is read. absurd (read refl); joins = λ e. absurd (cc e); quiet = λ e read. absurd (read refl) }

pub reading : (l : LinkView) (h : SpxHeader) (body : List ℕ) → Reading' l.state l (receive_link l h body)
reading l h body = reading_at l.state l h body
