-- The poll of a link that nobody paces is the one by the clock.
use Rattle.std.proofs.Common.{◌≡◌, ℕ, ◌<◌, ◌≤◌, Bool, true, false, refl, ap, sym, ◌∙◌, if◌then◌else◌, ◌&&◌, nat_lt, Option, None, Some, slice_get, length, take, length-take, arith}
use Rattle.std.proofs.lemmas.Bool.{cond-false}
use Rattle.std.proofs.lemmas.Bool.Decides.{nat_tests}
use Rattle.spx_link.specs.declared.queue.Queued.{Queued}
use Rattle.spx_link.specs.declared.state.State.{State}
use Rattle.spx_link.specs.declared.state.State.TheVariants as States
use Rattle.spx_link.specs.Limits.{most_units, most_sends}
use Rattle.spx_link.specs.LinkView.{LinkView, is_working, due}
use Rattle.spx_link.specs.ByClock as C
use Rattle.spx_link.specs.Offer.{again_link}
use Rattle.spx_link.specs.Poll as P
use Rattle.spx_link.specs.Poll.{OutgoingView, poll_link, poll_at}

both_same : (b : Bool) → (b && b) ≡ b
both_same true = refl
both_same false = refl

sends_so : (l : LinkView) → C.IsUnpaced l → P.may_send l ≡ C.may_send_by_clock l
sends_so l u =
    let whole : Bool → Bool = λ b. is_working l.state && (P.is_waiting l && (nat_lt 0 l.room && b)) in
    let both : ℕ → Bool = λ w. nat_lt l.out most_units && nat_lt l.out w in
    ap whole (ap both u.window ∙ both_same (nat_lt l.out most_units))

late_so : (l : LinkView) (now : ℕ) → C.IsUnpaced l → P.late_if_working l now ≡ C.late_by_clock l now
late_so l now u =
    let working : Option ℕ → Option ℕ = λ o. if is_working l.state then o else None in
    ap working (cond-false l.manual (P.asked_again l) (P.late l now) u.manual)

unit_so : (l : LinkView) (now : ℕ) → C.IsUnpaced l → P.poll_unit l now ≡ C.unit_by_clock l now
unit_so l now u =
    let either : Bool → Option ℕ → Option OutgoingView × LinkView = λ b o. if b then P.sends l now (slice_get l.queue l.out) else P.poll_late l now o in
    ap (λ (b : Bool). either b (P.late_if_working l now)) (sends_so l u) ∙ ap (λ (o : Option ℕ). either (C.may_send_by_clock l) o) (late_so l now u)

reply_so : (l : LinkView) (now : ℕ) → C.IsUnpaced l → P.poll_reply l now ≡ C.reply_by_clock l now
reply_so l now u =
    let before : Option OutgoingView × LinkView → Option OutgoingView × LinkView = λ r. if l.owes_reply then P.replies l now else (if l.owes_confirm then P.confirms l now else r) in
    ap before (unit_so l now u)

poll_at_so : (s : State) (l : LinkView) (now : ℕ) → C.IsUnpaced l → poll_at s l now ≡ C.poll_by_clock_at s l now
poll_at_so States.Opening l now u = refl
poll_at_so States.Live l now u = reply_so l now u
poll_at_so States.Ending l now u = reply_so l now u
poll_at_so States.PeerEnded l now u = reply_so l now u
poll_at_so States.Confirmed l now u = reply_so l now u
poll_at_so States.Lost l now u = refl

pub poll_so : (l : LinkView) (now : ℕ) → C.IsUnpaced l → poll_link l now ≡ C.poll_by_clock l now
poll_so l now u = poll_at_so l.state l now u

-- ---- a place that is asked for

pub place_unasked : (l : LinkView) (place now : ℕ) → l.manual ≡ false → P.wanted (again_link l place) now ≡ P.wanted l now
place_unasked l place now clock =
    cond-false l.manual (P.asked_again (again_link l place)) (P.late l now) clock ∙ sym (cond-false l.manual (P.asked_again l) (P.late l now) clock)

pub place_outside : (l : LinkView) (place : ℕ) → l.out ≤ place → P.asked_again (again_link l place) ≡ None
place_outside l place out = by_bool (nat_lt place (length (take l.out l.queue))) refl
  where
    by_bool : (b : Bool) → nat_lt place (length (take l.out l.queue)) ≡ b → (if b then Some place else None) ≡ None
    by_bool true less =
        let below : place < length (take l.out l.queue) = grind (arith, nat_tests) in
        absurd (omega (arith, below, out, length-take l.out l.queue))
    by_bool false less = refl
