-- Polls at one time end: each that gives a packet leaves less to give at that time.
use Rattle.std.proofs.Common.{◌≡◌, ℕ, zero, suc, ◌+◌, ◌-◌, ◌<◌, ◌≤◌, ◌==◌, ◌||◌, Bool, true, false, List, [], ◌∷◌, length, set, take, Option, Some, None, is_some, if◌then◌else◌, nat_le, nat_lt, ltb-true, refl, sym, ap, ◌∙◌, ⊎_elim, arith, slice_get, length-set, length-take}
use Rattle.std.proofs.lemmas.Bool.{cond_both, cond-true, cond-false, cases_Bool, lt-leb}
use Rattle.std.specs.Prelude.{⊤}
use Rattle.std.proofs.lemmas.Bool.Decides.{nat_tests}
use Rattle.std.proofs.lemmas.List.Quantifiers.{position-Some}
use Rattle.std.proofs.lemmas.List.{get_or-take}
use Rattle.std.proofs.lemmas.Option.{get_or_from_slice_get, slice_get_within}
use Rattle.spx_link.specs.declared.queue.Queued.{Queued}
use Rattle.spx_link.specs.declared.state.State.{State}
use Rattle.spx_link.specs.Limits.{most_sends}
use Rattle.spx_link.specs.LinkView.{LinkView, due, is_working}
use Rattle.spx_link.specs.Receive.{receive_link}
use Rattle.spx_link.specs.Poll.{OutgoingView, lost, requests, requests_or_lost, poll_request, late, place_below, asked_again, wanted, late_if_working, count_again, sends_again, poll_reply, poll_at, poll_link}
use Rattle.spx_link.specs.declared.state.State.TheVariants as S
use Rattle.spx_theory.proofs.PollCases.{probing, reply_by}
use Rattle.spx_theory.specs.LosslessRounds.{Conveys, stops, goes}

abbrev one_if : Bool → ℕ
one_if true = 1
one_if false = 0

-- how many of these units are due
abbrev lates : ℕ → List Queued → ℕ
lates now [] = 0
lates now (q ∷ qs) = one_if (due q.at now) + lates now qs

abbrev asks : LinkView → ℕ → Bool
asks l now = (l.asked_count == 0) || due l.asked_at now

-- what is left to give at this time
abbrev pub left : LinkView → ℕ → ℕ
left l now =
    one_if l.owes_reply + (one_if l.owes_confirm + (one_if l.owes_ack + ((length l.queue - l.out) + (lates now l.queue + (one_if (due l.spoke now) + (one_if (asks l now) + one_if (is_some l.again)))))))

-- a time is not 500 ms after itself
pub not_yet : (now : ℕ) → due now now ≡ false
not_yet now = lt-leb (now + 500) now (omega arith)

lates_kept : (now : ℕ) (qs : List Queued) (k : ℕ) (y : Queued) → due y.at now ≡ false → lates now (set qs k y) ≤ lates now qs
lates_kept now [] k y new = omega arith
lates_kept now (q ∷ qs) zero y new = omega (arith, ap one_if new)
lates_kept now (q ∷ qs) (suc k) y new = omega (arith, lates_kept now qs k y new)

lates_fewer : (now : ℕ) (qs : List Queued) (k : ℕ) (q y : Queued) → slice_get qs k ≡ Some q → due q.at now ≡ true → due y.at now ≡ false
    → lates now (set qs k y) < lates now qs
lates_fewer now [] k q y is was new = absurd (cc is)
lates_fewer now (x ∷ xs) zero q y is was new =
    let same : x ≡ q = cc is in
    omega (arith, ap one_if new, ap (λ (z : Queued). one_if (due z.at now)) same ∙ ap one_if was)
lates_fewer now (x ∷ xs) (suc k) q y is was new = omega (arith, lates_fewer now xs k q y is was new)

-- fewer are left after a poll that gives
abbrev Fewer : LinkView → ℕ → Option OutgoingView → LinkView → Type 0
Fewer l now None m = ⊤
Fewer l now (Some o) m = left m now < left l now

abbrev pub FewerBy : LinkView → ℕ → Option OutgoingView × LinkView → Type 0
FewerBy l now r = Fewer l now r.0 r.1

-- the index that was asked for
place_some : (count k : ℕ) (o : Option ℕ) → place_below count o ≡ Some k → is_some o ≡ true
place_some count k None is = absurd (cc)
place_some count k (Some j) is = refl

pub place_under : (count k : ℕ) (o : Option ℕ) → place_below count o ≡ Some k → k < count
place_under count k None is = absurd (cc)
place_under count k (Some j) is = by_bool (nat_lt j count) refl is
  where
    by_bool : (b : Bool) → nat_lt j count ≡ b → (if b then Some j else None) ≡ Some k → k < count
    by_bool true less same = let e : j ≡ k = cc in omega (arith, ltb-true j count less, e)
    by_bool false less same = absurd (cc)

-- if a unit is sent again, the link is working
pub wanted_working : (l : LinkView) (now k : ℕ) → late_if_working l now ≡ Some k → (is_working l.state ≡ true) × (wanted l now ≡ Some k)
wanted_working l now k is =
    ⊎_elim
    (λ (works : is_working l.state ≡ true). (works, sym (cond-true _ _ _ works) ∙ is))
    (λ (not_so : is_working l.state ≡ false). absurd (cc (sym (cond-false (is_working l.state) (wanted l now) None not_so) ∙ is)))
    (cases_Bool (is_working l.state))

-- without manual retransmission, the first late unit is due
pub late_due : (l : LinkView) (now k : ℕ) (q : Queued) → l.manual ≡ false → late_if_working l now ≡ Some k → slice_get l.queue k ≡ Some q → due q.at now ≡ true
late_due l now k q clock late' is =
    ⊎_elim
    (λ (works : is_working l.state ≡ true).
    let found : late l now ≡ Some k = sym (cond-false l.manual (asked_again l) (late l now) clock) ∙ (wanted_working l now k late').1 in
    let at = position-Some (λ (x : Queued). due x.at now) (take l.out l.queue) k q found in
    let below : k < l.out = omega (arith, at.0, length-take l.out l.queue) in
    let here = get_or-take l.out l.queue k q below ∙ get_or_from_slice_get l.queue k q q is in
    ap (λ (x : Queued). due x.at now) (sym here) ∙ at.1)
    (λ (not_so : is_working l.state ≡ false). absurd (cc (sym (cond-false (is_working l.state) (wanted l now) None not_so) ∙ late')))
    (cases_Bool (is_working l.state))

-- a unit that is sent again is no longer due, or no longer asked for
again_fewer : (l : LinkView) (now k : ℕ) (q : Queued) → late_if_working l now ≡ Some k → slice_get l.queue k ≡ Some q → left (sends_again l now k q).1 now < left l now
again_fewer l now k q late' is =
    let spoke : one_if (due now now) ≡ 0 = ap one_if (not_yet now) in
    let y : Queued = record { unit = q.unit; at = now; count = count_again l q.count } in
    ⊎_elim
    (λ (hand : l.manual ≡ true).
    let found : asked_again l ≡ Some k = sym (cond-true l.manual (asked_again l) (late l now) hand) ∙ (wanted_working l now k late').1 in
    let asked : is_some l.again ≡ true = place_some (length (take l.out l.queue)) k l.again found in
    omega (arith, spoke, lates_kept now l.queue k y (not_yet now), length-set l.queue k y, ap one_if asked))
    (λ (clock : l.manual ≡ false).
    omega (arith, spoke, lates_fewer now l.queue k q y is (late_due l now k q clock late' is) (not_yet now), length-set l.queue k y))
    (cases_Bool l.manual)

joined_fewer : (l : LinkView) (now : ℕ) → FewerBy l now (poll_reply l now)
joined_fewer l now =
    let spoke : one_if (due now now) ≡ 0 = ap one_if (not_yet now) in
    reply_by l now (FewerBy l now) (record {
      replied = λ e. omega (arith, spoke, ap one_if e);
      confirmed = λ e. omega (arith, spoke, ap one_if e);
      sent = λ q may is.
          let y : Queued = record { unit = q.unit; at = now; count = 1 } in
          omega (arith, spoke, lates_kept now l.queue l.out y (not_yet now), length-set l.queue l.out y, slice_get_within l.queue l.out q is);
      again = λ k q late' is few. again_fewer l now k q late' is;
      gave_up = λ k q late' is many. tt;
      nowhere = λ k late' is. tt;
      acked = λ e. omega (arith, spoke, ap one_if e);
      probed = λ may few.
          let rested : due l.spoke now ≡ true = (probing l now may).rested in
          omega (arith, spoke, ap one_if rested);
      gave_up_probing = λ may many. tt;
      rests = λ r. tt;
    })

asked_once : (l : LinkView) (now : ℕ) → asks (requests l now).1 now ≡ false
asked_once l now = grind (arith, nat_tests)

request_fewer : (l : LinkView) (now : ℕ) → FewerBy l now (poll_request l now)
request_fewer l now =
    let spoke : one_if (due now now) ≡ 0 = ap one_if (not_yet now) in
    cond_both {A = Option OutgoingView × LinkView} (asks l now) (requests_or_lost l now) (None, l) (FewerBy l now)
    (λ yes. cond_both {A = Option OutgoingView × LinkView} (nat_le most_sends l.asked_count) (None, lost l) (requests l now) (FewerBy l now)
    (λ ten. tt)
    (λ fewer. omega (arith, spoke, ap one_if yes, ap one_if (asked_once l now))))
    (λ no. tt)

fewer_at : (st : State) (l : LinkView) (now : ℕ) → FewerBy l now (poll_at st l now)
fewer_at S.Opening l now = request_fewer l now
fewer_at S.Live l now = joined_fewer l now
fewer_at S.Ending l now = joined_fewer l now
fewer_at S.PeerEnded l now = joined_fewer l now
fewer_at S.Confirmed l now = joined_fewer l now
fewer_at S.Lost l now = tt

pub polls_fewer : (l : LinkView) (now : ℕ) (o : OutgoingView) (m : LinkView) → poll_link l now ≡ (Some o, m) → left m now < left l now
polls_fewer l now o m is = rw is at (fewer_at l.state l now)

-- everything that is given at one time is a finite list of packets
pub record Conveyed (a b : LinkView) (now : ℕ) : Type 0 where
  pub told : LinkView
  pub heard : LinkView
  pub all : Conveys a b now told heard

conveyed_at : (n : ℕ) (a b : LinkView) (now : ℕ) (o : Option OutgoingView) (m : LinkView) → poll_link a now ≡ (o, m) → left a now ≤ n → Conveyed a b now
conveyed_at n a b now None m is few = record { told = m; heard = b; all = stops is }
conveyed_at zero a b now (Some o) m is few = absurd (omega (arith, few, polls_fewer a now o m is))
conveyed_at (suc n) a b now (Some o) m is few =
    let r = receive_link b o.header o.body in
    let rest = conveyed_at n m r.1 now (poll_link m now).0 (poll_link m now).1 refl (omega (arith, few, polls_fewer a now o m is)) in
    record { told = rest.told; heard = rest.heard; all = goes o r.0 is refl rest.all }

pub conveyed : (a b : LinkView) (now : ℕ) → Conveyed a b now
conveyed a b now = conveyed_at (left a now) a b now (poll_link a now).0 (poll_link a now).1 refl (omega arith)
