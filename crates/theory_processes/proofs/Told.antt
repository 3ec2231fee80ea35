-- What a pacer is told of the packets that its link reads at one time.
use Rattle.std.proofs.Common.{ℕ, ◌+◌, ◌<◌, ◌≤◌, ◌≡◌, ◌≢◌, ◌⊎◌, Bool, List, length, refl, ap, ◌∙◌, subst, inl, inr, ⊎_elim, arith}
use Rattle.std.proofs.lemmas.Bool.{cases_lt}
use Rattle.ipx_wire.specs.declared.spx.packet.SpxHeader.{SpxHeader}
use Rattle.spx_link.specs.declared.numbers.Numbers.{Numbers}
use Rattle.spx_link.specs.declared.received.Received.{Received}
use Rattle.spx_link.specs.declared.received.Received.TheVariants as R
use Rattle.spx_link.specs.Effects.{numbers_after_received}
use Rattle.spx_link.specs.LinkTurns.{newly_held}
use Rattle.spx_link.specs.LinkView.{LinkView, numbers_of}
use Rattle.spx_link.specs.Receive.{receive_link}
use Rattle.spx_congestion.specs.Hearing.{Hears}
use Rattle.spx_congestion.specs.Pacing.{PacerView}
use Rattle.theory_processes.specs.PacedRounds.{IsTold, PacedReads, silent, hears}
use Rattle.theory_processes.specs.PacingLaws.{PacingLaws}

-- fewer units are outstanding, and the pacer counts on. If none was acknowledged, as many timeouts as before came in a
-- row; otherwise none
pub record WasTold (a a' : LinkView) (p p' : PacerView) : Type 0 where
  pub out : a'.out ≤ a.out
  pub base : p'.base + a'.out ≤ p.base + a.out
  pub tick : p'.tick ≡ p.tick
  pub doubled : ((p'.trip.doubled ≡ p.trip.doubled) × (a'.out ≡ a.out)) ⊎ (p'.trip.doubled ≡ 0)

pub is_stranger : (r : Received) → (r ≡ R.Stranger) ⊎ (r ≢ R.Stranger)
is_stranger R.Joined = inr (λ e. cc e)
is_stranger R.Kept = inr (λ e. cc e)
is_stranger R.Repeat = inr (λ e. cc e)
is_stranger R.Ahead = inr (λ e. cc e)
is_stranger R.OverAllocation = inr (λ e. cc e)
is_stranger R.System = inr (λ e. cc e)
is_stranger R.PeerEnded = inr (λ e. cc e)
is_stranger R.Confirmed = inr (λ e. cc e)
is_stranger R.Stranger = inl refl

-- no packet makes more units outstanding
fewer : (r : Received) (count : ℕ) (h : SpxHeader) (n : Numbers) → (numbers_after_received r count h n).out ≤ n.out
fewer R.Joined count h n = omega arith
fewer R.Kept count h n = omega arith
fewer R.Repeat count h n = omega arith
fewer R.Ahead count h n = omega arith
fewer R.OverAllocation count h n = omega arith
fewer R.System count h n = omega arith
fewer R.PeerEnded count h n = omega arith
fewer R.Confirmed count h n = omega arith
fewer R.Stranger count h n = omega arith

pub same_out : (r : Received) (count : ℕ) (h : SpxHeader) (n : Numbers) → r ≡ R.Stranger → (numbers_after_received r count h n).out ≡ n.out
same_out r count h n is = ap (λ (x : Received). (numbers_after_received x count h n).out) is

told_by : (a a' : LinkView) (p p' : PacerView) (joined : Bool) (now : ℕ) → a'.out ≤ a.out → Hears p (numbers_of a) (numbers_of a') joined now p' → WasTold a a' p p'
told_by a a' p p' joined now less h =
    ⊎_elim
    (λ (acked : a'.out < a.out).
    let base = h.base acked in
    record { out = less; base = omega (arith, base, acked); tick = h.credit.1; doubled = inr (h.acknowledged acked).1 })
    (λ (none : a.out ≤ a'.out).
    let base = h.unmoved none in
    record { out = less; base = omega (arith, base, less); tick = h.credit.1; doubled = inl ((h.waits none).1, omega (arith, less, none)) })
    (cases_lt a'.out a.out)

told_one : (laws : PacingLaws) (a a' : LinkView) (p p' : PacerView) (h : SpxHeader) (body : List ℕ) (r : Received) (now : ℕ) → receive_link a h body ≡ (r, a') → IsTold r p a a' now p' → WasTold a a' p p'
told_one laws a a' p p' h body r now is told =
    let count : ℕ = length (newly_held a h body) in
    let numbers : numbers_of a' ≡ numbers_after_received r count h (numbers_of a) = subst (λ (z : Received × LinkView). numbers_of z.1 ≡ numbers_after_received z.0 count h (numbers_of a)) is (laws.numbers a h body) in
    let out : a'.out ≡ (numbers_after_received r count h (numbers_of a)).out = ap (λ (n : Numbers). n.out) numbers in
    let less : a'.out ≤ a.out = omega (arith, out, fewer r count h (numbers_of a)) in
    elim (is_stranger r) [
      | inl other ↦
          let pacer = told.other other in
          let same : a'.out ≡ a.out = out ∙ same_out r count h (numbers_of a) other in
          record {
            out = less;
            base = omega (arith, ap (λ (z : PacerView). z.base) pacer, same);
            tick = ap (λ (z : PacerView). z.tick) pacer;
            doubled = inl (ap (λ (z : PacerView). z.trip.doubled) pacer, same);
          }
      | inr read ↦ let t = told.read read in told_by a a' p p' t.0 now less t.2
    ]

told_on : (a b c : LinkView) (p q r : PacerView) → WasTold a b p q → WasTold b c q r → WasTold a c p r
told_on a b c p q r one two =
    record {
      out = omega (arith, one.out, two.out);
      base = omega (arith, one.base, two.base);
      tick = two.tick ∙ one.tick;
      doubled = elim two.doubled [
        | inl same ↦ elim one.doubled [ inl was ↦ inl (same.0 ∙ was.0, same.1 ∙ was.1) | inr none ↦ inr (same.0 ∙ none) ]
        | inr none ↦ inr none
      ];
    }

pub told_all : (laws : PacingLaws) (b a b' a' : LinkView) (p p' : PacerView) (now : ℕ) → PacedReads b a p now b' a' p' → WasTold a a' p p'
told_all laws b a b' a' p p' now (silent is) = record { out = omega arith; base = omega arith; tick = refl; doubled = inl (refl, refl) }
told_all laws b a b' a' p p' now (hears {b1 = b1} {a1 = a1} {p1 = p1} o r is read told rest) =
    told_on a a1 a' p p1 p' (told_one laws a a1 p p1 o.header o.body r now read told) (told_all laws b1 a1 b' a' p1 p' now rest)
