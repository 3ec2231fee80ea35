-- The queue of a link that sends: the old entries, or what it sent now.
use Rattle.std.proofs.Common.{ℕ, ◌+◌, ◌<◌, ◌≤◌, ◌≡◌, ◌⊎◌, ◌||◌, true, false, List, Option, Some, None, sym, ap, ◌∙◌, subst, inl, inr, ⊎_elim, arith, slice_get}
use Rattle.std.proofs.lemmas.Bool.{cases_Bool}
use Rattle.spx_link.specs.declared.queue.Queued.{Queued}
use Rattle.spx_link.specs.declared.outgoing.Sent.{Sent}
use Rattle.spx_link.specs.declared.outgoing.Sent.TheVariants as Sents
use Rattle.spx_link.specs.Limits.{most_sends}
use Rattle.spx_link.specs.LinkView.{LinkView, due}
use Rattle.spx_link.specs.declared.unit.Unit.{Unit}
use Rattle.ipx_wire.specs.declared.spx.packet.SpxHeader.{SpxHeader}
use Rattle.spx_link.specs.SequenceMarks.{mark, distance}
use Rattle.spx_theory.specs.Spelling.{Carries}
use Rattle.spx_link.specs.Machine.{End, AreSound}
use Rattle.spx_link.specs.Poll.{OutgoingView, count_again}
use Rattle.spx_link.specs.Receive.{is_system}
use Rattle.spx_theory.specs.Tracks.{Follows}
use Rattle.spx_theory.proofs.Having.{Has}
use Rattle.spx_theory.proofs.RoundPackets.{PositionIs}
use Rattle.spx_theory.proofs.Hearing.{Owes, owes_by_ack, owes_by_confirm}
use Rattle.spx_theory.proofs.RoundPolls.{KindOf}
use Rattle.spx_theory.proofs.RoundLists.{get_set}

-- a number identifies one index of those that are outstanding
same_place : (n base out next sent place seq : ℕ) → next ≡ mark sent → base + out ≡ sent → out ≤ 8192 → place < out → base ≤ n → n < sent
    → seq ≡ mark n → seq ≡ mark (distance next out + place) → n ≡ base + place
same_place n base out next sent place seq a b c d e f g h = omega arith

-- the entry at this index is the old one, or what was sent now
abbrev pub Entry : LinkView → ℕ → End → Option ℕ → ℕ → Queued → Type 0
Entry a now c o k q = ((k < a.out) × (slice_get a.queue k ≡ Some q)) ⊎ ((q.at ≡ now) × (o ≡ Some (c.base + k)))

same_entry : (a m : LinkView) (now : ℕ) (c : End) (o : Option ℕ) (k : ℕ) (q : Queued) → m.queue ≡ a.queue → m.out ≡ a.out → k < m.out → slice_get m.queue k ≡ Some q → Entry a now c o k q
same_entry a m now c o k q queue out below is = inl (omega (arith, below, out), ap (λ qs. slice_get qs k) (sym queue) ∙ is)

pub entry : (what : Sent) (a m : LinkView) (now : ℕ) (g : OutgoingView) (c d : End) (o : Option ℕ) → Follows a c d → KindOf what a now g m → PositionIs what c o
    → ((n : ℕ) → o ≡ Some n → g.header.seq ≡ mark n) → (k : ℕ) (q : Queued) → k < m.out → slice_get m.queue k ≡ Some q → Entry a now c o k q
entry Sents.Request a m now g c d o f kind at number k q below is = absurd kind
entry Sents.Reply a m now g c d o f kind at number k q below is = same_entry a m now c o k q kind.queue kind.out below is
entry Sents.Confirm a m now g c d o f kind at number k q below is = same_entry a m now c o k q kind.queue kind.out below is
entry Sents.Unit a m now g c d o f kind at number k q below is =
    elim (get_set a.queue a.out k (record { unit = kind.unit.unit; at = now; count = 1 }) q (ap (λ qs. slice_get qs k) (sym kind.queue) ∙ is)) [
      | inl here ↦
          let place : c.sent ≡ c.base + k = omega (arith, f.tracks.counts.out, here.0) in
          inr (sym (ap (λ (x : Queued). x.at) here.1), at ∙ ap Some place)
      | inr other ↦ inl (omega (arith, kind.out, below, other.0), other.1)
    ]
entry Sents.Again a m now g c d o f kind at number k q below is =
    elim (get_set a.queue kind.place k (record { unit = kind.unit.unit; at = now; count = count_again a kind.unit.count }) q (ap (λ qs. slice_get qs k) (sym kind.queue) ∙ is)) [
      | inl here ↦
          let t = f.tracks.counts in
          let place : at.0 ≡ c.base + kind.place = same_place at.0 c.base a.out a.next c.sent kind.place g.header.seq t.next t.out t.window kind.below at.2 at.3 (number at.0 at.1) kind.number in
          inr (sym (ap (λ (x : Queued). x.at) here.1), at.1 ∙ ap Some (place ∙ ap (λ i. c.base + i) here.0))
      | inr other ↦ inl (omega (arith, kind.out, below), other.1)
    ]
entry Sents.Ack a m now g c d o f kind at number k q below is = same_entry a m now c o k q kind.queue kind.out below is
entry Sents.Probe a m now g c d o f kind at number k q below is = same_entry a m now c o k q kind.queue kind.out below is

none_some : (o : Option ℕ) (n : ℕ) → o ≡ None → o ≡ Some n → ⊥
none_some o n none some = cc (sym none ∙ some)

some_same : (o : Option ℕ) (m n : ℕ) → o ≡ Some m → o ≡ Some n → m ≡ n
some_same o m n one two = let both : Some m ≡ Some n = sym one ∙ two in cc both

pub position_low : (what : Sent) (c d : End) (o : Option ℕ) (n : ℕ) → AreSound c d → PositionIs what c o → o ≡ Some n → c.base ≤ n
position_low Sents.Request c d o n s at is = absurd (none_some o n at is)
position_low Sents.Reply c d o n s at is = absurd (none_some o n at is)
position_low Sents.Confirm c d o n s at is = absurd (none_some o n at is)
position_low Sents.Unit c d o n s at is = let same : c.sent ≡ n = some_same o c.sent n at is in omega (arith, same, s.there.base, s.there.read)
position_low Sents.Again c d o n s at is = let same : at.0 ≡ n = some_same o at.0 n at.1 is in omega (arith, same, at.2)
position_low Sents.Ack c d o n s at is = absurd (none_some o n at is)
position_low Sents.Probe c d o n s at is = absurd (none_some o n at is)

pub carries_unit : (o : Option ℕ) (n : ℕ) (units : List Unit) (h : SpxHeader) (body : List ℕ) → o ≡ Some n → Carries o units h body → (is_system h ≡ false) × (h.seq ≡ mark n)
carries_unit o n units h body is has = let there : Carries (Some n) units h body = subst (λ x. Carries x units h body) is has in (there.0, there.1)

pub owes_on : (b m : LinkView) → (b.owes_ack ≡ true → m.owes_ack ≡ true) → (b.owes_confirm ≡ true → m.owes_confirm ≡ true) → Owes b → Owes m
owes_on b m acks confirms owes =
    ⊎_elim
    (λ (ack : b.owes_ack ≡ true). owes_by_ack m (acks ack))
    (λ (other : b.owes_ack ≡ false). owes_by_confirm m (confirms (sym (ap (λ x. x || b.owes_confirm) other) ∙ owes)))
    (cases_Bool b.owes_ack)

-- an outstanding unit: due, and not sent too often; or sent now and read by the peer, which owes an answer
abbrev pub IsMet : ℕ → LinkView → End → End → ℕ → Queued → Type 0
IsMet now b c d k q = ((due q.at now ≡ true) × (q.count < most_sends)) ⊎ ((q.at ≡ now) × Has d (c.base + k) × Owes b)

-- the packet of an end was read
pub record Told (c : End) (b : LinkView) (d : End) : Type 0 where
  pub base : c.read ≤ d.base
  pub limit : c.taken + c.buffers ≤ d.limit
  pub probes : b.probes ≡ 0
