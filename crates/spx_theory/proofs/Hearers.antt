-- How packets that are read one after another change an end of the machine, and a link.
use Rattle.std.proofs.Common.{ℕ, ◌+◌, ◌-◌, ◌<◌, ◌≤◌, ◌≡◌, ◌⊎◌, max, true, length, drop, Option, Some, None, refl, sym, ap, ◌∙◌, inl, inr, arith, slice_get}
use Rattle.std.proofs.lemmas.Bool.{cond_both}
use Rattle.spx_link.specs.declared.queue.Queued.{Queued}
use Rattle.spx_link.specs.declared.state.State.{State}
use Rattle.spx_link.specs.declared.state.State.TheVariants as S
use Rattle.spx_link.specs.declared.received.Received.{Received}
use Rattle.spx_link.specs.LinkView.{LinkView}
use Rattle.spx_link.specs.Machine.{End, Packet, is_awaited, risen, put_mark, read_unit, got}
use Rattle.spx_link.specs.Receive.{after_end}
use Rattle.spx_link.specs.Offer.{queued}
use Rattle.spx_theory.proofs.Hearing.{StateAfter, Reads}
use Rattle.spx_theory.proofs.RoundLists.{none_left, slice_get-drop}

-- it read the numbers, and may have read more units
pub record Fed (old new : End) : Type 0 where
  pub sent : new.sent ≡ old.sent
  pub taken : new.taken ≡ old.taken
  pub buffers : new.buffers ≡ old.buffers
  pub units : new.units ≡ old.units
  pub base : old.base ≤ new.base
  pub limit : old.limit ≤ new.limit
  pub read : old.read ≤ new.read

-- it read the numbers of this packet
pub record Learned (p : Packet) (new : End) : Type 0 where
  pub base : p.read ≤ new.base
  pub limit : p.allows ≤ new.limit

fed_unit : (o : Option ℕ) (c : End) → Fed c (read_unit o c) × (((read_unit o c).base ≡ c.base) × ((read_unit o c).limit ≡ c.limit))
fed_unit None c = (record { sent = refl; taken = refl; buffers = refl; units = refl; base = omega arith; limit = omega arith; read = omega arith }, (refl, refl))
fed_unit (Some n) c =
    cond_both (is_awaited c n) (risen (put_mark (n - c.read) c.kept) c) c (λ e. Fed c e × ((e.base ≡ c.base) × (e.limit ≡ c.limit)))
    (λ wanted. (record { sent = refl; taken = refl; buffers = refl; units = refl; base = omega arith; limit = omega arith; read = omega arith }, (refl, refl)))
    (λ other. (record { sent = refl; taken = refl; buffers = refl; units = refl; base = omega arith; limit = omega arith; read = omega arith }, (refl, refl)))

pub fed_got : (p : Packet) (c : End) → Fed c (got p c) × Learned p (got p c)
fed_got p c =
    let l : End = record c { base = max c.base p.read; limit = max c.limit p.allows } in
    let f = fed_unit p.position l in (
      record {
        sent = f.0.sent;
        taken = f.0.taken;
        buffers = f.0.buffers;
        units = f.0.units;
        base = omega (arith, f.1.0);
        limit = omega (arith, f.1.1);
        read = f.0.read;
      },
      record { base = omega (arith, f.1.0); limit = omega (arith, f.1.1) },
    )

-- ---- the link that reads

-- its state after that
abbrev pub Course : LinkView → LinkView → Type 0
Course l m =
    ((m.state ≡ l.state) × (m.peer_ended ≡ l.peer_ended)) ⊎ ((m.state ≡ S.Confirmed) × (l.end_queued ≡ true) × (length m.queue ≡ 0) × (m.peer_ended ≡ l.peer_ended))
    ⊎ ((m.peer_ended ≡ true) × (m.owes_confirm ≡ true) × ((m.state ≡ after_end l.state) ⊎ ((m.state ≡ S.Confirmed) × (l.end_queued ≡ true))))

pub record HeardBy (l m : LinkView) : Type 0 where
  pub own : m.own ≡ l.own
  pub peer : m.peer ≡ l.peer
  pub queued : m.end_queued ≡ l.end_queued
  pub spoke : m.spoke ≡ l.spoke
  pub probes : m.probes ≤ l.probes
  pub sent : (k : ℕ) (q : Queued) → k < m.out → slice_get m.queue k ≡ Some q → (j : ℕ) × (j < l.out) × (slice_get l.queue j ≡ Some q)
  pub acks : l.owes_ack ≡ true → m.owes_ack ≡ true
  pub confirms : l.owes_confirm ≡ true → m.owes_confirm ≡ true
  pub course : Course l m

pub heard_same : (l : LinkView) → HeardBy l l
heard_same l =
    record { own = refl; peer = refl; queued = refl; spoke = refl; probes = omega arith; sent = λ k q below is. (k, below, is); acks = λ e. e; confirms = λ e. e; course = inl (refl, refl) }

twice_ended : (s : State) → after_end (after_end s) ≡ after_end s
twice_ended S.Opening = refl
twice_ended S.Live = refl
twice_ended S.Ending = refl
twice_ended S.PeerEnded = refl
twice_ended S.Confirmed = refl
twice_ended S.Lost = refl

course_on : (l m k : LinkView) (n : ℕ) → m.end_queued ≡ l.end_queued → k.queue ≡ drop n m.queue → (m.owes_confirm ≡ true → k.owes_confirm ≡ true) → Course l m → StateAfter m k → Course l k
course_on l m k n queued queue keeps (inl same) (inl now) = inl (now.0 ∙ same.0, now.1 ∙ same.1)
course_on l m k n queued queue keeps (inl same) (inr (inl done)) = inr (inl (done.0, sym queued ∙ done.1, done.2, done.3 ∙ same.1))
course_on l m k n queued queue keeps (inl same) (inr (inr ends)) = inr (inr (ends.1, ends.2, inl (ends.0 ∙ ap after_end same.0)))
course_on l m k n queued queue keeps (inr (inl was)) (inl now) = inr (inl (now.0 ∙ was.0, was.1, ap length queue ∙ none_left n m.queue was.2, now.1 ∙ was.3))
course_on l m k n queued queue keeps (inr (inl was)) (inr (inl done)) = inr (inl (done.0, was.1, done.2, done.3 ∙ was.3))
course_on l m k n queued queue keeps (inr (inl was)) (inr (inr ends)) = inr (inr (ends.1, ends.2, inr (ends.0 ∙ ap after_end was.0, was.1)))
course_on l m k n queued queue keeps (inr (inr was)) (inl now) = inr (inr (now.1 ∙ was.0, keeps was.1, elim was.2 [ inl s ↦ inl (now.0 ∙ s) | inr s ↦ inr (now.0 ∙ s.0, s.1) ]))
course_on l m k n queued queue keeps (inr (inr was)) (inr (inl done)) = inr (inr (done.3 ∙ was.0, keeps was.1, inr (done.0, sym queued ∙ done.1)))
course_on l m k n queued queue keeps (inr (inr was)) (inr (inr ends)) =
    inr (inr (ends.1, ends.2, elim was.2 [ inl s ↦ inl (ends.0 ∙ (ap after_end s ∙ twice_ended l.state)) | inr s ↦ inr (ends.0 ∙ ap after_end s.0, s.1) ]))

pub heard_on : (l m : LinkView) (h : _) (r : Received × LinkView) → HeardBy l m → Reads m h r → HeardBy l r.1
heard_on l m h r was now =
    let n = m.out - r.1.out in
    record {
      own = now.own ∙ was.own;
      peer = now.peer ∙ was.peer;
      queued = now.queued ∙ was.queued;
      spoke = now.spoke ∙ was.spoke;
      probes = omega (arith, now.probes);
      sent = λ k q below is.
          was.sent (_ + k) q (omega (arith, now.out, below)) (sym (slice_get-drop _ k m.queue) ∙ (ap (λ qs. slice_get qs k) (sym now.queue) ∙ is));
      acks = λ e. now.acks (was.acks e);
      confirms = λ e. now.confirms (was.confirms e);
      course = course_on l m r.1 _ was.queued now.queue now.confirms was.course now.state;
    }
