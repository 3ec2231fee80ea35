-- One call of poll is one step of the machine, or none.
use Rattle.std.proofs.Common.{ℕ, zero, suc, ◌+◌, ◌<◌, ◌≤◌, ◌≡◌, ◌⊎◌, ◌==◌, Bool, true, false, not, ◌&&◌, ◌||◌, nat_le, nat_lt, if◌then◌else◌, List, [], ◌∷◌, Option, Some, None, slice_get, set, length, map, drop, take, option_map, arith, refl, sym, ap, ◌∙◌, subst, ltb-true, eqb-true, ne_eqb, length-take, ⊎_elim, inl, inr}
use Rattle.std.proofs.lemmas.Bool.{cond_both, and_parts, cond-true, cond-false, cases_Bool}
use Rattle.std.proofs.lemmas.List.Quantifiers.{position-Some}
use Rattle.std.proofs.lemmas.Option.{slice_get_within, get_or_from_slice_get, slice_get-map, slice_get_past}
use Rattle.std.proofs.Math.Seq.{map-set_same}
use Rattle.spx_link.specs.declared.unit.Unit.{Unit}
use Rattle.spx_link.specs.declared.queue.Queued.{Queued}
use Rattle.spx_link.specs.declared.outgoing.Sent.{Sent}
use Rattle.spx_link.specs.declared.state.State.{State}
use Rattle.spx_link.specs.Limits.{most_units, most_sends}
use Rattle.spx_link.specs.SequenceMarks.{mark, distance}
use Rattle.spx_link.specs.LinkView.{LinkView, due, is_end, is_working}
use Rattle.spx_link.specs.Units.{unit_of}
use Rattle.spx_link.specs.Offer.{the_end}
use Rattle.spx_link.specs.Receive.{is_system}
use Rattle.spx_link.specs.Poll.{OutgoingView, plain, with_unit, lost, requests, requests_or_lost, poll_request, may_probe, most_probes, probes_once, probes_or_lost, poll_probe, acknowledges, poll_ack, late, place_below, asked_again, wanted, late_if_working, count_again, sends_again, sends_again_or_lost, poll_late, poll_again, may_send, sends, poll_unit, confirms, poll_confirm, replies, poll_reply, poll_at, poll_link}
use Rattle.spx_link.specs.Machine.{End, IsWithin, one_more_sent, AreSound}
use Rattle.spx_theory.specs.Tracks.{Tracks, core, Follows, may_end}
use Rattle.spx_theory.specs.Spelling.{Says, PolledTo}
use Rattle.spx_theory.specs.PairSteps.{Polled}
use Rattle.spx_link.specs.declared.outgoing.Sent.TheVariants as Sents
use Rattle.spx_link.specs.declared.state.State.TheVariants as S

-- how a poll may change the state
pub record Speaking (l : LinkView) (r : Option OutgoingView × LinkView) (c d : End) : Type 0 where
  pub to : PolledTo r.0 (core r.1) c d
  pub queued : r.1.end_queued ≡ l.end_queued
  pub state : (r.1.state ≡ l.state) ⊎ (r.1.state ≡ S.Lost)

pub slice_get-drop : {A : Type 0} (n k : ℕ) (xs : List A) → slice_get (drop n xs) k ≡ slice_get xs (n + k)
slice_get-drop zero k xs = ap (slice_get xs) (omega arith)
slice_get-drop (suc n) k [] = sym (slice_get_past [] (suc n + k) (omega arith))
slice_get-drop (suc n) k (x ∷ xs) =
    let e : suc n + k ≡ suc (n + k) = omega arith in
    slice_get-drop n k xs ∙ ap (slice_get (x ∷ xs)) (sym e)

pub record PresentEnd' (l : LinkView) (c d : End) : Type 0 where
  pub tracks : Tracks (core l) c d
  pub line : AreSound c d

says_plain : (l m : LinkView) (c d : End) (what : Sent) (wants : Bool) (stream id : ℕ) → PresentEnd' l c d → core m ≡ core l → (stream ≡ 254 → ⊥)
    → Says (core m) (plain l what wants stream id) None c d
says_plain l m c d what wants stream id s same ne =
    let low : (stream == 254) ≡ false = ne_eqb stream 254 ne in
    record {
      tracks = subst (λ x. Tracks x c d) (sym same) s.tracks;
      spells = record { ack = s.tracks.counts.expected; limit = omega (arith, s.tracks.counts, s.line.within) };
      carries = ap (λ b. (true && not b) || (stream == 255)) low;
    }

none_speaks : (l : LinkView) (c d : End) → PresentEnd' l c d → Speaking l (None, l) c d
none_speaks l c d s = record { to = s.tracks; queued = refl; state = inl refl }

lost_speaks : (l : LinkView) (c d : End) → PresentEnd' l c d → Speaking l (None, lost l) c d
lost_speaks l c d s = record { to = s.tracks; queued = refl; state = inr refl }

pub last_as : (u : Unit) (e : Bool) → is_end u ≡ e → (u.stream ≡ 254 → u ≡ the_end) → (u.last && not e) ≡ u.last
last_as u true is ends = and-false u.last ∙ sym (ap (λ (x : Unit). x.last) (ends (eqb-true _ _ is)))
  where
    and-false : (b : Bool) → (b && false) ≡ false
    and-false true = refl
    and-false false = refl
last_as u false is ends = and-true u.last
  where
    and-true : (b : Bool) → (b && true) ≡ b
    and-true true = refl
    and-true false = refl

says_unit : (l m : LinkView) (u : Unit) (n number : ℕ) (what : Sent) (c e d : End) → Tracks (core l) c d → IsWithin c d
    → Tracks (core m) e d → e.read ≡ c.read → e.taken ≡ c.taken → e.buffers ≡ c.buffers → e.units ≡ c.units → number ≡ mark n → slice_get c.units n ≡ Some u
    → Says (core m) (with_unit l what u number) (Some n) e d
says_unit l m u n number what c e d t within after read taken buffers units is stands =
    let low : u.stream ≤ 254 = t.formed.stream n u stands in
    let last : (u.last && not (is_end u)) ≡ u.last = last_as u (is_end u) refl (λ ends. (t.formed.end n u stands ends).2) in
    let unit : is_system (with_unit l what u number).header ≡ false = ne_eqb u.stream 255 (λ z. omega (arith, z, low)) in
    record {
      tracks = after;
      spells = record { ack = t.counts.expected ∙ ap mark (sym read); limit = omega (arith, t.counts, within, read, taken, buffers) };
      carries = (unit, is, ap (λ us. slice_get us n) units ∙ stands ∙ ap (λ b. Some (record { stream = u.stream; last = b; body = u.body })) (sym last));
    }

unit_at : (l : LinkView) (c d : End) (k : ℕ) (q : Queued) → Tracks (core l) c d → slice_get l.queue k ≡ Some q → slice_get c.units (c.base + k) ≡ Some q.unit
unit_at l c d k q t is =
    sym (slice_get-drop c.base k c.units) ∙ (ap (λ xs. slice_get xs k) (sym t.queue) ∙ (slice_get-map unit_of l.queue k ∙ ap (option_map unit_of) is))

pub stamped : (l : LinkView) (k at count : ℕ) (q : Queued) → slice_get l.queue k ≡ Some q → map unit_of (set l.queue k (record { unit = q.unit; at = at; count = count })) ≡ map unit_of l.queue
stamped l k at count q is = map-set_same unit_of l.queue k (record { unit = q.unit; at = at; count = count }) q (ap unit_of (sym (get_or_from_slice_get l.queue k q q is)))

again_speaks : (l : LinkView) (now k : ℕ) (o : Option Queued) (c d : End) → PresentEnd' l c d → k < l.out → slice_get l.queue k ≡ o → Speaking l (sends_again_or_lost l now k o) c d
again_speaks l now k None c d s below is = none_speaks l c d s
again_speaks l now k (Some q) c d s below is =
    let m : LinkView = (sends_again l now k q).1 in
    let t : Tracks (core l) c d = s.tracks in
    let after : Tracks (core m) c d = record { counts = record { next = t.counts.next; expected = t.counts.expected; out = t.counts.out; room = t.counts.room; held = t.counts.held; buffers = t.counts.buffers; window = t.counts.window; small = t.counts.small }; queue = stamped l k now (count_again l q.count) q is ∙ t.queue; held = t.held; kept = t.kept; open' = t.open'; ahead = t.ahead; ended = t.ended; formed = t.formed } in
    let number : mark (distance l.next l.out + k) ≡ mark (c.base + k) = omega (arith, t.counts) in
    cond_both {A = Option OutgoingView × LinkView} (nat_le most_sends q.count) (None, lost l) (sends_again l now k q) (λ r. Speaking l r c d)
    (λ yes. lost_speaks l c d s)
    (λ no. record {
      to = (c.base + k, omega arith, omega (arith, t.counts, below), says_unit l m q.unit (c.base + k) (mark (distance l.next l.out + k)) Sents.Again c c d t s.line.within after refl refl refl refl number (unit_at l c d k q t is));
      queued = refl;
      state = inl refl;
    })

unit_speaks : (l : LinkView) (now : ℕ) (o : Option Queued) (c d : End) → PresentEnd' l c d → 0 < l.room → l.out < most_units → slice_get l.queue l.out ≡ o → Speaking l (sends l now o) c d
unit_speaks l now None c d s room window is = none_speaks l c d s
unit_speaks l now (Some q) c d s room window is =
    let m : LinkView = (sends l now (Some q)).1 in
    let t : Tracks (core l) c d = s.tracks in
    let stands : slice_get c.units c.sent ≡ Some q.unit = subst (λ k. slice_get c.units k ≡ Some q.unit) t.counts.out (unit_at l c d l.out q t is) in
    let within : c.sent < length c.units = slice_get_within c.units c.sent q.unit stands in
    let after : Tracks (core m) (one_more_sent c) d = record { counts = record { next = omega (arith, t.counts); expected = t.counts.expected; out = omega (arith, t.counts); room = omega (arith, t.counts, room); held = t.counts.held; buffers = t.counts.buffers; window = omega (arith, window); small = t.counts.small }; queue = stamped l l.out now 1 q is ∙ t.queue; held = t.held; kept = t.kept; open' = t.open'; ahead = t.ahead; ended = t.ended; formed = t.formed } in
    record {
      to = (omega (arith, t.counts, room), within, says_unit l m q.unit c.sent l.next Sents.Unit c (one_more_sent c) d t s.line.within after refl refl refl refl t.counts.next stands);
      queued = refl;
      state = inl refl;
    }

probe_speaks : (l : LinkView) (now : ℕ) (c d : End) → PresentEnd' l c d → Speaking l (poll_probe l now) c d
probe_speaks l now c d s =
    cond_both {A = Option OutgoingView × LinkView} (may_probe l now) (probes_or_lost l now) (None, l) (λ r. Speaking l r c d)
    (λ yes. cond_both {A = Option OutgoingView × LinkView} (nat_le (most_probes l) l.probes) (None, lost l) (probes_once l now) (λ r. Speaking l r c d)
    (λ ten. lost_speaks l c d s) (λ fewer. record { to = says_plain l (probes_once l now).1 c d Sents.Probe true 0 l.peer s refl (λ e. omega (arith, e)); queued = refl; state = inl refl }))
    (λ no. none_speaks l c d s)

ack_speaks : (l : LinkView) (now : ℕ) (c d : End) → PresentEnd' l c d → Speaking l (poll_ack l now) c d
ack_speaks l now c d s =
    cond_both {A = Option OutgoingView × LinkView} l.owes_ack (acknowledges l now) (poll_probe l now) (λ r. Speaking l r c d)
    (λ yes. record { to = says_plain l (acknowledges l now).1 c d Sents.Ack false 0 l.peer s refl (λ e. omega (arith, e)); queued = refl; state = inl refl })
    (λ no. probe_speaks l now c d s)

below_count : (count k : ℕ) (o : Option ℕ) → place_below count o ≡ Some k → k < count
below_count count k None is = absurd (cc)
below_count count k (Some j) is = by_bool (nat_lt j count) refl is
  where
    by_bool : (b : Bool) → nat_lt j count ≡ b → (if b then Some j else None) ≡ Some k → k < count
    by_bool true less same = let e : j ≡ k = cc in omega (arith, ltb-true _ _ less, e)
    by_bool false less same = absurd (cc)

wanted_below : (l : LinkView) (now k : ℕ) → wanted l now ≡ Some k → k < l.out
wanted_below l now k is = by_bool l.manual is
  where
    by_bool : (b : Bool) → (if b then asked_again l else late l now) ≡ Some k → k < l.out
    by_bool true same =
        let at = below_count (length (take l.out l.queue)) k l.again same in
        omega (arith, at, length-take l.out l.queue)
    by_bool false same =
        let q : Queued = record { unit = the_end; at = 0; count = 0 } in
        let at : k < length (take l.out l.queue) = (position-Some (λ q. due q.at now) (take l.out l.queue) k q same).0 in
        omega (arith, at, length-take l.out l.queue)

pub late_below : (l : LinkView) (now k : ℕ) → late_if_working l now ≡ Some k → k < l.out
late_below l now k is =
    ⊎_elim
    (λ (e : is_working l.state ≡ true). wanted_below l now k (sym (cond-true _ _ _ e) ∙ is))
    (λ (e : is_working l.state ≡ false). absurd (cc (sym (cond-false (is_working l.state) (wanted l now) None e) ∙ is)))
    (cases_Bool (is_working l.state))

late_speaks : (l : LinkView) (now : ℕ) (o : Option ℕ) (c d : End) → PresentEnd' l c d → late_if_working l now ≡ o → Speaking l (poll_late l now o) c d
late_speaks l now None c d s is = ack_speaks l now c d s
late_speaks l now (Some k) c d s is = again_speaks l now k (slice_get l.queue k) c d s (late_below l now k is) refl

next_speaks : (l : LinkView) (now : ℕ) (c d : End) → PresentEnd' l c d → Speaking l (poll_unit l now) c d
next_speaks l now c d s =
    cond_both {A = Option OutgoingView × LinkView} (may_send l) (sends l now (slice_get l.queue l.out)) (poll_again l now) (λ r. Speaking l r c d)
    (λ yes.
    let rest = (and_parts _ _ (and_parts _ _ (and_parts _ _ yes).1).1) in
    unit_speaks l now (slice_get l.queue l.out) c d s (ltb-true _ _ rest.0) (ltb-true _ _ (and_parts _ _ rest.1).0) refl)
    (λ no. late_speaks l now (late_if_working l now) c d s refl)

reply_speaks : (l : LinkView) (now : ℕ) (c d : End) → PresentEnd' l c d → Speaking l (poll_reply l now) c d
reply_speaks l now c d s =
    cond_both {A = Option OutgoingView × LinkView} l.owes_reply (replies l now) (poll_confirm l now) (λ r. Speaking l r c d)
    (λ yes. record { to = says_plain l (replies l now).1 c d Sents.Reply false 0 l.peer s refl (λ e. omega (arith, e)); queued = refl; state = inl refl })
    (λ no.
    cond_both {A = Option OutgoingView × LinkView} l.owes_confirm (confirms l now) (poll_unit l now) (λ r. Speaking l r c d)
    (λ yes. record { to = says_plain l (confirms l now).1 c d Sents.Confirm false 255 l.peer s refl (λ e. omega (arith, e)); queued = refl; state = inl refl })
    (λ no. next_speaks l now c d s))

request_speaks : (l : LinkView) (now : ℕ) (c d : End) → PresentEnd' l c d → Speaking l (poll_request l now) c d
request_speaks l now c d s =
    cond_both {A = Option OutgoingView × LinkView} ((l.asked_count == 0) || due l.asked_at now) (requests_or_lost l now) (None, l) (λ r. Speaking l r c d)
    (λ yes. cond_both {A = Option OutgoingView × LinkView} (nat_le most_sends l.asked_count) (None, lost l) (requests l now) (λ r. Speaking l r c d)
    (λ ten. lost_speaks l c d s) (λ fewer. record { to = says_plain l (requests l now).1 c d Sents.Request true 0 65535 s refl (λ e. omega (arith, e)); queued = refl; state = inl refl }))
    (λ no. none_speaks l c d s)

pub speaks_at : (st : State) (l : LinkView) (now : ℕ) (c d : End) → PresentEnd' l c d → Speaking l (poll_at st l now) c d
speaks_at S.Opening l now c d s = request_speaks l now c d s
speaks_at S.Live l now c d s = reply_speaks l now c d s
speaks_at S.Ending l now c d s = reply_speaks l now c d s
speaks_at S.PeerEnded l now c d s = reply_speaks l now c d s
speaks_at S.Confirmed l now c d s = reply_speaks l now c d s
speaks_at S.Lost l now c d s = none_speaks l c d s

pub polls : (l : LinkView) (now : ℕ) (c d : End) → Follows l c d → AreSound c d → Polled l now c d
polls l now c d f line =
    let r : Option OutgoingView × LinkView = poll_link l now in
    let s = speaks_at l.state l now c d (record { tracks = f.tracks; line = line }) in
    record {
      to = s.to;
      open' = λ e. elim s.state [
        | inl same ↦ s.queued ∙ f.open' (ap may_end (sym same) ∙ e)
        | inr gone ↦ absurd (cc (sym (ap may_end gone) ∙ e))
      ];
    }
