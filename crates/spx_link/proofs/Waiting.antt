-- Before a link is due every poll is quiet, and from then on none is.
use Rattle.std.proofs.Common.{◌≡◌, ℕ, zero, suc, ◌+◌, ◌^◌, ◌<◌, ◌≤◌, Bool, true, false, cond, if◌then◌else◌, ◌==◌, ◌&&◌, ◌||◌, not, nat_le, nat_lt, refl, ap, sym, subst, ◌∙◌, List, [], ◌∷◌, ◌++◌, length, take, Option, None, Some, slice_get, get_or, position, length-take, arith}
use Rattle.std.specs.List.{prefix_len, position_or_len}
use Rattle.std.proofs.lemmas.Bool.{and_parts, cond-true, cond-false}
use Rattle.std.proofs.lemmas.Bool.Decides.{nat_tests}
use Rattle.std.proofs.lemmas.List.{take_more}
use Rattle.spx_link.specs.declared.queue.Queued.{Queued}
use Rattle.spx_link.specs.declared.outgoing.Sent.TheVariants as Sents
use Rattle.spx_link.specs.declared.state.State.{State}
use Rattle.spx_link.specs.declared.state.State.TheVariants as States
use Rattle.spx_link.specs.Limits.{most_sends}
use Rattle.spx_link.specs.LinkView.{LinkView, due, is_working}
use Rattle.spx_link.specs.SequenceMarks.{mark}
use Rattle.spx_link.specs.Poll as P
use Rattle.spx_link.specs.Poll.{OutgoingView, poll_link, poll_at}
use Rattle.spx_link.specs.Due.{IsNextDue, earlier, earliest, again_at, owes_now, probe_due, sent_due, asked_due, again_due, working_due, joined_due, request_due, due_at, due_link}
use Rattle.spx_link.specs.Queues.{IsSince}
use Rattle.spx_link.proofs.Carrying.{by_test, below_out}

-- ---- moments of sent units

pub at_least_less : (m n : ℕ) (qs : List Queued) → m ≤ n → IsSince n qs → IsSince m qs
at_least_less m n [] le a = tt
at_least_less m n (q ∷ qs) le a =
    let here : n ≤ q.at = a.0 in
    (omega arith, at_least_less m n qs le a.1)

none_of : (qs : List Queued) → earliest qs ≡ None → qs ≡ []
none_of [] e = refl
none_of (q ∷ qs) e = cc

some_is : {A : Type 0} (x y : A) → Some x ≡ Some y → x ≡ y
some_is x y e = cc

earliest_least_at : (q : Queued) (qs : List Queued) (t : ℕ) (r : Option ℕ) → ((n : ℕ) → earliest qs ≡ Some n → IsSince n qs) → earliest qs ≡ r → earlier q.at r ≡ t → IsSince t (q ∷ qs)
earliest_least_at q qs t None rest none is = (omega arith, subst (IsSince t) (sym (none_of qs none)) tt)
earliest_least_at q qs t (Some n) rest some is = (omega arith, at_least_less t n qs (omega arith) (rest n some))

earliest_least : (qs : List Queued) (t : ℕ) → earliest qs ≡ Some t → IsSince t qs
earliest_least [] t e = absurd (cc)
earliest_least (q ∷ qs) t e = earliest_least_at q qs t (earliest qs) (λ n some. earliest_least qs n some) refl (some_is (earlier q.at (earliest qs)) t e)

abbrev pub waits : ℕ → Queued → Bool
waits now q = not (due q.at now)

pub all_wait : (now n : ℕ) (qs : List Queued) → now < n + 500 → IsSince n qs → prefix_len (waits now) qs ≡ length qs
all_wait now n [] less a = refl
all_wait now n (q ∷ qs) less a =
    let here : n ≤ q.at = a.0 in
    let goes : waits now q ≡ true = grind (arith, nat_tests) in
    let rest : prefix_len (waits now) qs ≡ length qs = all_wait now n qs less a.1 in
    ap (λ (b : Bool). cond b (1 + prefix_len (waits now) qs) 0) goes ∙ omega arith

one_at : (now t : ℕ) (q : Queued) (qs : List Queued) (r : Option ℕ) → t + 500 ≤ now → (earliest qs ≡ Some t → prefix_len (waits now) qs < length qs) → earliest qs ≡ r → earlier q.at r ≡ t → (b : Bool) → waits now q ≡ b → cond b (1 + prefix_len (waits now) qs) 0 < length (q ∷ qs)
one_at now t q qs r past rest is least false goes = omega arith
one_at now t q qs None past rest none least true goes =
    let later : now < q.at + 500 = grind (arith, nat_tests) in
    absurd (omega arith)
one_at now t q qs (Some n) past rest some least true goes =
    let later : now < q.at + 500 = grind (arith, nat_tests) in
    let same : n ≡ t = omega arith in
    let fewer : prefix_len (waits now) qs < length qs = rest (some ∙ ap Some same) in
    omega arith

one_waits_not : (now t : ℕ) (qs : List Queued) → t + 500 ≤ now → earliest qs ≡ Some t → prefix_len (waits now) qs < length qs
one_waits_not now t [] past e = absurd (cc)
one_waits_not now t (q ∷ qs) past e = one_at now t q qs (earliest qs) past (λ some. one_waits_not now t qs past some) refl (some_is (earlier q.at (earliest qs)) t e) (waits now q) refl

earlier_turns : (a b : ℕ) (r : Option ℕ) → earlier a (Some (earlier b r)) ≡ earlier b (Some (earlier a r))
earlier_turns a b None = omega arith
earlier_turns a b (Some n) = omega arith

-- the last of a list of units is one more
pub earliest_more : (qs : List Queued) (q : Queued) → earliest (qs ++ q ∷ []) ≡ Some (earlier q.at (earliest qs))
earliest_more [] q = refl
earliest_more (p ∷ qs) q = ap (λ (r : Option ℕ). Some (earlier p.at r)) (earliest_more qs q) ∙ ap Some (earlier_turns p.at q.at (earliest qs))

pub earliest_next : (qs : List Queued) (i : ℕ) (q : Queued) → i < length qs → q ≡ get_or qs i q → earliest (take (i + 1) qs) ≡ Some (earlier q.at (earliest (take i qs)))
earliest_next qs i q less at =
    ap earliest (take_more qs i q less) ∙ ap (λ (p : Queued). earliest (take i qs ++ p ∷ [])) (sym at) ∙ earliest_more (take i qs) q

abbrev late_in : ℕ → List Queued → Option ℕ
late_in now qs = position (λ (q : Queued). due q.at now) qs

not_late : (now t : ℕ) (qs : List Queued) → now < t + 500 → earliest qs ≡ Some t → late_in now qs ≡ None
not_late now t qs less e =
    let all : position_or_len (λ (q : Queued). due q.at now) qs ≡ length qs = all_wait now t qs less (earliest_least qs t e) in
    let past : nat_lt (position_or_len (λ (q : Queued). due q.at now) qs) (length qs) ≡ false = grind (arith, nat_tests) in
    ap (λ (b : Bool). cond b (Some (position_or_len (λ (q : Queued). due q.at now) qs)) None) past

is_late : (now t : ℕ) (qs : List Queued) → t + 500 ≤ now → earliest qs ≡ Some t → late_in now qs ≡ Some (prefix_len (waits now) qs)
is_late now t qs past e =
    let one : position_or_len (λ (q : Queued). due q.at now) qs < length qs = one_waits_not now t qs past e in
    let here : nat_lt (position_or_len (λ (q : Queued). due q.at now) qs) (length qs) ≡ true = grind (arith, nat_tests) in
    ap (λ (b : Bool). cond b (Some (position_or_len (λ (q : Queued). due q.at now) qs)) None) here

none_late : (now : ℕ) (qs : List Queued) → earliest qs ≡ None → late_in now qs ≡ None
none_late now qs e = ap (late_in now) (none_of qs e)

-- ---- what acts

abbrev Acts : LinkView → Option OutgoingView × LinkView → Type 0
Acts l r = r ≡ (None, l) → ⊥

gives : (l m : LinkView) (o : OutgoingView) → Acts l (Some o, m)
gives l m o e =
    let never : Some o ≡ None = ap (λ (r : Option OutgoingView × LinkView). r.0) e in
    absurd (cc)

ends : (l : LinkView) → (l.state ≡ States.Lost → ⊥) → Acts l (None, P.lost l)
ends l live e = live (sym (ap (λ (r : Option OutgoingView × LinkView). r.1.state) e))

again_acts : (l : LinkView) (now place : ℕ) (o : Option Queued) (q : Queued) → (l.state ≡ States.Lost → ⊥) → o ≡ Some q → Acts l (P.sends_again_or_lost l now place o)
again_acts l now place None q live e = absurd (cc)
again_acts l now place (Some p) q live e =
    by_test (Acts l) (nat_le most_sends p.count) (None, P.lost l) (P.sends_again l now place p) (λ _. ends l live) (λ _. gives l (P.sends_again l now place p).1 (P.with_unit l Sents.Again p.unit (mark (P.base l + place))))

-- a place below the length is there
there_below : (qs : List Queued) (k : ℕ) → k < length qs → slice_get qs k ≡ None → ⊥
there_below [] k less none = omega arith
there_below (q ∷ qs) zero less none = absurd (cc)
there_below (q ∷ qs) (suc k) less none = there_below qs k (omega arith) none

late_below : (n k m : ℕ) (b : Bool) → nat_lt n m ≡ b → cond b (Some n) None ≡ Some k → k < m
late_below n k m true less some =
    let same : n ≡ k = some_is n k some in
    grind (arith, nat_tests)
late_below n k m false less some = absurd (cc)

late_within : (now : ℕ) (qs : List Queued) (k : ℕ) → late_in now qs ≡ Some k → k < length qs
late_within now qs k late =
    late_below (position_or_len (λ (q : Queued). due q.at now) qs) k (length qs) (nat_lt (position_or_len (λ (q : Queued). due q.at now) qs) (length qs)) refl late

late_acts_at : (l : LinkView) (now place : ℕ) (o : Option Queued) → (l.state ≡ States.Lost → ⊥) → (o ≡ None → ⊥) → Acts l (P.sends_again_or_lost l now place o)
late_acts_at l now place None live there = absurd (there refl)
late_acts_at l now place (Some q) live there = again_acts l now place (Some q) q live refl

-- ---- a link that reads its peer

abbrev Quiet : LinkView → Option OutgoingView × LinkView → Type 0
Quiet l r = r ≡ (None, l)

owing_none : (a b c d : Bool) → (a || (b || (c || d))) ≡ false → (a ≡ false) × (b ≡ false) × (c ≡ false) × (d ≡ false)
owing_none true b c d e = cc
owing_none false true c d e = cc
owing_none false false true d e = cc
owing_none false false false true e = cc
owing_none false false false false e = (refl, refl, refl, refl)

left_false : (a b : Bool) → (a || b) ≡ true → a ≡ false → b ≡ true
left_false true b e f = cc
left_false false b e f = e

unlike : (b : Bool) → b ≡ false → b ≡ true → ⊥
unlike true e f = cc
unlike false e f = cc

probe_waits : (l : LinkView) (now : ℕ) → P.may_probe l now ≡ false → Quiet l (P.poll_probe l now)
probe_waits l now e =
    by_test (Quiet l) (P.may_probe l now) (P.probes_or_lost l now) (None, l) (λ yes. absurd (unlike (P.may_probe l now) e yes)) (λ _. refl)

late_waits : (l : LinkView) (now : ℕ) (o : Option ℕ) → o ≡ None → l.owes_ack ≡ false → P.may_probe l now ≡ false → Quiet l (P.poll_late l now o)
late_waits l now None none ack probe =
    by_test (Quiet l) l.owes_ack (P.acknowledges l now) (P.poll_probe l now) (λ yes. absurd (unlike l.owes_ack ack yes)) (λ _. probe_waits l now probe)
late_waits l now (Some place) none ack probe = absurd (cc)

reply_waits : (l : LinkView) (now : ℕ) → owes_now l ≡ false → P.late_if_working l now ≡ None → P.may_probe l now ≡ false → Quiet l (P.poll_reply l now)
reply_waits l now owes late probe =
    let parts = owing_none l.owes_reply l.owes_confirm (P.may_send l) l.owes_ack owes in
    by_test (Quiet l) l.owes_reply (P.replies l now) (P.poll_confirm l now) (λ yes. absurd (unlike l.owes_reply parts.0 yes))
    (λ _. by_test (Quiet l) l.owes_confirm (P.confirms l now) (P.poll_unit l now) (λ yes. absurd (unlike l.owes_confirm parts.1 yes))
    (λ _. by_test (Quiet l) (P.may_send l) (P.sends l now (slice_get l.queue l.out)) (P.poll_again l now) (λ yes. absurd (unlike (P.may_send l) parts.2 yes))
    (λ _. late_waits l now (P.late_if_working l now) late parts.3 probe)))

-- a unit that waits is there
sends_acts : (l : LinkView) (now : ℕ) (o : Option Queued) → slice_get l.queue l.out ≡ o → P.is_waiting l ≡ true → Acts l (P.sends l now o)
sends_acts l now (Some q) at waiting = gives l (P.sends l now (Some q)).1 (P.with_unit l Sents.Unit q.unit l.next)
sends_acts l now None at waiting =
    let less : l.out < length l.queue = grind (arith, nat_tests) in
    absurd (there_below l.queue l.out less at)

may_waits : (l : LinkView) → P.may_send l ≡ true → P.is_waiting l ≡ true
may_waits l may =
    let more = (and_parts (is_working l.state) (P.is_waiting l && (nat_lt 0 l.room && (nat_lt l.out 8192 && nat_lt l.out l.window))) may).1 in
    (and_parts (P.is_waiting l) (nat_lt 0 l.room && (nat_lt l.out 8192 && nat_lt l.out l.window)) more).0

hand_wanted : (l : LinkView) (now : ℕ) → l.manual ≡ true → P.wanted l now ≡ P.asked_again l
hand_wanted l now hand = cond-true l.manual (P.asked_again l) (P.late l now) hand

clock_wanted : (l : LinkView) (now : ℕ) → l.manual ≡ false → P.wanted l now ≡ P.late l now
clock_wanted l now clock = cond-false l.manual (P.asked_again l) (P.late l now) clock

wanted_within : (l : LinkView) (now place : ℕ) → P.wanted l now ≡ Some place → place < length (take l.out l.queue)
wanted_within l now place e = by_bool l.manual e
  where
    by_bool : (b : Bool) → (if b then P.asked_again l else P.late l now) ≡ Some place → place < length (take l.out l.queue)
    by_bool true same = below_out (length (take l.out l.queue)) l.again place same
    by_bool false same = late_within now (take l.out l.queue) place same

late_found : (l : LinkView) (now place : ℕ) → P.wanted l now ≡ Some place → slice_get l.queue place ≡ None → ⊥
late_found l now place late none =
    let less : place < length (take l.out l.queue) = wanted_within l now place late in
    there_below l.queue place (omega (arith, length-take l.out l.queue)) none

late_acts : (l : LinkView) (now : ℕ) (o : Option ℕ) → (l.state ≡ States.Lost → ⊥) → P.wanted l now ≡ o → (o ≡ None → l.owes_ack ≡ true) → Acts l (P.poll_late l now o)
late_acts l now None live at ack =
    by_test (Acts l) l.owes_ack (P.acknowledges l now) (P.poll_probe l now) (λ _. gives l (P.acknowledges l now).1 (P.plain l Sents.Ack false 0 l.peer)) (λ no. absurd (unlike l.owes_ack no (ack refl)))
late_acts l now (Some place) live at ack = late_acts_at l now place (slice_get l.queue place) live (late_found l now place at)

ack_acts : (l : LinkView) (now : ℕ) → l.owes_ack ≡ true → Acts l (P.poll_ack l now)
ack_acts l now ack =
    by_test (Acts l) l.owes_ack (P.acknowledges l now) (P.poll_probe l now) (λ _. gives l (P.acknowledges l now).1 (P.plain l Sents.Ack false 0 l.peer)) (λ no. absurd (unlike l.owes_ack no ack))

poll_again_acts : (l : LinkView) (now : ℕ) → (l.state ≡ States.Lost → ⊥) → l.owes_ack ≡ true → Acts l (P.poll_again l now)
poll_again_acts l now live ack =
    by_test (λ (o : Option ℕ). Acts l (P.poll_late l now o)) (is_working l.state) (P.wanted l now) None
    (λ _. late_acts l now (P.wanted l now) live refl (λ _. ack))
    (λ _. ack_acts l now ack)

reply_acts : (l : LinkView) (now : ℕ) → (l.state ≡ States.Lost → ⊥) → owes_now l ≡ true → Acts l (P.poll_reply l now)
reply_acts l now live owes =
    by_test (Acts l) l.owes_reply (P.replies l now) (P.poll_confirm l now) (λ _. gives l (P.replies l now).1 (P.plain l Sents.Reply false 0 l.peer))
    (λ reply. by_test (Acts l) l.owes_confirm (P.confirms l now) (P.poll_unit l now) (λ _. gives l (P.confirms l now).1 (P.plain l Sents.Confirm false 255 l.peer))
    (λ confirm. by_test (Acts l) (P.may_send l) (P.sends l now (slice_get l.queue l.out)) (P.poll_again l now)
    (λ may. sends_acts l now (slice_get l.queue l.out) refl (may_waits l may))
    (λ no. poll_again_acts l now live (left_false (P.may_send l) l.owes_ack (left_false l.owes_confirm (P.may_send l || l.owes_ack) (left_false l.owes_reply (l.owes_confirm || (P.may_send l || l.owes_ack)) owes reply) confirm) no))))

-- where nothing is owed, what comes first is the unit that is late, and then the probe
late_alone : (l : LinkView) (now place : ℕ) → (l.state ≡ States.Lost → ⊥) → owes_now l ≡ false → P.late_if_working l now ≡ Some place → P.wanted l now ≡ Some place → Acts l (P.poll_reply l now)
late_alone l now place live owes late at =
    let parts = owing_none l.owes_reply l.owes_confirm (P.may_send l) l.owes_ack owes in
    by_test (Acts l) l.owes_reply (P.replies l now) (P.poll_confirm l now) (λ yes. absurd (unlike l.owes_reply parts.0 yes))
    (λ _. by_test (Acts l) l.owes_confirm (P.confirms l now) (P.poll_unit l now) (λ yes. absurd (unlike l.owes_confirm parts.1 yes))
    (λ _. by_test (Acts l) (P.may_send l) (P.sends l now (slice_get l.queue l.out)) (P.poll_again l now) (λ yes. absurd (unlike (P.may_send l) parts.2 yes))
    (λ _. let R : Option ℕ → Type 0 = λ o. Acts l (P.poll_late l now o) in
    subst R (sym late) (late_acts_at l now place (slice_get l.queue place) live (late_found l now place at)))))

probe_acts : (l : LinkView) (now : ℕ) → (l.state ≡ States.Lost → ⊥) → owes_now l ≡ false → P.late_if_working l now ≡ None → P.may_probe l now ≡ true → Acts l (P.poll_reply l now)
probe_acts l now live owes late may =
    let parts = owing_none l.owes_reply l.owes_confirm (P.may_send l) l.owes_ack owes in
    by_test (Acts l) l.owes_reply (P.replies l now) (P.poll_confirm l now) (λ yes. absurd (unlike l.owes_reply parts.0 yes))
    (λ _. by_test (Acts l) l.owes_confirm (P.confirms l now) (P.poll_unit l now) (λ yes. absurd (unlike l.owes_confirm parts.1 yes))
    (λ _. by_test (Acts l) (P.may_send l) (P.sends l now (slice_get l.queue l.out)) (P.poll_again l now) (λ yes. absurd (unlike (P.may_send l) parts.2 yes))
    (λ _. let R : Option ℕ → Type 0 = λ o. Acts l (P.poll_late l now o) in
    subst R (sym late) (by_test (Acts l) l.owes_ack (P.acknowledges l now) (P.poll_probe l now) (λ yes. absurd (unlike l.owes_ack parts.3 yes))
    (λ _. by_test (Acts l) (P.may_probe l now) (P.probes_or_lost l now) (None, l)
    (λ _. by_test (Acts l) (nat_le (P.most_probes l) l.probes) (None, P.lost l) (P.probes_once l now) (λ _. ends l live) (λ _. gives l (P.probes_once l now).1 (P.plain l Sents.Probe true 0 l.peer)))
    (λ no. absurd (unlike (P.may_probe l now) no may)))))))

asks : (l : LinkView) (now : ℕ) → (l.state ≡ States.Lost → ⊥) → Acts l (P.requests_or_lost l now)
asks l now live =
    by_test (Acts l) (nat_le most_sends l.asked_count) (None, P.lost l) (P.requests l now) (λ _. ends l live) (λ _. gives l (P.requests l now).1 (P.plain l Sents.Request true 0 65535))

or_left : (a b : Bool) → (a || b) ≡ false → a ≡ false
or_left true b e = cc
or_left false b e = refl

or_right : (a b : Bool) → (a || b) ≡ false → b ≡ false
or_right true b e = cc
or_right false b e = e

-- ---- late units and probes

late_by : (l : LinkView) (now : ℕ) (b : Bool) (o : Option ℕ) → P.wanted l now ≡ o → b ≡ true → (if b then P.wanted l now else None) ≡ o
late_by l now true o e f = e
late_by l now false o e f = absurd (cc)

working_wanted : (l : LinkView) (now : ℕ) → is_working l.state ≡ true → P.late_if_working l now ≡ P.wanted l now
working_wanted l now working = late_by l now (is_working l.state) (P.wanted l now) refl working

idle_by : (l : LinkView) (now : ℕ) (b : Bool) → b ≡ false → (if b then P.wanted l now else None) ≡ None
idle_by l now true e = absurd (cc)
idle_by l now false e = refl

idle_late : (l : LinkView) (now : ℕ) → is_working l.state ≡ false → P.late_if_working l now ≡ None
idle_late l now idle = idle_by l now (is_working l.state) idle

none_by : (l : LinkView) (now : ℕ) (b : Bool) → P.wanted l now ≡ None → (if b then P.wanted l now else None) ≡ None
none_by l now true e = e
none_by l now false e = refl

none_late_now : (l : LinkView) (now : ℕ) → l.manual ≡ false → earliest (take l.out l.queue) ≡ None → P.late_if_working l now ≡ None
none_late_now l now clock none = none_by l now (is_working l.state) (clock_wanted l now clock ∙ none_late now (take l.out l.queue) none)

no_first : (a b : Bool) → a ≡ false → (a && b) ≡ false
no_first true b e = absurd (cc)
no_first false b e = refl

no_probe_by : (working waiting room out late : Bool) → (waiting && room) ≡ false → (working && (waiting && (room && (out && late)))) ≡ false
no_probe_by false waiting room out late e = refl
no_probe_by true false room out late e = refl
no_probe_by true true false out late e = refl
no_probe_by true true true out late e = absurd (cc)

no_probe : (l : LinkView) (now : ℕ) → (P.is_waiting l && (l.room == 0)) ≡ false → P.may_probe l now ≡ false
no_probe l now e = no_probe_by (is_working l.state) (P.is_waiting l) (l.room == 0) (l.out == 0) (due l.spoke now) e

idle_probe : (l : LinkView) (now : ℕ) → is_working l.state ≡ false → P.may_probe l now ≡ false
idle_probe l now idle = no_first (is_working l.state) (P.is_waiting l && ((l.room == 0) && ((l.out == 0) && due l.spoke now))) idle

last_false : (working waiting room out late : Bool) → late ≡ false → (working && (waiting && (room && (out && late)))) ≡ false
last_false false waiting room out late e = refl
last_false true false room out late e = refl
last_false true true false out late e = refl
last_false true true true false late e = refl
last_false true true true true late e = e

early_probe : (l : LinkView) (now : ℕ) → now < l.spoke + 500 → P.may_probe l now ≡ false
early_probe l now less =
    let early : due l.spoke now ≡ false = grind (arith, nat_tests) in
    last_false (is_working l.state) (P.is_waiting l) (l.room == 0) (l.out == 0) (due l.spoke now) early

out_false : (working waiting room out late : Bool) → out ≡ false → (working && (waiting && (room && (out && late)))) ≡ false
out_false false waiting room out late e = refl
out_false true false room out late e = refl
out_false true true false out late e = refl
out_false true true true false late e = refl
out_false true true true true late e = absurd (cc)

none_out : (n at : ℕ) (qs : List Queued) → earliest (take n qs) ≡ Some at → (n == 0) ≡ false
none_out zero at qs e = absurd (cc)
none_out (suc n) at qs e = grind (arith, nat_tests)

out_no_probe : (l : LinkView) (now at : ℕ) → earliest (take l.out l.queue) ≡ Some at → P.may_probe l now ≡ false
out_no_probe l now at e = out_false (is_working l.state) (P.is_waiting l) (l.room == 0) (l.out == 0) (due l.spoke now) (none_out l.out at l.queue e)

all_true : (working waiting room out late : Bool) → working ≡ true → (waiting && room) ≡ true → out ≡ true → late ≡ true → (working && (waiting && (room && (out && late)))) ≡ true
all_true true true true true true a b c d = refl
all_true false waiting room out late a b c d = absurd (cc)
all_true true false room out late a b c d = absurd (cc)
all_true true true false out late a b c d = absurd (cc)
all_true true true true false late a b c d = absurd (cc)
all_true true true true true false a b c d = absurd (cc)

-- where none is outstanding and one waits
zero_out : (n : ℕ) (qs : List Queued) → earliest (take n qs) ≡ None → n < length qs → (n == 0) ≡ true
zero_out zero qs e less = refl
zero_out (suc n) [] e less = absurd (omega arith)
zero_out (suc n) (q ∷ qs) e less = absurd (cc)

late_probe : (l : LinkView) (now : ℕ) → is_working l.state ≡ true → earliest (take l.out l.queue) ≡ None → (P.is_waiting l && (l.room == 0)) ≡ true → l.spoke + 500 ≤ now → P.may_probe l now ≡ true
late_probe l now working none waiting past =
    let late : due l.spoke now ≡ true = grind (arith, nat_tests) in
    let more : P.is_waiting l ≡ true = (and_parts (P.is_waiting l) (l.room == 0) waiting).0 in
    let less : l.out < length l.queue = grind (arith, nat_tests) in
    all_true (is_working l.state) (P.is_waiting l) (l.room == 0) (l.out == 0) (due l.spoke now) working waiting (zero_out l.out l.queue none less) late

-- ---- the moment

-- for a rule of poll
abbrev Says : LinkView → (ℕ → Option OutgoingView × LinkView) → Option ℕ → Type 0
Says l f None = (now : ℕ) → now < 2 ^ 64 → Quiet l (f now)
Says l f (Some t) = ((now : ℕ) → now < t → Quiet l (f now)) × ((now : ℕ) → t ≤ now → Acts l (f now))

at_once : (l : LinkView) (f : ℕ → Option OutgoingView × LinkView) → ((now : ℕ) → Acts l (f now)) → Says l f (Some 0)
at_once l f acts = (λ now less. absurd (omega arith), λ now _. acts now)

-- 500 ms after a moment
from_then : (l : LinkView) (f : ℕ → Option OutgoingView × LinkView) (at : ℕ) → ((now : ℕ) → now < at + 500 → Quiet l (f now)) → ((now : ℕ) → at + 500 ≤ now → Acts l (f now)) → Says l f (again_at at)
from_then l f at quiet acts =
    by_test (Says l f) (nat_lt (at + 500) (2 ^ 64)) (Some (at + 500)) None
    (λ _. (quiet, acts))
    (λ far now less. quiet now (grind (arith, nat_tests)))

request_says : (l : LinkView) → (l.state ≡ States.Lost → ⊥) → Says l (P.poll_request l) (request_due l)
request_says l live =
    by_test (Says l (P.poll_request l)) (l.asked_count == 0) (Some 0) (again_at l.asked_at)
    (λ first. at_once l (P.poll_request l) (λ now. by_test (Acts l) ((l.asked_count == 0) || due l.asked_at now) (P.requests_or_lost l now) (None, l) (λ _. asks l now live) (λ no. absurd (unlike (l.asked_count == 0) (or_left (l.asked_count == 0) (due l.asked_at now) no) first))))
    (λ more. from_then l (P.poll_request l) l.asked_at
    (λ now less. by_test (Quiet l) ((l.asked_count == 0) || due l.asked_at now) (P.requests_or_lost l now) (None, l)
    (λ yes. let late : due l.asked_at now ≡ true = left_false (l.asked_count == 0) (due l.asked_at now) yes more in
    let past : l.asked_at + 500 ≤ now = grind (arith, nat_tests) in
    absurd (omega arith))
    (λ _. refl))
    (λ now past. by_test (Acts l) ((l.asked_count == 0) || due l.asked_at now) (P.requests_or_lost l now) (None, l) (λ _. asks l now live)
    (λ no. let early : due l.asked_at now ≡ false = or_right (l.asked_count == 0) (due l.asked_at now) no in
    let before : now < l.asked_at + 500 = grind (arith, nat_tests) in
    absurd (omega arith))))

probe_says : (l : LinkView) → (l.state ≡ States.Lost → ⊥) → owes_now l ≡ false → is_working l.state ≡ true → earliest (take l.out l.queue) ≡ None → ((now : ℕ) → P.late_if_working l now ≡ None) → Says l (P.poll_reply l) (probe_due l)
probe_says l live owes working none quiet =
    by_test (Says l (P.poll_reply l)) (P.is_waiting l && (l.room == 0)) (again_at l.spoke) None
    (λ waits. from_then l (P.poll_reply l) l.spoke
    (λ now less. reply_waits l now owes (quiet now) (early_probe l now less))
    (λ now past. probe_acts l now live owes (quiet now) (late_probe l now working none waits past)))
    (λ no now _. reply_waits l now owes (quiet now) (no_probe l now no))

working_says : (l : LinkView) → (l.state ≡ States.Lost → ⊥) → owes_now l ≡ false → is_working l.state ≡ true → l.manual ≡ false → (o : Option ℕ) → earliest (take l.out l.queue) ≡ o → Says l (P.poll_reply l) (sent_due l o)
working_says l live owes working clock None e = probe_says l live owes working e (λ now. none_late_now l now clock e)
working_says l live owes working clock (Some at) e =
    from_then l (P.poll_reply l) at
    (λ now less. reply_waits l now owes (working_wanted l now working ∙ (clock_wanted l now clock ∙ not_late now at (take l.out l.queue) less e)) (out_no_probe l now at e))
    (λ now past.
    let found : P.wanted l now ≡ Some (prefix_len (waits now) (take l.out l.queue)) = clock_wanted l now clock ∙ is_late now at (take l.out l.queue) past e in
    late_alone l now (prefix_len (waits now) (take l.out l.queue)) live owes (working_wanted l now working ∙ found) found)

-- by hand
none_sent : (n : ℕ) (qs : List Queued) → (n == 0) ≡ true → earliest (take n qs) ≡ None
none_sent zero qs e = refl
none_sent (suc n) qs e =
    let no : (suc n == 0) ≡ false = grind (arith, nat_tests) in
    absurd (unlike (suc n == 0) no e)

hand_says : (l : LinkView) → (l.state ≡ States.Lost → ⊥) → owes_now l ≡ false → is_working l.state ≡ true → l.manual ≡ true → (o : Option ℕ) → P.asked_again l ≡ o → Says l (P.poll_reply l) (asked_due l o)
hand_says l live owes working hand (Some place) e =
    at_once l (P.poll_reply l) (λ now. late_alone l now place live owes (working_wanted l now working ∙ (hand_wanted l now hand ∙ e)) (hand_wanted l now hand ∙ e))
hand_says l live owes working hand None e =
    let quiet : (now : ℕ) → P.late_if_working l now ≡ None = λ now. working_wanted l now working ∙ (hand_wanted l now hand ∙ e) in
    by_test (Says l (P.poll_reply l)) (l.out == 0) (probe_due l) None
    (λ zero'. probe_says l live owes working (none_sent l.out l.queue zero') quiet)
    (λ some now _. reply_waits l now owes (quiet now) (out_false (is_working l.state) (P.is_waiting l) (l.room == 0) (l.out == 0) (due l.spoke now) some))

again_says : (l : LinkView) → (l.state ≡ States.Lost → ⊥) → owes_now l ≡ false → is_working l.state ≡ true → Says l (P.poll_reply l) (again_due l)
again_says l live owes working =
    by_test (Says l (P.poll_reply l)) l.manual (asked_due l (P.asked_again l)) (sent_due l (earliest (take l.out l.queue)))
    (λ hand. hand_says l live owes working hand (P.asked_again l) refl)
    (λ clock. working_says l live owes working clock (earliest (take l.out l.queue)) refl)

joined_says : (l : LinkView) → (l.state ≡ States.Lost → ⊥) → Says l (P.poll_reply l) (joined_due l)
joined_says l live =
    by_test (Says l (P.poll_reply l)) (owes_now l) (Some 0) (working_due l)
    (λ owes. at_once l (P.poll_reply l) (λ now. reply_acts l now live owes))
    (λ owes. by_test (Says l (P.poll_reply l)) (is_working l.state) (again_due l) None
    (λ working. again_says l live owes working)
    (λ idle now _. reply_waits l now owes (idle_late l now idle) (idle_probe l now idle)))

due_at_says : (s : State) (l : LinkView) → l.state ≡ s → Says l (poll_at s l) (due_at s l)
due_at_says States.Opening l is = request_says l (λ e. absurd (cc (is, e)))
due_at_says States.Live l is = joined_says l (λ e. absurd (cc (is, e)))
due_at_says States.Ending l is = joined_says l (λ e. absurd (cc (is, e)))
due_at_says States.PeerEnded l is = joined_says l (λ e. absurd (cc (is, e)))
due_at_says States.Confirmed l is = joined_says l (λ e. absurd (cc (is, e)))
due_at_says States.Lost l is = λ now _. refl

of_says : (l : LinkView) (o : Option ℕ) → Says l (poll_link l) o → IsNextDue l o
of_says l None says = says
of_says l (Some t) says = says

pub next_due : (l : LinkView) → IsNextDue l (due_link l)
next_due l = of_says l (due_link l) (due_at_says l.state l refl)
