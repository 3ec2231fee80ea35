-- What the states of a link say, and that each call keeps it.
use Rattle.std.proofs.Common.{◌≡◌, ℕ, ◌+◌, ◌%◌, ◌⊎◌, inl, inr, true, false, refl, ap, sym, subst, ◌∙◌, List, [], ◌∷◌, map, drop, length, suc, Option, None, Some, arith}
use Rattle.std.proofs.Math.Seq.{drop-nil}
use Rattle.ipx_wire.specs.declared.spx.packet.SpxHeader.{SpxHeader}
use Rattle.spx_link.specs.declared.numbers.Numbers.{Numbers}
use Rattle.spx_link.specs.declared.queue.Queued.{Queued}
use Rattle.spx_link.specs.declared.unit.Unit as units
use Rattle.spx_link.specs.declared.outgoing.Sent.{Sent}
use Rattle.spx_link.specs.declared.outgoing.Sent.TheVariants as Sents
use Rattle.spx_link.specs.declared.received.Received.{Received}
use Rattle.spx_link.specs.declared.received.Received.TheVariants as R
use Rattle.spx_link.specs.declared.state.State.{State}
use Rattle.spx_link.specs.declared.state.State.TheVariants as S
use Rattle.spx_link.specs.Courses.{is_open, is_unconnected, HasNoEndWhileOpen, IsWhole, IsWholeOnceConfirmed, HasTaken}
use Rattle.spx_link.specs.Effects.{IfRequest, numbers_after_poll, numbers_after_received, numbers_after_sent}
use Rattle.spx_link.specs.LinkView.{LinkView, numbers_of}
use Rattle.spx_link.specs.SequenceMarks.{mark, acknowledged}
use Rattle.spx_link.specs.Offer.{take_link, take_held, refusal}
use Rattle.spx_link.specs.Poll.{OutgoingView, poll_link}
use Rattle.spx_link.specs.Receive.{receive_link}
use Rattle.spx_link.specs.LinkTurns.{is_joined, state_after, newly_held}
use Rattle.spx_link.specs.Units.{unit_of}
use Rattle.spx_link.proofs.Carrying.{poll_says}
use Rattle.spx_link.proofs.Keeping.{poll_keeps, receive_keeps, opening_requests, lost_alone}
use Rattle.spx_link.proofs.Reading.{receive_says, take_says}

-- ---- polls

-- a poll keeps a state, or leaves one that is lost
poll_state : (l : LinkView) (now : ℕ) → ((poll_link l now).1.state ≡ l.state) ⊎ ((poll_link l now).1.state ≡ S.Lost)
poll_state l now = by (poll_says l now).state
  where
    by : ((poll_link l now).1.state ≡ l.state) ⊎ (((poll_link l now).1.state ≡ S.Lost) × ((poll_link l now).0 ≡ None)) → ((poll_link l now).1.state ≡ l.state) ⊎ ((poll_link l now).1.state ≡ S.Lost)
    by (inl same) = inl same
    by (inr lost) = inr lost.0

not_open : (s : State) → s ≡ S.Lost → is_open s ≡ true → ⊥
not_open s lost early = let e : is_open S.Lost ≡ true = ap is_open (sym lost) ∙ early in cc

open_polled : (s t : State) → (t ≡ s) ⊎ (t ≡ S.Lost) → is_open t ≡ true → is_open s ≡ true
open_polled s t (inl same) early = ap is_open (sym same) ∙ early
open_polled s t (inr lost) early = absurd (not_open t lost early)

pub no_end_polled : (l : LinkView) (now : ℕ) → HasNoEndWhileOpen l → HasNoEndWhileOpen (poll_link l now).1
no_end_polled l now has early = (poll_says l now).endings.end_queued ∙ has (open_polled l.state (poll_link l now).1.state (poll_state l now) early)

confirmed_polled : (s t : State) → (t ≡ s) ⊎ (t ≡ S.Lost) → t ≡ S.Confirmed → s ≡ S.Confirmed
confirmed_polled s t (inl same) is = sym same ∙ is
confirmed_polled s t (inr lost) is = absurd (cc (lost, is))

none_mapped : (qs : List Queued) → map unit_of qs ≡ [] → qs ≡ []
none_mapped [] e = refl
none_mapped (q ∷ qs) e = absurd (cc)

pub whole_polled : (l : LinkView) (now : ℕ) → IsWholeOnceConfirmed l → IsWholeOnceConfirmed (poll_link l now).1
whole_polled l now has is =
    let whole = has (confirmed_polled l.state (poll_link l now).1.state (poll_state l now) is) in
    record {
      end_queued = (poll_says l now).endings.end_queued ∙ whole.end_queued;
      queue = none_mapped (poll_link l now).1.queue ((poll_says l now).units.queued ∙ ap (map unit_of) whole.queue);
    }

-- what a poll leaves of the numbers that are read
abbrev read_part : Numbers → ℕ × ℕ
read_part n = (n.expected, n.held)

sent_part : (what : Sent) (n : Numbers) → read_part (numbers_after_sent what n) ≡ read_part n
sent_part Sents.Request n = refl
sent_part Sents.Reply n = refl
sent_part Sents.Confirm n = refl
sent_part Sents.Unit n = refl
sent_part Sents.Again n = refl
sent_part Sents.Ack n = refl
sent_part Sents.Probe n = refl

polled_part : (o : Option OutgoingView) (n : Numbers) → read_part (numbers_after_poll o n) ≡ read_part n
polled_part None n = refl
polled_part (Some o) n = sent_part o.what n

-- a fact of numbers: so many units were taken
abbrev Fits : ℕ → ℕ × ℕ → Type 0
Fits taken p = mark (taken + p.1) ≡ p.0

pub taken_polled : (l : LinkView) (now taken : ℕ) → HasTaken taken l → HasTaken taken (poll_link l now).1
taken_polled l now taken has =
    subst (Fits taken) (sym (ap read_part (poll_keeps l now).numbers ∙ polled_part (poll_link l now).0 (numbers_of l))) has

-- ---- packets

open_before : (a : Received) (s : State) → (a ≡ R.Joined → s ≡ S.Opening) → is_open (state_after a s) ≡ true → is_open s ≡ true
open_before R.Joined s joins early = ap is_open (joins refl)
open_before R.Kept s joins early = early
open_before R.Repeat s joins early = early
open_before R.Ahead s joins early = early
open_before R.OverAllocation s joins early = early
open_before R.System s joins early = early
open_before R.PeerEnded S.Opening joins early = absurd (cc)
open_before R.PeerEnded S.Live joins early = absurd (cc)
open_before R.PeerEnded S.Ending joins early = absurd (cc)
open_before R.PeerEnded S.PeerEnded joins early = absurd (cc)
open_before R.PeerEnded S.Confirmed joins early = absurd (cc)
open_before R.PeerEnded S.Lost joins early = absurd (cc)
open_before R.Confirmed s joins early = absurd (cc)
open_before R.Stranger s joins early = early

pub joins_from_opening : (l : LinkView) (h : SpxHeader) (body : List ℕ) → (receive_link l h body).0 ≡ R.Joined → l.state ≡ S.Opening
joins_from_opening l h body e = ((receive_keeps l h body).joins e).before

pub no_end_received : (l : LinkView) (h : SpxHeader) (body : List ℕ) → HasNoEndWhileOpen l → HasNoEndWhileOpen (receive_link l h body).1
no_end_received l h body has early =
    let course = (receive_says l h body).course in
    course.end_queued ∙ has (open_before (receive_link l h body).0 l.state (joins_from_opening l h body) (ap is_open (sym course.state) ∙ early))

-- an answer to a packet, after which a link is confirmed, is the confirmation, or it was confirmed before
confirmed_before : (a : Received) (s : State) → state_after a s ≡ S.Confirmed → (a ≡ R.Confirmed) ⊎ (s ≡ S.Confirmed)
confirmed_before R.Joined s is = absurd (cc)
confirmed_before R.Kept s is = inr is
confirmed_before R.Repeat s is = inr is
confirmed_before R.Ahead s is = inr is
confirmed_before R.OverAllocation s is = inr is
confirmed_before R.System s is = inr is
confirmed_before R.PeerEnded S.Opening is = absurd (cc)
confirmed_before R.PeerEnded S.Live is = absurd (cc)
confirmed_before R.PeerEnded S.Ending is = absurd (cc)
confirmed_before R.PeerEnded S.PeerEnded is = absurd (cc)
confirmed_before R.PeerEnded S.Confirmed is = inr refl
confirmed_before R.PeerEnded S.Lost is = absurd (cc)
confirmed_before R.Confirmed s is = inl refl
confirmed_before R.Stranger s is = inr is

unknown_or_not : (a : Received) → (a ≡ R.Stranger) ⊎ (a ≡ R.Stranger → ⊥)
unknown_or_not R.Joined = inr (λ e. cc)
unknown_or_not R.Kept = inr (λ e. cc)
unknown_or_not R.Repeat = inr (λ e. cc)
unknown_or_not R.Ahead = inr (λ e. cc)
unknown_or_not R.OverAllocation = inr (λ e. cc)
unknown_or_not R.System = inr (λ e. cc)
unknown_or_not R.PeerEnded = inr (λ e. cc)
unknown_or_not R.Confirmed = inr (λ e. cc)
unknown_or_not R.Stranger = inl refl

-- none is left where there was none
none_left : (l m : LinkView) (count : ℕ) → (a : Received) → (a ≡ R.Stranger) ⊎ (a ≡ R.Stranger → ⊥) → (a ≡ R.Stranger → m ≡ l) → ((a ≡ R.Stranger → ⊥) → m.queue ≡ drop count l.queue) → l.queue ≡ [] → m.queue ≡ []
none_left l m count a (inl is) unknown queue none = ap (λ (k : LinkView). k.queue) (unknown is) ∙ none
none_left l m count a (inr not_one) unknown queue none = queue not_one ∙ ap (drop count) none ∙ drop-nil {A = Queued} count

whole_by : (l m : LinkView) (a : Received) (h : SpxHeader) → IsWholeOnceConfirmed l → m.end_queued ≡ l.end_queued → (a ≡ R.Confirmed → (l.end_queued ≡ true) × (m.queue ≡ [])) → (l.queue ≡ [] → m.queue ≡ []) → (a ≡ R.Confirmed) ⊎ (l.state ≡ S.Confirmed) → IsWhole m
whole_by l m a h has same done left (inl now) = record { end_queued = same ∙ (done now).0; queue = (done now).1 }
whole_by l m a h has same done left (inr before) = record { end_queued = same ∙ (has before).end_queued; queue = left (has before).queue }

pub whole_received : (l : LinkView) (h : SpxHeader) (body : List ℕ) → IsWholeOnceConfirmed l → IsWholeOnceConfirmed (receive_link l h body).1
whole_received l h body has is =
    let course = (receive_says l h body).course in
    let a : Received = (receive_link l h body).0 in
    let m : LinkView = (receive_link l h body).1 in
    whole_by l m a h has course.end_queued (λ e. ((course.done e).end_queued, (course.done e).queue))
    (none_left l m (acknowledged l.next l.out h.ack) a (unknown_or_not a) course.unknown course.queue)
    (confirmed_before a l.state (sym course.state ∙ is))

mark_more : (a b e : ℕ) → a % 65536 ≡ e → (a + b) % 65536 ≡ (e + b) % 65536
mark_more a b e is = omega (arith, is)

received_fits : (a : Received) (count taken : ℕ) (h : SpxHeader) (n : Numbers) → Fits taken (read_part n) → Fits taken (read_part (numbers_after_received a count h n))
received_fits R.Joined count taken h n fits = fits
received_fits R.Kept count taken h n fits = omega (arith, mark_more (taken + n.held) count n.expected fits)
received_fits R.Repeat count taken h n fits = fits
received_fits R.Ahead count taken h n fits = fits
received_fits R.OverAllocation count taken h n fits = fits
received_fits R.System count taken h n fits = fits
received_fits R.PeerEnded count taken h n fits = omega (arith, mark_more (taken + n.held) count n.expected fits)
received_fits R.Confirmed count taken h n fits = fits
received_fits R.Stranger count taken h n fits = fits

pub taken_received : (l : LinkView) (h : SpxHeader) (body : List ℕ) (taken : ℕ) → HasTaken taken l → HasTaken taken (receive_link l h body).1
taken_received l h body taken has =
    subst (Fits taken) (sym (ap read_part (receive_keeps l h body).numbers)) (received_fits (receive_link l h body).0 (length (newly_held l h body)) taken h (numbers_of l) has)

-- ---- takes

taken_by : (l : LinkView) (us : List units.Unit) (u : units.Unit) (taken : ℕ) → l.held ≡ us → (take_held l us).0 ≡ Some u → HasTaken taken l → HasTaken (taken + 1) (take_held l us).1
taken_by l [] u taken is some has = absurd (cc)
taken_by l (v ∷ us) u taken is some has =
    let many : length l.held ≡ suc (length us) = ap length is in
    let same : taken + 1 + length us ≡ taken + length l.held = omega arith in
    ap mark same ∙ has

pub taken_taken : (l : LinkView) (u : units.Unit) (taken : ℕ) → (take_link l).0 ≡ Some u → HasTaken taken l → HasTaken (taken + 1) (take_link l).1
taken_taken l u taken = taken_by l l.held u taken refl

none_taken : (l : LinkView) (us : List units.Unit) → (take_held l us).0 ≡ None → (take_held l us).1 ≡ l
none_taken l [] none = refl
none_taken l (u ∷ us) none = absurd (cc)

pub no_take : (l : LinkView) → (take_link l).0 ≡ None → (take_link l).1 ≡ l
no_take l = none_taken l l.held

pub no_end_taken : (l : LinkView) → HasNoEndWhileOpen l → HasNoEndWhileOpen (take_link l).1
no_end_taken l has early = (take_says l).endings.end_queued ∙ has (ap is_open (sym (take_says l).state) ∙ early)

pub whole_taken : (l : LinkView) → IsWholeOnceConfirmed l → IsWholeOnceConfirmed (take_link l).1
whole_taken l has is =
    let whole = has (sym (take_says l).state ∙ is) in
    record {
      end_queued = (take_says l).endings.end_queued ∙ whole.end_queued;
      queue = none_mapped (take_link l).1.queue ((take_says l).queued ∙ ap (map unit_of) whole.queue);
    }

-- ---- offers

pub whole_offered : (l m : LinkView) → m.state ≡ l.state → refusal l.state ≡ None → IsWholeOnceConfirmed m
whole_offered l m same none is =
    let confirmed : l.state ≡ S.Confirmed = sym same ∙ is in
    let never : refusal S.Confirmed ≡ None = ap refusal (sym confirmed) ∙ none in
    absurd (cc)

-- ---- Opening

opening_polled : (s t : State) → (t ≡ s) ⊎ (t ≡ S.Lost) → t ≡ S.Opening → s ≡ S.Opening
opening_polled s t (inl same) is = sym same ∙ is
opening_polled s t (inr lost) is = absurd (cc (lost, is))

pub opening_stays : (l : LinkView) (now : ℕ) → (poll_link l now).1.state ≡ S.Opening → l.state ≡ S.Opening
opening_stays l now = opening_polled l.state (poll_link l now).1.state (poll_state l now)

joined_not_opening : (s : State) → is_joined s ≡ true → s ≡ S.Opening → ⊥
joined_not_opening s joined is = let never : is_joined S.Opening ≡ true = ap is_joined (sym is) ∙ joined in absurd (cc)

not_opening_after : (a : Received) (s : State) → (a ≡ R.Stranger → ⊥) → ((a ≡ R.Joined → ⊥) → is_joined s ≡ true) → state_after a s ≡ S.Opening → ⊥
not_opening_after R.Joined s read own is = absurd (cc)
not_opening_after R.Kept s read own is = joined_not_opening s (own (λ e. cc)) is
not_opening_after R.Repeat s read own is = joined_not_opening s (own (λ e. cc)) is
not_opening_after R.Ahead s read own is = joined_not_opening s (own (λ e. cc)) is
not_opening_after R.OverAllocation s read own is = joined_not_opening s (own (λ e. cc)) is
not_opening_after R.System s read own is = joined_not_opening s (own (λ e. cc)) is
not_opening_after R.PeerEnded S.Opening read own is = absurd (cc)
not_opening_after R.PeerEnded S.Live read own is = absurd (cc)
not_opening_after R.PeerEnded S.Ending read own is = absurd (cc)
not_opening_after R.PeerEnded S.PeerEnded read own is = absurd (cc)
not_opening_after R.PeerEnded S.Confirmed read own is = absurd (cc)
not_opening_after R.PeerEnded S.Lost read own is = absurd (cc)
not_opening_after R.Confirmed s read own is = absurd (cc)
not_opening_after R.Stranger s read own is = absurd (read refl)

pub never_opening : (l : LinkView) (h : SpxHeader) (body : List ℕ) → ((receive_link l h body).0 ≡ R.Stranger → ⊥) → (receive_link l h body).1.state ≡ S.Opening → ⊥
never_opening l h body read is =
    let says = receive_says l h body in
    not_opening_after (receive_link l h body).0 l.state read (λ other. (says.own read other).0) (sym says.course.state ∙ is)

joined_or_unknown : (a : Received) (s : State) → ((a ≡ R.Stranger → ⊥) → (a ≡ R.Joined → ⊥) → is_joined s ≡ true) → is_joined s ≡ false → (a ≡ R.Joined) ⊎ (a ≡ R.Stranger)
joined_or_unknown R.Joined s own apart = inl refl
joined_or_unknown R.Kept s own apart = let never : is_joined s ≡ true = own (λ e. cc) (λ e. cc) in absurd (cc)
joined_or_unknown R.Repeat s own apart = let never : is_joined s ≡ true = own (λ e. cc) (λ e. cc) in absurd (cc)
joined_or_unknown R.Ahead s own apart = let never : is_joined s ≡ true = own (λ e. cc) (λ e. cc) in absurd (cc)
joined_or_unknown R.OverAllocation s own apart = let never : is_joined s ≡ true = own (λ e. cc) (λ e. cc) in absurd (cc)
joined_or_unknown R.System s own apart = let never : is_joined s ≡ true = own (λ e. cc) (λ e. cc) in absurd (cc)
joined_or_unknown R.PeerEnded s own apart = let never : is_joined s ≡ true = own (λ e. cc) (λ e. cc) in absurd (cc)
joined_or_unknown R.Confirmed s own apart = let never : is_joined s ≡ true = own (λ e. cc) (λ e. cc) in absurd (cc)
joined_or_unknown R.Stranger s own apart = inr refl

joins_or_stays : (l m : LinkView) (a : Received) → (a ≡ R.Joined) ⊎ (a ≡ R.Stranger) → (a ≡ R.Stranger → m ≡ l) → (a ≡ R.Joined) ⊎ (m ≡ l)
joins_or_stays l m a (inl joined) unknown = inl joined
joins_or_stays l m a (inr is) unknown = inr (unknown is)

pub opening_joins_or_stays : (l : LinkView) (h : SpxHeader) (body : List ℕ) → l.state ≡ S.Opening → ((receive_link l h body).0 ≡ R.Joined) ⊎ ((receive_link l h body).1 ≡ l)
opening_joins_or_stays l h body opening =
    let says = receive_says l h body in
    joins_or_stays l (receive_link l h body).1 (receive_link l h body).0 (joined_or_unknown (receive_link l h body).0 l.state (λ read other. (says.own read other).0) (ap is_joined opening)) says.course.unknown

-- ---- Opening or Lost

separate_cases : (s : State) → is_unconnected s ≡ true → (s ≡ S.Opening) ⊎ (s ≡ S.Lost)
separate_cases S.Opening e = inl refl
separate_cases S.Live e = absurd (cc)
separate_cases S.Ending e = absurd (cc)
separate_cases S.PeerEnded e = absurd (cc)
separate_cases S.Confirmed e = absurd (cc)
separate_cases S.Lost e = inr refl

separate_by : (l : LinkView) (now : ℕ) → (l.state ≡ S.Opening) ⊎ (l.state ≡ S.Lost) → IfRequest (poll_link l now).0
separate_by l now (inl opening) = opening_requests l now opening
separate_by l now (inr lost) = subst IfRequest (sym (lost_alone l now lost)) tt

pub separate_asks : (l : LinkView) (now : ℕ) → is_unconnected l.state ≡ true → IfRequest (poll_link l now).0
separate_asks l now e = separate_by l now (separate_cases l.state e)

separate_polled : (s t : State) → (t ≡ s) ⊎ (t ≡ S.Lost) → is_unconnected s ≡ true → is_unconnected t ≡ true
separate_polled s t (inl same) e = ap is_unconnected same ∙ e
separate_polled s t (inr lost) e = ap is_unconnected lost

pub separate_stays : (l : LinkView) (now : ℕ) → is_unconnected l.state ≡ true → is_unconnected (poll_link l now).1.state ≡ true
separate_stays l now e = separate_polled l.state (poll_link l now).1.state (poll_state l now) e

not_joined : (s : State) → is_unconnected s ≡ true → is_joined s ≡ false
not_joined S.Opening e = refl
not_joined S.Live e = absurd (cc)
not_joined S.Ending e = absurd (cc)
not_joined S.PeerEnded e = absurd (cc)
not_joined S.Confirmed e = absurd (cc)
not_joined S.Lost e = refl

one_of : (a : Received) → (a ≡ R.Joined) ⊎ (a ≡ R.Stranger) → (a ≡ R.Stranger → ⊥) → a ≡ R.Joined
one_of a (inl joined) read = joined
one_of a (inr is) read = absurd (read is)

pub separate_joins : (l : LinkView) (h : SpxHeader) (body : List ℕ) → is_unconnected l.state ≡ true → ((receive_link l h body).0 ≡ R.Stranger → ⊥) → (receive_link l h body).0 ≡ R.Joined
separate_joins l h body e read =
    one_of (receive_link l h body).0 (joined_or_unknown (receive_link l h body).0 l.state (λ some other. ((receive_says l h body).own some other).0) (not_joined l.state e)) read

refuses_at : (s : State) → is_unconnected s ≡ true → refusal s ≡ None → ⊥
refuses_at S.Opening e none = absurd (cc)
refuses_at S.Live e none = absurd (cc)
refuses_at S.Ending e none = absurd (cc)
refuses_at S.PeerEnded e none = absurd (cc)
refuses_at S.Confirmed e none = absurd (cc)
refuses_at S.Lost e none = absurd (cc)

pub separate_refuses : (l : LinkView) → is_unconnected l.state ≡ true → refusal l.state ≡ None → ⊥
separate_refuses l e = refuses_at l.state e
