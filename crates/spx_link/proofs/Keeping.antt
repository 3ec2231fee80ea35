-- Each rule of a link keeps its ends, and changes its numbers as the kind of its answer says.
use Rattle.std.proofs.Common.{◌≡◌, ℕ, List, [], ◌∷◌, Bool, true, false, refl, ap, sym, subst, suc, if◌then◌else◌, ◌==◌, ◌&&◌, ◌||◌, nat_le, nat_lt, Option, None, Some, slice_get, length, length-append, arith}
use Rattle.std.proofs.lemmas.Bool.Decides.{nat_tests}
use Rattle.ipx_wire.specs.declared.spx.packet.SpxHeader.{SpxHeader}
use Rattle.spx_link.specs.declared.unit.Unit as units
use Rattle.spx_link.specs.declared.queue.Queued.{Queued}
use Rattle.spx_link.specs.declared.numbers.Numbers.{Numbers}
use Rattle.spx_link.specs.declared.received.Received.{Received}
use Rattle.spx_link.specs.declared.received.Received.TheVariants.{Joined, Kept, Repeat, Ahead, OverAllocation, System, PeerEnded, Confirmed, Stranger}
use Rattle.spx_link.specs.declared.state.State.{State}
use Rattle.spx_link.specs.declared.state.State.TheVariants as States
use Rattle.spx_link.specs.Limits.{most_sends, end_stream}
use Rattle.spx_link.specs.LinkView.{LinkView, numbers_of, free, due}
use Rattle.spx_link.specs.Poll as P
use Rattle.spx_link.specs.Poll.{OutgoingView, poll_link, poll_at}
use Rattle.spx_link.specs.Receive as R
use Rattle.spx_link.specs.Receive.{receive_link, receive_at}
use Rattle.spx_link.specs.Offer.{take_link, take_held}
use Rattle.spx_link.specs.ByClock.{pace_of}
use Rattle.spx_link.specs.LinkTurns.{kept_with, newly_held}
use Rattle.spx_link.specs.Effects.{numbers_after_poll, numbers_after_received, numbers_after_take, SameEnds, SamePeer, Joins, IfRequest}

-- what holds of both sides holds of the choice
either : {A : Type 0} (P : A → Type 0) (b : Bool) (x y : A) → P x → P y → P (if b then x else y)
either P true x y p q = p
either P false x y p q = q

-- a fact may rest on the test
either_by : {A : Type 0} (P : A → Type 0) (b : Bool) (x y : A) → (b ≡ true → P x) → P y → P (if b then x else y)
either_by P true x y p q = p refl
either_by P false x y p q = q

-- ---- poll

pub record PollKeeps (l : LinkView) (r : Option OutgoingView × LinkView) : Type 0 where
  pub numbers : numbers_of r.1 ≡ numbers_after_poll r.0 (numbers_of l)
  pub same : SamePeer l r.1
  pub pace : pace_of r.1 ≡ pace_of l

none_keeps : (l : LinkView) → PollKeeps l (None, l)
none_keeps l = record { numbers = refl; same = record { ends = record { own = refl; local = refl; remote = refl; accepted = refl }; peer = refl }; pace = refl }

lost_keeps : (l : LinkView) → PollKeeps l (None, P.lost l)
lost_keeps l = record { numbers = refl; same = record { ends = record { own = refl; local = refl; remote = refl; accepted = refl }; peer = refl }; pace = refl }

request_keeps : (l : LinkView) (now : ℕ) → PollKeeps l (P.poll_request l now)
request_keeps l now =
    either (PollKeeps l) ((l.asked_count == 0) || due l.asked_at now) (P.requests_or_lost l now) (None, l)
    (either (PollKeeps l) (nat_le most_sends l.asked_count) (None, P.lost l) (P.requests l now) (lost_keeps l) (record { numbers = refl; same = record { ends = record { own = refl; local = refl; remote = refl; accepted = refl }; peer = refl }; pace = refl }))
    (none_keeps l)

probe_keeps : (l : LinkView) (now : ℕ) → PollKeeps l (P.poll_probe l now)
probe_keeps l now =
    either (PollKeeps l) (P.may_probe l now) (P.probes_or_lost l now) (None, l)
    (either (PollKeeps l) (nat_le (P.most_probes l) l.probes) (None, P.lost l) (P.probes_once l now) (lost_keeps l) (record { numbers = refl; same = record { ends = record { own = refl; local = refl; remote = refl; accepted = refl }; peer = refl }; pace = refl }))
    (none_keeps l)

ack_keeps : (l : LinkView) (now : ℕ) → PollKeeps l (P.poll_ack l now)
ack_keeps l now =
    either (PollKeeps l) l.owes_ack (P.acknowledges l now) (P.poll_probe l now)
    (record { numbers = refl; same = record { ends = record { own = refl; local = refl; remote = refl; accepted = refl }; peer = refl }; pace = refl })
    (probe_keeps l now)

sends_again_keeps : (l : LinkView) (now place : ℕ) (q : Option Queued) → PollKeeps l (P.sends_again_or_lost l now place q)
sends_again_keeps l now place None = none_keeps l
sends_again_keeps l now place (Some q) =
    either (PollKeeps l) (nat_le most_sends q.count) (None, P.lost l) (P.sends_again l now place q) (lost_keeps l) (record { numbers = refl; same = record { ends = record { own = refl; local = refl; remote = refl; accepted = refl }; peer = refl }; pace = refl })

late_keeps : (l : LinkView) (now : ℕ) (place : Option ℕ) → PollKeeps l (P.poll_late l now place)
late_keeps l now None = ack_keeps l now
late_keeps l now (Some place) = sends_again_keeps l now place (slice_get l.queue place)

sends_keeps : (l : LinkView) (now : ℕ) (q : Option Queued) → PollKeeps l (P.sends l now q)
sends_keeps l now None = none_keeps l
sends_keeps l now (Some q) = record { numbers = refl; same = record { ends = record { own = refl; local = refl; remote = refl; accepted = refl }; peer = refl }; pace = refl }

reply_keeps : (l : LinkView) (now : ℕ) → PollKeeps l (P.poll_reply l now)
reply_keeps l now =
    either (PollKeeps l) l.owes_reply (P.replies l now) (P.poll_confirm l now)
    (record { numbers = refl; same = record { ends = record { own = refl; local = refl; remote = refl; accepted = refl }; peer = refl }; pace = refl })
    (either (PollKeeps l) l.owes_confirm (P.confirms l now) (P.poll_unit l now)
    (record { numbers = refl; same = record { ends = record { own = refl; local = refl; remote = refl; accepted = refl }; peer = refl }; pace = refl })
    (either (PollKeeps l) (P.may_send l) (P.sends l now (slice_get l.queue l.out)) (P.poll_again l now)
    (sends_keeps l now (slice_get l.queue l.out))
    (late_keeps l now (P.late_if_working l now))))

poll_at_keeps : (s : State) (l : LinkView) (now : ℕ) → PollKeeps l (poll_at s l now)
poll_at_keeps States.Opening l now = request_keeps l now
poll_at_keeps States.Live l now = reply_keeps l now
poll_at_keeps States.Ending l now = reply_keeps l now
poll_at_keeps States.PeerEnded l now = reply_keeps l now
poll_at_keeps States.Confirmed l now = reply_keeps l now
poll_at_keeps States.Lost l now = none_keeps l

pub poll_keeps : (l : LinkView) (now : ℕ) → PollKeeps l (poll_link l now)
poll_keeps l now = poll_at_keeps l.state l now

-- in Opening nothing but requests is given

abbrev pub GivesRequest : Option OutgoingView × LinkView → Type 0
GivesRequest r = IfRequest r.0

request_alone : (l : LinkView) (now : ℕ) → GivesRequest (P.poll_request l now)
request_alone l now =
    either GivesRequest ((l.asked_count == 0) || due l.asked_at now) (P.requests_or_lost l now) (None, l)
    (either GivesRequest (nat_le most_sends l.asked_count) (None, P.lost l) (P.requests l now) tt (record { what = refl; to = refl; body = refl }))
    tt

pub opening_requests : (l : LinkView) (now : ℕ) → l.state ≡ States.Opening → IfRequest (poll_link l now).0
opening_requests l now opening =
    let P : State → Type 0 = λ s. IfRequest (poll_at s l now).0 in
    subst P (sym opening) (request_alone l now)

-- a link that was given up gives nothing
pub lost_alone : (l : LinkView) (now : ℕ) → l.state ≡ States.Lost → (poll_link l now).0 ≡ None
lost_alone l now lost =
    let P : State → Type 0 = λ s. (poll_at s l now).0 ≡ None in
    subst P (sym lost) refl

-- ---- receive

pub record ReadKeeps (l : LinkView) (h : SpxHeader) (body : List ℕ) (r : Received × LinkView) : Type 0 where
  pub numbers : numbers_of r.1 ≡ numbers_after_received r.0 (length (newly_held l h body)) h (numbers_of l)
  pub same : SamePeer l r.1
  pub pace : pace_of r.1 ≡ pace_of l
  pub not_joined : r.0 ≡ Joined → ⊥

stranger_keeps : (l : LinkView) (h : SpxHeader) (body : List ℕ) → ReadKeeps l h body (Stranger, l)
stranger_keeps l h body = record { numbers = refl; same = record { ends = record { own = refl; local = refl; remote = refl; accepted = refl }; peer = refl }; pace = refl; not_joined = λ e. cc }

-- what the rules for a system packet and for a unit do after the numbers were read
system_keeps : (l : LinkView) (h : SpxHeader) (body : List ℕ) → ReadKeeps l h body (R.read_system (R.read_numbers l h) h)
system_keeps l h body =
    let m : LinkView = R.read_numbers l h in
    either (ReadKeeps l h body) (R.may_confirm m h) (Confirmed, record (R.with_ack_owed m h.wants_ack) { state = States.Confirmed }) (System, R.with_ack_owed m h.wants_ack)
    (record { numbers = refl; same = record { ends = record { own = refl; local = refl; remote = refl; accepted = refl }; peer = refl }; pace = refl; not_joined = λ e. cc })
    (record { numbers = refl; same = record { ends = record { own = refl; local = refl; remote = refl; accepted = refl }; peer = refl }; pace = refl; not_joined = λ e. cc })

-- the numbers with so many units held
abbrev with_held : Numbers → ℕ → Numbers
with_held n held = record n { held = held }

settle_keeps : (l : LinkView) (h : SpxHeader) (body : List ℕ) → ReadKeeps l h body (R.settle (R.read_numbers l h) (kept_with l h body))
settle_keeps l h body =
    let m : LinkView = R.read_numbers l h in
    let us : List units.Unit = newly_held l h body in
    either (ReadKeeps l h body) (R.any_end us) (PeerEnded, R.keep_end m us) (Kept, R.keep_units m us (kept_with l h body))
    (record { numbers = ap (with_held (numbers_of (R.keep_end m us))) (length-append l.held us); same = record { ends = record { own = refl; local = refl; remote = refl; accepted = refl }; peer = refl }; pace = refl; not_joined = λ e. cc })
    (record { numbers = ap (with_held (numbers_of (R.keep_units m us (kept_with l h body)))) (length-append l.held us); same = record { ends = record { own = refl; local = refl; remote = refl; accepted = refl }; peer = refl }; pace = refl; not_joined = λ e. cc })

keep_keeps : (l : LinkView) (h : SpxHeader) (body : List ℕ) → ReadKeeps l h body (R.keep (R.read_numbers l h) h body)
keep_keeps l h body =
    let m : LinkView = R.read_numbers l h in
    either (ReadKeeps l h body) (R.is_taken (R.beyond_expected m h) m.ahead) (Repeat, record m { owes_ack = true }) (R.settle m (kept_with l h body))
    (record { numbers = refl; same = record { ends = record { own = refl; local = refl; remote = refl; accepted = refl }; peer = refl }; pace = refl; not_joined = λ e. cc })
    (settle_keeps l h body)

in_turn_keeps : (l : LinkView) (h : SpxHeader) (body : List ℕ) → ReadKeeps l h body (R.in_turn (R.read_numbers l h) h body)
in_turn_keeps l h body =
    let m : LinkView = R.read_numbers l h in
    either (ReadKeeps l h body) (nat_lt (R.beyond_expected m h) (free m)) (R.keep m h body) (OverAllocation, record m { owes_ack = true })
    (keep_keeps l h body)
    (record { numbers = refl; same = record { ends = record { own = refl; local = refl; remote = refl; accepted = refl }; peer = refl }; pace = refl; not_joined = λ e. cc })

repeated_keeps : (l : LinkView) (h : SpxHeader) (body : List ℕ) → ReadKeeps l h body (Repeat, R.repeated (R.read_numbers l h) h)
repeated_keeps l h body =
    let m : LinkView = R.read_numbers l h in
    let Q : LinkView → Type 0 = λ n. ReadKeeps l h body (Repeat, n) in
    either Q ((h.stream == end_stream) && m.peer_ended) (record m { owes_confirm = true }) (record m { owes_ack = true })
    (record { numbers = refl; same = record { ends = record { own = refl; local = refl; remote = refl; accepted = refl }; peer = refl }; pace = refl; not_joined = λ e. cc })
    (record { numbers = refl; same = record { ends = record { own = refl; local = refl; remote = refl; accepted = refl }; peer = refl }; pace = refl; not_joined = λ e. cc })

unit_keeps : (l : LinkView) (h : SpxHeader) (body : List ℕ) → ReadKeeps l h body (R.read_unit (R.read_numbers l h) h body)
unit_keeps l h body =
    let m : LinkView = R.read_numbers l h in
    either (ReadKeeps l h body) (nat_le 32768 (R.beyond_expected m h)) (Repeat, R.repeated m h) (R.not_behind m h body)
    (repeated_keeps l h body)
    (either (ReadKeeps l h body) m.peer_ended (Ahead, m) (R.in_turn m h body)
    (record { numbers = refl; same = record { ends = record { own = refl; local = refl; remote = refl; accepted = refl }; peer = refl }; pace = refl; not_joined = λ e. cc })
    (in_turn_keeps l h body))

joined_keeps : (l : LinkView) (h : SpxHeader) (body : List ℕ) → ReadKeeps l h body (R.receive_joined l h body)
joined_keeps l h body =
    either (ReadKeeps l h body) (R.is_own l h) (R.read_packet l h body) (Stranger, l)
    (either (ReadKeeps l h body) (R.is_system h) (R.read_system (R.read_numbers l h) h) (R.read_unit (R.read_numbers l h) h body) (system_keeps l h body) (unit_keeps l h body))
    (stranger_keeps l h body)

-- what any packet does
pub record ReceiveKeeps (l : LinkView) (h : SpxHeader) (body : List ℕ) (r : Received × LinkView) : Type 0 where
  pub numbers : numbers_of r.1 ≡ numbers_after_received r.0 (length (newly_held l h body)) h (numbers_of l)
  pub ends : SameEnds l r.1
  pub peer : (r.0 ≡ Joined → ⊥) → r.1.peer ≡ l.peer
  pub joins : r.0 ≡ Joined → Joins l r.1 h
  pub pace : pace_of r.1 ≡ pace_of l

of_read : (l : LinkView) (h : SpxHeader) (body : List ℕ) (r : Received × LinkView) → ReadKeeps l h body r → ReceiveKeeps l h body r
of_read l h body r k = record { numbers = k.numbers; ends = k.same.ends; peer = λ _. k.same.peer; joins = λ e. absurd (k.not_joined e); pace = k.pace }

joins_so : (l : LinkView) (h : SpxHeader) → l.state ≡ States.Opening → R.is_reply l h ≡ true → Joins l (R.read_numbers (R.joined_link l h) h) h
joins_so l h opening reply = record { before = opening; after = refl; to = grind (arith, nat_tests); peer = refl; above = grind (arith, nat_tests); below = grind (arith, nat_tests); unit = grind (arith, nat_tests) }

reply_receive_keeps : (l : LinkView) (h : SpxHeader) (body : List ℕ) → l.state ≡ States.Opening → ReceiveKeeps l h body (R.receive_reply l h)
reply_receive_keeps l h body opening =
    either_by (ReceiveKeeps l h body) (R.is_reply l h) (Joined, R.read_numbers (R.joined_link l h) h) (Stranger, l)
    (λ reply. record { numbers = refl; ends = record { own = refl; local = refl; remote = refl; accepted = refl }; peer = λ n. absurd (n refl); joins = λ _. joins_so l h opening reply; pace = refl })
    (of_read l h body (Stranger, l) (stranger_keeps l h body))

receive_at_keeps : (s : State) (l : LinkView) (h : SpxHeader) (body : List ℕ) → l.state ≡ s → ReceiveKeeps l h body (receive_at s l h body)
receive_at_keeps States.Opening l h body e = reply_receive_keeps l h body e
receive_at_keeps States.Live l h body e = of_read l h body (R.receive_joined l h body) (joined_keeps l h body)
receive_at_keeps States.Ending l h body e = of_read l h body (R.receive_joined l h body) (joined_keeps l h body)
receive_at_keeps States.PeerEnded l h body e = of_read l h body (R.receive_joined l h body) (joined_keeps l h body)
receive_at_keeps States.Confirmed l h body e = of_read l h body (R.receive_joined l h body) (joined_keeps l h body)
receive_at_keeps States.Lost l h body e = of_read l h body (Stranger, l) (stranger_keeps l h body)

pub receive_keeps : (l : LinkView) (h : SpxHeader) (body : List ℕ) → ReceiveKeeps l h body (receive_link l h body)
receive_keeps l h body = receive_at_keeps l.state l h body refl

-- ---- take

pub record TakeKeeps (l m : LinkView) : Type 0 where
  pub numbers : numbers_of m ≡ numbers_after_take (numbers_of l)
  pub same : SamePeer l m
  pub pace : pace_of m ≡ pace_of l

take_held_keeps : (l : LinkView) (us : List units.Unit) → l.held ≡ us → TakeKeeps l (take_held l us).1
take_held_keeps l [] e =
    let none : length l.held ≡ 0 = ap length e in
    record { numbers = ap (with_held (numbers_of l)) (omega (arith, none)); same = record { ends = record { own = refl; local = refl; remote = refl; accepted = refl }; peer = refl }; pace = refl }
take_held_keeps l (u ∷ us) e =
    let more : length l.held ≡ suc (length us) = ap length e in
    record { numbers = ap (with_held (numbers_of l)) (omega (arith, more)); same = record { ends = record { own = refl; local = refl; remote = refl; accepted = refl }; peer = refl }; pace = refl }

pub take_keeps : (l : LinkView) → TakeKeeps l (take_link l).1
take_keeps l = take_held_keeps l l.held refl
