-- When a link next acts by itself. Until then it waits for a packet or a call.
use Rattle.std.specs.Prelude.{◌≡◌, ℕ, ◌+◌, ◌^◌, ◌<◌, ◌≤◌, ◌==◌, ◌&&◌, ◌||◌, min, nat_lt, Bool, List}
use Rattle.std.specs.Prelude.{[], ◌∷◌, take, Option, None, Some, if◌then◌else◌}
use Rattle.spx_link.specs.declared.queue.Queued.{Queued}
use Rattle.spx_link.specs.declared.state.State.{State}
use Rattle.spx_link.specs.declared.state.State.TheVariants.{Opening, Live, Ending, PeerEnded}
use Rattle.spx_link.specs.declared.state.State.TheVariants.{Confirmed, Lost}
use Rattle.spx_link.specs.Limits.{resend_after}
use Rattle.spx_link.specs.LinkView.{LinkView, is_working}
use Rattle.spx_link.specs.Links.{LinksView, link_at}
use Rattle.spx_link.specs.Poll.{is_waiting, may_send, asked_again, poll_link}

-- a poll at this time gives nothing, and leaves the link unchanged
abbrev pub IsQuiet : LinkView → ℕ → Type 0
IsQuiet l now = poll_link l now ≡ (None, l)

-- before this time every poll is quiet, and from then on none is. If there is no such time, every poll is
-- quiet at every time that a clock can show
abbrev pub IsNextDue : LinkView → Option ℕ → Type 0
IsNextDue l None = (now : ℕ) → now < 2 ^ 64 → IsQuiet l now
IsNextDue l (Some t) =
    ((now : ℕ) → now < t → IsQuiet l now) × ((now : ℕ) → t ≤ now → IsQuiet l now → ⊥)

-- before this time every poll of every link is quiet, and from then on the poll of some link is not
abbrev pub IsNextDueOfAll : LinksView → Option ℕ → Type 0
IsNextDueOfAll s None =
    (id now : ℕ) (l : LinkView) → link_at s id ≡ Some l → now < 2 ^ 64 → IsQuiet l now
IsNextDueOfAll s (Some t) =
    ((id now : ℕ) (l : LinkView) → link_at s id ≡ Some l → now < t → IsQuiet l now)
    × ((id : ℕ) × (l : LinkView) × (link_at s id ≡ Some l)
    × ((now : ℕ) → t ≤ now → IsQuiet l now → ⊥))

-- ---- for private functions

-- the earlier of a time and another, if there is one
abbrev pub earlier : ℕ → Option ℕ → ℕ
earlier at None = at
earlier at (Some t) = min at t

-- the earliest time at which one of these units was last sent
abbrev pub earliest : List Queued → Option ℕ
earliest [] = None
earliest (q ∷ qs) = Some (earlier q.at (earliest qs))

-- when a packet that was sent at a given time is retransmitted, if a clock can show that time
abbrev pub again_at : ℕ → Option ℕ
again_at at = if nat_lt (at + resend_after) (2 ^ 64) then Some (at + resend_after) else None

-- the earlier of two times, if there are any
abbrev pub sooner : Option ℕ → Option ℕ → Option ℕ
sooner None b = b
sooner (Some a) b = Some (earlier a b)

-- something can be sent at any time
abbrev pub owes_now : LinkView → Bool
owes_now l = l.owes_reply || (l.owes_confirm || (may_send l || l.owes_ack))

-- the next probe, if nothing is outstanding
abbrev pub probe_due : LinkView → Option ℕ
probe_due l = if is_waiting l && (l.room == 0) then again_at l.spoke else None

abbrev pub sent_due : LinkView → Option ℕ → Option ℕ
sent_due l None = probe_due l
sent_due l (Some at) = again_at at

-- on a manual link, the unit asked for is due at once, and no other outstanding unit is due by itself
abbrev pub asked_due : LinkView → Option ℕ → Option ℕ
asked_due l (Some place) = Some 0
asked_due l None = if l.out == 0 then probe_due l else None

abbrev pub again_due : LinkView → Option ℕ
again_due l =
    if l.manual
    then asked_due l (asked_again l)
    else sent_due l (earliest (take l.out l.queue))

abbrev pub working_due : LinkView → Option ℕ
working_due l = if is_working l.state then again_due l else None

abbrev pub joined_due : LinkView → Option ℕ
joined_due l = if owes_now l then Some 0 else working_due l

abbrev pub request_due : LinkView → Option ℕ
request_due l = if l.asked_count == 0 then Some 0 else again_at l.asked_at

abbrev pub due_at : State → LinkView → Option ℕ
due_at Opening l = request_due l
due_at Live l = joined_due l
due_at Ending l = joined_due l
due_at PeerEnded l = joined_due l
due_at Confirmed l = joined_due l
due_at Lost l = None

abbrev pub due_link : LinkView → Option ℕ
due_link l = due_at l.state l

-- the earliest due time of some links
abbrev pub soonest : List LinkView → Option ℕ
soonest [] = None
soonest (l ∷ ls) = sooner (due_link l) (soonest ls)
