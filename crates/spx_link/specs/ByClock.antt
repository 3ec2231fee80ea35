-- A link that is never paced: it sends a new unit if the allocation has room, and retransmits by the clock
-- alone. The other rules are those of `Poll`.
use Rattle.std.specs.Prelude.{◌≡◌, ℕ, Bool, false, ◌&&◌, nat_lt, Option, None, slice_get}
use Rattle.std.specs.Prelude.{if◌then◌else◌}
use Rattle.spx_link.specs.declared.state.State.{State}
use Rattle.spx_link.specs.declared.state.State.TheVariants.{Opening, Live, Ending, PeerEnded}
use Rattle.spx_link.specs.declared.state.State.TheVariants.{Confirmed, Lost}
use Rattle.spx_link.specs.Limits.{most_units}
use Rattle.spx_link.specs.LinkView.{LinkView, is_working}
use Rattle.spx_link.specs.Poll.{OutgoingView, confirms, is_waiting, late, poll_late, poll_request}
use Rattle.spx_link.specs.Poll.{replies, sends}

-- the window, and whether the link is manual
abbrev pub pace_of : LinkView → ℕ × Bool
pace_of l = (l.window, l.manual)

-- both as in a new link
pub record IsUnpaced (l : LinkView) : Type 0 where
  pub window : l.window ≡ most_units
  pub manual : l.manual ≡ false

-- the first outstanding unit that is due
abbrev pub late_by_clock : LinkView → ℕ → Option ℕ
late_by_clock l now = if is_working l.state then late l now else None

-- before that, the next unit, if the allocation has room
abbrev pub may_send_by_clock : LinkView → Bool
may_send_by_clock l =
    is_working l.state && (is_waiting l && (nat_lt 0 l.room && nat_lt l.out most_units))

abbrev pub unit_by_clock : LinkView → ℕ → Option OutgoingView × LinkView
unit_by_clock l now =
    if may_send_by_clock l
    then sends l now (slice_get l.queue l.out)
    else poll_late l now (late_by_clock l now)

-- before that, a confirmation of the end, and first of all a reply
abbrev pub confirm_by_clock : LinkView → ℕ → Option OutgoingView × LinkView
confirm_by_clock l now = if l.owes_confirm then confirms l now else unit_by_clock l now

abbrev pub reply_by_clock : LinkView → ℕ → Option OutgoingView × LinkView
reply_by_clock l now = if l.owes_reply then replies l now else confirm_by_clock l now

abbrev pub poll_by_clock_at : State → LinkView → ℕ → Option OutgoingView × LinkView
poll_by_clock_at Opening l now = poll_request l now
poll_by_clock_at Live l now = reply_by_clock l now
poll_by_clock_at Ending l now = reply_by_clock l now
poll_by_clock_at PeerEnded l now = reply_by_clock l now
poll_by_clock_at Confirmed l now = reply_by_clock l now
poll_by_clock_at Lost l now = (None, l)

abbrev pub poll_by_clock : LinkView → ℕ → Option OutgoingView × LinkView
poll_by_clock l now = poll_by_clock_at l.state l now
