-- A poll has exactly one result. Two results that meet the contract of `poll`, from one endpoint, time and
-- buffer, are equal to the byte, and leave the same state.
use Rattle.std.specs.Prelude.{ℕ, ◌≡◌, ◌≤◌, List, length, Option}
use Rattle.ipx_wire.specs.Assigned.{spx_max_packet_size}
use Rattle.ipx_wire.specs.Ipx.{IsBytes}
use Rattle.ipx_wire.specs.declared.address.Node.{Node}
use Rattle.spx_messages.specs.Changes.{SameBut}
use Rattle.spx_messages.specs.EndpointView.{EndpointView}
use Rattle.spx_messages.specs.Polls.{Polls}

-- any slice of bytes after a call: it holds bytes, and as many as before
pub record IsBufferStill (room written : List ℕ) : Type 0 where
  pub bytes : IsBytes written
  pub size : length written ≡ length room

-- two polls gave the same: next node and length, all bytes of the buffer, what each id holds after it, and
-- the packet's link and kind
pub record IsSamePoll (a b : Option (Node × ℕ)) (written_a written_b : List ℕ)
    (new other : EndpointView) : Type 0 where
  pub result : a ≡ b
  pub written : written_a ≡ written_b
  pub same : SameBut new other
  pub said : other.said ≡ new.said
  pub heard : other.heard ≡ new.heard

-- the buffer is as long as the caller of `poll` must pass it
abbrev pub IsOnePoll : Type 0
IsOnePoll = (old new other : EndpointView) (now : ℕ) (a b : Option (Node × ℕ))
    (room written_a written_b : List ℕ) → spx_max_packet_size ≤ length room
    → IsBufferStill room written_a → IsBufferStill room written_b
    → Polls old now a room written_a new → Polls old now b room written_b other
    → IsSamePoll a b written_a written_b new other
