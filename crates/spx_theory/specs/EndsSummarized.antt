-- What the summaries of ends say while a network goes on: how many ends there are, their next numbers, and
-- their peers.
use Rattle.std.specs.Prelude.{ℕ, ◌≡◌, ◌≤◌, Bool, true, false, not, ◌&&◌, List, length, Option, Some, None, slice_get, if◌then◌else◌}
use Rattle.spx_link.specs.LinkView.{LinkView}
use Rattle.spx_link.specs.SequenceMarks.{mark}
use Rattle.spx_theory.specs.Note.{Note}
use Rattle.spx_theory.specs.Scan.{Scan, Role, is_now, scan}
use Rattle.spx_theory.specs.Peers.{ArePeersIn}
use Rattle.spx_theory.specs.Scene.{Scene, PresentEnd, IsPresent}
use Rattle.spx_theory.specs.Deeds.{Deed, DoesDeed}
use Rattle.spx_theory.specs.SentUnits.{sent_by}

-- ends are numbered like their roles, the next number of each is that of the unit after those that it sent,
-- and it has the buffers that it was made with
pub record EndsAreSummarized (s : Scene) : Type 0 where
  pub count : length (scan s.log).roles ≡ length s.ends
  pub next : (who : ℕ) (e : PresentEnd) (l : LinkView)
      → IsPresent s who e l → l.next ≡ mark (sent_by who s.log)
  pub buffers : (who : ℕ) (e : PresentEnd) (l : LinkView) (r : Role)
      → IsPresent s who e l → slice_get (scan s.log).roles who ≡ Some r → l.buffers ≡ r.buffers
  pub unmade : (who : ℕ) → length s.ends ≤ who → sent_by who s.log ≡ 0

-- if an end has no link after a deed, that deed sent no unit of it: so its last number is final
abbrev pub GoneSendsNothing : Type 0
GoneSendsNothing =
    (s s' : Scene) (deed : Deed) → DoesDeed deed s s' → (who : ℕ) (e : PresentEnd)
    → slice_get s'.ends who ≡ Some e → e.link ≡ None
    → sent_by who s'.log ≡ sent_by who s.log

-- an end stays at its host and keeps its id, and one without a link does not change
pub record StaysAtHost (e f : PresentEnd) : Type 0 where
  pub host : f.host ≡ e.host
  pub own : f.own ≡ e.own
  pub gone : e.link ≡ None → f ≡ e

abbrev pub EndsStay : Type 0
EndsStay =
    (s s' : Scene) (deed : Deed) → DoesDeed deed s s' → (who : ℕ) (e : PresentEnd)
    → slice_get s.ends who ≡ Some e
    → (f : PresentEnd) × (slice_get s'.ends who ≡ Some f) × StaysAtHost e f

-- ---- the peer of an end

abbrev pub is_other : Bool → Bool → Bool
is_other true b = not b
is_other false b = b

-- d was made or joined by c, and one of them dialled
abbrev pub peer_back : ℕ → Role → ℕ → Option Role → Option ℕ
peer_back c r d None = None
peer_back c r d (Some q) = if is_now q.partner c && is_other r.called q.called then Some d else None

abbrev pub peer_with : Scan → ℕ → Role → Option ℕ → Option ℕ
peer_with s c r None = None
peer_with s c r (Some d) = peer_back c r d (slice_get s.roles d)

abbrev pub peer_by : Scan → ℕ → Option Role → Option ℕ
peer_by s c None = None
peer_by s c (Some r) = peer_with s c r r.partner

abbrev pub peer_in : Scan → ℕ → Option ℕ
peer_in s c = peer_by s c (slice_get s.roles c)

abbrev pub peer_of : List Note → ℕ → Option ℕ
peer_of log c = peer_in (scan log) c

-- each end has at most one peer, which is found
pub record PeerIsFound (s : Scan) (c d : ℕ) : Type 0 where
  pub there : ArePeersIn s c d → peer_in s c ≡ Some d
  pub only : peer_in s c ≡ Some d → ArePeersIn s c d
