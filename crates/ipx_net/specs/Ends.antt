-- The summaries of the ends of a network, each by its number from 0.
use Rattle.std.specs.Prelude.{ℕ, ◌≡◌, ◌↔◌, ◌<◌, false, Contains, List, None, Some, length, slice_get, slice_index_or}
use Rattle.spx_link.specs.declared.state.State.TheVariants.{Confirmed}
use Rattle.spx_link.specs.declared.unit.Unit.{Unit}
use Rattle.spx_link.specs.Limits.{end_stream}
use Rattle.spx_link.specs.LinkView.{LinkView}
use Rattle.spx_link.specs.Machine.{End}
use Rattle.spx_link.specs.SequenceMarks.{mark}
use Rattle.spx_theory.specs.Close.{HoldsAll, IsEndInMachine}
use Rattle.spx_theory.specs.EndsSummarized.{peer_of}
use Rattle.spx_theory.specs.Handed.{handed_in, handed_out, units_of}
use Rattle.spx_theory.specs.Note.{AsksEnd, Note, Opened, Released, TakesUnit}
use Rattle.spx_theory.specs.Peers.{Premises}
use Rattle.spx_theory.specs.Scan.{scan}
use Rattle.spx_theory.specs.Scene.{PresentEnd, IsPresent}
use Rattle.spx_theory.specs.SentUnits.{sent_by}
use Rattle.spx_theory.specs.World.{EndNow, HostState, World, held_of, scene_of}
use Rattle.ipx_net_hosts.specs.EndStates.{state_of}
use Rattle.ipx_net.specs.NetView.{NetView}
use Rattle.ipx_net.specs.declared.endinfo.EndInfo.{EndInfo}

-- the summary for a number of no end
abbrev pub nobody : EndInfo
nobody = record { host = 0; state = None; given = 0; out = 0; next = 0; peer = None }

abbrev pub told_of : List EndInfo → ℕ → EndInfo
told_of told who = slice_index_or told who nobody

-- the summary of an end, by the log: how many messages it handed in and out, the number of the first unit
-- that it has not sent, and its peer
pub record TellsEnd (log : List Note) (who : ℕ) (e : EndInfo) : Type 0 where
  pub given : e.given ≡ length (handed_in who log)
  pub out : e.out ≡ length (handed_out who log)
  pub next : e.next ≡ mark (sent_by who log)
  pub peer : e.peer ≡ peer_of log who

-- there are as many summaries as the log has ends, and each is what the log says
pub record TellsLog (log : List Note) (told : List EndInfo) : Type 0 where
  pub count : length told ≡ length (scan log).roles
  pub each : (who : ℕ) → TellsEnd log who (told_of told who)

-- the host of an end and the state of its link, which it has until it is released
pub record SummaryHasState (hosts : List HostState) (n : EndNow) (e : EndInfo) : Type 0 where
  pub host : e.host ≡ n.host
  pub state : e.state ≡ state_of (held_of hosts n)

abbrev pub SummariesHaveStates : World → List EndInfo → Type 0
SummariesHaveStates w told = (who : ℕ) (n : EndNow) → slice_get w.ends who ≡ Some n
    → SummaryHasState w.hosts n (told_of told who)

-- what the log says is always in the summaries; hosts and states are while the network goes on
pub record TellsEnds (v : NetView) (told : List EndInfo) : Type 0 where
  pub log : TellsLog v.now.world.log told
  pub stands : v.spent ≡ false → SummariesHaveStates v.now.world told

-- the next number in the summary is that of the link, if there is one
abbrev pub TellsNext : World → List EndInfo → Type 0
TellsNext w told = (who : ℕ) (s : PresentEnd) (l : LinkView) → IsPresent (scene_of w) who s l
    → (told_of told who).next ≡ l.next

-- ---- consequences for the hosts, states and peers in the summaries

-- an end that was opened has the host of its entry in its summary
abbrev pub TellsOpened : World → List EndInfo → Type 0
TellsOpened w told = (who host buffers : ℕ) → Contains w.log (Opened who host buffers)
    → (told_of told who).host ≡ host

-- the summary of an end has no state exactly if the end was released
abbrev pub TellsReleased : World → List EndInfo → Type 0
TellsReleased w told = (who : ℕ) → who < length told
    → ((told_of told who).state ≡ None) ↔ Contains w.log (Released who)

-- the close of an end was asked for, and the peer in its summary has read all its units and has all its
-- messages
pub record IsSummaryClosed (w : World) (told : List EndInfo) (who : ℕ) : Type 0 where
  pub peer : ℕ
  pub peer_is : (told_of told who).peer ≡ Some peer
  pub asked : Contains w.log (AsksEnd who)
  pub two : End
  pub is : IsEndInMachine (scene_of w) peer who two
  pub all : two.read ≡ length (units_of who w.log)
  pub holds : HoldsAll (scene_of w) who peer

-- under the three premises each end whose summary says Confirmed is closed
abbrev pub TellsClosed : World → List EndInfo → Type 0
TellsClosed w told = Premises w.log → (who : ℕ)
    → (told_of told who).state ≡ Some Confirmed → IsSummaryClosed w told who

-- under them, an end that took its peer's end handed out everything that was handed in at the peer in its
-- summary
abbrev pub TellsEnded : World → List EndInfo → Type 0
TellsEnded w told = Premises w.log → (who : ℕ) (u : Unit)
    → Contains w.log (TakesUnit who u) → u.stream ≡ end_stream
    → (peer : ℕ) × ((told_of told who).peer ≡ Some peer)
    × (handed_out who w.log ≡ handed_in peer w.log)
