-- Definitions for private functions: how the summaries of ends are kept.
use Rattle.std.specs.Prelude.{ℕ, ◌≡◌, ◌≢◌, ◌<◌, ◌+◌, Bool, true, false, List, [], ◌∷◌, ◌++◌, Option, Some, None, length, option_map, set, slice_get}
use Rattle.spx_link.specs.declared.state.State.{State}
use Rattle.spx_link.specs.SequenceMarks.{mark}
use Rattle.spx_theory.specs.EndsSummarized.{peer_of}
use Rattle.spx_theory.specs.Handed.{handed_in, handed_out}
use Rattle.spx_theory.specs.Note.{Note, Opened, Accepted, Joined, HandsIn, HandsOut, SendsUnit}
use Rattle.spx_theory.specs.Scan.{scan}
use Rattle.spx_theory.specs.SentUnits.{sent_by}
use Rattle.spx_theory.specs.World.{World, end_at}
use Rattle.ipx_net_hosts.specs.Hosts.{HostsView}
use Rattle.ipx_net_hosts.specs.EndStates.{here_at, state_on_host}
use Rattle.ipx_net.specs.Ends.{nobody, told_of}
use Rattle.ipx_net.specs.declared.endinfo.EndInfo.{EndInfo}
use Rattle.ipx_net.specs.declared.event.Event.{Event}
use Rattle.ipx_net.specs.declared.event.Event.TheVariants as Events
use Rattle.ipx_net.specs.declared.event.Member.{Member}
use Rattle.ipx_net.specs.declared.event.Member.TheVariants as Members
use Rattle.ipx_net.specs.declared.place.Place.{Place}
use Rattle.ipx_net.specs.declared.place.Place.TheVariants as Places

-- ---- what the log says except peers, entry by entry

abbrev pub one_given : EndInfo → EndInfo
one_given e = record e { given = e.given + 1 }

abbrev pub one_out : EndInfo → EndInfo
one_out e = record e { out = e.out + 1 }

abbrev pub one_sent : EndInfo → EndInfo
one_sent e = record e { next = mark (e.next + 1) }

abbrev pub change : (EndInfo → EndInfo) → ℕ → List EndInfo → List EndInfo
change f who told = set told who (f (told_of told who))

-- the summaries after one more entry: of a new end, or of a change of one end
abbrev pub summaries_with : Note → List EndInfo → List EndInfo
summaries_with (Opened who host buffers) told = told ++ nobody ∷ []
summaries_with (Accepted who parcel buffers) told = told ++ nobody ∷ []
summaries_with (HandsIn who m) told = change one_given who told
summaries_with (HandsOut who m) told = change one_out who told
summaries_with (SendsUnit who parcel) told = change one_sent who told
summaries_with n told = told

-- for any number: how many messages it handed in and out, and its next number
pub record IsCounted (log : List Note) (who : ℕ) (e : EndInfo) : Type 0 where
  pub given : e.given ≡ length (handed_in who log)
  pub out : e.out ≡ length (handed_out who log)
  pub next : e.next ≡ mark (sent_by who log)

pub record AreCounted (log : List Note) (told : List EndInfo) : Type 0 where
  pub count : length told ≡ length (scan log).roles
  pub each : (who : ℕ) → IsCounted log who (told_of told who)

-- host, state and peer are unchanged
pub record StaysAs (e f : EndInfo) : Type 0 where
  pub host : f.host ≡ e.host
  pub state : f.state ≡ e.state
  pub peer : f.peer ≡ e.peer

abbrev pub StayAs : List EndInfo → List EndInfo → Type 0
StayAs old new = (who : ℕ) → StaysAs (told_of old who) (told_of new who)

-- ---- peers

abbrev pub with_peer : Option ℕ → EndInfo → EndInfo
with_peer peer e = record e { peer = peer }

-- an end and its peer have each other as peer
abbrev pub made_peers : ℕ → Option ℕ → List EndInfo → List EndInfo
made_peers who None told = change (with_peer None) who told
made_peers who (Some peer) told =
    change (with_peer (Some who)) peer (change (with_peer (Some peer)) who told)

-- everything except the peer is unchanged
pub record StaysBut (e f : EndInfo) : Type 0 where
  pub host : f.host ≡ e.host
  pub state : f.state ≡ e.state
  pub given : f.given ≡ e.given
  pub out : f.out ≡ e.out
  pub next : f.next ≡ e.next

abbrev pub OthersStay : List EndInfo → List EndInfo → Type 0
OthersStay old new = (who : ℕ) → StaysBut (told_of old who) (told_of new who)

-- ---- hosts and states of ends

abbrev pub standing : ℕ → Option State → EndInfo → EndInfo
standing host state e = record e { host = host; state = state }

-- everything except host and state
abbrev pub logged : EndInfo → EndInfo
logged e = record e { host = 0; state = None }

-- the summary of an end has this host and state
pub record HasHostAndState (host : ℕ) (state : Option State) (e : EndInfo) : Type 0 where
  pub host_is : e.host ≡ host
  pub state_is : e.state ≡ state

abbrev pub state_by : Bool → Option State → Option State
state_by true state = None
state_by false state = state

abbrev pub stood : Option ℕ → ℕ → Option State → List EndInfo → List EndInfo
stood None host state told = told
stood (Some who) host state told = change (standing host state) who told

-- the end that an entry makes by a request, or joins
abbrev pub joins : Note → Option ℕ
joins (Accepted who parcel buffers) = Some who
joins (Joined who parcel) = Some who
joins n = None

-- the end of a link of a host is updated to its present state, or to released
abbrev pub settled : HostsView → ℕ → Bool → Option (ℕ × ℕ) → List EndInfo → List EndInfo
settled v host gone None told = told
settled v host gone (Some x) told =
    stood (end_at (here_at v host) x.0) host (state_by gone (state_on_host v host x.0)) told

-- the peers of an end that an entry made or joined, by the whole log
abbrev pub paired_by : Option ℕ → List Note → List EndInfo → List EndInfo
paired_by None log told = told
paired_by (Some who) log told = made_peers who (peer_of log who) told

-- ---- the ends of a host, before and after an event

-- the ends of a host are updated, to released or to their present states; everything else stays
pub record Resettled (v : HostsView) (host : ℕ) (gone : Bool) (old new : List EndInfo)
    : Type 0 where
  pub count : length new ≡ length old
  pub log : (who : ℕ) → logged (told_of new who) ≡ logged (told_of old who)
  pub here : (id who : ℕ) → end_at (here_at v host) id ≡ Some who → who < length old
      → HasHostAndState host (state_by gone (state_on_host v host id)) (told_of new who)
  pub others : (who : ℕ) → ((id : ℕ) → end_at (here_at v host) id ≢ Some who)
      → told_of new who ≡ told_of old who

abbrev pub ChangesState : HostsView → Option ℕ → Bool → List EndInfo → List EndInfo → Type 0
ChangesState v None gone old new = new ≡ old
ChangesState v (Some host) gone old new = Resettled v host gone old new

-- host and state are unchanged
pub record SameHostAndState (old new : List EndInfo) : Type 0 where
  pub host : (who : ℕ) → (told_of new who).host ≡ (told_of old who).host
  pub state : (who : ℕ) → (told_of new who).state ≡ (told_of old who).state

abbrev pub hosts_of : World → HostsView
hosts_of w = record { stations = w.hosts; ends = w.ends }

-- the host whose ends an event may change
abbrev pub host_there : World → ℕ → Option ℕ
host_there w who = option_map (λ n. n.host) (slice_get w.ends who)

abbrev pub polled_host : Member → Option ℕ
polled_host (Members.Host host) = Some host
polled_host (Members.Router router) = None

abbrev pub reached_host : Place → Option ℕ
reached_host (Places.Host host) = Some host
reached_host (Places.Port router port) = None

abbrev pub touched_by : World → Event → Option ℕ
touched_by w (Events.Dial host socket to buffers) = Some host
touched_by w (Events.Send who message) = host_there w who
touched_by w (Events.Take who) = host_there w who
touched_by w (Events.Close who) = host_there w who
touched_by w (Events.Pace who window manual) = host_there w who
touched_by w (Events.Again who place) = host_there w who
touched_by w (Events.Release who) = host_there w who
touched_by w (Events.Tick now) = None
touched_by w (Events.Poll member) = polled_host member
touched_by w (Events.Deliver parcel place) = reached_host place
touched_by w (Events.Inject segment next bytes) = None
