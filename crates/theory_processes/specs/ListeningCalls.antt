-- The steps of `ipx listen`, as the calls of a host, and what follows from them. The entry points are
-- `ListensWellByCalls`, of a run that ended well, and `OutputIsInput`. Defined by this project.
use Rattle.std.specs.Prelude.{ℕ, ◌≡◌, ◌≢◌, All, List, [], ◌∷◌, ◌++◌, Ok, Option, None, Some, flat_map, slice_get}
use Rattle.std.specs.Io.KnownBytes.{Appends}
use Rattle.ipx_carrier.specs.Mapping.{node_at}
use Rattle.ipx_carrier.specs.Turns.{Turn}
use Rattle.ipx_config.specs.AllowedPeers.{named_in}
use Rattle.ipx_config.specs.declared.host.HostConfig.{HostConfig}
use Rattle.ipx_sockets.specs.PortTurns.{HostPort}
use Rattle.ipx_wire.specs.declared.address.Address.{Address}
use Rattle.ipx_wire.specs.declared.address.Socket.{Socket}
use Rattle.spx_messages.specs.EndpointView.{EndpointView, buffers_at}
use Rattle.spx_messages.specs.Message.{MessageView}
use Rattle.spx_messages.specs.Taking.{PeerEnd}
use Rattle.spx_theory.specs.Peers.{ArePeers}
use Rattle.spx_theory.specs.Scene.{Scene}
use Rattle.ipx_host.specs.HostPorts.{IsOpened}
use Rattle.ipx_host.specs.Hosting.{end_of}
use Rattle.ipx_host.specs.Passing.{Take, bodies_of}
use Rattle.ipx_host.specs.declared.paced_host_core.PacedHostCore.{PacedHostCore}
use Rattle.theory_processes.specs.Course.{Call, IsNewHost}
use Rattle.theory_processes.specs.HostCalls.{AsksAgain, Begins, Closes, Dials, Fails, Gives, HandsIn, Hears, HostCall, Paces, Releases, Source, Takes}
use Rattle.theory_processes.specs.Loops.{HostRuns, host_calls, marked}
use Rattle.theory_processes.specs.Site.{Connection, Site}
use Rattle.theory_processes.specs.BetweenTurns.{message_of}
use Rattle.theory_processes.specs.PortCalls.{PassThrough}
use Rattle.theory_processes.specs.TurnCalls.{AcceptFrom}

-- a call that a listening host makes: it neither asks for a connection nor ends one, listens nowhere else, and
-- hands in only messages of no bytes
abbrev pub IsOfListener : HostCall → Type 0
IsOfListener (Hears source bytes now answer) = Unit {0}
IsOfListener (Gives now given) = Unit {0}
IsOfListener (Dials socket to buffers now id) = ⊥
IsOfListener (HandsIn id m) = m ≡ message_of []
IsOfListener (Closes id) = ⊥
IsOfListener (Takes id answer) = Unit {0}
IsOfListener (Paces id window manual) = Unit {0}
IsOfListener (AsksAgain id place) = Unit {0}
IsOfListener (Releases id) = Unit {0}
IsOfListener (Begins socket buffers) = ⊥
IsOfListener Fails = Unit {0}

-- the takes among calls, in order
abbrev pub take_in : HostCall → List Take
take_in (Takes id answer) = record { id = id; gave = answer } ∷ []
take_in call = []

-- calls of a listening host, of which these are the takes
pub record ListensByCalls (old new : EndpointView) (takes : List Take) : Type 0 where
  pub calls : List HostCall
  pub runs : HostRuns calls old new
  pub kinds : All IsOfListener calls
  pub took : flat_map take_in calls ≡ takes

-- a run of `ipx listen` that ended well: a new host at the network and node of a file, which listens at the
-- socket of the file and nowhere else, made these calls. All takes are of one id. One of the calls accepted
-- a connection of that id, for a request from this address. The last take alone gave the end of the peer. A writer
-- took the bodies of the messages that the takes gave, one after another. The calls passed through the port that the
-- file describes, from how it was opened on. Who may connect is as the file says
pub record ListensWellByCalls (file : HostConfig) (written writes : Option (List ℕ)) : Type 0 where
  pub start : EndpointView
  pub last : EndpointView
  pub new : IsNewHost start
  pub network : start.network ≡ file.network
  pub node : start.node ≡ node_at file.address
  pub listens : buffers_at start file.socket ≡ Some file.buffers
  pub alone : (s : Socket) → s.0 ≢ file.socket.0 → buffers_at start s ≡ None
  pub takes : List Take
  pub calls : ListensByCalls start last takes
  pub id : ℕ
  pub of_it : All (λ (t : Take). t.id ≡ id) takes
  pub from : Address
  pub accepted : AcceptFrom calls.calls id from
  pub earlier : List Take
  pub ends : takes ≡ earlier ++ end_of id ∷ []
  pub no_other : All (λ (t : Take). t.gave ≢ Ok PeerEnd) earlier
  pub took : Appends written writes (bodies_of takes)
  pub opened : HostPort
  pub closed : HostPort
  pub as_opened : IsOpened file None opened
  pub rules : PacedHostCore
  pub allows : named_in rules.from ≡ named_in file.from
  pub own : rules.network ≡ file.network
  pub turns : List Turn
  pub through : PassThrough rules turns calls.calls start last opened closed

-- in a course the calls of this host are those of such a run, and it ended as the run did. The course says where
-- the datagrams came from
pub record ListensAt {file : HostConfig} {written writes : Option (List ℕ)} (run : ListensWellByCalls file written writes)
    (calls : List Call) (site : Site) (host : ℕ) : Type 0 where
  pub sources : List Source
  pub are : host_calls host calls ≡ marked sources run.calls.calls
  pub ends : slice_get site.hosts host ≡ Some run.last

-- what a writer took is all that the peer of a connection at this host handed in: the bodies of its messages, one
-- after another
pub record OutputIsInput (s : Scene) (site : Site) (host id : ℕ) (written writes : Option (List ℕ)) : Type 0 where
  pub one : ℕ
  pub two : ℕ
  pub sender : Connection
  pub reader : Connection
  pub peers : ArePeers s.log one two
  pub there : slice_get site.connections one ≡ Some sender
  pub there_too : slice_get site.connections two ≡ Some reader
  pub host_is : reader.host ≡ host
  pub id_is : reader.id ≡ id
  pub wrote : Appends written writes (flat_map (λ (m : MessageView). m.body) sender.given)
