-- A run of `ipx send` that ended with status 0, as the calls of a host, and what follows from it. The entry
-- points are `SendsByCalls` and `InputIsRead`. Defined by this project.
use Rattle.std.specs.Prelude.{ℕ, ◌≡◌, List, ◌∷◌, IfSome, None, Option, Some, flat_map, slice_get}
use Rattle.ipx_config.specs.Destinations.{dialed_ip}
use Rattle.ipx_config.specs.declared.host.HostConfig.{HostConfig}
use Rattle.ipx_wire.specs.declared.address.Address.{Address}
use Rattle.ipx_wire.specs.declared.address.Socket.{Socket}
use Rattle.ipx_carrier.specs.Mapping.{node_at}
use Rattle.ipx_carrier.specs.Turns.{Turn}
use Rattle.ipx_sockets.specs.PortTurns.{HostPort}
use Rattle.ipx_host.specs.HostPorts.{IsOpened}
use Rattle.ipx_host.specs.declared.paced_host_core.PacedHostCore.{PacedHostCore}
use Rattle.spx_link.specs.LinkView.{LinkView}
use Rattle.spx_messages.specs.EndpointView.{EndpointView, buffers_at}
use Rattle.spx_messages.specs.Message.{MessageView}
use Rattle.spx_theory.specs.Scene.{Scene}
use Rattle.theory_processes.specs.Course.{Call, IsNewHost}
use Rattle.theory_processes.specs.HostCalls.{Dials, HostCall, Source}
use Rattle.theory_processes.specs.Loops.{HostRuns, host_calls, marked}
use Rattle.theory_processes.specs.Senders.{AllKeepId, IsWholeAt, WereRead, messages_in}
use Rattle.theory_processes.specs.Site.{Site}
use Rattle.theory_processes.specs.PortCalls.{PassThrough}

-- the bodies of the messages that these calls hand in at an id, one after another
abbrev pub bodies_in : ℕ → List HostCall → List ℕ
bodies_in id calls = flat_map (λ (m : MessageView). m.body) (messages_in id calls)

-- a new host at the network and node of a file, which listens nowhere, dialled an address. Its further calls keep
-- that connection, and handed in the whole input, if it is known, in order. At the end all of it is acknowledged,
-- and the end too. The link still goes to that address. These calls passed through the port that the file describes,
-- from how it was opened on
pub record SendsByCalls (file : HostConfig) (to : Address) (input : Option (List ℕ)) : Type 0 where
  pub start : EndpointView
  pub last : EndpointView
  pub id : ℕ
  pub more : List HostCall
  pub new : IsNewHost start
  pub network : start.network ≡ file.network
  pub node : start.node ≡ node_at file.address
  pub alone : (s : Socket) → buffers_at start s ≡ None
  pub runs : HostRuns (Dials file.socket to file.buffers 0 id ∷ more) start last
  pub keeps : AllKeepId id more
  pub handed : IfSome input (λ bytes. bodies_in id more ≡ bytes)
  pub whole : IsWholeAt last id
  pub goes : whole.held.link.remote ≡ to
  pub opened : HostPort
  pub closed : HostPort
  pub as_opened : IsOpened file (dialed_ip file to) opened
  pub rules : PacedHostCore
  pub turns : List Turn
  pub through : PassThrough rules turns more runs.0 last opened closed

-- in a course the calls of this host are those of such a run, and it ended as the run did. The course says where
-- the datagrams came from
pub record RunsAt {file : HostConfig} {to : Address} {input : Option (List ℕ)} (run : SendsByCalls file to input)
    (calls : List Call) (site : Site) (host : ℕ) : Type 0 where
  pub sources : List Source
  pub are : host_calls host calls ≡ marked sources (Dials file.socket to file.buffers 0 run.id ∷ run.more)
  pub ends : slice_get site.hosts host ≡ Some run.last

-- the input of a connection with this link, if it is known, has a reader: at a host of the network and node of this
-- address, to which the link goes, a peer took messages whose bodies are the input, one after another, or has the
-- rest of them whole
pub record InputIsRead (s : Scene) (site : Site) (host id : ℕ) (link : LinkView) (to : Address)
    (input : Option (List ℕ)) : Type 0 where
  pub messages : List MessageView
  pub bodies : IfSome input (λ bytes. flat_map (λ (m : MessageView). m.body) messages ≡ bytes)
  pub goes : link.remote ≡ to
  pub read : WereRead s site host id messages link
