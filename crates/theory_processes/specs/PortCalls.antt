-- Calls of a host that passed through its port: they read what the port passed on, and what they gave was handed to
-- it. The entry point is `PassThrough`, at the end. Defined by this project.
use Rattle.std.specs.Prelude.{ℕ, ◌≡◌, ◌⊎◌, ◌++◌, List, [], ◌∷◌, flat_map}
use Rattle.ipx_wire.specs.declared.address.Address.{Address}
use Rattle.spx_messages.specs.Arrives.{IsAcceptable}
use Rattle.spx_messages.specs.EndpointView.{EndpointView}
use Rattle.ipx_carrier.specs.Turns.{Turn}
use Rattle.ipx_sockets.specs.PortTurns.{DrivesPort, HostPort}
use Rattle.ipx_host.specs.Barring.{IsAskedBy, IsBarred}
use Rattle.ipx_host.specs.declared.paced_host_core.PacedHostCore.{PacedHostCore}
use Rattle.theory_processes.specs.HostCalls.{Fails, HostCall}
use Rattle.theory_processes.specs.Loops.{HostRuns, answers_in, host_gave, host_heard}
use Rattle.theory_processes.specs.TurnCalls.{ReadsAllowed}

-- what the port of a host gave in a turn
abbrev pub brought_in : Turn → List (List ℕ)
brought_in t = answers_in (λ port bytes. bytes) t.answers

-- these calls read all that the port gave in a turn, except requests from those who may not connect to this core.
-- They gave just the packets of the turn
pub record AreOfTurn (core : PacedHostCore) (t : Turn) (calls : List HostCall) : Type 0 where
  pub reads : ReadsAllowed core (brought_in t) (flat_map host_heard calls)
  pub gave : flat_map host_gave calls ≡ t.packets

-- the one datagram that the port gave in a turn was lost: a request from one who may connect. Nothing was read or
-- given. One of these calls was refused, when the endpoint would have accepted the request: it listened, and had room.
-- That memory ran out for the request is not said
pub record LoseRequest (core : PacedHostCore) (t : Turn) (calls : List HostCall) (start : EndpointView) : Type 0 where
  pub bytes : List ℕ
  pub from : Address
  pub brought : brought_in t ≡ bytes ∷ []
  pub asks : IsAskedBy bytes from
  pub allowed : IsBarred core bytes → ⊥
  pub before : List HostCall
  pub later : List HostCall
  pub refused : calls ≡ before ++ Fails ∷ later
  pub there : EndpointView
  pub runs : HostRuns before start there
  pub acceptable : IsAcceptable there bytes
  pub heard : flat_map host_heard calls ≡ []
  pub gave : flat_map host_gave calls ≡ []
  pub sent : t.packets ≡ []

-- calls, which lead from one endpoint to another, passed through a port in these turns, one after another. Each turn
-- drove the port, and has its calls and those since the turn before. The calls after the last turn read and gave nothing
abbrev pub PassThrough : PacedHostCore → List Turn → List HostCall → (start last : EndpointView) → HostPort → HostPort → Type 0
PassThrough core [] calls start last old new = (new ≡ old)
    × HostRuns calls start last × (flat_map host_heard calls ≡ []) × (flat_map host_gave calls ≡ [])
PassThrough core (t ∷ ts) calls start last old new = (mid : HostPort) × (next : EndpointView)
    × (own more : List HostCall) × (calls ≡ own ++ more) × HostRuns own start next × DrivesPort old t mid
    × (AreOfTurn core t own ⊎ LoseRequest core t own start) × PassThrough core ts more next last mid new
