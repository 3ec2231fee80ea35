-- How the host of an operator asks: turn by turn, until it is over. Defined by this project. The entry point
-- is `HasAsked`.
use Rattle.std.specs.Prelude.{◌≡◌, ◌≤◌, ℕ, List, [], ◌∷◌, true}
use Rattle.ipx_carrier.specs.Turns.{Turn, Turns, moments_of}
use Rattle.ipx_query.specs.QueryAnswers.{AskHears}
use Rattle.ipx_query.specs.QueryEnds.{is_ask_over}
use Rattle.ipx_query.specs.AskQueries.{AskGives}
use Rattle.ipx_query.specs.QueryView.{AskView, IsNewAsk}
use Rattle.ipx_query.specs.declared.question.TableQuery.{TableQuery}
use Rattle.ipx_config.specs.declared.host.HostConfig.{HostConfig}
use Rattle.ipx_sockets.specs.PortTurns.{HostPort}
use Rattle.ipx_query_cmd.specs.QueryPorts.{DrivesPortOn, IsOpened}
use Rattle.ipx_query_cmd.specs.QueryTargets.{asked_nodes, guarded_querier, querier_address}

-- it hears what comes at its one port
abbrev pub hears_answer : AskView → ℕ → List ℕ → ℕ → AskView → Type 0
hears_answer old port bytes now new = AskHears old bytes now new

-- these times lie between two others, and time never goes back
abbrev pub PassBetween : ℕ → List ℕ → ℕ → Type 0
PassBetween from [] to = from ≤ to
PassBetween from (moment ∷ moments) to = (from ≤ moment) × PassBetween moment moments to

-- from one time of its clock to another it took these turns. In each it heard just what its port gave, and the
-- port sent just what it gave
abbrev pub AsksOn : List Turn → ℕ → ℕ → HostPort → HostPort → AskView → AskView → Type 0
AsksOn turns from to port port_after old new = Turns hears_answer AskGives 1 turns old new
    × PassBetween from (moments_of turns) to × DrivesPortOn turns port port_after

-- the host of a file sent a query to its routers. It began with a new core at time 0 of its clock, and with its
-- port as it was opened. It took turns, and was over at this time, which is not before any turn
pub record HasAsked (file : HostConfig) (question : TableQuery) (ask : AskView) (now : ℕ) : Type 0 where
  pub fresh : AskView
  pub port : HostPort
  pub port_after : HostPort
  pub turns : List Turn
  pub begins : IsNewAsk (querier_address file) question (asked_nodes file) fresh
  pub opens : IsOpened file (guarded_querier file) port
  pub asks : AsksOn turns 0 now port port_after fresh ask
  pub over : is_ask_over ask now ≡ true
