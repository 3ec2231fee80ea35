-- How the host of an operator pings: turn by turn, until it is over, with a line for each event. Defined by
-- this project. The entry points are `HasPinged` and `pinged_lines`.
use Rattle.std.specs.Prelude.{◌≡◌, ◌≤◌, ℕ, List, [], ◌∷◌, ◌++◌, Option, flat_map, true}
use Rattle.ipx_wire.specs.declared.address.Address.{Address}
use Rattle.ipx_carrier.specs.Mapping.{node_at}
use Rattle.ipx_carrier.specs.Turns.{IsTurn, Turn}
use Rattle.ipx_query.specs.PingAnswers.{PingHears}
use Rattle.ipx_query.specs.PingEnds.{is_ping_over, new_ping}
use Rattle.ipx_query.specs.PingRequests.{PingGives}
use Rattle.ipx_query.specs.declared.ping_core.PingCore.{PingCore}
use Rattle.ipx_config.specs.declared.host.HostConfig.{HostConfig}
use Rattle.ipx_sockets.specs.PortTurns.{DrivesPort, HostPort}
use Rattle.ipx_query_cmd.specs.PingLines.{news_text, news_times, ping_end_text, ping_news}
use Rattle.ipx_query_cmd.specs.PingTargets.{guarded_pinger}
use Rattle.ipx_query_cmd.specs.QueryPorts.{IsOpened}
use Rattle.ipx_query_cmd.specs.QueryTargets.{querier_address}
use Rattle.ipx_query_cmd.specs.declared.ping_event.PingEvent.{PingEvent}

-- it hears what comes at its one port
abbrev pub hears_reply : PingCore → ℕ → List ℕ → ℕ → PingCore → Type 0
hears_reply old port bytes now new = PingHears old bytes new

-- a turn, and its event
pub record PingTurn : Type 0 where
  pub turn : Turn
  pub news : Option PingEvent

-- it was taken between two times, and this was its event, with some time if it was an answer. The core heard just
-- what its port gave, and the port sent just what the core gave
pub record IsPingTurn (t : PingTurn) (from to : ℕ) (port port_after : HostPort) (old new : PingCore) : Type 0 where
  pub turns : IsTurn hears_reply PingGives 1 t.turn old new
  pub drives : DrivesPort port t.turn port_after
  pub after : from ≤ t.turn.moment
  pub before : t.turn.moment ≤ to
  pub tenths : ℕ
  pub news : t.news ≡ ping_news old new tenths

-- from one time of its clock to another it took these turns
abbrev pub PingsOn : List PingTurn → ℕ → ℕ → HostPort → HostPort → PingCore → PingCore → Type 0
PingsOn [] from to port port_after old new = (new ≡ old) × (from ≤ to) × (port_after ≡ port)
PingsOn (t ∷ ts) from to port port_after old new = (mid : PingCore) × (between : ℕ) × (there : HostPort)
    × IsPingTurn t from between port there old mid × PingsOn ts between to there port_after mid new

-- the lines of turns, and the times of the answers
abbrev pub lines_printed : Address → List PingTurn → List ℕ
lines_printed to turns = flat_map (λ t. news_text to t.news) turns

abbrev pub times_printed : List PingTurn → List ℕ
times_printed turns = flat_map (λ t. news_times t.news) turns

-- the id of each request of each run: a listener answers all of them from one connection
abbrev pub ping_id : ℕ
ping_id = 65534

-- the host of a file pinged a listener with this many requests. It began with a new core at time 0 of its clock,
-- and with its port as it was opened. It took these turns, and was over at this time, which is not before any turn
pub record HasPinged (file : HostConfig) (to : Address) (count : ℕ) (turns : List PingTurn)
    (ping : PingCore) (now : ℕ) : Type 0 where
  pub port : HostPort
  pub port_after : HostPort
  pub opens : IsOpened file (guarded_pinger file to) port
  pub pings : PingsOn turns 0 now port port_after
      (new_ping (querier_address file) (node_at file.router) to ping_id count) ping
  pub over : is_ping_over ping now ≡ true

-- all that is printed of it
abbrev pub pinged_lines : Address → List PingTurn → PingCore → List ℕ
pinged_lines to turns ping = lines_printed to turns ++ ping_end_text to ping (times_printed turns)
