-- How a listening host stops. Nothing here is from a public standard.
use Rattle.std.specs.Prelude.{ℕ, Bool, true, false, Option, Some, None, Result, Ok, Err}
use Rattle.ipx_host.specs.declared.sessions.SessionAction.{SessionAction}
use Rattle.ipx_host.specs.declared.sessions.SessionAction.TheVariants.{Over}
use Rattle.ipx_host.specs.declared.sessions.Phase.{Phase}
use Rattle.ipx_host.specs.declared.sessions.Phase.TheVariants as Standings
use Rattle.ipx_host.specs.declared.listening.ListenOutcome.{ListenOutcome}
use Rattle.ipx_host.specs.declared.listening.ListenOutcome.TheVariants.{Ended, Lost, Unwritten, Unwaited}

-- the exit status is 0 if the end of the first connection that was heard from was received
abbrev pub stop_status : ListenOutcome → ℕ
stop_status Ended = 0
stop_status Lost = 1
stop_status Unwritten = 1
stop_status Unwaited = 1

-- why a host stops, if it does
abbrev pub stop_in : {T : Type 0} → Result T ListenOutcome → Option ListenOutcome
stop_in (Ok x) = None
stop_in (Err s) = Some s

-- whether a host stops after a connection is released. It stops only with `once`, and only if the connection
-- was heard from. It stops well if the connection is over and its end was taken
abbrev pub parted : Bool → SessionAction → Phase → Option ListenOutcome
parted false fate phase = None
parted true fate Standings.New = None
parted true fate Standings.NewProbed = None
parted true Over Standings.Ended = Some Ended
parted true fate phase = Some Lost
