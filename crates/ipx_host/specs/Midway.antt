-- The whole state, between two steps, of a sending host, of what it reads into its link, and of a listening
-- host. Nothing here is from a public standard.
use Rattle.std.specs.Prelude.{ℕ, List, Option}
use Rattle.spx_messages.specs.EndpointView.{EndpointView}
use Rattle.ipx_host.specs.Feeding.{FeedState, feed_state}
use Rattle.ipx_host.specs.Hosting.{Host, host}
use Rattle.ipx_host.specs.HostOutput.{left_of}
use Rattle.ipx_host.specs.SendRounds.{SendState, place}
use Rattle.ipx_host.specs.SendSteps.{noted}
use Rattle.ipx_host.specs.SessionLogs.{ListenerCounts, listener_counts}
use Rattle.ipx_host.specs.Turning.{Around, around}
use Rattle.ipx_host.specs.declared.input.Intake.{Intake}
use Rattle.ipx_host.specs.declared.listening.ListeningHost.{ListeningHost}
use Rattle.ipx_host.specs.declared.running_host.RunningHost.{RunningHost}
use Rattle.ipx_host.specs.declared.sending.SendingHost.{SendingHost}
use Rattle.ipx_host.specs.declared.serving.Sessions.{Sessions}

-- an intake with this endpoint. Its reader has this left, if known
abbrev pub feeding_at : Intake → EndpointView → Option (List ℕ) → FeedState
feeding_at i endpoint known = feed_state endpoint i.read i.closed i.acked_bytes known

-- the clock and the port of a host
abbrev pub around_of : {R : Type 0} → RunningHost R → Around R
around_of h = around h.clock h.host_socket.ports

-- a sending host. Its reader has this left, if known
abbrev pub sending_at : {R : Type 0} → SendingHost R → Option (List ℕ) → SendState (Around R)
sending_at s known =
    place (around_of s.station) s.station.core (noted s.joined s.left) s.input.read s.input.closed s.input.acked_bytes known

-- what a listening host counted, if it ran out of memory so often
abbrev pub counts_at : ℕ → Sessions → ListenerCounts
counts_at refused s =
    listener_counts refused s.never_heard s.evicted s.turned_away s.of_never_heard s.of_evicted s.of_turned_away

-- a listening host. Its writer took this, if known
abbrev pub listening_at : {R : Type 0} → ListeningHost R → Option (List ℕ) → Host (Around R)
listening_at l written =
    host (around_of l.station) l.station.core l.sessions.held.items (left_of l.sessions.output) written
    (counts_at l.station.refused l.sessions)
