-- What is reported of the ends of a host: which ids are ends, and the states of their links.
use Rattle.std.specs.Prelude.{ℕ, List, [], Option, Some, None, slice_get}
use Rattle.spx_link.specs.declared.state.State.{State}
use Rattle.spx_messages.specs.EndpointView.{Held}
use Rattle.spx_theory.specs.World.{HostState, held_in}
use Rattle.ipx_net_hosts.specs.Hosts.{HostsView}

abbrev pub here_in : Option HostState → List (ℕ × ℕ)
here_in None = []
here_in (Some s) = s.here

-- the ids of a host that are ends, each with its end
abbrev pub here_at : HostsView → ℕ → List (ℕ × ℕ)
here_at v host = here_in (slice_get v.stations host)

-- the state of a link, if there is one
abbrev pub state_of : Option Held → Option State
state_of None = None
state_of (Some h) = Some h.link.state

abbrev pub state_on_host : HostsView → ℕ → ℕ → Option State
state_on_host v host id = state_of (held_in (slice_get v.stations host) id)
