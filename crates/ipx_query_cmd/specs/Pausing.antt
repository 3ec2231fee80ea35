-- When the host of an operator waits after a turn, and for how long. Defined by this project. The entry points
-- are `PausesAfter` and `MayPause`.
use Rattle.std.specs.Prelude.{◌≡◌, ◌<◌, ◌⊎◌, ℕ, ◌∷◌, [], Option, Some, None}
use Rattle.ipx_carrier.specs.Counts.{report_of}
use Rattle.ipx_carrier.specs.Turns.{Turn, by_ip, peers_of}
use Rattle.ipx_sockets.specs.Polling.{WaitsOnce}
use Rattle.ipx_sockets.specs.SourceFilter.{drops_in}
use Rattle.ipx_sockets.specs.declared.poller.Poller.{Poller}
use Rattle.ipx_query_cmd.specs.declared.query_socket.QuerySocket.{QuerySocket}

-- a turn over its socket received or sent a datagram, or the socket filtered one meanwhile
abbrev pub IsBusy : QuerySocket → QuerySocket → Turn → Type 0
IsBusy old new turn = (0 < (report_of (by_ip (peers_of old.ports.peers.items)) (turn ∷ [])).heard)
    ⊎ ((0 < (report_of (by_ip (peers_of old.ports.peers.items)) (turn ∷ [])).sent)
    ⊎ (drops_in old.ports.device.kept < drops_in new.ports.device.kept))

-- it does not wait, or it waits once, at most 20 ms
abbrev pub MayPause : Poller → Poller → Type 0
MayPause old new = (new ≡ old) ⊎ WaitsOnce 20 old new

-- after a busy turn it goes on at once. After another it waits, once, unless all is over at some time
abbrev pub PausesAfter : Type 0 → Option ℕ → Poller → Poller → Type 0
PausesAfter busy (Some over) old new = new ≡ old
PausesAfter busy None old new = (busy × (new ≡ old)) ⊎ ((busy → ⊥) × WaitsOnce 20 old new)
