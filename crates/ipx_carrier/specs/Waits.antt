-- The datagrams that wait at the ports of a device, and how they leave. The entry points are `LeavesPort` for
-- one asking of a port, and `DrainsDevice` for a whole run.
use Rattle.std.specs.Prelude.{◌≡◌, ◌⊎◌, ℕ, List, [], ◌++◌, length, map, filter, take, drop, replicate, slice_get, slice_set, Option, Some, None, IfSome, option_map, ◌==◌}
use Rattle.ipx_carrier.specs.Device.{Passes, Reception, TrafficOf}

-- the datagrams that wait at each port, in order
abbrev pub WaitingDatagrams : Type 0
WaitingDatagrams = List (List (List ℕ))

-- a port was asked, with a buffer of `room` bytes. Its first datagram left it, and was returned as far as it
-- fits; or none waited, and none was returned. The other ports are as they were
abbrev pub LeavesPort : ℕ → ℕ → Option WaitingDatagrams → Option (List ℕ)
    → Option WaitingDatagrams → Type 0
LeavesPort room port old answer new = IfSome old (λ waited. (here : List (List ℕ))
    × (slice_get waited port ≡ Some here) × (answer ≡ option_map (take room) (slice_get here 0))
    × (new ≡ Some (slice_set waited port (drop 1 here))))

-- what a port returned, each time that it was asked
abbrev pub answers_of_port : ℕ → List Reception → List (Option (List ℕ))
answers_of_port port received = map (λ r. r.bytes) (filter (λ r. r.port == port) received)

-- a port was asked again and again, and nothing arrived meanwhile. It returned the first datagrams that
-- waited, in order and each as far as it fits, and the others still wait. It returned None only once none was
-- left
abbrev pub DrainsPort : ℕ → List (List ℕ) → List (Option (List ℕ)) → List (List ℕ) → Type 0
DrainsPort room waited answers waiting = (first : List (List ℕ)) × (nothing : ℕ)
    × (waited ≡ first ++ waiting)
    × (answers ≡ map (λ d. Some (take room d)) first ++ replicate nothing None)
    × ((nothing ≡ 0) ⊎ (waiting ≡ []))

-- the same for each port
abbrev pub DrainsPorts : ℕ → WaitingDatagrams → List Reception → WaitingDatagrams → Type 0
DrainsPorts room waited received waiting = (length waiting ≡ length waited)
    × ((port : ℕ) (here : List (List ℕ)) → slice_get waited port ≡ Some here
    → (left : List (List ℕ)) × (slice_get waiting port ≡ Some left)
    × DrainsPort room here (answers_of_port port received) left)

-- the same for a device that tells what waits, by what it recorded as received meanwhile
abbrev pub DrainsDevice : {A : Type 0} → ℕ → Option (TrafficOf A) → Option (TrafficOf A)
    → Option WaitingDatagrams → Option WaitingDatagrams → Type 0
DrainsDevice {A} room before after old new = (received : List Reception) × (sent : List A)
    × Passes before after received sent
    × IfSome old (λ waited. (waiting : WaitingDatagrams) × (new ≡ Some waiting)
    × DrainsPorts room waited received waiting)
