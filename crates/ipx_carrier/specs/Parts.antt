-- Definitions for private functions: the parts of a turn, which ask the ports and send the core's packets.
use Rattle.std.specs.Prelude.{◌≡◌, ◌<◌, ℕ, Bool, List, [], ◌∷◌, ◌++◌, length, Option, Some, None, is_some}
use Rattle.ipx_carrier.specs.declared.fault.RunFault.{RunFault}
use Rattle.ipx_carrier.specs.declared.report.SendCounts.{SendCounts}
use Rattle.ipx_carrier.specs.Device.{Passes, Reception, TrafficOf}
use Rattle.ipx_carrier.specs.Waits.{LeavesPort, WaitingDatagrams}
use Rattle.ipx_carrier.specs.Turns.{FailsAfter, FailsAtPort, GivesAll, GivesEach, Given, HearsAnswer, HearsEach, Ways, copies_of, sent_of}
use Rattle.ipx_carrier.specs.PortDrivers.{copies_count}
use Rattle.ipx_carrier.specs.Counts.{heard_in, unmapped_in}
use Rattle.ipx_carrier.specs.DriverTurns.{AsksEach, EndsAsking, SendsEach, SendsUntil}

-- ports were asked one after another, each with a buffer of `room` bytes, and gave these
abbrev pub LeavePorts : ℕ → Option WaitingDatagrams → List Reception → Option WaitingDatagrams
    → Type 0
LeavePorts room old [] new = new ≡ old
LeavePorts room old (r ∷ rs) new = (mid : Option WaitingDatagrams)
    × LeavesPort room r.port old r.bytes mid × LeavePorts room mid rs new

-- exactly what a device received meanwhile left what waits there
abbrev pub TakesFromDevice : {A : Type 0} → ℕ → Option (TrafficOf A) → Option (TrafficOf A)
    → Option WaitingDatagrams → Option WaitingDatagrams → Type 0
TakesFromDevice {A} room before after old new = (received : List Reception) × (sent : List A)
    × Passes before after received sent × LeavePorts room old received new

module _ {C S : Type 0} (hears : C → ℕ → List ℕ → ℕ → C → Type 0)
    (receives : S → ℕ → ℕ → Option (List ℕ) → S → Type 0) {A : Type 0} where
  -- a port was asked into a buffer of this size, and the core received what it gave
  abbrev pub AsksPort : ℕ → ℕ → ℕ → Option (TrafficOf A) → Option (TrafficOf A) → S → S → C → C → Bool → Type 0
  AsksPort now size port before after driver driver_after old new heard = (bytes : Option (List ℕ))
      × Passes before after (record { port = port; bytes = bytes } ∷ []) []
      × HearsAnswer hears now port bytes old new × (heard ≡ is_some bytes)
      × receives driver port size bytes driver_after

module _ {C : Type 0} (hears : C → ℕ → List ℕ → ℕ → C → Type 0) {A : Type 0} where
  -- this many ports were asked in order, and the core received what they gave
  abbrev pub AsksPorts : ℕ → ℕ → Option (TrafficOf A) → Option (TrafficOf A) → C → C → ℕ → Type 0
  AsksPorts now ports before after old new count = (rs : List Reception) × (length rs ≡ ports)
      × Passes before after rs [] × HearsEach hears now 0 rs old new × (count ≡ heard_in rs)

module _ {C S : Type 0} (hear_out_of_memory : C → ℕ → List ℕ → ℕ → C → Type 0)
    (receives : S → ℕ → ℕ → Option (List ℕ) → S → Type 0) (fails_to_receive : S → ℕ → ℕ → S → Type 0)
    {A : Type 0} where
  -- a port was asked, which ended in a fault
  abbrev pub PollFails : ℕ → ℕ → ℕ → Option (TrafficOf A) → Option (TrafficOf A) → RunFault → S → S → C → C
      → Type 0
  PollFails now size port before after fault driver driver_after old new = (last : List Reception)
      × Passes before after last [] × FailsAtPort hear_out_of_memory now port last fault old new
      × (asked : S) × AsksEach receives size last driver asked
      × EndsAsking fails_to_receive port size fault asked driver_after

module _ {C : Type 0} (hears hear_out_of_memory : C → ℕ → List ℕ → ℕ → C → Type 0) {A : Type 0} where
  -- some of the ports were asked in order, and the last one ended in a fault
  abbrev pub AsksSomePorts : ℕ → ℕ → Option (TrafficOf A) → Option (TrafficOf A) → RunFault → C → C
      → Type 0
  AsksSomePorts now ports before after fault old new = (heard last : List Reception) × (mid : C)
      × (length heard < ports) × Passes before after (heard ++ last) []
      × HearsEach hears now 0 heard old mid
      × FailsAtPort hear_out_of_memory now (length heard) last fault mid new

-- the counts of the packets that a core gave
abbrev pub totals_of : {A : Type 0} → Ways A → List Given → SendCounts
totals_of transmissions packets =
    record { sent = length (sent_of transmissions packets); unmapped = unmapped_in transmissions packets }

module _ {C S : Type 0} (gives : C → ℕ → Option Given → C → Type 0) (sends : S → Given → S → Type 0)
    {A : Type 0} where
  -- the core was asked once: it gave none, or a packet that was sent
  abbrev pub SendsNext : ℕ → Ways A → Option (TrafficOf A) → Option (TrafficOf A) → S → S → C → C
      → Option (Option ℕ) → Type 0
  SendsNext now transmissions before after driver driver_after old new None = gives old now None new
      × (after ≡ before) × (driver_after ≡ driver)
  SendsNext now transmissions before after driver driver_after old new (Some count) = (p : Given)
      × gives old now (Some p) new × Passes before after [] (copies_of transmissions p)
      × (count ≡ copies_count transmissions p) × sends driver p driver_after

  -- the core gave this many packets, and they were sent
  abbrev pub SendsCounted : ℕ → ℕ → Ways A → Option (TrafficOf A) → Option (TrafficOf A) → S → S → C → C
      → SendCounts → Type 0
  SendsCounted count now transmissions before after driver driver_after old new totals = (packets : List Given)
      × (length packets ≡ count) × GivesEach gives now packets old new
      × Passes before after [] (sent_of transmissions packets) × (totals ≡ totals_of transmissions packets)
      × SendsEach sends packets driver driver_after

  -- the core gave all its packets, or 64 of them, and they were sent
  abbrev pub SendsAll : ℕ → Ways A → Option (TrafficOf A) → Option (TrafficOf A) → S → S → C → C → SendCounts
      → Type 0
  SendsAll now transmissions before after driver driver_after old new totals = (packets : List Given)
      × GivesAll gives now packets old new
      × Passes before after [] (sent_of transmissions packets) × (totals ≡ totals_of transmissions packets)
      × SendsEach sends packets driver driver_after

module _ {C S : Type 0} (gives : C → ℕ → Option Given → C → Type 0)
    (next_out_of_memory : C → ℕ → C → Type 0) (sends fails_to_send : S → Given → S → Type 0) {A : Type 0} where
  -- the core was asked at most `most` times, and the last one ended in a fault
  abbrev pub SendsSome : ℕ → ℕ → Ways A → Option (TrafficOf A) → Option (TrafficOf A) → RunFault → S → S
      → C → C → Type 0
  SendsSome most now transmissions before after fault driver driver_after old new = (packets : List Given)
      × (sent : List A) × FailsAfter gives next_out_of_memory most now transmissions packets sent fault old new
      × Passes before after [] sent × SendsUntil sends fails_to_send packets fault driver driver_after
