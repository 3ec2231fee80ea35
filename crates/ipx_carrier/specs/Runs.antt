-- What a run leaves: turns of a core over a device, each at a given time of the clock. The entry points over
-- datagrams to IP addresses are `Runs`, and `EndsEarly` if a fault ends the run. `RunsBy` and `EndsEarlyBy`
-- are the same over any port driver.
use Rattle.std.specs.Prelude.{◌≡◌, ◌<◌, ℕ, List, [], ◌∷◌, ◌++◌, length, Option}
use Rattle.ipx_carrier.specs.declared.fault.RunFault.{RunFault}
use Rattle.ipx_carrier.specs.declared.report.Report.{Report}
use Rattle.ipx_carrier.specs.Device.{Passes, TellsMoments, Traffic, TrafficOf}
use Rattle.ipx_carrier.specs.Turns.{FailsMidTurn, Given, Peers, Turn, Turns, Ways, by_ip, moments_of, packets_of, received_of, sent_of}
use Rattle.ipx_carrier.specs.Counts.{report_of}

module _ {C : Type 0} (hears : C → ℕ → List ℕ → ℕ → C → Type 0)
    (gives : C → ℕ → Option Given → C → Type 0) {K : Type 0} (tells : K → ℕ → K → Type 0)
    (ports : ℕ) where
  -- this many whole turns: what was received and sent and the times read are theirs, and the report counts
  -- them
  abbrev pub RunsBy : {A : Type 0} → Ways A → ℕ → Option (TrafficOf A) → Option (TrafficOf A)
      → K → K → C → C → Report → Type 0
  RunsBy transmissions turns before after clock clock_after old new report = (course : List Turn)
      × (length course ≡ turns) × Turns hears gives ports course old new
      × Passes before after (received_of course) (sent_of transmissions (packets_of course))
      × TellsMoments tells clock clock_after (moments_of course) × (report ≡ report_of transmissions course)

  abbrev pub Runs : Peers → ℕ → Option Traffic → Option Traffic → K → K → C → C → Report → Type 0
  Runs peers = RunsBy (by_ip peers)

module _ {C : Type 0} (hears hear_out_of_memory : C → ℕ → List ℕ → ℕ → C → Type 0)
    (gives : C → ℕ → Option Given → C → Type 0) (next_out_of_memory : C → ℕ → C → Type 0)
    {K : Type 0} (tells : K → ℕ → K → Type 0) (ports : ℕ) where
  -- fewer whole turns, and then one that a fault ends: what was received and sent, the times read, and the
  -- core after are theirs
  abbrev pub EndsEarlyBy : {A : Type 0} → Ways A → ℕ → Option (TrafficOf A) → Option (TrafficOf A)
      → K → K → RunFault → C → C → Type 0
  EndsEarlyBy {A} transmissions turns before after clock clock_after fault old new = (course : List Turn)
      × (last : Turn) × (sent : List A) × (mid : C) × (length course < turns)
      × Turns hears gives ports course old mid
      × FailsMidTurn hears hear_out_of_memory gives next_out_of_memory ports transmissions last sent fault mid new
      × Passes before after (received_of course ++ last.answers)
      (sent_of transmissions (packets_of course) ++ sent)
      × TellsMoments tells clock clock_after (moments_of course ++ last.moment ∷ [])

  abbrev pub EndsEarly : Peers → ℕ → Option Traffic → Option Traffic → K → K → RunFault → C → C
      → Type 0
  EndsEarly peers = EndsEarlyBy (by_ip peers)
