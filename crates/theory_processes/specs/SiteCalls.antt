-- The calls on the core of `ipx route`, each one exactly, and what turns over its ports are. The entry points
-- are `DoesSiteCall`, and `SiteTurnsAreCalls` and `SiteFaultsAreCalls`. Defined by this project.
use Rattle.std.specs.Prelude.{ℕ, ◌≡◌, ◌≢◌, ◌≤◌, ◌++◌, List, [], length}
use Rattle.ipx_carrier.specs.Turns.{FailsMidTurn, Turn, Turns, Ways, packets_of, received_of}
use Rattle.ipx_carrier.specs.declared.fault.RunFault.{RunFault}
use Rattle.ipx_carrier.specs.declared.fault.RunFault.TheVariants.{OutOfMemory}
use Rattle.ipx_site.specs.RouterPorts.{PortCopy}
use Rattle.ipx_site.specs.SiteCore.{SiteAsksAgain, SiteCore, SiteGives, SiteHears, SiteHearOutOfMemory, SiteNextOutOfMemory}
use Rattle.theory_processes.specs.Loops.{AreCallsOf, Runs, answers_in, router_gave, router_heard}
use Rattle.theory_processes.specs.RouterCalls.{HearsOn, HearOutOfMemoryOn, NextOutOfMemoryAt, Passes, RouterCall, StartsAgain}

-- its calls are of the same kinds as those on a router
abbrev pub DoesSiteCall : RouterCall → SiteCore → SiteCore → Type 0
DoesSiteCall (HearsOn source port bytes now) old new = SiteHears old port bytes now new
DoesSiteCall (HearOutOfMemoryOn port bytes now) old new = SiteHearOutOfMemory old port bytes now new
DoesSiteCall (Passes now given) old new = SiteGives old now given new
DoesSiteCall (NextOutOfMemoryAt now) old new = SiteNextOutOfMemory old now new
DoesSiteCall StartsAgain old new = SiteAsksAgain old new

abbrev pub SiteRuns : List RouterCall → SiteCore → SiteCore → Type 0
SiteRuns = Runs DoesSiteCall

-- some calls lead from one state to the other
abbrev pub SiteCallsLead : SiteCore → SiteCore → Type 0
SiteCallsLead old new = (calls : List RouterCall) × SiteRuns calls old new

-- what ports gave, each with its number
abbrev pub numbered : ℕ → List ℕ → ℕ × List ℕ
numbered port bytes = (port, bytes)

-- whole turns are calls, which received and gave the same, in the same order
abbrev pub SiteTurnsAreCalls : Type 0
SiteTurnsAreCalls = (ports : ℕ) (course : List Turn) (old new : SiteCore)
    → Turns SiteHears SiteGives ports course old new
    → AreCallsOf DoesSiteCall router_heard router_gave
    (answers_in numbered (received_of course)) (packets_of course) old new

-- a turn that a fault ends is calls too. Of what its ports gave, at most one datagram, the last, may be missing, and
-- only if memory ran out. It gave the packets of the turn
abbrev pub SiteFaultsAreCalls : Type 0
SiteFaultsAreCalls = (ports : ℕ) (ways : Ways PortCopy) (t : Turn) (sent : List PortCopy) (fault : RunFault)
    (old new : SiteCore)
    → FailsMidTurn SiteHears SiteHearOutOfMemory SiteGives SiteNextOutOfMemory ports ways t sent fault old new
    → (received lost : List (ℕ × List ℕ)) × (answers_in numbered t.answers ≡ received ++ lost)
    × (length lost ≤ 1) × (lost ≢ [] → fault ≡ OutOfMemory)
    × AreCallsOf DoesSiteCall router_heard router_gave received t.packets old new
