-- No unit exceeds an allocation (Novell SPX: the allocation number), and an end without a peer reads no unit.
use Rattle.std.specs.Prelude.{ℕ, ◌≡◌, ◌<◌, ◌+◌, List, [], ◌∷◌, ◌++◌, length}
use Rattle.spx_theory.specs.LogPremises.{IsMadeBy}
use Rattle.spx_theory.specs.Note.{Note, Got, SendsUnit}
use Rattle.spx_theory.specs.Scan.{scan, mark_of, role_of}
use Rattle.spx_theory.specs.Peers.{ArePeers, Premises}
use Rattle.spx_theory.specs.Handed.{handed_out, taken_of}
use Rattle.spx_theory.specs.Scene.{Scene}
use Rattle.spx_theory.specs.InStep.{IfPresent}
use Rattle.spx_theory.specs.SentUnits.{sent_by}

-- before this, the end read a packet whose sender had, before the entry of its origin, taken so many units
-- that with its buffers they are more than n
pub record IsAllowed (before : List Note) (who n : ℕ) : Type 0 where
  pub parcel : ℕ
  pub sender : ℕ
  pub making : Note
  pub past : List Note
  pub later : List Note
  pub older : List Note
  pub newer : List Note
  pub read : before ≡ older ++ Got who parcel ∷ newer
  pub made : before ≡ past ++ making ∷ later
  pub by : IsMadeBy making sender (mark_of (scan before) parcel).origin
  pub allows : n < length (taken_of sender past) + (role_of (scan before) sender).buffers

-- for ends with a peer and without one
abbrev pub WithinAllocation : Scene → Type 0
WithinAllocation s =
    Premises s.log → (before after : List Note) (who parcel : ℕ)
    → s.log ≡ before ++ SendsUnit who parcel ∷ after → IsAllowed before who (sent_by who before)

abbrev pub HasNoPeer : Scene → ℕ → Type 0
HasNoPeer s who = (d : ℕ) → ¬ ArePeers s.log who d

abbrev pub PeerlessReadsNothing : Scene → Type 0
PeerlessReadsNothing s = Premises s.log → (who : ℕ) → HasNoPeer s who
    → (taken_of who s.log ≡ []) × (handed_out who s.log ≡ [])
    × IfPresent s who (λ l. (l.expected ≡ 0) × (l.held ≡ []))
