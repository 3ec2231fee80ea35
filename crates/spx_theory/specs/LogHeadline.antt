-- The headline in terms of the entries of a log (Novell SPX: sequence, acknowledge and allocation numbers).
use Rattle.std.specs.Prelude.{ℕ, ◌≡◌, ◌<◌, ◌+◌, List, [], ◌∷◌, ◌++◌, length}
use Rattle.spx_theory.specs.Handed.{IsBeginning, handed_in, handed_out, taken_of}
use Rattle.spx_theory.specs.LogPremises.{ComesFrom, HavePeer, IsMadeWith, IsMadeBy, LogPremises, units_sent}
use Rattle.spx_theory.specs.Note.{Got, Note, SendsUnit}

-- what an end handed out is a prefix of what was handed in at its peer
abbrev pub PeersHandOn : List Note → Type 0
PeersHandOn log = LogPremises log → (c d : ℕ) → HavePeer log c d
    → IsBeginning (handed_out c log) (handed_in d log)

-- an end without a peer took no unit and handed out nothing
abbrev pub PeerlessHandsOutNothing : List Note → Type 0
PeerlessHandsOutNothing log = LogPremises log → (who : ℕ) → ((peer : ℕ) → ¬ HavePeer log who peer)
    → (taken_of who log ≡ []) × (handed_out who log ≡ [])

-- before this, the end read a packet whose sender had, before the entry of its origin, taken so many units
-- that with its buffers they are more than n
pub record AllowsUnit (before : List Note) (who n : ℕ) : Type 0 where
  pub parcel : ℕ
  pub origin : ℕ
  pub passed : ℕ
  pub sender : ℕ
  pub buffers : ℕ
  pub making : Note
  pub older : List Note
  pub newer : List Note
  pub past : List Note
  pub later : List Note
  pub read : before ≡ older ++ Got who parcel ∷ newer
  pub comes : ComesFrom before origin parcel passed
  pub made : before ≡ past ++ making ∷ later
  pub by : IsMadeBy making sender origin
  pub end : IsMadeWith before sender buffers
  pub allows : n < length (taken_of sender past) + buffers

-- each unit that an end sends was allowed
abbrev pub UnitsAreAllowed : List Note → Type 0
UnitsAreAllowed log = LogPremises log → (before after : List Note) (who parcel : ℕ)
    → log ≡ before ++ SendsUnit who parcel ∷ after → AllowsUnit before who (units_sent who before)

pub record LogHeadline (log : List Note) : Type 0 where
  pub hands_on : PeersHandOn log
  pub alone_hands : PeerlessHandsOutNothing log
  pub allowed : UnitsAreAllowed log
