-- The premises of the headline, and what they depend on, in terms of the entries of a log: the origin of a
-- packet, which ends are peers (Novell SPX: request and reply), and what ends read.
use Rattle.std.specs.Prelude.{ℕ, ◌≡◌, ◌<◌, ◌+◌, ◌==◌, ◌⊎◌, List, [], ◌∷◌, ◌++◌, Option, Some, None, Contains, if◌then◌else◌}
use Rattle.spx_theory.specs.Note.{Note, Opened, Accepted, Joined, Got, SendsUnit, SendsAgain, SendsSystem, Told, Carried, Injected}

-- the entry opens the end, or makes it by a request, with so many buffers
abbrev pub MakesEnd : Note → ℕ → ℕ → Type 0
MakesEnd n who buffers =
    ((host : ℕ) × (n ≡ Opened who host buffers))
    ⊎ ((parcel : ℕ) × (n ≡ Accepted who parcel buffers))

-- there is an end of this number, made with so many buffers
pub record IsMadeWith (log : List Note) (who buffers : ℕ) : Type 0 where
  pub making : Note
  pub stands : Contains log making
  pub makes : MakesEnd making who buffers

-- there is an end of this number
abbrev pub IsEnd : List Note → ℕ → Type 0
IsEnd log who = (buffers : ℕ) × IsMadeWith log who buffers

-- the new parcel of an entry: sent by an end, advertised by a router, or injected
abbrev pub makes_new : Note → Option ℕ
makes_new (SendsUnit who parcel) = Some parcel
makes_new (SendsAgain who parcel) = Some parcel
makes_new (SendsSystem who parcel) = Some parcel
makes_new (Told router parcel) = Some parcel
makes_new (Injected parcel) = Some parcel
makes_new n = None

-- the origin of a parcel, and how many routers forwarded it since. A new parcel is its own origin, and one
-- that a router made of another has the origin of that one
pub data ComesFrom (log : List Note) (origin : ℕ) : ℕ → ℕ → Type 0 where
  itself : (making : Note) → Contains log making → makes_new making ≡ Some origin
      → ComesFrom log origin origin 0
  carried : {from passed : ℕ} (parcel : ℕ) → ComesFrom log origin from passed
      → Contains log (Carried from parcel) → ComesFrom log origin parcel (passed + 1)

-- the entry by which an end made a packet, with a unit or without, and the end
abbrev pub IsMadeBy : Note → ℕ → ℕ → Type 0
IsMadeBy n f parcel =
    (n ≡ SendsUnit f parcel) ⊎ (n ≡ SendsAgain f parcel) ⊎ (n ≡ SendsSystem f parcel)

-- an end made the origin of the parcel
pub record IsSentBy (log : List Note) (who parcel : ℕ) : Type 0 where
  pub origin : ℕ
  pub passed : ℕ
  pub making : Note
  pub comes : ComesFrom log origin parcel passed
  pub stands : Contains log making
  pub made : IsMadeBy making who origin

-- an end made the origin as a packet without a unit
pub record IsSystemOf (log : List Note) (who parcel : ℕ) : Type 0 where
  pub origin : ℕ
  pub passed : ℕ
  pub comes : ComesFrom log origin parcel passed
  pub stands : Contains log (SendsSystem who origin)

-- a packet without a unit, sent by the caller, made the callee, and one of the callee joined the caller
pub record AreConnected (log : List Note) (caller callee : ℕ) : Type 0 where
  pub request : ℕ
  pub buffers : ℕ
  pub reply : ℕ
  pub accepted : Contains log (Accepted callee request buffers)
  pub asked : IsSystemOf log caller request
  pub joined : Contains log (Joined caller reply)
  pub answered : IsSystemOf log callee reply

abbrev pub HavePeer : List Note → ℕ → ℕ → Type 0
HavePeer log c d = AreConnected log c d ⊎ AreConnected log d c

-- how many units an end sends for the first time in these entries
abbrev pub unit_by : ℕ → Note → ℕ
unit_by e (SendsUnit who parcel) = if who == e then 1 else 0
unit_by e n = 0

abbrev pub units_sent : ℕ → List Note → ℕ
units_sent e [] = 0
units_sent e (n ∷ ns) = unit_by e n + units_sent e ns

-- no end reads a packet whose origin was injected
abbrev pub ReadsNothingInjected : List Note → Type 0
ReadsNothingInjected log =
    (who parcel origin passed : ℕ) → Contains log (Got who parcel)
    → ComesFrom log origin parcel passed → ¬ Contains log (Injected origin)

-- the entry makes or joins the end
abbrev pub MakesOrJoins : Note → ℕ → Type 0
MakesOrJoins n who = (parcel : ℕ)
    × (((buffers : ℕ) × (n ≡ Accepted who parcel buffers)) ⊎ (n ≡ Joined who parcel))

-- the last entry makes or joins the end
abbrev pub JustMadeOrJoined : List Note → ℕ → Type 0
JustMadeOrJoined log who =
    (before : List Note) × (n : Note) × (log ≡ before ++ n ∷ []) × MakesOrJoins n who

-- what an end reads was made by its peer, except for the packet that made or joined it just before
abbrev pub ReadsOwnPeer : List Note → Type 0
ReadsOwnPeer log =
    (before after : List Note) (who parcel : ℕ) → log ≡ before ++ Got who parcel ∷ after
    → ¬ JustMadeOrJoined before who
    → (peer : ℕ) × HavePeer log who peer × IsSentBy log peer parcel

-- strictly between the making of a packet that an end reads from its peer and the reading, each of the two
-- sends fewer than 32,768 units
abbrev pub ReadsRecent : List Note → Type 0
ReadsRecent log =
    (before between after : List Note) (making : Note) (who peer parcel origin passed : ℕ)
    → log ≡ before ++ making ∷ (between ++ Got who parcel ∷ after)
    → HavePeer log who peer → IsMadeBy making peer origin → ComesFrom log origin parcel passed
    → (units_sent who between < 32768) × (units_sent peer between < 32768)

pub record LogPremises (log : List Note) : Type 0 where
  pub nothing_injected : ReadsNothingInjected log
  pub own_peer : ReadsOwnPeer log
  pub recent : ReadsRecent log
