-- A connection whose numbers never wrap: its two ends, and every packet that either ever sent. As long as the
-- 16-bit numbers of Novell SPX are unambiguous, they identify the positions of this machine.
use Rattle.std.specs.Prelude.{ℕ, zero, suc, ◌+◌, ◌-◌, ◌<◌, ◌≤◌, ◌≡◌, ◌&&◌, not, Bool, true, false}
use Rattle.std.specs.Prelude.{drop, nat_lt, nat_le, max, List, [], ◌∷◌, ◌++◌, length, Option, None}
use Rattle.std.specs.Prelude.{Some, Contains, All, if◌then◌else◌}
use Rattle.spx_link.specs.declared.unit.Unit.{Unit}

-- a packet that was sent: the position of its unit or none, and what its sender had read and allowed when it
-- was sent. No step reads the last two: how many units its sender and its receiver had sent then, with this
-- unit
pub record Packet : Type 0 where
  pub position : Option ℕ
  pub read : ℕ
  pub allows : ℕ
  pub sender_sent : ℕ
  pub receiver_sent : ℕ

-- an end: the positions below `base` are acknowledged, those below `sent` are sent, and those below `limit`
-- may be sent. Of the peer's positions, those below `read` are read and those below `taken` taken. `kept`
-- says which positions from `read` on are kept ahead of missing ones. Its units count from position 0. Its
-- bag is every packet that it ever sent
pub record End : Type 0 where
  pub base : ℕ
  pub sent : ℕ
  pub limit : ℕ
  pub read : ℕ
  pub taken : ℕ
  pub buffers : ℕ
  pub kept : List Bool
  pub units : List Unit
  pub bag : List Packet

pub record Machine : Type 0 where
  pub one : End
  pub two : End

abbrev pub new_end : ℕ → End
new_end buffers =
    record {
      base = 0;
      sent = 0;
      limit = 0;
      read = 0;
      taken = 0;
      buffers = buffers;
      kept = [];
      units = [];
      bag = [];
    }

abbrev pub start : ℕ → ℕ → Machine
start a b = record { one = new_end a; two = new_end b }

-- ---- how an end c changes, whose peer is d

-- the packet of this position, or of none, that it sends now
abbrev pub packet_now : Option ℕ → End → End → Packet
packet_now position c d =
    record {
      position = position;
      read = c.read;
      allows = c.taken + c.buffers;
      sender_sent = c.sent;
      receiver_sent = d.sent;
    }

-- it sent a packet of this position, or of none
abbrev pub mailed : Option ℕ → End → End → End
mailed position c d = record c { bag = packet_now position c d ∷ c.bag }

-- it counts one unit more as sent
abbrev pub one_more_sent : End → End
one_more_sent c = record c { sent = c.sent + 1 }

-- it sent its next unit
abbrev pub sent_next : End → End → End
sent_next c d = mailed (Some c.sent) (one_more_sent c) d

-- it learned a packet's two numbers
abbrev pub learned : Packet → End → End
learned p c = record c { base = max c.base p.read; limit = max c.limit p.allows }

-- a mark at a place. If the list is too short, it grows up to there
abbrev pub put_mark : ℕ → List Bool → List Bool
put_mark zero [] = true ∷ []
put_mark zero (x ∷ xs) = true ∷ xs
put_mark (suc k) [] = false ∷ put_mark k []
put_mark (suc k) (x ∷ xs) = x ∷ put_mark k xs

abbrev pub is_marked : ℕ → List Bool → Bool
is_marked k [] = false
is_marked zero (x ∷ xs) = x
is_marked (suc k) (x ∷ xs) = is_marked k xs

-- how many positions come before the first gap
abbrev pub lead : List Bool → ℕ
lead [] = 0
lead (false ∷ xs) = 0
lead (true ∷ xs) = suc (lead xs)

-- a position from `read` to `taken + buffers - 1` that is not kept yet
abbrev pub is_awaited : End → ℕ → Bool
is_awaited c n =
    nat_le c.read n && (nat_lt n (c.taken + c.buffers) && not (is_marked (n - c.read) c.kept))

-- with these positions kept from `read` on, `read` becomes the least position that is not kept
abbrev pub risen : List Bool → End → End
risen kept c = record c { read = c.read + lead kept; kept = drop (lead kept) kept }

-- it kept the unit of this position, unless it was kept before or no buffer is free
abbrev pub read_unit : Option ℕ → End → End
read_unit None c = c
read_unit (Some n) c = if is_awaited c n then risen (put_mark (n - c.read) c.kept) c else c

-- it got a packet
abbrev pub got : Packet → End → End
got p c = read_unit p.position (learned p c)

-- ---- steps

-- an end sends its next unit, retransmits one, or sends a packet without a unit. Or it gets a packet of its
-- peer (which stays in the bag), takes a unit that it read, or gains units to send
pub data Act : Type 0 where
  Sends : Act
  SendsAgain : ℕ → Act
  SendsNoUnit : Act
  Gets : Packet → Act
  Takes : Act
  Gains : List Unit → Act

-- the end c, whose peer is d, becomes c' by this act: when it is allowed, and what it does
abbrev pub Moves : Act → End → End → End → Type 0
Moves Sends c d c' = (c.sent < c.limit) × (c.sent < length c.units) × (c' ≡ sent_next c d)
Moves (SendsAgain n) c d c' = (c.base ≤ n) × (n < c.sent) × (c' ≡ mailed (Some n) c d)
Moves SendsNoUnit c d c' = c' ≡ mailed None c d
Moves (Gets p) c d c' = Contains d.bag p × (c' ≡ got p c)
Moves Takes c d c' = (c.taken < c.read) × (c' ≡ record c { taken = c.taken + 1 })
Moves (Gains more) c d c' = c' ≡ record c { units = c.units ++ more }

-- which end moves, and how
pub data Step : Type 0 where
  One : Act → Step
  Two : Act → Step

abbrev pub IsStep : Step → Machine → Machine → Type 0
IsStep (One act) m n = Moves act m.one m.two n.one × (n.two ≡ m.two)
IsStep (Two act) m n = Moves act m.two m.one n.two × (n.one ≡ m.one)

-- the steps lead from one machine to another
abbrev pub IsRun : List Step → Machine → Machine → Type 0
IsRun [] m n = n ≡ m
IsRun (s ∷ steps) m n = (next : Machine) × IsStep s m next × IsRun steps next n

-- ---- what is true after every list of steps

-- c's numbers compared with those of the end d that reads it
pub record IsChain (c d : End) : Type 0 where
  pub base : c.base ≤ d.read
  pub read : d.read ≤ c.sent
  pub sent : c.sent ≤ c.limit
  pub limit : c.limit ≤ d.taken + d.buffers

-- what c has outstanding and may still send fits the buffers of its peer d, and what it holds fits its own.
-- It sent no more units than it has, read no more than its peer has, and kept no position that its peer did
-- not send
pub record IsWithin (c d : End) : Type 0 where
  pub limit : c.limit ≤ c.base + d.buffers
  pub taken : c.taken ≤ c.read
  pub held : c.read ≤ c.taken + c.buffers
  pub sent : c.sent ≤ length c.units
  pub read : c.read ≤ length d.units
  pub kept : c.read + length c.kept ≤ d.sent

-- what a packet of the end c, sent to d, says
pub record WasSent (c d : End) (p : Packet) : Type 0 where
  -- no more than is true now
  pub read : p.read ≤ c.read
  pub allows : p.allows ≤ c.taken + c.buffers
  pub sender_sent : p.sender_sent ≤ c.sent
  pub receiver_sent : p.receiver_sent ≤ d.sent
  -- how these compared when it was sent
  pub reads_sent : p.read ≤ p.receiver_sent
  pub allows_sent : p.receiver_sent ≤ p.allows
  pub spread : p.allows ≤ p.read + c.buffers
  -- its unit was sent by then, and was outstanding
  pub position : (n : ℕ) → p.position ≡ Some n → n < p.sender_sent
  pub outstanding : (n : ℕ) → p.position ≡ Some n → p.sender_sent ≤ n + d.buffers

-- both ends together, which each step keeps
pub record AreSound (c d : End) : Type 0 where
  pub there : IsChain c d
  pub back : IsChain d c
  pub within : IsWithin c d
  pub peer_within : IsWithin d c
  pub bag : All (WasSent c d) c.bag
  pub peer_bag : All (WasSent d c) d.bag

-- an end after more steps: its numbers only grow, units are only added, and its bag keeps every packet
pub record Grows (old new : End) : Type 0 where
  pub base : old.base ≤ new.base
  pub sent : old.sent ≤ new.sent
  pub limit : old.limit ≤ new.limit
  pub read : old.read ≤ new.read
  pub taken : old.taken ≤ new.taken
  pub buffers : new.buffers ≡ old.buffers
  pub units : (gained : List Unit) × (new.units ≡ old.units ++ gained)
  pub bag : (newer : List Packet) × (new.bag ≡ newer ++ old.bag)
