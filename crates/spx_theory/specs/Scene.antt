-- A scene: the ends of a network of hosts and the parcels between them, for the theorems over its log.
use Rattle.std.specs.Prelude.{ℕ, ◌≡◌, ◌≢◌, Bool, List, [], ◌∷◌, ◌++◌, set, Option, Some, slice_get}
use Rattle.ipx_wire.specs.declared.address.Network.{Network}
use Rattle.spx_link.specs.LinkView.{LinkView}
use Rattle.spx_messages.specs.Message.{MessageView}
use Rattle.spx_messages.specs.WrittenPackets.{Home}
use Rattle.spx_theory.specs.Note.{Note}

-- an end: its host, its id there, its link until it is released, its partial message, and whether a take of
-- it answered that the message grew too long. The id stays after the link is released
pub record PresentEnd : Type 0 where
  pub host : ℕ
  pub own : ℕ
  pub link : Option LinkView
  pub rest : Option MessageView
  pub overlong : Bool

-- hosts, ends and parcels by their numbers
pub record Scene : Type 0 where
  pub homes : List Home
  pub ends : List PresentEnd
  pub parcels : List (List ℕ)
  -- the network on which each parcel was sent
  pub segments : List Network
  pub log : List Note

-- an end that is not released, with its link
pub record IsPresent (s : Scene) (who : ℕ) (e : PresentEnd) (l : LinkView) : Type 0 where
  pub there : slice_get s.ends who ≡ Some e
  pub link : e.link ≡ Some l

abbrev pub linked : PresentEnd → LinkView → PresentEnd
linked e l = record e { link = Some l }

-- the end is replaced by this one
abbrev pub put_end : Scene → ℕ → PresentEnd → Scene
put_end s who e = record s { ends = set s.ends who e }

-- entries are appended to the log
abbrev pub with_entries : Scene → List Note → Scene
with_entries s ns = record s { log = s.log ++ ns }

-- a parcel is added, with its entry
abbrev pub sent_off : Scene → Network → List ℕ → Note → Scene
sent_off s segment bytes n =
    record s {
      parcels = s.parcels ++ bytes ∷ [];
      segments = s.segments ++ segment ∷ [];
      log = s.log ++ n ∷ [];
    }

-- no end of the host that is not released has the id
abbrev pub IsFreeId : Scene → ℕ → ℕ → Type 0
IsFreeId s host id =
    (who : ℕ) (e : PresentEnd) (l : LinkView) → IsPresent s who e l → e.host ≡ host → l.own ≢ id
