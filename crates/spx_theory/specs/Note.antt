-- The entries of the log of a network, without their place in memory.
use Rattle.std.specs.Prelude.{ℕ}
use Rattle.spx_link.specs.declared.unit.Unit.{Unit}
use Rattle.spx_messages.specs.Message.{MessageView}

-- ends, parcels, hosts and routers by their numbers. The last six make a parcel: an end sends a unit, a unit
-- again, or a packet without a unit; a router sends a packet of its own or forwards one; or one is injected
pub data Note : Type 0 where
  Opened : (who host buffers : ℕ) → Note
  Accepted : (who parcel buffers : ℕ) → Note
  Joined : (who parcel : ℕ) → Note
  HandsIn : (who : ℕ) → MessageView → Note
  HandsOut : (who : ℕ) → MessageView → Note
  TakesUnit : (who : ℕ) → Unit → Note
  AsksEnd : (who : ℕ) → Note
  Got : (who parcel : ℕ) → Note
  Released : (who : ℕ) → Note
  SendsUnit : (who parcel : ℕ) → Note
  SendsAgain : (who parcel : ℕ) → Note
  SendsSystem : (who parcel : ℕ) → Note
  Told : (router parcel : ℕ) → Note
  Carried : (from parcel : ℕ) → Note
  Injected : (parcel : ℕ) → Note
