-- One event of a network.
use Rattle.std.specs.Prelude.{ℕ, Bool, List, Option, Result}
use Rattle.ipx_wire.specs.declared.address.Network.{Network}
use Rattle.ipx_wire.specs.declared.address.Node.{Node}
use Rattle.ipx_wire.specs.declared.address.Socket.{Socket}
use Rattle.ipx_wire.specs.declared.address.Address.{Address}
use Rattle.spx_messages.specs.Message.{MessageView}
use Rattle.spx_messages.specs.declared.arrived.Arrived.{Arrived}
use Rattle.spx_messages.specs.declared.fault.EndFault.{EndFault}
use Rattle.spx_messages.specs.Taking.{TakenView}
use Rattle.spx_theory.specs.World.{World, ParcelView}
use Rattle.spx_theory.specs.HostSteps.{Delivers, PollsHost, TakesOf}
use Rattle.spx_theory.specs.EndCalls.{DialsFrom, SendsTo, Closes, ReleasesOf, PacesOf, AsksAgainOf, RefusesAt, InjectsInto, Ticks}
use Rattle.spx_theory.specs.Routers.{GivesOwnLetters, CarriesOn}

pub data WorldStep (old new : World) : Type 0 where
  Delivered : (parcel host : ℕ) (answer : Arrived)
      → Delivers old parcel host answer new → WorldStep old new
  Polled : (host : ℕ) (result : Option (Node × ℕ)) → PollsHost old host result new → WorldStep old new
  Taken : (who : ℕ) (answer : Result TakenView EndFault) → TakesOf old who answer new → WorldStep old new
  Dialled : (host : ℕ) (socket : Socket) (to : Address) (buffers id : ℕ)
      → DialsFrom old host socket to buffers id new → WorldStep old new
  Sent : (who : ℕ) (m : MessageView) → SendsTo old who m new → WorldStep old new
  Closed : (who : ℕ) → Closes old who new → WorldStep old new
  Released : (who : ℕ) → ReleasesOf old who new → WorldStep old new
  Paced : (who window : ℕ) (manual : Bool) → PacesOf old who window manual new → WorldStep old new
  AskedAgain : (who place : ℕ) → AsksAgainOf old who place new → WorldStep old new
  Refused : (host : ℕ) → RefusesAt old host new → WorldStep old new
  Injected : (segment : Network) (next : Node) (bytes : List ℕ)
      → InjectsInto old segment next bytes new → WorldStep old new
  Ticked : (now : ℕ) → Ticks old now new → WorldStep old new
  Told : (router : ℕ) (letters : List ParcelView) → GivesOwnLetters old router letters new → WorldStep old new
  Carried : (parcel router port : ℕ) (segment : Network) (next : Node) (bytes : List ℕ)
      → CarriesOn old parcel router port segment next bytes new → WorldStep old new
