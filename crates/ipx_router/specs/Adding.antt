-- Definitions for the private functions that add packets to the replies.
use Rattle.std.specs.Global.{Global}
use Rattle.std.specs.Prelude.{Vec, ◌≡◌, ◌<◌, ◌≤◌, ℕ, List, [], ◌∷◌, ◌++◌, length, take, drop, false}
use Rattle.ipx_router.specs.declared.outcome.Reply.{Reply}
use Rattle.ipx_control.specs.declared.sap.packet.ServiceEntry.{ServiceEntry}
use Rattle.ipx_control.specs.Sap.{IsSap}
use Rattle.ipx_control.specs.Sap as sap
use Rattle.ipx_router.specs.declared.packets.Recipient.{Recipient}
use Rattle.ipx_router.specs.RouterPackets.{AreServicePackets, SendingView, sendings}

-- packets of this relation were added at the end of the replies
abbrev pub AddsPackets : (List SendingView → Type 0) → List Reply → List Reply → Type 0
AddsPackets ArePackets old new =
    (added : List SendingView) × (sendings new ≡ sendings old ++ added) × ArePackets added

-- whatever packets are made of the rest and added after the ones so far, all of them together are the packets
-- of all entries
abbrev pub IsLeftToAdd : {E : Type 0} → (List E → List SendingView → Type 0) → List E
    → List E → List Reply → List Reply → Type 0
IsLeftToAdd ArePackets entries rest old new =
    (later : List SendingView) → ArePackets rest later → (added : List SendingView)
    × (sendings new ++ later ≡ sendings old ++ added) × ArePackets entries added

-- all entries so far are in the closed packets and, the last of them, in the open packet. Whatever entries
-- follow: the closed packets, followed by packets of the open entries and the new ones, are packets of all
pub record ArePacked {E : Type 0} (ArePackets : List E → List SendingView → Type 0)
    (entries : List E) (sent : List Reply) (hand : List E) : Type 0 where
  pub last : length hand ≤ length entries
  pub packed : (rest : List E) (later : List SendingView) → ArePackets (hand ++ rest) later
      → ArePackets (entries ++ rest) (sendings sent ++ later)

-- the bodies of packets that advertise a list of services, 7 at most each, which have no address yet
abbrev pub AreBodiesOf : List ServiceEntry → List (Vec ℕ Global) → Type 0
AreBodiesOf services [] = services ≡ []
AreBodiesOf services (b ∷ bs) = (0 < length services)
    × IsSap (sap.Response false (take 7 services)) b.items [] × (length b.items ≤ 450)
    × AreBodiesOf (drop 7 services) bs

-- whatever bodies are made of the rest and added after the ones so far, all together are those of all
-- services
abbrev pub IsLeftToCut : List ServiceEntry → List ServiceEntry → List (Vec ℕ Global) → Type 0
IsLeftToCut services rest bodies = (later : List (Vec ℕ Global))
    → AreBodiesOf rest later → AreBodiesOf services (bodies ++ later)

-- for any list of services that these bodies are made of, its packets are added
abbrev pub AddsBodies : Recipient → List (Vec ℕ Global) → List Reply → List Reply → Type 0
AddsBodies to bodies old new = (services : List ServiceEntry) → AreBodiesOf services bodies
    → AddsPackets (AreServicePackets to false services) old new
