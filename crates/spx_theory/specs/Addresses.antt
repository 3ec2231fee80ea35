-- If no id is given twice at one network and node, addresses and ids identify peers (Novell IPX and SPX).
-- That holds if no two hosts share network and node, and no end was released.
use Rattle.std.specs.Prelude.{ℕ, ◌≡◌, ◌≢◌, List, Some, slice_get, Contains}
use Rattle.spx_theory.specs.Note.{Note, Released}
use Rattle.spx_theory.specs.Peers.{NothingInjected, FromOwnPeer}
use Rattle.spx_theory.specs.Scene.{Scene, PresentEnd}
use Rattle.spx_messages.specs.WrittenPackets.{Home}

abbrev pub AddressesDiffer : Scene → Type 0
AddressesDiffer s =
    (j k : ℕ) (x y : Home)
    → slice_get s.homes j ≡ Some x → slice_get s.homes k ≡ Some y → j ≢ k → x ≢ y

abbrev pub NothingReleased : List Note → Type 0
NothingReleased log = (who : ℕ) → ¬ Contains log (Released who)

-- no two ends have one id at one network and node, even if one of them was released
abbrev pub IdsDiffer : Scene → Type 0
IdsDiffer s =
    (j k : ℕ) (e f : PresentEnd) (h : Home)
    → slice_get s.ends j ≡ Some e → slice_get s.ends k ≡ Some f
    → slice_get s.homes e.host ≡ Some h → slice_get s.homes f.host ≡ Some h → e.own ≡ f.own → j ≡ k

-- then each end reads only its own peer
abbrev pub IdsTellPeers : Scene → Type 0
IdsTellPeers s = IdsDiffer s → NothingInjected s.log → FromOwnPeer s.log

abbrev pub AddressesTellPeers : Scene → Type 0
AddressesTellPeers s =
    AddressesDiffer s → NothingReleased s.log → NothingInjected s.log → FromOwnPeer s.log
