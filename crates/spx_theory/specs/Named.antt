-- The ids by which the links of two peers address each other (ids of Novell SPX), and their hosts.
use Rattle.std.specs.Prelude.{ℕ, ◌≡◌, Some, slice_get}
use Rattle.spx_link.specs.LinkView.{LinkView}
use Rattle.spx_messages.specs.WrittenPackets.{Home}
use Rattle.spx_theory.specs.Addresses.{IdsDiffer}
use Rattle.spx_theory.specs.Peers.{AreJoined, ArePeers, NothingInjected}
use Rattle.spx_theory.specs.Scan.{scan}
use Rattle.spx_theory.specs.Scene.{Scene, PresentEnd, IsPresent}

-- each has the id by which the other addresses its peer
pub record AreNamed (a b : LinkView) : Type 0 where
  pub peer : a.peer ≡ b.own
  pub peer_back : b.peer ≡ a.own

abbrev pub PeersAreNamed : Scene → Type 0
PeersAreNamed s =
    (c d : ℕ) → AreJoined (scan s.log) c d → (e f : PresentEnd) (a b : LinkView)
    → IsPresent s c e a → IsPresent s d f b → AreNamed a b

-- a link goes to the network and the node of an end's host, and to the end's id
pub record GoesTo (l : LinkView) (f : PresentEnd) (h : Home) : Type 0 where
  pub network : l.remote.network ≡ h.network
  pub node : l.remote.node ≡ h.node
  pub peer : l.peer ≡ f.own

-- if no id is given twice at one network and node, and nothing injected is read, this holds for the link of
-- an end that has a peer, even if the peer was released
abbrev pub PeersAreThere : Scene → Type 0
PeersAreThere s = IdsDiffer s → NothingInjected s.log
    → (c d : ℕ) → ArePeers s.log c d → (e f : PresentEnd) (l : LinkView)
    → IsPresent s c e l → slice_get s.ends d ≡ Some f
    → (h : Home) × (slice_get s.homes f.host ≡ Some h) × GoesTo l f h
