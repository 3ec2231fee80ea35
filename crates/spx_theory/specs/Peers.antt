-- Which ends are peers, and the premises of the headline: nothing injected is read, each end reads only its
-- own peer, and what it reads is recent.
use Rattle.std.specs.Prelude.{ℕ, ◌≡◌, ◌≢◌, ◌<◌, ◌⊎◌, true, false, List, take, drop, Option, Some, None, slice_get}
use Rattle.spx_theory.specs.Note.{Note}
use Rattle.spx_theory.specs.Scan.{Each, times, Scan, Reading, Role, Maker, ByUnit, BySystem, ByRouter, FromOutside, scan}

-- c dialled, d was dialled: each was made or joined by a packet of the other
pub record AreJoined (s : Scan) (c d : ℕ) : Type 0 where
  pub caller : Role
  pub callee : Role
  pub caller_is : slice_get s.roles c ≡ Some caller
  pub callee_is : slice_get s.roles d ≡ Some callee
  pub called : caller.called ≡ true
  pub accepted : callee.called ≡ false
  pub answered : caller.partner ≡ Some d
  pub asked : callee.partner ≡ Some c

abbrev pub ArePeersIn : Scan → ℕ → ℕ → Type 0
ArePeersIn s c d = AreJoined s c d ⊎ AreJoined s d c

abbrev pub ArePeers : List Note → ℕ → ℕ → Type 0
ArePeers log c d = ArePeersIn (scan log) c d

-- the end that made a packet, with a unit or without
abbrev pub end_of : Maker → Option ℕ
end_of (ByUnit who) = Some who
end_of (BySystem who) = Some who
end_of (ByRouter router) = None
end_of FromOutside = None

-- how many units an end sent for the first time between the making of a packet and its reading
abbrev pub units_between : ℕ → List ℕ → Reading → ℕ
units_between e sent r = times e (drop r.from (take r.to sent))

-- no end read a packet that came from outside
abbrev pub NothingInjected : List Note → Type 0
NothingInjected log = Each (λ (r : Reading). r.maker ≢ FromOutside) (scan log).readings

-- what an end read was made by its peer, except for the packet that made or joined it
abbrev pub IsFromPeer : Scan → Reading → Type 0
IsFromPeer s r = r.first ≡ false → (d : ℕ) × ArePeersIn s r.who d × (end_of r.maker ≡ Some d)

abbrev pub FromOwnPeer : List Note → Type 0
FromOwnPeer log = Each (IsFromPeer (scan log)) (scan log).readings

-- if an end read a packet of its peer, each of the two sent fewer than 32,768 units between sending and
-- reading
abbrev pub IsRecent : Scan → Reading → Type 0
IsRecent s r = (d : ℕ) → ArePeersIn s r.who d → end_of r.maker ≡ Some d
    → (units_between r.who s.sent r < 32768) × (units_between d s.sent r < 32768)

abbrev pub IsFresh : List Note → Type 0
IsFresh log = Each (IsRecent (scan log)) (scan log).readings

pub record Premises (log : List Note) : Type 0 where
  pub nothing_injected : NothingInjected log
  pub from_own_peer : FromOwnPeer log
  pub fresh : IsFresh log
