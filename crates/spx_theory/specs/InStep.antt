-- The links of two peers are the machine of the log, in 16 bits, and what each handed out is a prefix of what
-- was handed in at the other (Novell SPX: sequence, acknowledge and allocation numbers).
use Rattle.std.specs.Prelude.{ℕ, ◌≡◌, ◌≤◌, ◌+◌, ◌++◌, false, length, take, Some, slice_get}
use Rattle.spx_link.specs.LinkView.{LinkView}
use Rattle.spx_link.specs.SequenceMarks.{mark}
use Rattle.spx_link.specs.Machine.{AreSound, End}
use Rattle.spx_theory.specs.Tracks.{Follows}
use Rattle.spx_theory.specs.Scan.{Scan, scan, role_of}
use Rattle.spx_theory.specs.Peers.{AreJoined, Premises}
use Rattle.spx_theory.specs.Handed.{handed_in, handed_out, units_of, taken_of, IsBeginning}
use Rattle.spx_theory.specs.PairLog.{Pair, pair_between}
use Rattle.spx_theory.specs.Scene.{Scene, PresentEnd, IsPresent}

-- the machine of the ends c, which dialled, and d, which was dialled, with the buffers that they were made
-- with
abbrev pub pair_in : Scene → ℕ → ℕ → Pair
pair_in s c d =
    let t : Scan = scan s.log in
    pair_between c d (role_of t c).buffers (role_of t d).buffers s.parcels s.log

-- the 16-bit link has the numbers of its end
pub record Mirrors (l : LinkView) (c : End) : Type 0 where
  pub next : l.next ≡ mark c.sent
  pub expected : l.expected ≡ mark c.read
  pub out : c.base + l.out ≡ c.sent
  pub room : c.sent + l.room ≡ c.limit
  pub held : c.taken + length l.held ≡ c.read

-- of an end that has a link
abbrev pub IfPresent : Scene → ℕ → (LinkView → Type 0) → Type 0
IfPresent s who P = (e : PresentEnd) (l : LinkView) → IsPresent s who e l → P l

-- for an end c, whose peer is d, and their ends of the machine: until c is released, its link is its end. The
-- units that c took are the first ones of d, and with those that it holds they are as many as it read. What c
-- handed out is a prefix of what was handed in at d. No take of c answered that a message grew too long. And
-- only what d read counts as acknowledged
pub record IsInStep (s : Scene) (c d : ℕ) (one two : End) : Type 0 where
  pub machine : IfPresent s c (λ l. Mirrors l one)
  pub units : taken_of c s.log ≡ take one.taken (units_of d s.log)
  pub read : IfPresent s c (λ l. taken_of c s.log ++ l.held ≡ take one.read (units_of d s.log))
  pub prefix : IsBeginning (handed_out c s.log) (handed_in d s.log)
  pub never_overlong : (e : PresentEnd) → slice_get s.ends c ≡ Some e → e.overlong ≡ false
  pub acknowledged : one.base ≤ two.read

abbrev pub PeersAreInStep : Scene → Type 0
PeersAreInStep s = Premises s.log → (c d : ℕ) → AreJoined (scan s.log) c d
    → let p : Pair = pair_in s c d in
    IsInStep s c d p.one.end p.two.end × IsInStep s d c p.two.end p.one.end

-- the same for everything in a link: while the two have links, these follow their ends, which are sound and
-- have their units
pub record AreFollowed (s : Scene) (c d : ℕ) (one two : End) : Type 0 where
  pub first : IfPresent s c (λ l. Follows l one two)
  pub second : IfPresent s d (λ l. Follows l two one)
  pub line : AreSound one two
  pub units : one.units ≡ units_of c s.log
  pub units_back : two.units ≡ units_of d s.log
  pub taken : length (taken_of c s.log) ≡ one.taken
  pub taken_back : length (taken_of d s.log) ≡ two.taken

abbrev pub PeersFollow : Scene → Type 0
PeersFollow s = Premises s.log → (c d : ℕ) → AreJoined (scan s.log) c d
    → let p : Pair = pair_in s c d in AreFollowed s c d p.one.end p.two.end
