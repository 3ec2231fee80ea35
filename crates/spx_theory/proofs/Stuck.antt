-- What rounds do to the links of two peers of a network that can be reached.
use Rattle.std.proofs.Common.{ℕ, ◌≡◌, length, drop, sym, ap, ◌∙◌, subst, inl, inr, slice_get, take, false, Some, ◌++◌}
use Rattle.std.proofs.lemmas.Bool.{eq-eqb}
use Rattle.spx_link.specs.LinkView.{is_end}
use Rattle.spx_theory.specs.Tracks.{may_end}
use Rattle.spx_theory.specs.LinkLaws.{LinkLaws}
use Rattle.spx_link.specs.LinkView.{LinkView}
use Rattle.spx_link.specs.Machine.{End, AreSound}
use Rattle.spx_theory.specs.Tracks.{Follows}
use Rattle.spx_theory.specs.Deeds.{Reached}
use Rattle.spx_theory.specs.Handed.{taken_of, units_of}
use Rattle.spx_theory.specs.InStep.{PeersAreInStep, PeersFollow, pair_in}
use Rattle.spx_theory.specs.Peers.{ArePeersIn, Premises}
use Rattle.spx_theory.specs.Scan.{scan}
use Rattle.spx_theory.specs.Scene.{Scene, PresentEnd, IsPresent}
use Rattle.spx_theory.specs.RoundsDeliver.{CanDeliver, IsDelivered, RoundsDeliver, RoundsDeliverBothWays}
use Rattle.spx_theory.specs.Stuck.{CanGoOn, NoPairIsStuck, NoStateIsStuck, NothingIsStuckByAddresses}
use Rattle.spx_theory.specs.Named.{AreNamed, PeersAreNamed}
use Rattle.spx_theory.specs.Addresses.{AddressesTellPeers}
use Rattle.spx_theory.proofs.RoundPackets.{swapped}
use Rattle.spx_theory.proofs.RoundLists.{slice_get-take}
use Rattle.spx_theory.proofs.Well.{WellAt, none_is_end, wells}

-- an end and its peer, whichever dialled
pub record Follow (s : Scene) (c d : ℕ) (a b : LinkView) : Type 0 where
  pub one : End
  pub two : End
  pub first : Follows a one two
  pub second : Follows b two one
  pub line : AreSound one two
  pub units : one.units ≡ units_of c s.log
  pub taken : length (taken_of d s.log) ≡ two.taken
  pub read : taken_of d s.log ++ b.held ≡ take two.read (units_of c s.log)
  pub units_back : two.units ≡ units_of d s.log
  pub taken_back : length (taken_of c s.log) ≡ one.taken
  pub read_back : taken_of c s.log ++ a.held ≡ take one.read (units_of d s.log)

follow : (s : Scene) (c d : ℕ) (e f : PresentEnd) (a b : LinkView) → PeersFollow s → PeersAreInStep s → Premises s.log → ArePeersIn (scan s.log) c d → IsPresent s c e a → IsPresent s d f b → Follow s c d a b
follow s c d e f a b law steps premises (inl j) one two =
    let p = law premises c d j in
    record { one = (pair_in s c d).one.end; two = (pair_in s c d).two.end; first = p.first e a one; second = p.second f b two; line = p.line; units = p.units; taken = p.taken_back; read = (steps premises c d j).1.read f b two; units_back = p.units_back; taken_back = p.taken; read_back = (steps premises c d j).0.read e a one }
follow s c d e f a b law steps premises (inr j) one two =
    let p = law premises d c j in
    record {
      one = (pair_in s d c).two.end;
      two = (pair_in s d c).one.end;
      first = p.second e a one;
      second = p.first f b two;
      line = swapped (pair_in s d c).one.end (pair_in s d c).two.end p.line;
      units = p.units_back;
      taken = p.taken;
      read = (steps premises d c j).0.read f b two;
      units_back = p.units;
      taken_back = p.taken_back;
      read_back = (steps premises d c j).1.read e a one;
    }

can_deliver : LinkLaws → (s : Scene) → Reached s → (c d : ℕ) (f : PresentEnd) (a b : LinkView) (one two : End) → IsPresent s d f b → Follows a one two → Follows b two one → AreSound one two
    → one.units ≡ units_of c s.log → taken_of d s.log ++ b.held ≡ take two.read (units_of c s.log) → AreNamed a b → CanGoOn a b → CanDeliver a b one two
can_deliver laws s reached c d f a b one two stands first second line units read names can =
    let w : WellAt s.log d b = (wells laws reached).links d f b stands in
    let goes_on : b.peer_ended ≡ false = w.link.open' (ap may_end can.live) in
    record {
      step = record { first = first; second = second; line = line; names = names };
      sends = can.sends;
      live = can.live;
      goes_on = goes_on;
      unread = λ k u below is ends.
          let there : slice_get (take two.read (units_of c s.log)) k ≡ Some u = slice_get-take two.read (units_of c s.log) k below ∙ (ap (λ xs. slice_get xs k) (sym units) ∙ is) in
          let no : is_end u ≡ false = none_is_end s.log d b w goes_on k u (ap (λ xs. slice_get xs k) read ∙ there) in
          cc (sym (eq-eqb u.stream 254 ends) ∙ no);
      buffers = w.link.buffers;
      first = can.first;
      second = can.second;
      unpaced = can.unpaced;
      unpaced_b = can.unpaced_b;
    }

left_is : (s : Scene) (c d : ℕ) (one two : End) → one.units ≡ units_of c s.log → length (taken_of d s.log) ≡ two.taken → drop two.taken one.units ≡ drop (length (taken_of d s.log)) (units_of c s.log)
left_is s c d one two units taken = ap (λ n. drop n one.units) (sym taken) ∙ ap (drop (length (taken_of d s.log))) units

back_named : (b a : LinkView) → AreNamed b a → AreNamed a b
back_named b a n = record { peer = n.peer_back; peer_back = n.peer }

-- each has the id by which the other addresses its peer, whichever dialled
named : (s : Scene) (c d : ℕ) (e f : PresentEnd) (a b : LinkView) → PeersAreNamed s → ArePeersIn (scan s.log) c d → IsPresent s c e a → IsPresent s d f b → AreNamed a b
named s c d e f a b law (inl j) one two = law c d j e f a b one two
named s c d e f a b law (inr j) one two = back_named b a (law d c j f e b a two one)

pub no_state_is_stuck : LinkLaws → RoundsDeliver → (s : Scene) → Reached s → PeersFollow s → PeersAreInStep s → PeersAreNamed s → NoStateIsStuck s
no_state_is_stuck laws delivers s reached law steps names premises c d peers e f a b a' b' one two can moments us vs rounds long =
    let p = follow s c d e f a b law steps premises peers one two in
    let n : AreNamed a b = named s c d e f a b names peers one two in
    let can' : CanDeliver a b p.one p.two = can_deliver laws s reached c d f a b p.one p.two two p.first p.second p.line p.units p.read n can in
    subst (λ xs. IsDelivered a b a' b' xs us) (left_is s c d p.one p.two p.units p.taken) (delivers a b a' b' p.one p.two moments us vs can' rounds long)

pub no_pair_is_stuck : LinkLaws → RoundsDeliverBothWays → (s : Scene) → Reached s → PeersFollow s → PeersAreInStep s → PeersAreNamed s → NoPairIsStuck s
no_pair_is_stuck laws delivers s reached law steps names premises c d peers e f a b a' b' one two can back moments us vs rounds long long_back =
    let p = follow s c d e f a b law steps premises peers one two in
    let n : AreNamed a b = named s c d e f a b names peers one two in
    let can' : CanDeliver a b p.one p.two = can_deliver laws s reached c d f a b p.one p.two two p.first p.second p.line p.units p.read n can in
    let back' : CanDeliver b a p.two p.one = can_deliver laws s reached d c e b a p.two p.one one p.second p.first (swapped p.one p.two p.line) p.units_back p.read_back (back_named a b n) back in
    let both = delivers a b a' b' p.one p.two moments us vs can' back' rounds long long_back in (
      subst (λ xs. IsDelivered a b a' b' xs us) (left_is s c d p.one p.two p.units p.taken) both.0,
      subst (λ xs. IsDelivered b a b' a' xs vs) (left_is s d c p.two p.one p.units_back p.taken_back) both.1,
    )

pub by_addresses : (s : Scene) → AddressesTellPeers s → NoStateIsStuck s → NothingIsStuckByAddresses s
by_addresses s tell goes_on differ stay nothing fresh =
    goes_on (record { nothing_injected = nothing; from_own_peer = tell differ stay nothing; fresh = fresh })
