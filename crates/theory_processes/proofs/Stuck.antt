-- What rounds with plans do to the links of two peers of a network that can be reached.
use Rattle.std.proofs.Common.{ℕ, ◌≡◌, ◌++◌, length, drop, take, false, Some, sym, ap, ◌∙◌, subst, inl, inr, slice_get}
use Rattle.std.proofs.lemmas.Bool.{eq-eqb}
use Rattle.spx_link.specs.LinkView.{LinkView, is_end}
use Rattle.spx_link.specs.Machine.{End, AreSound}
use Rattle.spx_congestion.specs.Pacing.{PacerView}
use Rattle.spx_theory.specs.Deeds.{Reached}
use Rattle.spx_theory.specs.Handed.{taken_of, units_of}
use Rattle.spx_theory.specs.InStep.{PeersAreInStep, PeersFollow, pair_in}
use Rattle.spx_theory.specs.LinkLaws.{LinkLaws}
use Rattle.spx_theory.specs.Named.{AreNamed, PeersAreNamed}
use Rattle.spx_theory.specs.Peers.{ArePeersIn, Premises}
use Rattle.spx_theory.specs.RoundsDeliver.{IsDelivered}
use Rattle.spx_theory.specs.Scan.{scan}
use Rattle.spx_theory.specs.Scene.{Scene, PresentEnd, IsPresent}
use Rattle.spx_theory.specs.Tracks.{Follows, may_end}
use Rattle.spx_theory.proofs.RoundLists.{slice_get-take}
use Rattle.spx_theory.proofs.RoundPackets.{swapped}
use Rattle.spx_theory.proofs.Well.{WellAt, none_is_end, wells}
use Rattle.theory_processes.specs.PacedDelivers.{CanDeliverPaced, PacedRoundsDeliver}
use Rattle.theory_processes.specs.PacedStuck.{CanGoOnPaced, NoPacedStateIsStuck}

-- an end and its peer, whichever dialled
record Follow (s : Scene) (c d : ℕ) (a b : LinkView) : Type 0 where
  one : End
  two : End
  first : Follows a one two
  second : Follows b two one
  line : AreSound one two
  units : one.units ≡ units_of c s.log
  taken : length (taken_of d s.log) ≡ two.taken
  read : taken_of d s.log ++ b.held ≡ take two.read (units_of c s.log)

follow : (s : Scene) (c d : ℕ) (e f : PresentEnd) (a b : LinkView) → PeersFollow s → PeersAreInStep s → Premises s.log → ArePeersIn (scan s.log) c d → IsPresent s c e a → IsPresent s d f b → Follow s c d a b
follow s c d e f a b law steps premises (inl j) one two =
    let p = law premises c d j in
    record { one = (pair_in s c d).one.end; two = (pair_in s c d).two.end; first = p.first e a one; second = p.second f b two; line = p.line; units = p.units; taken = p.taken_back; read = (steps premises c d j).1.read f b two }
follow s c d e f a b law steps premises (inr j) one two =
    let p = law premises d c j in
    record {
      one = (pair_in s d c).two.end;
      two = (pair_in s d c).one.end;
      first = p.second e a one;
      second = p.first f b two;
      line = swapped (pair_in s d c).one.end (pair_in s d c).two.end p.line;
      units = p.units_back;
      taken = p.taken;
      read = (steps premises d c j).0.read f b two;
    }

can_deliver : LinkLaws → (s : Scene) → Reached s → (c d : ℕ) (f : PresentEnd) (a b : LinkView) (p : PacerView) → IsPresent s d f b → (w : Follow s c d a b) → AreNamed a b → CanGoOnPaced a p b → CanDeliverPaced a p b w.one w.two
can_deliver laws s reached c d f a b p stands w names can =
    let well : WellAt s.log d b = (wells laws reached).links d f b stands in
    let goes_on : b.peer_ended ≡ false = well.link.open' (ap may_end can.live) in
    record {
      step = record { first = w.first; second = w.second; line = w.line; names = names };
      sends = can.sends;
      live = can.live;
      goes_on = goes_on;
      unread = λ k u below is ends.
          let there : slice_get (take w.two.read (units_of c s.log)) k ≡ Some u = slice_get-take w.two.read (units_of c s.log) k below ∙ (ap (λ xs. slice_get xs k) (sym w.units) ∙ is) in
          let no : is_end u ≡ false = none_is_end s.log d b well goes_on k u (ap (λ xs. slice_get xs k) w.read ∙ there) in
          cc (sym (eq-eqb u.stream 254 ends) ∙ no);
      buffers = well.link.buffers;
      first = can.first;
      second = can.second;
      unpaced_b = can.unpaced_b;
      paces = can.paces;
    }

left_is : (s : Scene) (c d : ℕ) (one two : End) → one.units ≡ units_of c s.log → length (taken_of d s.log) ≡ two.taken → drop two.taken one.units ≡ drop (length (taken_of d s.log)) (units_of c s.log)
left_is s c d one two units taken = ap (λ n. drop n one.units) (sym taken) ∙ ap (drop (length (taken_of d s.log))) units

back_named : (b a : LinkView) → AreNamed b a → AreNamed a b
back_named b a n = record { peer = n.peer_back; peer_back = n.peer }

-- each has the id by which the other addresses its peer, whichever dialled
named : (s : Scene) (c d : ℕ) (e f : PresentEnd) (a b : LinkView) → PeersAreNamed s → ArePeersIn (scan s.log) c d → IsPresent s c e a → IsPresent s d f b → AreNamed a b
named s c d e f a b law (inl j) one two = law c d j e f a b one two
named s c d e f a b law (inr j) one two = back_named b a (law d c j f e b a two one)

pub not_stuck : LinkLaws → PacedRoundsDeliver → (s : Scene) → Reached s → PeersFollow s → PeersAreInStep s → PeersAreNamed s → NoPacedStateIsStuck s
not_stuck laws delivers s reached law steps names premises c d peers e f a b a' b' p p' one two can moments us vs rounds long =
    let w = follow s c d e f a b law steps premises peers one two in
    let n : AreNamed a b = named s c d e f a b names peers one two in
    let can' : CanDeliverPaced a p b w.one w.two = can_deliver laws s reached c d f a b p two w n can in
    subst (λ xs. IsDelivered a b a' b' xs us) (left_is s c d w.one w.two w.units w.taken) (delivers a b a' b' p p' w.one w.two moments us vs can' rounds long)
