-- The headline for the functions of a link, over every scene that can be reached.
use Rattle.std.proofs.Common.{ℕ, ◌≡◌, ◌≤◌, ◌++◌, length, take, drop, sym, ap, ◌∙◌, arith}
use Rattle.std.proofs.Math.Seq.{take-append_seam}
use Rattle.spx_theory.specs.Scan.{scan, role_of}
use Rattle.spx_theory.specs.Handed.{units_of, taken_of}
use Rattle.spx_link.specs.LinkView.{LinkView}
use Rattle.spx_link.specs.Machine.{End}
use Rattle.spx_theory.specs.Tracks.{Follows}
use Rattle.spx_theory.specs.PairLog.{Pair, new_half}
use Rattle.spx_theory.proofs.Lists.{take_parts}
use Rattle.spx_theory.specs.Scene.{Scene}
use Rattle.spx_theory.specs.Deeds.{Reached}
use Rattle.spx_theory.specs.InStep.{pair_in, PeersAreInStep}
use Rattle.spx_theory.proofs.Ranges.{in_range}
use Rattle.spx_theory.proofs.Gathering.{both_counted}
use Rattle.spx_theory.proofs.Telling.{Said}
use Rattle.spx_theory.proofs.PairPremises.{to_pair}
use Rattle.spx_theory.proofs.Along.{held_along, in_step, prefix_of, joined_differ}
use Rattle.spx_theory.specs.Below.{LawsBelow}

taken_units : (c d : ℕ) (s : Scene) (n : ℕ) → Said c d s → n ≡ length (taken_of c s.log) → taken_of c s.log ≡ take n (units_of d s.log)
taken_units c d s n said is =
    sym (ap (λ k. take k (units_of d s.log)) is ∙ ap (take (length (taken_of c s.log))) (sym said.begins.1) ∙ take-append_seam (taken_of c s.log) said.begins.0)

-- the units taken and those held are as many as were read
read_units : (c d : ℕ) (s : Scene) (x y : End) (l : LinkView) → Follows l x y → x.taken ≤ x.read → y.units ≡ units_of d s.log
    → taken_of c s.log ≡ take x.taken (units_of d s.log) → taken_of c s.log ++ l.held ≡ take x.read (units_of d s.log)
read_units c d s x y l f le units taken =
    ap (λ us. us ++ l.held) taken
    ∙ (ap (λ us. take x.taken (units_of d s.log) ++ us) (f.tracks.held ∙ ap (λ ys. drop x.taken (take x.read ys)) units)
    ∙ take_parts x.taken x.read (units_of d s.log) le)

pub peers_are_in_step : (laws : LawsBelow) (s : Scene) → Reached s → PeersAreInStep s
peers_are_in_step laws s reached premises c d j =
    let a : ℕ = (role_of (scan s.log) c).buffers in
    let b : ℕ = (role_of (scan s.log) d).buffers in
    let all = held_along laws c d a b (joined_differ (scan s.log) c d j) (in_range reached c) (in_range reached d) reached (to_pair s.log c d premises j) in
    let step = in_step c d a b s all.0 in
    let both = both_counted s.parcels c d (record { one = new_half a; two = new_half b }) s.log in
    let w = all.0.whole in
    let p : Pair = pair_in s c d in
    let one_units : taken_of c s.log ≡ take p.one.end.taken (units_of d s.log) = taken_units c d s p.one.end.taken all.1.one (omega (arith, both.0.taken)) in
    let two_units : taken_of d s.log ≡ take p.two.end.taken (units_of c s.log) = taken_units d c s p.two.end.taken all.1.two (omega (arith, both.1.taken)) in (
      record {
        machine = step.one;
        units = one_units;
        read = λ e l stands.
            read_units c d s p.one.end p.two.end l (w.one.link e l stands.there stands.link) w.sound.within.taken both.1.units one_units;
        prefix = prefix_of c d s all.1.ok all.1.one;
        never_overlong = λ e at. (all.1.one.rest e at).1;
        acknowledged = step.acknowledged;
      },
      record {
        machine = step.two;
        units = two_units;
        read = λ e l stands.
            read_units d c s p.two.end p.one.end l (w.two.link e l stands.there stands.link) w.sound.peer_within.taken both.0.units two_units;
        prefix = prefix_of d c s all.1.ok all.1.two;
        never_overlong = λ e at. (all.1.two.rest e at).1;
        acknowledged = step.acknowledged_back;
      },
    )
