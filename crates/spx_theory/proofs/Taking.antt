-- A unit is taken, units are queued, or a link changes without an entry.
use Rattle.std.proofs.Common.{◌≡◌, ◌≢◌, ◌+◌, ◌≤◌, ◌<◌, ℕ, false, List, [], ◌++◌, length, drop, set, Some, refl, sym, ◌∙◌, ap, subst, arith}
use Rattle.std.proofs.lemmas.List.{append-nil, take-append-le}
use Rattle.spx_link.specs.declared.unit.Unit.{Unit}
use Rattle.spx_link.specs.LinkView.{LinkView}
use Rattle.spx_link.specs.Offer.{the_end}
use Rattle.spx_link.specs.Machine.{End}
use Rattle.spx_theory.proofs.Running.{gained_runs, taken_runs}
use Rattle.spx_theory.proofs.Stepping.{taken_sound, gained_sound}
use Rattle.spx_theory.specs.Scan.{Mark}
use Rattle.spx_theory.specs.PairLog.{Half, one_taken, gained}
use Rattle.spx_theory.specs.Tracks.{Formed, Follows}
use Rattle.spx_theory.specs.Scene.{PresentEnd}
use Rattle.spx_theory.proofs.Lists.{get_before}
use Rattle.spx_theory.proofs.Tied.{Whole}
use Rattle.spx_theory.proofs.Moving.{moves, sees_same, other_end, this_end}
use Rattle.spx_theory.specs.Below.{LawsBelow}

-- the peer's link sees more units after the others, if the end was not asked for before
pub sees_more : (l : LinkView) (c d : End) (us : List Unit) → c.read ≤ length d.units → Formed d.units false → Follows l c d → Follows l c (record d { units = d.units ++ us })
sees_more l c d us within shut f =
    let t = f.tracks in
    record {
      tracks = record {
        counts = t.counts;
        queue = t.queue;
        held = t.held ∙ ap (drop c.taken) (sym (take-append-le c.read d.units us within));
        kept = t.kept;
        open' = t.open';
        ahead = λ k u at. get_before d.units us u (c.read + k) (t.ahead k u at);
        ended = λ yes.
            let last = (t.ended yes).0.there refl in
            let no = (shut.end last.0 the_end last.1 refl).0 in
            absurd (cc no);
        formed = t.formed;
      };
      open' = f.open';
    }

module _ (c d : ℕ) (differ : c ≢ d) (ends : List PresentEnd) (parcels : List (List ℕ)) (marks : List Mark) (sent : List ℕ) (x y : Half) where
  -- c is replaced by w', whose link, if it has one, is l
  pub takes_whole : (laws : LawsBelow) → Whole c d ends parcels marks sent x y → (w : PresentEnd) (l : LinkView) → ((m : LinkView) → w.link ≡ Some m → m ≡ l)
      → x.end.taken < x.end.read → Follows l (one_taken x).end y.end
      → Whole c d (set ends c w) parcels marks sent (one_taken x) y
  takes_whole laws whole w l is some follows =
      record {
        sound = taken_sound laws x.end y.end whole.sound some;
        run = taken_runs x.end y.end whole.run some;
        one = moves c d ends (set ends c w) parcels marks sent x y (one_taken x) y
            (record {
              later = omega arith;
              more = [];
              units = sym (append-nil x.end.units);
              mail = refl;
              sent = refl;
              buffers = refl;
              bag = λ p there. there;
              formed = whole.one.formed;
              link = λ e m at has.
                  let same : m ≡ l = is m (ap (λ (v : PresentEnd). v.link) (sym (this_end ends c w e at)) ∙ has) in
                  subst (λ n. Follows n (one_taken x).end y.end) (sym same) follows;
            }) whole.one;
        two = moves d c ends (set ends c w) parcels marks sent y x y (one_taken x)
            (record {
              later = omega arith;
              more = [];
              units = sym (append-nil y.end.units);
              mail = refl;
              sent = refl;
              buffers = refl;
              bag = λ p there. there;
              formed = whole.two.formed;
              link = λ e m at has. sees_same m y.end x.end (one_taken x).end refl (whole.two.link e m (other_end ends c d w e differ at) has);
            }) whole.two;
        count = whole.count;
      }

  pub gains_whole : (laws : LawsBelow) → Whole c d ends parcels marks sent x y → (w : PresentEnd) (l : LinkView) (us : List Unit)
      → ((m : LinkView) → w.link ≡ Some m → m ≡ l) → Formed x.end.units false → Follows l (gained us x).end y.end
      → Whole c d (set ends c w) parcels marks sent (gained us x) y
  gains_whole laws whole w l us is shut follows =
      let read : y.end.read ≤ length x.end.units = omega (arith, whole.sound.there) in
      record {
        sound = gained_sound laws x.end y.end whole.sound us;
        run = gained_runs x.end y.end whole.run us;
        one = moves c d ends (set ends c w) parcels marks sent x y (gained us x) y
            (record {
              later = omega arith;
              more = us;
              units = refl;
              mail = refl;
              sent = refl;
              buffers = refl;
              bag = λ p there. there;
              formed = (_, follows.tracks.formed);
              link = λ e m at has.
                  let same : m ≡ l = is m (ap (λ (v : PresentEnd). v.link) (sym (this_end ends c w e at)) ∙ has) in
                  subst (λ n. Follows n (gained us x).end y.end) (sym same) follows;
            }) whole.one;
        two = moves d c ends (set ends c w) parcels marks sent y x y (gained us x)
            (record {
              later = omega arith;
              more = [];
              units = sym (append-nil y.end.units);
              mail = refl;
              sent = refl;
              buffers = refl;
              bag = λ p there. there;
              formed = whole.two.formed;
              link = λ e m at has. sees_more m y.end x.end us read shut (whole.two.link e m (other_end ends c d w e differ at) has);
            }) whole.two;
        count = whole.count;
      }

  -- the link changes in parts that the machine does not have
  pub rests_whole : Whole c d ends parcels marks sent x y → (w : PresentEnd) (l : LinkView) → ((m : LinkView) → w.link ≡ Some m → m ≡ l)
      → (Follows l x.end y.end) → Whole c d (set ends c w) parcels marks sent x y
  rests_whole whole w l is follows =
      record {
        sound = whole.sound;
        run = whole.run;
        one = moves c d ends (set ends c w) parcels marks sent x y x y
            (record {
              later = omega arith;
              more = [];
              units = sym (append-nil x.end.units);
              mail = refl;
              sent = refl;
              buffers = refl;
              bag = λ p there. there;
              formed = whole.one.formed;
              link = λ e m at has.
                  let same : m ≡ l = is m (ap (λ (v : PresentEnd). v.link) (sym (this_end ends c w e at)) ∙ has) in
                  subst (λ n. Follows n x.end y.end) (sym same) follows;
            }) whole.one;
        two = moves d c ends (set ends c w) parcels marks sent y x y x
            (record {
              later = omega arith;
              more = [];
              units = sym (append-nil y.end.units);
              mail = refl;
              sent = refl;
              buffers = refl;
              bag = λ p there. there;
              formed = whole.two.formed;
              link = λ e m at has. whole.two.link e m (other_end ends c d w e differ at) has;
            }) whole.two;
        count = whole.count;
      }
