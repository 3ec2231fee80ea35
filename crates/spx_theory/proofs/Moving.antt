-- What stays tied when one end of a machine takes a step.
use Rattle.std.proofs.Common.{◌≡◌, ◌≢◌, ◌+◌, ℕ, Bool, true, List, ◌++◌, length, take, drop, set, Option, Some, None, refl, sym, ◌∙◌, inl, inr, ap, subst, arith}
use Rattle.std.specs.Prelude.{Contains, slice_get}
use Rattle.ipx_wire.specs.declared.spx.packet.SpxHeader.{SpxHeader}
use Rattle.spx_link.specs.declared.unit.Unit.{Unit}
use Rattle.spx_link.specs.LinkView.{LinkView}
use Rattle.spx_link.specs.Machine.{End, Packet}
use Rattle.spx_theory.proofs.Stepping.{Later, was_later}
use Rattle.spx_theory.specs.Scan.{Mark}
use Rattle.spx_theory.specs.PairLog.{Half}
use Rattle.spx_theory.specs.Tracks.{Formed, Follows}
use Rattle.spx_theory.specs.Spelling.{Carries}
use Rattle.spx_theory.specs.Scene.{PresentEnd, linked}
use Rattle.spx_theory.proofs.Lists.{get_before, get_set}
use Rattle.spx_theory.proofs.Tied.{Letter, Tied}

-- of the peer only its units matter
pub sees_same : (l : LinkView) (c d e : End) → e.units ≡ d.units → Follows l c d → Follows l c e
sees_same l c d e same f =
    let t = f.tracks in
    record {
      tracks = record {
        counts = t.counts;
        queue = t.queue;
        held = t.held ∙ ap (λ xs. drop c.taken (take c.read xs)) (sym same);
        kept = t.kept;
        open' = t.open';
        ahead = λ k u at. ap (λ xs. slice_get xs (c.read + k)) same ∙ t.ahead k u at;
        ended = λ yes. (subst (λ us. Formed us true) (sym same) (t.ended yes).0, omega (arith, (t.ended yes).1, ap length same));
        formed = t.formed;
      };
      open' = f.open';
    }

pub carries_more : (o : Option ℕ) (units more : List Unit) (h : SpxHeader) (body : List ℕ) → Carries o units h body → Carries o (units ++ more) h body
carries_more None units more h body has = has
carries_more (Some n) units more h body has = (has.0, has.1, get_before units more _ n has.2)

-- a letter still holds after both ends took steps
pub letter_later : (c d : ℕ) (parcels : List (List ℕ)) (marks : List Mark) (sent : List ℕ) (x y x' y' : Half) (more : List Unit)
    → Later x.end y.end x'.end y'.end → x'.end.units ≡ x.end.units ++ more → ((p : Packet) → Contains x.end.bag p → Contains x'.end.bag p)
    → (k : ℕ) (q : Packet) → Letter c d parcels marks sent x y k q → Letter c d parcels marks sent x' y' k q
letter_later c d parcels marks sent x y x' y' more later units bag k q letter =
    record {
      was = was_later x.end y.end x'.end y'.end later q letter.was;
      posted = bag q letter.posted;
      maker = letter.maker;
      own = letter.own;
      other = letter.other;
      within = letter.within;
      says = λ bytes at p h body reads.
          let old = letter.says bytes at p h body reads in
          (old.0, subst (λ us. Carries q.position us h body) (sym units) (carries_more q.position x.end.units more h body old.1));
    }

-- the end c takes a step without a parcel, or its peer does
pub record Moved (c d : ℕ) (ends : List PresentEnd) (x y x' y' : Half) : Type 0 where
  pub later : Later x.end y.end x'.end y'.end
  pub more : List Unit
  pub units : x'.end.units ≡ x.end.units ++ more
  pub mail : x'.mail ≡ x.mail
  pub bag : (p : Packet) → Contains x.end.bag p → Contains x'.end.bag p
  pub sent : x'.end.sent ≡ x.end.sent
  pub buffers : x'.end.buffers ≡ x.end.buffers
  pub formed : (closed : Bool) × Formed x'.end.units closed
  pub link : (e : PresentEnd) (l : LinkView) → slice_get ends c ≡ Some e → e.link ≡ Some l → Follows l x'.end y'.end

pub moves : (c d : ℕ) (ends ends' : List PresentEnd) (parcels : List (List ℕ)) (marks : List Mark) (sent : List ℕ) (x y x' y' : Half)
    → Moved c d ends' x y x' y' → Tied c d ends parcels marks sent x y → Tied c d ends' parcels marks sent x' y'
moves c d ends ends' parcels marks sent x y x' y' m t =
    record {
      link = m.link;
      letters = λ k q at. letter_later c d parcels marks sent x y x' y' m.more m.later m.units m.bag k q (t.letters k q (ap (λ ms. slice_get ms k) (sym m.mail) ∙ at));
      all = λ k within by. let found = t.all k within by in (found.0, ap (λ ms. slice_get ms k) m.mail ∙ found.1);
      mail = ap length m.mail ∙ t.mail;
      count = m.sent ∙ t.count;
      formed = m.formed;
      small = omega (arith, m.buffers, t.small);
    }

-- an end other than the one that was replaced
pub other_end : (ends : List PresentEnd) (c d : ℕ) (w e : PresentEnd) → c ≢ d → slice_get (set ends c w) d ≡ Some e → slice_get ends d ≡ Some e
other_end ends c d w e differ at = elim (get_set ends c d w e at) [ inl same ↦ absurd (differ same.0) | inr other ↦ other.1 ]

pub this_end : (ends : List PresentEnd) (c : ℕ) (w e : PresentEnd) → slice_get (set ends c w) c ≡ Some e → e ≡ w
this_end ends c w e at = elim (get_set ends c c w e at) [ inl same ↦ sym same.1 | inr other ↦ absurd (other.0 refl) ]

pub this_link : (ends : List PresentEnd) (c : ℕ) (w : PresentEnd) (k : LinkView) (e : PresentEnd) (l : LinkView) → slice_get (set ends c (linked w k)) c ≡ Some e → e.link ≡ Some l → l ≡ k
this_link ends c w k e l at is =
    let same : e ≡ linked w k = this_end ends c (linked w k) e at in
    let both : Some l ≡ Some k = sym is ∙ ap (λ (x : PresentEnd). x.link) same in
    cc both
