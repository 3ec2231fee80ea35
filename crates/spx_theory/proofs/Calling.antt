-- A take, an offer and an end are steps of the machine; and the laws of a link, all together.
use Rattle.std.proofs.Common.{ℕ, zero, suc, ◌+◌, ◌-◌, ◌<◌, ◌≤◌, ◌≡◌, true, false, List, [], ◌∷◌, ◌++◌, Some, None, slice_get, length, map, drop, take, arith, refl, sym, ap, ◌∙◌, subst, length-append, take_at, drop_at, inl, inr}
use Rattle.std.proofs.lemmas.Bool.{cases_lt}
use Rattle.std.proofs.lemmas.List.{map-append, drop-append-le, drop-drop}
use Rattle.spx_link.specs.declared.unit.Unit.{Unit}
use Rattle.spx_link.specs.declared.state.State.{State}
use Rattle.spx_link.specs.Limits.{end_stream}
use Rattle.spx_link.specs.LinkView.{LinkView}
use Rattle.spx_link.specs.Units.{unit_of}
use Rattle.spx_link.specs.Offer.{refusal, queued, offer_link, end_link, take_held, take_link, the_end}
use Rattle.spx_link.specs.Machine.{End, AreSound}
use Rattle.spx_theory.specs.Tracks.{Formed, Follows, may_end}
use Rattle.spx_theory.specs.PairSteps.{StepLaws, TakesTo}
use Rattle.spx_theory.proofs.LinkLists.{get_last}
use Rattle.spx_theory.proofs.Polling.{slice_get-drop, polls}
use Rattle.spx_theory.proofs.Receiving.{receives_tracks}
use Rattle.spx_theory.proofs.ReadingStates.{reading}
use Rattle.spx_link.specs.declared.state.State.TheVariants as S

slice_get-take : {A : Type 0} (n k : ℕ) (xs : List A) → k < n → slice_get (take n xs) k ≡ slice_get xs k
slice_get-take zero k xs below = absurd (omega (arith, below))
slice_get-take (suc n) k [] below = refl
slice_get-take (suc n) zero (x ∷ xs) below = refl
slice_get-take (suc n) (suc k) (x ∷ xs) below = slice_get-take n k xs (omega (arith, below))

takes_held : (l : LinkView) (c d : End) (v u : Unit) (us : List Unit) → Follows l c d → l.held ≡ u ∷ us → (take_held l (u ∷ us)).0 ≡ Some v
    → (c.taken < c.read) × (slice_get d.units c.taken ≡ Some v) × Follows (take_held l (u ∷ us)).1 (record c { taken = c.taken + 1 }) d
takes_held l c d v u us f is gives =
    let t = f.tracks in
    let same : u ≡ v = cc gives in
    let whole : u ∷ us ≡ drop c.taken (take c.read d.units) = sym is ∙ t.held in
    let count : c.taken + suc (length us) ≡ c.read = omega (arith, t.counts.held, ap length is) in
    let some : c.taken < c.read = omega (arith, count) in
    let first : slice_get d.units c.taken ≡ Some u =
    sym (slice_get-take c.read c.taken d.units some) ∙ (ap (slice_get (take c.read d.units)) (omega arith) ∙ (sym (slice_get-drop c.taken 0 (take c.read d.units)) ∙ ap (λ xs. slice_get xs 0) (sym whole))) in
    let rest : us ≡ drop (c.taken + 1) (take c.read d.units) = ap (drop 1) whole ∙ drop-drop 1 c.taken (take c.read d.units) in (
      some,
      first ∙ ap Some same,
      record {
        tracks = record {
          counts = record { next = t.counts.next; expected = t.counts.expected; out = t.counts.out; room = t.counts.room; held = omega (arith, count); buffers = t.counts.buffers; window = t.counts.window; small = t.counts.small };
          queue = t.queue;
          held = rest;
          kept = t.kept;
          open' = t.open';
          ahead = t.ahead;
          ended = t.ended;
          formed = t.formed;
        };
        open' = f.open';
      },
    )

takes_of : (l : LinkView) (v : Unit) (c d : End) (us : List Unit) → Follows l c d → l.held ≡ us → (take_held l us).0 ≡ Some v
    → (c.taken < c.read) × (slice_get d.units c.taken ≡ Some v) × Follows (take_held l us).1 (record c { taken = c.taken + 1 }) d
takes_of l v c d [] f is gives = absurd (cc gives)
takes_of l v c d (u ∷ us) f is gives = takes_held l c d v u us f is gives

pub takes : (l : LinkView) (u : Unit) (c d : End) → Follows l c d → AreSound c d → (take_link l).0 ≡ Some u → TakesTo l u c d
takes l u c d f line gives = let t = takes_of l u c d l.held f refl gives in record { some = t.0; is = t.1; follows = t.2 }

pub take_state : (l : LinkView) (us : List Unit) → (take_held l us).1.state ≡ l.state
take_state l [] = refl
take_state l (u ∷ us) = refl

pub units_queued : (us : List Unit) → map unit_of (map queued us) ≡ us
units_queued [] = refl
units_queued (u ∷ us) = ap (λ vs. u ∷ vs) (units_queued us)

-- more units, of which none is an end, or which are only the end
pub formed_more : (xs us : List Unit) → Formed xs false → ((k : ℕ) (u : Unit) → slice_get us k ≡ Some u → u.stream < 254) → Formed (xs ++ us) false
formed_more xs us f low =
    record {
      stream = λ k u at. elim (cases_lt k (length xs)) [
        | inl below ↦ f.stream k u (get_front k u below at)
        | inr above ↦ omega (arith, low (k - length xs) u (get_after k u above at))
      ];
      end = λ k u at is. elim (cases_lt k (length xs)) [
        | inl below ↦ absurd (cc ((f.end k u (get_front k u below at) is).0))
        | inr above ↦ absurd (omega (arith, is, low (k - length xs) u (get_after k u above at)))
      ];
      there = λ e. absurd (cc e);
    }
  where
    get_front : (k : ℕ) (u : Unit) → k < length xs → slice_get (xs ++ us) k ≡ Some u → slice_get xs k ≡ Some u
    get_front k u below at = sym (ap (λ ys. slice_get ys k) (take_at xs us (length xs) refl)) ∙ (slice_get-take (length xs) k (xs ++ us) below ∙ at)

    get_after : (k : ℕ) (u : Unit) → length xs ≤ k → slice_get (xs ++ us) k ≡ Some u → slice_get us (k - length xs) ≡ Some u
    get_after k u above at = ap (λ ys. slice_get ys (k - length xs)) (sym (drop_at xs us (length xs) refl)) ∙ slice_get-drop (length xs) (k - length xs) (xs ++ us) ∙ ap (slice_get (xs ++ us)) (omega (arith, above)) ∙ at

pub formed_end : (xs : List Unit) → Formed xs false → Formed (xs ++ the_end ∷ []) true
formed_end xs f =
    record {
      stream = λ k u at. elim (get_last xs the_end u k at) [ inl was ↦ f.stream k u was | inr new ↦ omega (arith, ap (λ (v : Unit). v.stream) new.1) ];
      end = λ k u at is. elim (get_last xs the_end u k at) [
        | inl was ↦ absurd (cc ((f.end k u was is).0))
        | inr new ↦ (refl, omega (arith, new.0, length-append xs (the_end ∷ [])), sym new.1)
      ];
      there = λ e. (length xs, get_end xs);
    }
  where
    get_end : (ys : List Unit) → slice_get (ys ++ the_end ∷ []) (length ys) ≡ Some the_end
    get_end [] = refl
    get_end (y ∷ ys) = get_end ys

pub live_opens : (s : State) → refusal s ≡ None → may_end s ≡ true
live_opens S.Opening is = absurd (cc is)
live_opens S.Live is = refl
live_opens S.Ending is = absurd (cc is)
live_opens S.PeerEnded is = absurd (cc is)
live_opens S.Confirmed is = absurd (cc is)
live_opens S.Lost is = absurd (cc is)

pub offers : (l : LinkView) (us : List Unit) (c d : End) → Follows l c d → AreSound c d → refusal l.state ≡ None
    → ((k : ℕ) (u : Unit) → slice_get us k ≡ Some u → u.stream < end_stream) → Follows (offer_link l us) (record c { units = c.units ++ us }) d
offers l us c d f line live low =
    let t = f.tracks in
    let none : l.end_queued ≡ false = f.open' (live_opens l.state live) in
    record {
      tracks = record {
        counts = record { next = t.counts.next; expected = t.counts.expected; out = t.counts.out; room = t.counts.room; held = t.counts.held; buffers = t.counts.buffers; window = t.counts.window; small = t.counts.small };
        queue = map-append unit_of l.queue (map queued us) ∙ (ap (λ xs. map unit_of l.queue ++ xs) (units_queued us) ∙ (ap (λ xs. xs ++ us) t.queue ∙ sym (drop-append-le c.base c.units us (omega (arith, t.counts.out, line.within.sent)))));
        held = t.held;
        kept = t.kept;
        open' = t.open';
        ahead = t.ahead;
        ended = t.ended;
        formed = subst (λ b. Formed (c.units ++ us) b) (sym none) (formed_more c.units us (subst (λ b. Formed c.units b) none t.formed) low);
      };
      open' = f.open';
    }

pub ends : (l : LinkView) (c d : End) → Follows l c d → AreSound c d → refusal l.state ≡ None → Follows (end_link l) (record c { units = c.units ++ the_end ∷ [] }) d
ends l c d f line live =
    let t = f.tracks in
    let none : l.end_queued ≡ false = f.open' (live_opens l.state live) in
    record {
      tracks = record {
        counts = record { next = t.counts.next; expected = t.counts.expected; out = t.counts.out; room = t.counts.room; held = t.counts.held; buffers = t.counts.buffers; window = t.counts.window; small = t.counts.small };
        queue = map-append unit_of l.queue (queued the_end ∷ []) ∙ (ap (λ xs. xs ++ the_end ∷ []) t.queue ∙ sym (drop-append-le c.base c.units (the_end ∷ []) (omega (arith, t.counts.out, line.within.sent))));
        held = t.held;
        kept = t.kept;
        open' = t.open';
        ahead = t.ahead;
        ended = t.ended;
        formed = formed_end c.units (subst (λ b. Formed c.units b) none t.formed);
      };
      open' = λ e. absurd (cc e);
    }

-- ---- all laws of a link
pub step_laws : StepLaws
step_laws =
    record {
      receives = λ l h body q c d r read. record { tracks = receives_tracks l h body q c d r read; open' = (reading l h body).open' refl r.follows.open' };
      polls = polls;
      takes = takes;
      offers = offers;
      ends = ends;
    }
