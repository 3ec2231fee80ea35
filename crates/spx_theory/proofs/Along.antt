-- In every scene that can be reached, the invariant of a pair holds as long as its premises do.
use Rattle.std.proofs.Common.{◌≡◌, ◌≢◌, ◌≤◌, ℕ, false, List, [], ◌++◌, length, take, Some, refl, sym, ◌∙◌, ap, subst, arith}
use Rattle.std.specs.Prelude.{slice_get}
use Rattle.std.proofs.lemmas.List.{append-nil}
use Rattle.spx_link.specs.Limits.{most_units}
use Rattle.spx_theory.specs.Note.{Note}
use Rattle.spx_theory.specs.Scan.{Scan, Role, scan}
use Rattle.spx_theory.specs.Peers.{AreJoined}
use Rattle.spx_theory.proofs.OfTwo.{PairPremises}
use Rattle.spx_theory.specs.PairLog.{Pair, pair_between}
use Rattle.spx_theory.specs.Scene.{Scene}
use Rattle.spx_theory.specs.Deeds.{Deed, DoesDeed, Dials, Accepts, Reads, OwesReply, Paces, AsksAgain, Gives, Rests, Sends, Takes, Overruns, Closes, Releases, Carries, Tells, Injects, IsBegun, Reached, begun, happened}
use Rattle.spx_theory.specs.InStep.{Mirrors, IfPresent}
use Rattle.spx_theory.proofs.Facts.{Facts}
use Rattle.spx_theory.proofs.NextFacts.{FactsAt, next_facts}
use Rattle.spx_theory.proofs.Held.{Held, HeldAt}
use Rattle.spx_theory.proofs.HeldEnds.{formed_none}
use Rattle.spx_theory.proofs.NextHeld.{next_held}
use Rattle.spx_theory.proofs.PairPremises.{closed}
use Rattle.spx_theory.proofs.Telling.{AreOk, Tells', Said, never, next_tells, ranged_ok}
use Rattle.spx_theory.proofs.Gathering.{joins_log}
use Rattle.spx_messages.specs.Joining.{joined}
use Rattle.spx_theory.specs.Handed.{handed_in, handed_out, units_of, taken_of, IsBeginning}
use Rattle.std.proofs.Math.Seq.{take-append_seam}
use Rattle.spx_theory.specs.Below.{LawsBelow}

-- the log only grows
pub record LogGrows (s s' : Scene) : Type 0 where
  pub more : List Note
  pub is : s'.log ≡ s.log ++ more

log_same : (s s' : Scene) → s'.log ≡ s.log → LogGrows s s'
log_same s s' e = record { more = []; is = e ∙ sym (append-nil s.log) }

pub log_grows : (s s' : Scene) (deed : Deed) → DoesDeed deed s s' → LogGrows s s'
log_grows s s' (Dials host id socket to buffers now) does = record { more = _; is = ap (λ (z : Scene). z.log) does.after }
log_grows s s' (Accepts host id socket parcel buffers now) does = record { more = _; is = ap (λ (z : Scene). z.log) does.after }
log_grows s s' (Reads who parcel) does = record { more = _; is = ap (λ (z : Scene). z.log) does.after }
log_grows s s' (OwesReply who) does = log_same s s' (ap (λ (z : Scene). z.log) does.after)
log_grows s s' (Paces who window manual) does = log_same s s' (ap (λ (z : Scene). z.log) does.after)
log_grows s s' (AsksAgain who place) does = log_same s s' (ap (λ (z : Scene). z.log) does.after)
log_grows s s' (Gives who now segment bytes) does = record { more = _; is = ap (λ (z : Scene). z.log) does.after }
log_grows s s' (Rests who now) does = log_same s s' (ap (λ (z : Scene). z.log) does.after)
log_grows s s' (Sends who m) does = record { more = _; is = ap (λ (z : Scene). z.log) does.after }
log_grows s s' (Takes who u) does = record { more = _; is = ap (λ (z : Scene). z.log) does.after }
log_grows s s' (Overruns who u) does = log_same s s' (ap (λ (z : Scene). z.log) does.after)
log_grows s s' (Closes who) does = record { more = _; is = ap (λ (z : Scene). z.log) does.after }
log_grows s s' (Releases who) does = record { more = _; is = ap (λ (z : Scene). z.log) does.after }
log_grows s s' (Carries from network segment bytes) does = record { more = _; is = ap (λ (z : Scene). z.log) does.after }
log_grows s s' (Tells router segment bytes) does = record { more = _; is = ap (λ (z : Scene). z.log) does.after }
log_grows s s' (Injects segment bytes) does = record { more = _; is = ap (λ (z : Scene). z.log) does }

-- nothing happened yet
facts_begun : (s : Scene) → IsBegun s → FactsAt s
facts_begun s is =
    subst (λ es. Facts es s.parcels (scan s.log) s.log) (sym is.ends)
    (subst (λ ps. Facts [] ps (scan s.log) s.log) (sym is.parcels)
    (subst (λ log. Facts [] [] (scan log) log) (sym is.log)
    (record { count = refl; roles = refl; newest = refl; are = tt; makers = λ k e by. absurd (cc by); opening = λ who e l r at. absurd (cc at) })))

held_begun : (laws : LawsBelow) (c d a b : ℕ) (s : Scene) → a ≤ most_units → b ≤ most_units → IsBegun s → HeldAt c d a b s
held_begun laws c d a b s small small' is =
    subst (λ es. Held c d a b es s.parcels (scan s.log) (pair_between c d a b s.parcels s.log)) (sym is.ends)
    (subst (λ ps. Held c d a b [] ps (scan s.log) (pair_between c d a b ps s.log)) (sym is.parcels)
    (subst (λ log. Held c d a b [] [] (scan log) (pair_between c d a b [] log)) (sym is.log)
    (record {
      whole = record {
        sound = laws.start a b;
        run = record { one = a; two = b; steps = []; run = refl };
        count = refl;
        one = record { link = λ e l at. absurd (cc at); letters = λ k q at. absurd (cc at); all = λ k within. absurd (omega (arith, within)); mail = refl; count = refl; formed = (false, formed_none); small = small };
        two = record { link = λ e l at. absurd (cc at); letters = λ k q at. absurd (cc at); all = λ k within. absurd (omega (arith, within)); mail = refl; count = refl; formed = (false, formed_none); small = small' };
      };
      early = λ u. record { base = refl; sent = refl; limit = refl; read = refl; taken = refl; buffers = refl; kept = refl; units = refl };
      quiet = λ u e l at. absurd (cc at);
      unmade = λ past. record { base = refl; sent = refl; limit = refl; read = refl; taken = refl; buffers = refl; kept = refl; units = refl };
    })))

pub facts_along : (laws : LawsBelow) {s : Scene} → Reached s → FactsAt s
facts_along laws {s} (begun is) = facts_begun s is
facts_along laws {s} (happened old deed reached does) = next_facts laws old s deed does (facts_along laws reached)

module _ (laws : LawsBelow) (c d a b : ℕ) (differ : c ≢ d) (small : a ≤ most_units) (small' : b ≤ most_units) where
  pub tells_begun : (s : Scene) → IsBegun s → Tells' laws c d a b differ s
  tells_begun s is =
      record {
        ok = subst AreOk (sym is.log) tt;
        one = said c d;
        two = said d c;
      }
    where
      said : (e f : ℕ) → Said e f s
      said e f = record {
        begins = ([], ap (λ log. taken_of e log ++ []) is.log ∙ sym (ap (units_of f) is.log));
        handed = ap (handed_out e) is.log ∙ sym (ap (λ log. (joined (taken_of e log)).messages) is.log);
        rest = λ w at. absurd (cc (sym (ap (λ es. slice_get es e) is.ends) ∙ at));
      }

  pub held_along : {s : Scene} → Reached s → PairPremises c d a b s.log → HeldAt c d a b s × Tells' laws c d a b differ s
  held_along {s} (begun is) p = (held_begun laws c d a b s small small' is, tells_begun s is)
  held_along {s} (happened old deed reached does) p =
      let g = log_grows old s deed does in
      let before : PairPremises c d a b old.log = closed c d a b old.log g.more (subst (PairPremises c d a b) g.is p) in
      let h = held_along reached before in
      let f = facts_along laws reached in (
        next_held laws c d a b differ old s deed (never laws c d a b differ old h.0 h.1) does f before p h.0,
        next_tells laws c d a b differ old s deed does f h.0 h.1,
      )

-- ---- the first clauses of the headline: links are the machine of the log, and what counts as acknowledged
-- was read
pub record InStep (s : Scene) (c d : ℕ) (p : Pair) : Type 0 where
  pub one : IfPresent s c (λ l. Mirrors l p.one.end)
  pub two : IfPresent s d (λ l. Mirrors l p.two.end)
  pub acknowledged : p.one.end.base ≤ p.two.end.read
  pub acknowledged_back : p.two.end.base ≤ p.one.end.read

pub in_step : (c d a b : ℕ) (s : Scene) → HeldAt c d a b s → InStep s c d (pair_between c d a b s.parcels s.log)
in_step c d a b s h =
    let p : Pair = pair_between c d a b s.parcels s.log in
    record {
      one = λ e l stands. let t = (h.whole.one.link e l stands.there stands.link).tracks.counts in record { next = t.next; expected = t.expected; out = t.out; room = t.room; held = t.held };
      two = λ e l stands. let t = (h.whole.two.link e l stands.there stands.link).tracks.counts in record { next = t.next; expected = t.expected; out = t.out; room = t.room; held = t.held };
      acknowledged = h.whole.sound.there.base;
      acknowledged_back = h.whole.sound.back.base;
    }

pub joined_differ : (s : Scan) (c d : ℕ) → AreJoined s c d → c ≢ d
joined_differ s c d j same =
    let both : Some j.caller ≡ Some j.callee = sym j.caller_is ∙ ap (slice_get s.roles) same ∙ j.callee_is in
    let role : j.caller ≡ j.callee = cc both in
    absurd (cc (sym j.called ∙ ap (λ (r : Role). r.called) role ∙ j.accepted))

-- ---- and what an end handed out is a prefix of what was handed in at its peer
pub prefix_of : (c d : ℕ) (s : Scene) → AreOk s.log → Said c d s → IsBeginning (handed_out c s.log) (handed_in d s.log)
prefix_of c d s ok said =
    let k : ℕ = length (taken_of c s.log) in
    let first : take k (units_of d s.log) ≡ taken_of c s.log = ap (take k) (sym said.begins.1) ∙ take-append_seam (taken_of c s.log) said.begins.0 in
    let j = joins_log d s.log [] k (ranged_ok s.log ok) in
    (j.rest, ap (λ ms. ms ++ j.rest) (said.handed ∙ ap (λ us. (joined us).messages) (sym first)) ∙ j.begins)
