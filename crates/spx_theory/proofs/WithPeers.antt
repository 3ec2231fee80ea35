-- An end with a peer sends no unit that its peer did not allow.
use Rattle.std.proofs.Common.{◌≡◌, ℕ, List, ◌++◌, sym, ◌∙◌, ap, subst, arith}
use Rattle.spx_link.specs.LinkView.{LinkView}
use Rattle.spx_link.specs.Poll.{poll_link}
use Rattle.spx_theory.specs.Note.{Note}
use Rattle.spx_theory.specs.Scan.{scan, role_of}
use Rattle.spx_theory.specs.Peers.{AreJoined, Premises}
use Rattle.spx_theory.proofs.OfTwo.{PairPremises}
use Rattle.spx_theory.specs.PairLog.{Half, pair_between}
use Rattle.spx_theory.specs.Spelling.{Spoke, PolledTo}
use Rattle.spx_theory.specs.Tracks.{core}
use Rattle.spx_theory.specs.Scene.{Scene}
use Rattle.spx_theory.specs.Deeds.{Reached}
use Rattle.spx_theory.specs.SentUnits.{sent_by}
use Rattle.spx_theory.proofs.Tied.{Whole}
use Rattle.spx_theory.proofs.Ranges.{in_range}
use Rattle.spx_theory.proofs.PairPremises.{closed, to_pair}
use Rattle.spx_theory.proofs.Held.{turned}
use Rattle.spx_theory.proofs.Along.{held_along, joined_differ}
use Rattle.spx_theory.proofs.Growing.{IsAllowing}
use Rattle.spx_theory.proofs.Placing.{log_numbered}
use Rattle.spx_theory.proofs.Allowing.{Allows, LimitsAllowed, allows_log}
use Rattle.spx_theory.proofs.GivenUnits.{GaveUnit}
use Rattle.spx_theory.specs.Below.{LawsBelow}
use Rattle.spx_link.specs.declared.outgoing.Sent.TheVariants as Sents

-- the half of an end that sends a unit
gives_within : (laws : LawsBelow) (c d b : ℕ) (log before : List Note) (g : GaveUnit log before c) (x y : Half)
    → Whole c d g.old.ends g.old.parcels (scan g.old.log).marks (scan g.old.log).sent x y → LimitsAllowed c d b g.old.log x → IsAllowing c d b (sent_by c g.old.log) g.old.log
gives_within laws c d b log before g x y w allowed =
    let l : LinkView = g.does.link in
    let polled = laws.steps.polls l g.now x.end y.end (w.one.link g.does.stand l g.does.stands.there g.does.stands.link) w.sound in
    let spoke : Spoke g.does.given.what (core (poll_link l g.now).1) g.does.given x.end y.end = subst (λ o. PolledTo o (core (poll_link l g.now).1) x.end y.end) g.does.gives polled.to in
    let unit : Spoke Sents.Unit (core (poll_link l g.now).1) g.does.given x.end y.end = subst (λ k. Spoke k (core (poll_link l g.now).1) g.does.given x.end y.end) g.what spoke in
    allowed (sent_by c g.old.log) (omega (arith, unit.0, w.one.count))

-- the link and its machine in the scene in which a unit was sent
record AtGift (c d a b : ℕ) (s : Scene) : Type 0 where
  premises : PairPremises c d a b s.log
  whole : Whole c d s.ends s.parcels (scan s.log).marks (scan s.log).sent (pair_between c d a b s.parcels s.log).one (pair_between c d a b s.parcels s.log).two
  allows : Allows c d a b s.log (pair_between c d a b s.parcels s.log)

at_gift : (laws : LawsBelow) (c d : ℕ) {s : Scene} → Reached s → Premises s.log → AreJoined (scan s.log) c d → (old : Scene) → Reached old → (more : List Note) → s.log ≡ old.log ++ more
    → AtGift c d (role_of (scan s.log) c).buffers (role_of (scan s.log) d).buffers old
at_gift laws c d {s} reached premises j old old_reached more is =
    let a : ℕ = (role_of (scan s.log) c).buffers in
    let b : ℕ = (role_of (scan s.log) d).buffers in
    let p : PairPremises c d a b old.log = closed c d a b old.log more (subst (PairPremises c d a b) is (to_pair s.log c d premises j)) in
    let all = held_along laws c d a b (joined_differ (scan s.log) c d j) (in_range reached c) (in_range reached d) old_reached p in
    record { premises = p; whole = all.0.whole; allows = allows_log old.parcels c d a b old.log (log_numbered laws old_reached) }

-- no more is known of an end's buffers than of its role, which later ones keep
pub caller_within : (laws : LawsBelow) {s : Scene} → Reached s → Premises s.log → (c d : ℕ) → AreJoined (scan s.log) c d → (before : List Note) → GaveUnit s.log before c
    → IsAllowing c d (role_of (scan s.log) d).buffers (sent_by c before) before
caller_within laws {s} reached premises c d j before g =
    let h = at_gift laws c d reached premises j g.old g.reached g.later (g.whole ∙ ap (λ xs. xs ++ g.later) g.log_is) in
    subst (λ log. IsAllowing c d (role_of (scan s.log) d).buffers (sent_by c log) log) (sym g.log_is)
    (gives_within laws c d _ s.log before g _ _ h.whole h.allows.limit)

pub callee_within : (laws : LawsBelow) {s : Scene} → Reached s → Premises s.log → (c d : ℕ) → AreJoined (scan s.log) c d → (before : List Note) → GaveUnit s.log before d
    → IsAllowing d c (role_of (scan s.log) c).buffers (sent_by d before) before
callee_within laws {s} reached premises c d j before g =
    let h = at_gift laws c d reached premises j g.old g.reached g.later (g.whole ∙ ap (λ xs. xs ++ g.later) g.log_is) in
    subst (λ log. IsAllowing d c (role_of (scan s.log) c).buffers (sent_by d log) log) (sym g.log_is)
    (gives_within laws d c _ s.log before g _ _ (turned c d _ _ _ _ _ _ h.whole) h.allows.limit_back)
