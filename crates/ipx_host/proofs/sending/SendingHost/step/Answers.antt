use Rattle.std.proofs.Common.{◌≡◌, ◌≢◌, ◌∙◌, ℕ, Bool, true, false, List, [], Err, None, Some, refl, sym, ap, subst, inr, arith, rules}
use Rattle.std.proofs.lemmas.Grind.{common_steps}
use Rattle.std.proofs.lemmas.Bool.{or_left}
use Rattle.std.proofs.lemmas.Result.{err_from_is_err_and}
use Rattle.spx_link.specs.declared.state.State.TheVariants.{Live}
use Rattle.ipx_host.specs.Feeding.{Feeds, FeedState, LeavesIntake}
use Rattle.ipx_host.specs.Midway.{around_of, feeding_at}
use Rattle.ipx_host.specs.Turning.{DrivesTurn}
use Rattle.ipx_host.specs.declared.paced_host_core.PacedHostCore.{PacedHostCore}
use Rattle.ipx_host.specs.Transfer.{ended_at, state_at}
use Rattle.ipx_host.specs.declared.send_outcome.SendOutcome.{SendOutcome}
use Rattle.ipx_host.specs.declared.send_outcome.SendOutcome.TheVariants as Verdicts
use Rattle.ipx_host.proofs.Fed.{same_core, same_intake, sees, sees_later, stepped, turned, went_on}
use Rattle.ipx_host.proofs.sending.SendingHost.step.Goals as goal
use Rattle.ipx_host.proofs.sending.SendingHost.step.Goals.{then-eq+in_ok-fed, else-eq}

pub returns-clause-steps : goal.returns-clause-steps
returns-clause-steps g c =
    let old = c.args.self.now in
    let seen = c.turn-turn.new.self.core in
    let look = c.look-state.new.self in
    let told = c.look-state.ensures in
    let looked : look.station.core ≡ seen = ap (λ s. s.core) told.station in
    let timed : around_of look.station ≡ around_of c.turn-turn.new.self = ap around_of told.station in
    let dropped = c.drop_what_came.new.endpoint in
    let mid = c.if-eq.self in
    let shown = c.show.new.self in
    let same = c.show.ensures in
    let stays : shown.station.core ≡ mid.station.core = ap (λ s. s.core) same.station in
    let ticked : around_of shown.station ≡ around_of mid.station = ap around_of same.station in
    let known = g.I.Read.remaining c.args.reader.now in
    let left = g.I.Read.remaining c.if-eq.reader in
    let start = feeding_at look.input dropped known in
    let fed : (bytes : List ℕ) × Feeds start (feeding_at mid.input mid.station.core.endpoint left) look.id bytes × (state_at seen.endpoint old.id ≢ Some Live → LeavesIntake start (feeding_at mid.input mid.station.core.endpoint left) bytes) =
    elim c.if-eq.branch [
      | then-eq+in_ok-fed w ↦
          let is : c.look-state.result ≡ Some Live = first_of (search rules, grind (arith, common_steps)) in
          rw (w.self-is, w.reader-is) (w.in_ok-fed.ensures.feeds.0, w.in_ok-fed.ensures.feeds.1, λ other. absurd (other (sym told.state ∙ is)))
      | else-eq w ↦
          let rests : LeavesIntake start start [] = record { same = refl {a = start}; none = refl } in
          rw (w.self-is, w.reader-is) ([], inr (inr rests), λ other. rests)
    ] in
    let joined : mid.joined ≡ look.joined = elim c.if-eq.branch [ then-eq+in_ok-fed w ↦ rw w.self-is refl | else-eq w ↦ rw w.self-is refl ] in
    let gone : mid.left ≡ look.left = elim c.if-eq.branch [ then-eq+in_ok-fed w ↦ rw w.self-is refl | else-eq w ↦ rw w.self-is refl ] in
    let ticks : around_of mid.station ≡ around_of look.station = elim c.if-eq.branch [ then-eq+in_ok-fed w ↦ rw w.self-is refl | else-eq w ↦ rw w.self-is refl ] in
    let goes : mid.station.core ≡ record look.station.core { endpoint = mid.station.core.endpoint } = elim c.if-eq.branch [ then-eq+in_ok-fed w ↦ rw w.self-is refl | else-eq w ↦ rw w.self-is refl ] in
    let shows = same_intake mid.station.core.endpoint shown.station.core.endpoint mid.input.read shown.input.read mid.input.closed shown.input.closed mid.input.acked_bytes shown.input.acked_bytes left (ap (λ (k : PacedHostCore). k.endpoint) stays) (ap (λ i. i.read) same.input) (ap (λ i. i.closed) same.input) (ap (λ i. i.acked_bytes) same.input) in
    let new = feeding_at shown.input shown.station.core.endpoint left in
    let seeing = sees old.joined look.joined old.left look.left seen look.station.core old.id look.id old.input.closed look.input.closed c.is_all_acked-whole.result c.waits.result c.look-state.result None told.state looked told.id told.closed told.joined told.left c.is_all_acked-whole.ensures c.waits.ensures c.in_default.ensures.verdict in
    let fed' : Feeds start new look.id fed.0 = subst (λ (i : FeedState). Feeds start i look.id fed.0) (sym shows) fed.1 in
    let only : state_at seen.endpoint old.id ≢ Some Live → LeavesIntake start new fed.0 = λ other. subst (λ (i : FeedState). LeavesIntake start i fed.0) (sym shows) (fed.2 other) in
    record {
      seen = seen;
      turn = c.turn-turn.result;
      turned = turned (around_of old.station) _ _ DrivesTurn _ _ _ _ (ticked ∙ ticks ∙ timed) c.turn-turn.ensures.core.0;
      verdict = None;
      sees = sees_later look.joined shown.joined look.left shown.left (record { joined = old.joined; left = old.left }) seen.endpoint seen.moment old.id old.input.closed None (same.joined ∙ joined) (same.left ∙ gone) seeing;
      waited = λ active. or_left c.turn-turn.result.active _ active;
      goes = (tt, (fed.0, stepped old.id look.id seen look.station.core old.station.core.endpoint dropped old.input.read look.input.read old.input.closed look.input.closed old.input.acked_bytes look.input.acked_bytes known new fed.0 told.id looked told.read told.closed told.acked_bytes c.drop_what_came.ensures fed' only));
      core = went_on seen look.station.core mid.station.core shown.station.core looked goes stays;
    }

pub returns-in-Some-clause-steps : goal.returns-in-Some-clause-steps
returns-in-Some-clause-steps g c =
    let old = c.args.self.now in
    let seen = c.turn-turn.new.self.core in
    let look = c.look-state.new.self in
    let told = c.look-state.ensures in
    let looked : look.station.core ≡ seen = ap (λ s. s.core) told.station in
    let timed : around_of look.station ≡ around_of c.turn-turn.new.self = ap around_of told.station in
    let verdict = c.in-Some.verdict in
    let known = g.I.Read.remaining c.args.reader.now in
    record {
      seen = seen;
      turn = c.turn-turn.result;
      turned = turned (around_of old.station) _ _ DrivesTurn _ _ _ _ timed c.turn-turn.ensures.core.0;
      verdict = Some (ended_at old.input.closed verdict);
      sees = sees old.joined look.joined old.left look.left seen look.station.core old.id look.id old.input.closed look.input.closed c.is_all_acked-whole.result c.waits.result c.look-state.result (Some verdict) told.state looked told.id told.closed told.joined told.left c.is_all_acked-whole.ensures c.waits.ensures c.in-Some.ensures.verdict;
      waited = tt;
      goes = (
        ap (λ (v : SendOutcome). Err v) (c.ended_by.ensures ∙ ap (λ (b : Bool). ended_at b verdict) told.closed),
        record {
          follows = told.acked_bytes;
          is = same_intake seen.endpoint look.station.core.endpoint old.input.read look.input.read old.input.closed look.input.closed look.input.acked_bytes look.input.acked_bytes known (ap (λ (k : PacedHostCore). k.endpoint) looked) told.read told.closed refl;
        },
      );
      core = same_core seen look.station.core looked;
    }

-- a transfer that ends as done was judged so
judged_done : (closed : Bool) (v : SendOutcome) → ended_at closed v ≡ Verdicts.Done → v ≡ Verdicts.Done
judged_done true v is = is
judged_done false Verdicts.Done is = refl
judged_done false Verdicts.Unanswered is = is
judged_done false Verdicts.GivenUp is = is
judged_done false Verdicts.PeerLeft is = is
judged_done false Verdicts.Unread is = is
judged_done false Verdicts.OutOfMemory is = is
judged_done false Verdicts.Unwaited is = is

pub returns-in-Some-clause-done : goal.returns-in-Some-clause-done
returns-in-Some-clause-done g c = λ is.
    let ended : c.ended_by.result ≡ Verdicts.Done = cc in
    let done = judged_done c.look-state.new.self.input.closed c.in-Some.verdict (sym c.ended_by.ensures ∙ ended) in
    c.is_all_acked-whole.ensures.0 (c.in-Some.ensures.done.0 (ap (λ (v : SendOutcome). Some v) done)).0

pub returns-in_err-fed-clause-steps : goal.returns-in_err-fed-clause-steps
returns-in_err-fed-clause-steps g c =
    let old = c.args.self.now in
    let seen = c.turn-turn.new.self.core in
    let look = c.look-state.new.self in
    let told = c.look-state.ensures in
    let looked : look.station.core ≡ seen = ap (λ s. s.core) told.station in
    let timed : around_of look.station ≡ around_of c.turn-turn.new.self = ap around_of told.station in
    let core : PacedHostCore = record look.station.core { endpoint = c.feed.new.endpoint } in
    let seeing = sees old.joined look.joined old.left look.left seen look.station.core old.id look.id old.input.closed look.input.closed c.is_all_acked-whole.result c.waits.result c.look-state.result None told.state looked told.id told.closed told.joined told.left c.is_all_acked-whole.ensures c.waits.ensures c.in_default.ensures.verdict in
    let is : c.look-state.result ≡ Some Live = first_of (search rules, grind (arith, common_steps)) in
    let p = err_from_is_err_and c.from_residual.result c.from_residual.ensures.1 in
    rw (p.1, p.2) (record {
      seen = seen;
      turn = c.turn-turn.result;
      turned = turned (around_of old.station) _ _ DrivesTurn _ _ _ _ timed c.turn-turn.ensures.core.0;
      verdict = None;
      sees = seeing;
      waited = tt;
      goes = ((sym told.state ∙ is, c.in_err-fed.ensures.fault), tt);
      core = went_on seen look.station.core core core looked refl refl;
    })
