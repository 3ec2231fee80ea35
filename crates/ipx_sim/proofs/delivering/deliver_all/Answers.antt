use Rattle.std.proofs.Common.{◌≡◌, ℕ, ◌+◌, Bool, List, Result, Ok, Err, subst, sym, arith}
use Rattle.std.specs.Prelude.{MatchBool, false, slice_index_or}
use Rattle.std.proofs.lemmas.Result.{err_from_is_err_and}
use Rattle.ipx_net.specs.NetView.{NetView}
use Rattle.ipx_sim.specs.Delivering.{DeliveredView, DeliversNew, DeliversParcelTo, delivered_view}
use Rattle.ipx_sim.specs.ScriptDoing.{DoesEach, DoesNothing}
use Rattle.ipx_sim.specs.declared.names.ScriptTarget.{ScriptTarget}
use Rattle.ipx_sim.specs.declared.stop.LineFault.{LineFault}
use Rattle.ipx_sim.proofs.Deeds.{each_number, each_stop_number}
use Rattle.ipx_sim.proofs.delivering.deliver_all.Goals as goal

-- a delivery depends only on the marks
by_marks : (d e : DeliveredView) (spots : List ScriptTarget) (parcel : ℕ) (a : NetView) (r : Result Bool LineFault) (b : NetView) → d.marks ≡ e.marks → DeliversNew d spots parcel a r b → DeliversNew e spots parcel a r b
by_marks d e spots parcel a r b same did =
    subst (λ (m : List Bool). MatchBool (slice_index_or m parcel false) (DoesNothing a r b) (DoesEach (DeliversParcelTo parcel) spots a r b)) same did

pub returns-in_err-any : goal.returns-in_err-any
returns-in_err-any c =
    let inv = c.loop-delivered.invariant in
    let did = by_marks (delivered_view c.loop-delivered.delivered) (delivered_view c.args.delivered.now) c.args.spots.now c.loop-delivered.delivered.below c.loop-delivered.net (Err c.in_err-any.field-0.0) c.deliver_unless.new.net inv.3 c.in_err-any.ensures in
    let p = err_from_is_err_and c.from_residual.result c.from_residual.ensures.1 in
    rw (p.1, p.2)
    (inv.0 + 1, each_stop_number (DeliversNew (delivered_view c.args.delivered.now) c.args.spots.now) c.args.delivered.now.below inv.0 (inv.0 + 1) c.loop-delivered.delivered.below c.loop-delivered.any c.in_err-any.field-0.0 c.args.net.now c.loop-delivered.net c.deliver_unless.new.net inv.1 (omega arith) inv.2 did, inv.3, tt)

pub loop-delivered-preserved : goal.loop-delivered-preserved
loop-delivered-preserved c =
    let inv = c.loop-delivered.invariant in
    let did = by_marks (delivered_view c.loop-delivered.delivered) (delivered_view c.args.delivered.now) c.args.spots.now c.loop-delivered.delivered.below c.loop-delivered.net (Ok c.in_ok-any.field-0) c.deliver_unless.new.net inv.3 c.in_ok-any.ensures in (
      inv.0 + 1,
      omega (arith, inv.1),
      each_number (DeliversNew (delivered_view c.args.delivered.now) c.args.spots.now) c.args.delivered.now.below inv.0 c.loop-delivered.delivered.below c.loop-delivered.any c.in_ok-any.field-0 c.args.net.now c.loop-delivered.net c.deliver_unless.new.net inv.1 inv.2 did,
      inv.3,
    )
