use Rattle.std.proofs.Common.{List, Ok, Err, inl, inr, refl, subst}
use Rattle.std.specs.Prelude.{◌||◌}
use Rattle.std.proofs.lemmas.Result.{err_from_is_err_and}
use Rattle.ipx_net.specs.declared.event.Member.{Member}
use Rattle.ipx_sim.specs.Delivering.{DeliversAll, Stage, delivered_view}
use Rattle.ipx_sim.specs.ScriptDoing.{DoesEach}
use Rattle.ipx_sim.specs.Going.{PollsOut}
use Rattle.ipx_sim.specs.declared.names.ScriptTarget.{ScriptTarget}
use Rattle.ipx_sim.proofs.rounds.run_round.Goals as goal

pub returns-in_err-polled : goal.returns-in_err-polled
returns-in_err-polled c =
    let p = err_from_is_err_and c.from_residual.result c.from_residual.ensures.1 in
    rw (p.1, p.2)
    (inl (inl ((subst (λ (l : List Member). DoesEach PollsOut l c.args.net.now (Err c.in_err-polled.field-0.0) c.poll_all.new.net) c.deref.ensures.value c.in_err-polled.ensures), refl)))

pub returns-in_err-reached : goal.returns-in_err-reached
returns-in_err-reached c =
    let polled : Stage = record { net = c.poll_all.new.net; delivered = delivered_view c.args.delivered.now } in
    let reached : Stage = record { net = c.deliver_all.new.net; delivered = delivered_view c.deliver_all.new.delivered } in
    let p = err_from_is_err_and c.from_residual-in_err-reached.result c.from_residual-in_err-reached.ensures.1 in
    rw (p.1, p.2)
    (inl (inr (polled, c.in_ok-polled.polled, ((subst (λ (l : List Member). DoesEach PollsOut l c.args.net.now (Ok c.in_ok-polled.polled) c.poll_all.new.net) c.deref.ensures.value c.in_ok-polled.ensures), refl), (subst (λ (l : List ScriptTarget). DeliversAll l polled (Err c.in_err-reached.field-0.0) reached) c.deref-2.ensures.value c.in_err-reached.ensures))))

pub returns-in_err-taken : goal.returns-in_err-taken
returns-in_err-taken c =
    let polled : Stage = record { net = c.poll_all.new.net; delivered = delivered_view c.args.delivered.now } in
    let reached : Stage = record { net = c.deliver_all.new.net; delivered = delivered_view c.deliver_all.new.delivered } in
    let p = err_from_is_err_and c.from_residual-in_err-taken.result c.from_residual-in_err-taken.ensures.1 in
    rw (p.1, p.2)
    (inr (reached, (c.in_ok-polled.polled || c.in_ok-reached.reached), (polled, c.in_ok-polled.polled, c.in_ok-reached.reached, ((subst (λ (l : List Member). DoesEach PollsOut l c.args.net.now (Ok c.in_ok-polled.polled) c.poll_all.new.net) c.deref.ensures.value c.in_ok-polled.ensures), refl), (subst (λ (l : List ScriptTarget). DeliversAll l polled (Ok c.in_ok-reached.reached) reached) c.deref-2.ensures.value c.in_ok-reached.ensures), refl), (c.in_err-taken.ensures, refl)))

pub returns : goal.returns
returns c =
    let polled : Stage = record { net = c.poll_all.new.net; delivered = delivered_view c.args.delivered.now } in
    let reached : Stage = record { net = c.deliver_all.new.net; delivered = delivered_view c.deliver_all.new.delivered } in (
      reached,
      c.in_ok-polled.polled || c.in_ok-reached.reached,
      c.in_ok-taken.taken,
      (polled, c.in_ok-polled.polled, c.in_ok-reached.reached, ((subst (λ (l : List Member). DoesEach PollsOut l c.args.net.now (Ok c.in_ok-polled.polled) c.poll_all.new.net) c.deref.ensures.value c.in_ok-polled.ensures), refl), (subst (λ (l : List ScriptTarget). DeliversAll l polled (Ok c.in_ok-reached.reached) reached) c.deref-2.ensures.value c.in_ok-reached.ensures), refl),
      (c.in_ok-taken.ensures, refl),
      refl,
    )
