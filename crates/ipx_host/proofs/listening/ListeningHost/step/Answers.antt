use Rattle.std.proofs.Common.{◌∙◌, Err, None, Some, ap, refl, sym}
use Rattle.std.proofs.lemmas.Bool.{or_left}
use Rattle.std.proofs.lemmas.Result.{err_from_is_err_and}
use Rattle.ipx_host.specs.Midway.{around_of, counts_at, listening_at}
use Rattle.ipx_host.proofs.Hosted.{broken_off, same_counts, stepped, tidied_to}
use Rattle.ipx_host.proofs.Surrounding.{same_around}
use Rattle.ipx_host.proofs.Polled.{stopped}
use Rattle.ipx_host.proofs.listening.ListeningHost.step.Goals as goal

pub returns-in_err-reap-clause-steps : goal.returns-in_err-reap-clause-steps
returns-in_err-reap-clause-steps g c =
    let held = g.W.Write.contents in
    let old = c.args.self.now in
    let heard = c.hear-turn.new.self in
    let passed = c.pass.new.self in
    let core = c.pass.new.core in
    let new = c.reap.new.self in
    let station = c.reap.new.station in
    let moves = c.in_ok-moved.ensures.all in
    let stop = c.in_err-reap.field-0.0 in
    let p = err_from_is_err_and c.from_residual-in_err-reap.result c.from_residual-in_err-reap.ensures.1 in
    rw (p.1, p.2) (
      record { active = c.hear-turn.ensures.hears.0.turn.active; there = heard.sessions.held.items; takes = moves.0 },
      tidied_to (listening_at old (held c.args.writer.now))
          (listening_at (record heard { station = station; sessions = new }) (held c.pass.new.writer)) old.sessions.once stop _ _ _
          (stepped (around_of old.station) (around_of heard.station) (around_of heard.station) (around_of station) old.station.core heard.station.core core station.core old.sessions.held.items heard.sessions.held.items passed.held.items new.held.items old.sessions.output heard.sessions.output passed.output new.output (counts_at old.station.refused old.sessions) (counts_at heard.station.refused heard.sessions) (counts_at heard.station.refused passed) (counts_at station.refused new) old.sessions.once passed.once (held c.args.writer.now) (held c.pass.new.writer) (Some stop) _ _ moves.0 _ c.hear-turn.ensures.hears.0 refl c.hear-turn.ensures.output refl (c.pass.ensures.once ∙ c.hear-turn.ensures.once) moves.1 (same_counts heard.station.refused heard.station.refused heard.sessions passed refl c.pass.ensures.never_heard c.pass.ensures.evicted c.pass.ensures.turned_away c.pass.ensures.logs) (same_around heard.station station c.reap.ensures.clock c.reap.ensures.host_socket) c.reap.ensures.output c.in_err-reap.ensures.tidies),
      tt,
    )

pub returns-in_err-moved-clause-steps : goal.returns-in_err-moved-clause-steps
returns-in_err-moved-clause-steps g c =
    let held = g.W.Write.contents in
    let old = c.args.self.now in
    let heard = c.hear-turn.new.self in
    let passed = c.pass.new.self in
    let moves = c.in_err-moved.ensures.some in
    let p = err_from_is_err_and c.from_residual.result c.from_residual.ensures.1 in
    rw (p.1, p.2) (
      record { active = c.hear-turn.ensures.hears.0.turn.active; there = heard.sessions.held.items; takes = moves.0 },
      broken_off (around_of old.station) (around_of heard.station) old.station.core heard.station.core c.pass.new.core old.sessions.held.items heard.sessions.held.items passed.held.items old.sessions.output heard.sessions.output passed.output (counts_at old.station.refused old.sessions) (counts_at heard.station.refused heard.sessions) (counts_at heard.station.refused passed) old.sessions.once (held c.args.writer.now) (held c.pass.new.writer) _ _ moves.0 _ c.hear-turn.ensures.hears.0 refl c.hear-turn.ensures.output moves.1 (same_counts heard.station.refused heard.station.refused heard.sessions passed refl c.pass.ensures.never_heard c.pass.ensures.evicted c.pass.ensures.turned_away c.pass.ensures.logs),
      tt,
    )

pub returns-clause-steps : goal.returns-clause-steps
returns-clause-steps g c =
    let held = g.W.Write.contents in
    let old = c.args.self.now in
    let heard = c.hear-turn.new.self in
    let passed = c.pass.new.self in
    let core = c.pass.new.core in
    let new = c.reap.new.self in
    let station = c.reap.new.station in
    let moves = c.in_ok-moved.ensures.all in (
      record { active = c.hear-turn.ensures.hears.0.turn.active; there = heard.sessions.held.items; takes = moves.0 },
      stepped (around_of old.station) (around_of heard.station) (around_of heard.station) (around_of station) old.station.core heard.station.core core station.core old.sessions.held.items heard.sessions.held.items passed.held.items new.held.items old.sessions.output heard.sessions.output passed.output new.output (counts_at old.station.refused old.sessions) (counts_at heard.station.refused heard.sessions) (counts_at heard.station.refused passed) (counts_at station.refused new) old.sessions.once passed.once (held c.args.writer.now) (held c.pass.new.writer) None _ _ moves.0 _ c.hear-turn.ensures.hears.0 refl c.hear-turn.ensures.output refl (c.pass.ensures.once ∙ c.hear-turn.ensures.once) moves.1 (same_counts heard.station.refused heard.station.refused heard.sessions passed refl c.pass.ensures.never_heard c.pass.ensures.evicted c.pass.ensures.turned_away c.pass.ensures.logs) (same_around heard.station station c.reap.ensures.clock c.reap.ensures.host_socket) c.reap.ensures.output c.in_ok-reap.ensures.tidies,
      λ active. or_left c.hear-turn.result.active c.in_ok-moved.moved (sym (ap (λ t. t.active) c.hear-turn.ensures.hears.1) ∙ active),
    )

pub returns-in_err-reap-clause-unwaited : goal.returns-in_err-reap-clause-unwaited
returns-in_err-reap-clause-unwaited g c =
    let p = err_from_is_err_and c.from_residual-in_err-reap.result c.from_residual-in_err-reap.ensures.1 in
    λ is. stopped _ _ _ _ _ _ _ _ c.from_residual-in_err-reap.result c.in_err-reap.ensures.tidies (p.1 ∙ ap Err p.2) is
