use Rattle.std.proofs.Common.{◌∙◌, inr, refl, sym}
use Rattle.ipx_host.specs.Midway.{listening_at}
use Rattle.ipx_host.proofs.Hosted.{ended_well}
use Rattle.ipx_host.proofs.listen.run_listening.Goals as goal

pub returns-in-Ok-tell_place-clause-well : goal.returns-in-Ok-tell_place-clause-well
returns-in-Ok-tell_place-clause-well g c = λ zero.
    let held = g.W.Write.contents in
    let old = c.in-Ok.listening in
    let new = c.finish.new.self in
    let run = c.finish.ensures.serves in
    rw (c.in-Ok.is) (
      run.2,
      ended_well (listening_at old (held c.args.writer.now))
          (listening_at new (held c.finish.new.writer)) old.sessions.once run.0 _ _ run.2 run.3 run.4 (sym run.1 ∙ zero) (c.finish.ensures.written zero).1,
    )

pub returns-in-Ok-tell_place-clause-runs : goal.returns-in-Ok-tell_place-clause-runs
returns-in-Ok-tell_place-clause-runs g c =
    let held = g.W.Write.contents in
    let new = c.finish.new.self in
    let run = c.finish.ensures.serves in
    rw (c.in-Ok.is) (inr (run.0, run.2, run.1, (listening_at new (held c.finish.new.writer), run.3, refl, run.4)))
