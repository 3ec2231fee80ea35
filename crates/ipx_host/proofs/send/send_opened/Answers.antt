use Rattle.std.proofs.Common.{refl}
use Rattle.ipx_host.specs.Midway.{sending_at}
use Rattle.ipx_host.proofs.Rounded.{on_ok}
use Rattle.ipx_host.proofs.send.send_opened.Goals as goal

pub returns-in-Ok-clause-sent : goal.returns-in-Ok-clause-sent
returns-in-Ok-clause-sent g c =
    let s = c.finish.new.self in
    on_ok _ c.args.opened _ c.in-Ok.is (λ zero. (sending_at s (g.I.Read.remaining c.finish.new.reader), c.finish.ensures.fed zero, refl))
