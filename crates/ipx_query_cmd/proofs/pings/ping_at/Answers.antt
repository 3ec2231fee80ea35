use Rattle.std.proofs.Common.{◌≡◌, ◌∙◌, false, subst, sym}
use Rattle.std.specs.Io.KnownBytes.{Appends}
use Rattle.ipx_wire.specs.declared.address.Address.{Address}
use Rattle.ipx_config.specs.Destinations.{is_nowhere}
use Rattle.ipx_query_cmd.specs.PingRuns.{HasPinged, pinged_lines}
use Rattle.ipx_query_cmd.proofs.pings.ping_at.Goals as goal

pub returns-in-Ok-ping_by-clause-pinged : goal.returns-in-Ok-ping_by-clause-pinged
returns-in-Ok-ping_by-clause-pinged g c = λ zero.
    let file = c.in-Ok.file in
    let text = c.in-Ok.ensures.host in
    let p = c.in-Ok-ping_by.ensures.pinged in
    let same = c.peer_address_of-to.ensures in
    let has = subst (λ (to : Address). HasPinged file to c.args.count p.0 p.1 p.2) same p.3 in
    let lines = subst (λ (to : Address). Appends (g.W.Write.contents c.args.writer.now) (g.W.Write.contents c.ping_by.new.writer) (pinged_lines to p.0 p.1)) same p.5 in
    let goes = subst (λ (to : Address). is_nowhere file to ≡ false) same (sym c.is_nowhere.ensures ∙ c.if-is_nowhere.false) in
    (text.0, file, p.0, p.1, p.2, text.1, text.2, goes, has, sym p.4 ∙ zero, lines)
