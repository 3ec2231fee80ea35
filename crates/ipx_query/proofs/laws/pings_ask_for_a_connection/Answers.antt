use Rattle.std.proofs.Common.{◌≡◌, [], arith, refl, subst, true}
use Rattle.ipx_wire.specs.Spx.{IsSpx}
use Rattle.spx_link.specs.Limits.{no_id}
use Rattle.spx_link.specs.Poll.{OutgoingView, plain}
use Rattle.spx_link.specs.declared.outgoing.Sent.TheVariants.{Request}
use Rattle.ipx_query.specs.PingRequests.{ping_link}
use Rattle.ipx_query.proofs.laws.pings_ask_for_a_connection.Goals as goal

pub returns : goal.returns
returns c = λ own to id bytes above below ping.
    let first : OutgoingView = plain (ping_link own to id) Request true 0 no_id in
    let same : ping.request ≡ first = cc in (
      ping.is.packet,
      first.header,
      record { tail = []; packet = ping.is.is; kind = ping.is.kind; spx = subst (λ (o : OutgoingView). IsSpx o.header o.body ping.is.packet.body) same ping.is.spx },
      record { system = refl; to = refl; stream = omega arith; above = above; below = below },
      ping.is.from,
      ping.is.to,
    )
