use Rattle.std.proofs.Common.{sym, ◌∙◌}
use Rattle.ipx_tunnels.proofs.Headers.{read_session}
use Rattle.ipx_tunnels.proofs.tunnel.Session.strip.Goals as goal

pub returns-clause-found : goal.returns-clause-found
returns-clause-found c =
    read_session c.args.self.now c.args.bytes.now c.stripped_size-size.result c.read_u32-id.result c.stripped_size-size.ensures c.if-bytes-size.false
    c.if-bytes-ge-CONTROL.false c.if-bytes-ne-VERSION.false c.read_u32-id.ensures c.if-id-self.false (sym c.has_cookie.ensures ∙ c.if-not-has_cookie.false)
