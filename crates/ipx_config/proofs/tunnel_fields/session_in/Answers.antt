use Rattle.std.proofs.Common.{inl, inr}
use Rattle.std.proofs.lemmas.Result.{err_from_is_err_and}
use Rattle.toml.specs.View.{table_view}
use Rattle.ipx_config.specs.declared.key.Key.TheVariants as Key
use Rattle.ipx_config.specs.TunnelTable.{IsSessionFault}
use Rattle.ipx_config.specs.TunnelValues.{IsCookie, IsSession}
use Rattle.ipx_config.proofs.Faults.{or_memory, right_or}
use Rattle.ipx_config.proofs.tunnel_fields.session_in.Goals as goal

pub returns-in_err-cookie-clause-fault : goal.returns-in_err-cookie-clause-fault
returns-in_err-cookie-clause-fault c =
    let p = err_from_is_err_and c.from_residual-in_err-cookie.result c.from_residual-in_err-cookie.ensures.1 in
    rw (p.1, p.2)
    (or_memory {B = IsSessionFault (table_view c.args.table.now) c.args.number c.in_err-cookie.field-0.0} _ (λ fault. inr ((c.in_ok-id.id, c.in_ok-id.ensures), inr (right_or IsSession Key.PeerSession (table_view c.args.table.now) _ c.in_ok-peer_id.peer_id c.in_ok-peer_id.ensures, inl fault)))
    c.in_err-cookie.ensures)

pub returns-in_err-peer_cookie-clause-fault : goal.returns-in_err-peer_cookie-clause-fault
returns-in_err-peer_cookie-clause-fault c =
    let p = err_from_is_err_and c.from_residual-in_err-peer_cookie.result c.from_residual-in_err-peer_cookie.ensures.1 in
    rw (p.1, p.2)
    (or_memory {B = IsSessionFault (table_view c.args.table.now) c.args.number c.in_err-peer_cookie.field-0.0} _ (λ fault. inr ((c.in_ok-id.id, c.in_ok-id.ensures), inr (right_or IsSession Key.PeerSession (table_view c.args.table.now) _ c.in_ok-peer_id.peer_id c.in_ok-peer_id.ensures, inr (right_or IsCookie Key.Cookie (table_view c.args.table.now) _ c.in_ok-cookie.cookie c.in_ok-cookie.ensures, inl fault))))
    c.in_err-peer_cookie.ensures)

pub returns-in_err-sublayer-clause-fault : goal.returns-in_err-sublayer-clause-fault
returns-in_err-sublayer-clause-fault c =
    let p = err_from_is_err_and c.from_residual-in_err-sublayer.result c.from_residual-in_err-sublayer.ensures.1 in
    rw (p.1, p.2)
    (or_memory {B = IsSessionFault (table_view c.args.table.now) c.args.number c.in_err-sublayer.field-0.0} _ (λ fault. inr ((c.in_ok-id.id, c.in_ok-id.ensures), inr (right_or IsSession Key.PeerSession (table_view c.args.table.now) _ c.in_ok-peer_id.peer_id c.in_ok-peer_id.ensures, inr (right_or IsCookie Key.Cookie (table_view c.args.table.now) _ c.in_ok-cookie.cookie c.in_ok-cookie.ensures, inr (right_or IsCookie Key.PeerCookie (table_view c.args.table.now) _ c.in_ok-peer_cookie.peer_cookie c.in_ok-peer_cookie.ensures, fault)))))
    c.in_err-sublayer.ensures)
