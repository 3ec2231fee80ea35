use Rattle.std.proofs.Common.{inl, inr}
use Rattle.std.proofs.lemmas.Result.{err_from_is_err_and}
use Rattle.toml.specs.View.{table_view}
use Rattle.ipx_config.proofs.Tunnels.{tunnel_faults, tunnel_reads}
use Rattle.ipx_config.proofs.tunnel_fields.tunnel_in.Goals as goal

pub returns-in_err-refuse_other_tunnel-clause-fault : goal.returns-in_err-refuse_other_tunnel-clause-fault
returns-in_err-refuse_other_tunnel-clause-fault c =
    let p = err_from_is_err_and c.from_residual-in_err-refuse_other_tunnel.result c.from_residual-in_err-refuse_other_tunnel.ensures.1 in
    rw (p.1, p.2) (inr (inr (c.in_ok-kind.kind, c.in_ok-kind.ensures, inl c.in_err-refuse_other_tunnel.ensures.other)))

pub returns-clause-tunnel : goal.returns-clause-tunnel
returns-clause-tunnel c =
    tunnel_reads (table_view c.args.table.now) c.in_ok-kind.kind c.in_ok-kind.ensures c.in_ok-refuse_other_tunnel.ensures.alone
    c.tunnel_of_kind.result c.tunnel_of_kind.ensures.tunnel

pub returns-clause-fault : goal.returns-clause-fault
returns-clause-fault c =
    tunnel_faults (table_view c.args.table.now) c.in_ok-kind.kind c.in_ok-kind.ensures c.in_ok-refuse_other_tunnel.ensures.alone
    c.args.number c.tunnel_of_kind.result c.tunnel_of_kind.ensures.fault
