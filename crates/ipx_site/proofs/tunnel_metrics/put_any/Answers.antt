use Rattle.std.proofs.Common.{◌∙◌, [], ◌∷◌, append-nil, refl, string_bytes, sym}
use Rattle.ipx_site.specs.TunnelFamilies.{tunnel_family}
use Rattle.ipx_site.proofs.MetricLines.{Grew, grew_unless}
use Rattle.ipx_site.proofs.tunnel_metrics.put_any.Goals as goal

pub returns : goal.returns
returns c =
    let start = string_bytes c.args.text.now in
    let none : Grew start [] start = record { is = sym (append-nil start) } in
    grew_unless c.put_ports.result start start _ _ [] _ (tunnel_family c.args.ports.now ∷ []) none c.put_ports.ensures (sym c.is_empty.ensures ∙ c.if-is_empty.false) refl
