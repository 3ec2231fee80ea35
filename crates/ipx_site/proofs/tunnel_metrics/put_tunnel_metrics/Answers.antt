use Rattle.std.proofs.Common.{◌≡◌, ◌++◌, OnOk, string_bytes, subst}
use Rattle.ipx_site.specs.MetricsText.{families_text}
use Rattle.ipx_site.specs.TunnelFamilies.{tunnel_families}
use Rattle.ipx_site.proofs.tunnel_metrics.put_tunnel_metrics.Goals as goal

pub returns : goal.returns
returns c =
    subst (λ l. OnOk c.put_any.result (string_bytes c.put_any.new.text ≡ string_bytes c.args.text.now ++ families_text (tunnel_families l))) c.deref.ensures.value c.put_any.ensures
