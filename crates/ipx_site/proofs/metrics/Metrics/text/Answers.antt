use Rattle.std.proofs.Common.{◌∙◌, ◌++◌, ap, drop, take}
use Rattle.ipx_site.specs.MetricsText.{families_text}
use Rattle.ipx_site.specs.TotalFamilies.{total_families}
use Rattle.ipx_site.proofs.MetricLines.{families_more}
use Rattle.ipx_site.proofs.metrics.Metrics.text.Goals as goal

pub returns : goal.returns
returns c =
    let families = total_families c.args.self.now in
    let first = families_more _ _ _ (take 3 families) (take 4 (drop 3 families)) c.in_ok-put_packets.ensures c.in_ok-put_drops.ensures in
    families_more _ _ _ (take 3 families ++ take 4 (drop 3 families)) (drop 7 families) first c.in_ok-put_state.ensures
    ∙ ap (λ t. t ++ families_text families) c.new-text.ensures.bytes
