use Rattle.std.proofs.Common.{◌∙◌, ◌++◌, ap, refl, string_bytes, sym}
use Rattle.ipx_site.specs.MetricsText.{family_lines}
use Rattle.ipx_site.specs.FrameFamilies.{ethernet_families, frames_family, passed_family, unfitting_family}
use Rattle.ipx_site.proofs.MetricLines.{grew, grew_more, grew_unless}
use Rattle.ipx_site.proofs.frame_metrics.put_frame_metrics.Goals as goal

pub returns : goal.returns
returns c =
    let frames = grew _ _ _ (c.in_ok-put_frames.ensures ∙ ap (λ l. string_bytes c.args.text.now ++ family_lines (frames_family l)) c.deref.ensures.value) in
    let passed = grew_more _ _ _ _ _ frames (c.in_ok-put_passed.ensures ∙ ap (λ l. string_bytes c.put_frames.new.text ++ family_lines (passed_family l)) c.deref-2.ensures.value) in
    let refused = grew_more _ _ _ _ _ passed (c.in_ok-put_refused.ensures ∙ ap (λ l. string_bytes c.put_passed.new.text ++ family_lines (unfitting_family l)) c.deref-3.ensures.value) in
    let unknown = grew_more _ _ _ _ _ refused c.in_ok-put_one.ensures in
    grew_unless c.put_one-2.result _ _ _ _ _ _ (ethernet_families c.args.metrics.now) unknown c.put_one-2.ensures (sym c.is_empty.ensures ∙ c.if-is_empty.false) refl
