use Rattle.std.proofs.Common.{string_bytes}
use Rattle.ipx_site.proofs.MetricLines.{after_head_ok}
use Rattle.ipx_site.proofs.access_list_metrics.put_unknown_senders.Goals as goal

pub returns : goal.returns
returns c =
    after_head_ok c.put_counts.result (string_bytes c.args.text.now) (string_bytes c.put_family.new.text) (string_bytes c.put_counts.new.text) _ _ c.in_ok-put_family.ensures c.put_counts.ensures
