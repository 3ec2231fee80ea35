use Rattle.std.proofs.Common.{rules}
use Rattle.std.proofs.lemmas.Fn.{filter_same}
use Rattle.ipxnet_server.specs.Attempts.{is_recent_attempt}
use Rattle.ipxnet_server.proofs.attempts.leave_out_old.Goals as goal

pub returns-clause-items : goal.returns-clause-items
returns-clause-items c =
    filter_same _ (is_recent_attempt c.args.now) _ (λ x b f' k. search rules) _ _ c.retain.ensures.filtered
