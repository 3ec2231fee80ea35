use Rattle.std.proofs.Common.{not, rules}
use Rattle.std.proofs.lemmas.Fn.{filter_same}
use Rattle.ipxnet_server.specs.declared.attempts.Attempt.{Attempt}
use Rattle.ipxnet_server.specs.Attempts.{is_attempt_of_ip}
use Rattle.ipxnet_server.proofs.attempts.leave_out_ip.Goals as goal

pub returns-clause-items : goal.returns-clause-items
returns-clause-items c =
    let stays = λ (a : Attempt). not (is_attempt_of_ip c.args.place a) in
    filter_same _ stays _ (λ x b f' k. search rules) _ _ c.retain.ensures.filtered
