use Rattle.std.proofs.Common.{ap, ◌∙◌}
use Rattle.ipx_ethernet.specs.SwitchEnds.{is_way_to}
use Rattle.ipx_ethernet.specs.declared.egress.Egress.{Egress}
use Rattle.ipx_ethernet.proofs.Back.{never_back}
use Rattle.ipx_ethernet.proofs.switch.Switch.hear.Goals as goal

pub returns-clause-back : goal.returns-clause-back
returns-clause-back c =
    ap (λ (o : Egress). is_way_to o c.args.end) c.pass-onward.ensures.onward ∙ never_back c.pass-onward.new.self c.args.bytes.now c.args.end c.args.now
