use Rattle.std.proofs.Common.{refl}
use Rattle.spx_messages.specs.EndpointView.{held_at}
use Rattle.ipx_host.proofs.Told.{absent, plans_none}
use Rattle.ipx_host.proofs.pacing.Paced.plan.Goals as goal

pub returns-in_default : goal.returns-in_default
returns-in_default c =
    let paced = c.args.self.now in
    let e = c.args.endpoint.now in (
      paced.pacer,
      refl,
      plans_none paced.id c.args.now paced.pacer (held_at e paced.id) e
          (absent (held_at e paced.id) c.numbers.result c.in_default.field-0 c.numbers.ensures.known c.in_default.is),
    )
