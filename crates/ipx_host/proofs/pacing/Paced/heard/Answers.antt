use Rattle.std.proofs.Common.{refl}
use Rattle.spx_messages.specs.EndpointView.{held_at}
use Rattle.ipx_host.proofs.Told.{absent, heard_gone, read_none, read_other, read_unknown_sender, unread}
use Rattle.ipx_host.proofs.pacing.Paced.heard.Goals as goal

pub returns-in_default : goal.returns-in_default
returns-in_default c =
    let paced = c.args.self.now in
    let there = held_at c.args.endpoint.now paced.id in
    (paced.pacer, refl, unread paced.id c.args.arrived c.args.before c.args.now paced.pacer there (read_none paced.id c.args.arrived c.in_default.not-Link))

pub returns-then-id-self : goal.returns-then-id-self
returns-then-id-self c =
    let paced = c.args.self.now in
    let there = held_at c.args.endpoint.now paced.id in (
      paced.pacer,
      refl,
      unread paced.id c.args.arrived c.args.before c.args.now paced.pacer there
          (read_other paced.id c.in-Link.id c.in-Link.received c.args.arrived c.in-Link.is c.if-id-self.true),
    )

pub returns-in-Stranger : goal.returns-in-Stranger
returns-in-Stranger c =
    let paced = c.args.self.now in
    let there = held_at c.args.endpoint.now paced.id in (
      paced.pacer,
      refl,
      unread paced.id c.args.arrived c.args.before c.args.now paced.pacer there
          (read_unknown_sender paced.id c.in-Link.id c.in-Link.received c.args.arrived c.in-Link.is c.in-Stranger.is),
    )

pub returns-in_default-numbers : goal.returns-in_default-numbers
returns-in_default-numbers c =
    let paced = c.args.self.now in
    let there = held_at c.args.endpoint.now paced.id in (
      paced.pacer,
      refl,
      heard_gone paced.id c.args.arrived c.args.before c.args.now paced.pacer there
          (absent there c.numbers.result c.in_default-numbers.field-0 c.numbers.ensures.known c.in_default-numbers.is),
    )
