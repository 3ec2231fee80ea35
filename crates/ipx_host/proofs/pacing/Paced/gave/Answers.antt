use Rattle.std.proofs.Common.{◌≡◌, None, Some, refl}
use Rattle.spx_messages.specs.EndpointView.{held_at}
use Rattle.spx_messages.specs.declared.fault.EndFault.TheVariants as EndFaults
use Rattle.ipx_host.proofs.Told.{absent, given_gone, given_here, given_none, given_other}
use Rattle.ipx_host.proofs.pacing.Paced.gave.Goals as goal

-- the endpoint gave nothing
pub returns-in_default : goal.returns-in_default
returns-in_default c =
    let paced = c.args.self.now in
    let e = c.args.endpoint.now in
    let told = c.sent.ensures in
    let none = c.in_default.is in
    let nothing : e.said ≡ None = (cc) in
    (paced.pacer, refl, given_none paced.id e.said c.args.bytes.now (held_at e paced.id) c.args.now paced.pacer nothing)

-- the link is not there any more
pub returns-in_default-numbers : goal.returns-in_default-numbers
returns-in_default-numbers c =
    let paced = c.args.self.now in
    let e = c.args.endpoint.now in (
      paced.pacer,
      refl,
      given_gone paced.id e.said c.args.bytes.now (held_at e paced.id) c.args.now paced.pacer
          (absent (held_at e paced.id) c.numbers.result c.in_default-numbers.field-0 c.numbers.ensures.known c.in_default-numbers.is),
    )

-- another link gave the packet
pub returns-else-id-self : goal.returns-else-id-self
returns-else-id-self c =
    let paced = c.args.self.now in
    let e = c.args.endpoint.now in
    let told = c.sent.ensures in
    let some = c.in-Some.is in
    let given : e.said ≡ Some (c.in-Some.id, c.in-Some.what) = (cc) in (
      paced.pacer,
      refl,
      given_other paced.id c.in-Some.id c.in-Some.what e.said c.args.bytes.now (held_at e paced.id) c.args.now paced.pacer
          given c.if-id-self.false,
    )

-- its own link gave it
pub returns-then-id-self : goal.returns-then-id-self
returns-then-id-self c =
    let paced = c.args.self.now in
    let e = c.args.endpoint.now in
    let told = c.sent.ensures in
    let some = c.in-Some.is in
    let given : e.said ≡ Some (c.in-Some.id, c.in-Some.what) = (cc) in (
      c.gave.new.self,
      refl,
      given_here paced.id c.in-Some.id c.in-Some.what e.said c.args.bytes.now (held_at e paced.id) c.args.now paced.pacer c.gave.new.self c.numbers.result EndFaults.NoSuchEnd c.in-Ok.numbers c.stream_of.result c.unwrap_or.result c.of-gave.result given c.if-id-self.true c.numbers.ensures.unknown.1 c.numbers.ensures.known c.in-Ok.is c.stream_of.ensures c.unwrap_or.ensures c.of-gave.ensures c.gave.ensures.value c.gave.ensures.counts c.gave.ensures.credit,
    )
