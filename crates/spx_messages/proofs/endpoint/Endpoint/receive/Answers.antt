use Rattle.std.proofs.Common.{refl}
use Rattle.spx_messages.specs.WrittenPackets.{IsRequestFor}
use Rattle.spx_messages.proofs.Arriving.{acceptable_if, asked_arrives, heard_arrives, strange_arrives}
use Rattle.spx_messages.proofs.endpoint.Endpoint.receive.Goals as goal

pub returns-then-is_request-clause-arrives : goal.returns-then-is_request-clause-arrives
returns-then-is_request-clause-arrives c =
    asked_arrives c.args.self.now _ c.self.view_is c.args.bytes.now c.in-Ok.reading c.args.now c.deref.result.now c.ask.new.links c.ask.new.parts.items c.ask.result c.deref.ensures.value c.in-Ok.ensures.read (c.if-is_request.ensures.0 refl) c.ask.ensures.asked

pub returns-then-is_request-clause-memory : goal.returns-then-is_request-clause-memory
returns-then-is_request-clause-memory c =
    acceptable_if c.args.self.now _ c.self.view_is c.args.bytes.now c.in-Ok.reading c.deref.result.now c.ask.result c.deref.ensures.value c.in-Ok.ensures.read (c.if-is_request.ensures.0 refl) c.ask.ensures.memory

pub returns-in_default-clause-arrives : goal.returns-in_default-clause-arrives
returns-in_default-clause-arrives c =
    let other : ¬ IsRequestFor c.in-Ok.reading.header = λ request. absurd (cc (c.if-is_request.ensures.1 request)) in
    strange_arrives c.args.self.now _ c.self.view_is c.args.bytes.now c.in-Ok.reading c.args.now c.hear.new.links c.in-Ok.ensures.read other c.in_default.ensures.nobody c.in_default.ensures.unchanged

pub returns-clause-arrives : goal.returns-clause-arrives
returns-clause-arrives c =
    let other : ¬ IsRequestFor c.in-Ok.reading.header = λ request. absurd (cc (c.if-is_request.ensures.1 request)) in
    heard_arrives c.args.self.now _ c.self.view_is c.args.bytes.now c.in-Ok.reading c.args.now c.hear.new.links c.in-Some.id c.in-Some.received c.in-Ok.ensures.read other c.in-Some.ensures.heard
