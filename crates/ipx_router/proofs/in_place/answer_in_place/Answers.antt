use Rattle.std.proofs.Common.{arith}
use Rattle.ipx_router.specs.InPlaceView.{outcome_in}
use Rattle.ipx_router.specs.Onward.{IsOnward}
use Rattle.ipx_router.proofs.GoingOn.{on_answers, on_one_hop, on_packet}
use Rattle.ipx_router.proofs.in_place.answer_in_place.Goals as goal

pub forward_front-requires-clause-ports : goal.forward_front-requires-clause-ports
forward_front-requires-clause-ports c = c.requires.sound.count

pub forward_front-requires-clause-sources : goal.forward_front-requires-clause-sources
forward_front-requires-clause-sources c = c.requires.sound.routes_from

pub forward_front-requires-clause-room : goal.forward_front-requires-clause-room
forward_front-requires-clause-room c =
    let on : IsOnward c.args.at.port c.args.bytes.now c.in-Some.header c.in-Some.count = c.in-Some.ensures.some in
    (omega (arith, on.size), omega (arith, on.size, on.packet.size))

pub returns-in-Some-clause-answer : goal.returns-in-Some-clause-answer
returns-in-Some-clause-answer c =
    on_answers c.args.ports.now c.args.routes.now c.args.services.now c.args.at c.args.bytes.now c.in-Some.header c.in-Some.count c.in-Some.ensures.some (outcome_in c.forward_front.new.bytes c.forward_front.result) c.forward_front.ensures.forwards

pub returns-in-Some-clause-packet : goal.returns-in-Some-clause-packet
returns-in-Some-clause-packet c =
    on_packet c.args.ports.now c.args.routes.now c.args.services.now c.args.at c.args.bytes.now c.in-Some.header c.in-Some.count c.in-Some.ensures.some (outcome_in c.forward_front.new.bytes c.forward_front.result)

pub returns-in-Some-clause-one_hop_on : goal.returns-in-Some-clause-one_hop_on
returns-in-Some-clause-one_hop_on c =
    on_one_hop c.args.ports.now c.args.routes.now c.args.services.now c.args.at c.args.bytes.now c.in-Some.header c.in-Some.count c.in-Some.ensures.some (outcome_in c.forward_front.new.bytes c.forward_front.result) c.forward_front.ensures.one_hop_on
