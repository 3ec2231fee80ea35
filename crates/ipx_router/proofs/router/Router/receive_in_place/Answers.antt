use Rattle.std.proofs.Common.{refl}
use Rattle.ipx_router.specs.Ports.{IsPort}
use Rattle.ipx_router.specs.RouterView.{RouterView}
use Rattle.ipx_router.specs.InPlaceView.{outcome_in}
use Rattle.ipx_router.proofs.Fits.{receives_own}
use Rattle.ipx_router.proofs.Receiving.{forwards_on, receives_on, needs_in_place}
use Rattle.ipx_router.proofs.router.Router.receive_in_place.Goals as goal

pub invariant_of-self : goal.invariant_of-self
invariant_of-self c = rw c.deref.ensures.value at c.receive_in_place_at.ensures.sound

pub returns-clause-answer : goal.returns-clause-answer
returns-clause-answer c =
    let kept : RouterView = record { ports = c.self.inside.ports.items; routes = c.self.inside.routes; services = c.self.inside.services; advertised_at = c.self.inside.advertised_at } in
    let new : RouterView = record { ports = c.self.inside.ports.items; routes = c.receive_in_place_at.new.routes; services = c.receive_in_place_at.new.services; advertised_at = c.self.inside.advertised_at } in
    let is : IsPort c.self.inside.ports.items c.args.port c.port_of.result = rw (← c.self.view_is) at c.port_of.ensures in
    rw (← c.self.view_is) (receives_on kept c.args.port c.args.now c.args.bytes.now c.port_of.result is (outcome_in c.receive_in_place_at.new.bytes) new
    (record { ports = refl; most_routes = c.receive_in_place_at.ensures.capacity.0; most_services = c.receive_in_place_at.ensures.capacity.1 }) refl (rw c.deref.ensures.value at c.receive_in_place_at.ensures.sound).tables c.receive_in_place_at.result (rw (← c.deref.ensures.value) c.receive_in_place_at.ensures.answer))

pub returns-clause-own : goal.returns-clause-own
returns-clause-own c = receives_own (outcome_in c.receive_in_place_at.new.bytes) _ _ _ _ _ c.receive_in_place_at.result (returns-clause-answer c)

pub returns-clause-refused : goal.returns-clause-refused
returns-clause-refused c =
    let kept : RouterView = record { ports = c.self.inside.ports.items; routes = c.self.inside.routes; services = c.self.inside.services; advertised_at = c.self.inside.advertised_at } in
    let new : RouterView = record { ports = c.self.inside.ports.items; routes = c.receive_in_place_at.new.routes; services = c.receive_in_place_at.new.services; advertised_at = c.self.inside.advertised_at } in
    let is : IsPort c.self.inside.ports.items c.args.port c.port_of.result = rw (← c.self.view_is) at c.port_of.ensures in
    rw (← c.self.view_is) (needs_in_place kept c.args.port c.args.now c.args.bytes.now c.port_of.result is new c.receive_in_place_at.result (rw (← c.deref.ensures.value) c.receive_in_place_at.ensures.refused))

pub returns-clause-one_hop_on : goal.returns-clause-one_hop_on
returns-clause-one_hop_on c =
    let kept : RouterView = record { ports = c.self.inside.ports.items; routes = c.self.inside.routes; services = c.self.inside.services; advertised_at = c.self.inside.advertised_at } in
    let is : IsPort c.self.inside.ports.items c.args.port c.port_of.result = rw (← c.self.view_is) at c.port_of.ensures in
    rw (← c.self.view_is) (forwards_on kept c.args.port c.args.now c.args.bytes.now c.port_of.result is (outcome_in c.receive_in_place_at.new.bytes) c.receive_in_place_at.result c.receive_in_place_at.ensures.packet c.receive_in_place_at.ensures.one_hop_on)
