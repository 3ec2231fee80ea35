use Rattle.std.proofs.Common.{◌<◌, length, arith, refl}
use Rattle.spx_link.proofs.Calls.{adds_made, sound_made}
use Rattle.spx_link.proofs.links.Links.dial.Goals as goal

pub invariant_of-self-2 : goal.invariant_of-self-2
invariant_of-self-2 c =
    let room : length c.self.inside.links.items < 16 = omega arith in
    sound_made c.self.inside.last c.next_free-id.result c.self.inside.links.items c.deref.result.now c.push.new.self.items c.in_ok-link.link _ c.deref.ensures.value c.self.invariant room c.next_free-id.ensures c.in_ok-link.ensures refl c.in_ok-push.ensures.items

pub returns-clause-adds : goal.returns-clause-adds
returns-clause-adds c =
    adds_made c.args.self.now c.self.inside.last c.next_free-id.result c.self.inside.links.items c.deref.result.now c.push.new.self.items c.in_ok-link.link _ c.self.view_is c.deref.ensures.value c.next_free-id.ensures c.in_ok-link.ensures refl c.in_ok-push.ensures.items
