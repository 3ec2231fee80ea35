use Rattle.std.proofs.Common.{◌≡◌, ◌+◌, ap, arith}
use Rattle.spx_link.specs.Units.{unit_in}
use Rattle.spx_link.proofs.Laying.{put_becomes}
use Rattle.spx_link.proofs.buffers.Buffers.put.Goals as goal

pub invariant_of-self : goal.invariant_of-self
invariant_of-self c =
    let f = c.self.inside in
    let place = c.from.result + c.from-2.result in
    let at : place ≡ f.count + c.args.place = omega (arith, c.from.ensures, c.from-2.ensures) in
    (put_becomes f.ring.items c.put_packet.new.ring.items f.ring.capacity c.put_packet.new.ring.capacity f.count f.size place c.args.place (unit_in c.args.header.now c.args.body.now) c.args.self.now c.self.invariant c.self.view_is (ap (λ b. b.items) c.put_packet.ensures) (ap (λ b. b.capacity) c.put_packet.ensures) at c.requires.room).laid

pub returns : goal.returns
returns c =
    let f = c.self.inside in
    let place = c.from.result + c.from-2.result in
    let at : place ≡ f.count + c.args.place = omega (arith, c.from.ensures, c.from-2.ensures) in
    (put_becomes f.ring.items c.put_packet.new.ring.items f.ring.capacity c.put_packet.new.ring.capacity f.count f.size place c.args.place (unit_in c.args.header.now c.args.body.now) c.args.self.now c.self.invariant c.self.view_is (ap (λ b. b.items) c.put_packet.ensures) (ap (λ b. b.capacity) c.put_packet.ensures) at c.requires.room).is
