use Rattle.std.proofs.Common.{refl, sym, ap, subst, ◌∙◌, slice_set, ◌-◌, ◌≤◌, length}
use Rattle.std.specs.Option.{option_copied_mut}
use Rattle.spx_link.specs.Units.{unit_in}
use Rattle.circular_buffer.specs.Buffer.{buffer}
use Rattle.spx_link.proofs.Gaps.{put_there, place_is}
use Rattle.spx_link.proofs.buffers.put_elsewhere.Goals as goal

pub returns-in-Some : goal.returns-in-Some
returns-in-Some c =
    ap (λ s. buffer (slice_set c.loop-count.ring.items c.args.place s) c.loop-count.ring.capacity) c.fill.ensures ∙ put_there c.args.ring.now.items c.loop-count.ring.items c.loop-count.ring.capacity c.args.ring.now.capacity c.args.place c.loop-count.count (c.loop-count.count - length c.args.ring.now.items) (unit_in c.args.header.now c.args.body.now) c.loop-count.invariant.0 c.loop-count.invariant.2 c.loop-count-test.false refl c.loop-count.invariant.1

pub returns-in_default : goal.returns-in_default
returns-in_default c =
    let long : length c.args.ring.now.items ≤ c.loop-count.count = subst (λ n. n ≤ c.loop-count.count) c.len-count.ensures.len c.loop-count.auto.count in
    place_is c.args.ring.now.items c.loop-count.ring.items c.args.place c.loop-count.count c.loop-count.invariant.0 c.loop-count-test.false long (sym c.get_mut.ensures.value ∙ ap option_copied_mut c.in_default.is)
