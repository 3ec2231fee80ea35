use Rattle.std.proofs.Common.{◌≤◌, length, arith}
use Rattle.ipx_net.proofs.Sightings.{one_more_passed}
use Rattle.ipx_net.proofs.log_index.LogIndex.carry.Goals as goal

pub overflow_add-mark : goal.overflow_add-mark
overflow_add-mark c =
    let few : c.mark_at-mark.result.passed ≤ length c.args.self.now.marks.items = c.mark_at-mark.ensures.passed _ (rw c.deref.ensures.value c.args.self.now.short) in
    omega arith

pub invariant_of-self : goal.invariant_of-self
invariant_of-self c =
    let few : c.mark_at-mark.result.passed ≤ length c.args.self.now.marks.items = c.mark_at-mark.ensures.passed _ (rw c.deref.ensures.value c.args.self.now.short) in
    record { listed = c.args.self.now.listed; short = rw c.push_reserved.ensures.items (one_more_passed c.args.self.now.marks.items _ c.args.self.now.short (omega arith)) }
