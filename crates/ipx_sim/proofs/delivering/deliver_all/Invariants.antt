use Rattle.std.proofs.Common.{◌≡◌, ℕ, ◌+◌, ◌-◌, Ok}
use Rattle.std.specs.List.{range_with_len}
use Rattle.ipx_sim.specs.Delivering.{DeliversNew, delivered_view}
use Rattle.ipx_sim.specs.ScriptDoing.{DoesEach}
use Rattle.ipx_sim.proofs.delivering.deliver_all.Given as goal

abbrev pub invariant-loop-delivered : goal.invariant-loop-delivered
invariant-loop-delivered l =
    (count : ℕ) × (l.fn.delivered.below + count ≡ l.delivered.below)
    × DoesEach (DeliversNew (delivered_view l.fn.delivered) l.spots) (range_with_len l.fn.delivered.below count) l.fn.net (Ok l.any) l.net
    × (l.delivered.marks.items ≡ l.fn.delivered.marks.items)

abbrev pub decreases-loop-delivered : goal.decreases-loop-delivered
decreases-loop-delivered l = 18446744073709551616 - l.delivered.below
