use Rattle.std.proofs.Common.{ℕ, subst}
use Rattle.std.specs.List.{range_with_len}
use Rattle.ipx_sim.specs.ScriptDoing.{DoesEach}
use Rattle.ipx_sim.specs.Going.{DrainsPresent}
use Rattle.ipx_sim.proofs.taking.drain_all.Goals as goal

pub returns : goal.returns
returns c =
    let k = c.count_of-count.ensures in
    (k.0, k.1, subst (λ (n : ℕ). DoesEach DrainsPresent (range_with_len 0 n) c.args.net.now c.drain_each.result c.drain_each.new.net) k.2 c.drain_each.ensures)
