use Rattle.std.proofs.Common.{◌≡◌, ◌+◌, ◌-◌, ℕ, length, ◌∙◌, subst, arith}
use Rattle.ipx_net.specs.Sights.{HasSpace, scan_of}
use Rattle.ipx_net.proofs.Sightings.{one_seen}
use Rattle.ipx_net.proofs.log_index.LogIndex.read_all.Goals as goal

pub loop-entry-preserved : goal.loop-entry-preserved
loop-entry-preserved c =
    let left : ℕ = length c.args.entries.now - (c.loop-entry.entry-index + 1) in
    let one : length c.args.entries.now - c.loop-entry.entry-index ≡ left + 1 = omega arith in
    record {
      room = c.read.ensures.room left (subst (λ (n : ℕ). HasSpace n c.loop-entry.self) one c.loop-entry.invariant.room);
      rest = c.loop-entry.invariant.rest
          ∙ one_seen (scan_of c.loop-entry.self) (scan_of c.read.new.self) c.args.entries.now c.loop-entry.entry-index c.entry-item.result c.loop-entry-test.true c.entry-item.is c.read.ensures.scan;
    }
