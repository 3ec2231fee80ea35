use Rattle.std.proofs.Common.{refl, arith, ap, length}
use Rattle.spx_theory.specs.Peers.{IsRecent}
use Rattle.ipx_net.specs.Sights.{reading_view, scan_of}
use Rattle.ipx_net.specs.declared.reading.Reading.{Reading}
use Rattle.ipx_net.proofs.Passing.{none_fails, one_passes}
use Rattle.ipx_net.proofs.log_index.LogIndex.are_recent.Goals as goal

pub returns-then-not-is_recent : goal.returns-then-not-is_recent
returns-then-not-is_recent c =
    let s = c.args.self.now in (
      λ h. cc,
      none_fails Reading (λ r. IsRecent (scan_of s) (reading_view r)) s.readings.items c.deref-reading-items.result.now c.loop-reading.reading-index _ c.is_recent.result c.deref-reading-items.ensures.value c.loop-reading-test.true c.is_recent.ensures.1 c.if-not-is_recent.true,
    )

pub loop-reading-preserved : goal.loop-reading-preserved
loop-reading-preserved c =
    let s = c.args.self.now in
    one_passes Reading (λ r. IsRecent (scan_of s) (reading_view r)) s.readings.items c.deref-reading-items.result.now c.loop-reading.reading-index _ c.is_recent.result c.deref-reading-items.ensures.value c.loop-reading-test.true c.is_recent.ensures.0 c.if-not-is_recent.false c.loop-reading.invariant

pub returns : goal.returns
returns c = (
  λ _ k d h. c.loop-reading.invariant k d (omega (arith, ap length c.deref-reading-items.ensures.value)),
  λ _. refl,
)
