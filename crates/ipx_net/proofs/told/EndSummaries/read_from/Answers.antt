use Rattle.std.proofs.Common.{◌≡◌, ◌+◌, ◌-◌, length, arith, subst, sym, take, List}
use Rattle.ipx_net.specs.LogEntries.{entry_note, entry_notes}
use Rattle.ipx_net.specs.EndSummaryChanges.{AreCounted, StayAs, summaries_with}
use Rattle.ipx_net.specs.declared.endinfo.EndInfo.{EndInfo}
use Rattle.ipx_net.proofs.TellingCounts.{counted_next, few, stays_then, told_stays}
use Rattle.ipx_net.proofs.told.EndSummaries.read_from.Goals as goal

pub loop-at-preserved : goal.loop-at-preserved
loop-at-preserved c =
    let told : List EndInfo = c.loop-at.self.infos.items in
    let told' : List EndInfo = c.read.new.self.infos.items in
    let is : told' ≡ summaries_with (entry_note c.index-log-at.result) told = c.read.ensures.told in
    record {
      counted = subst (λ (xs : List EndInfo). AreCounted (entry_notes (take (c.loop-at.at + 1) c.args.log.now)) xs) (sym is)
          (counted_next c.args.log.now c.loop-at.at c.index-log-at.result told c.loop-at-test.true c.index-log-at.is c.requires.numbered c.loop-at.invariant.counted);
      same = stays_then c.args.self.now.infos.items told told' c.loop-at.invariant.same
          (subst (λ (xs : List EndInfo). StayAs told xs) (sym is) (told_stays (entry_note c.index-log-at.result) told));
      room = c.read.ensures.room (length c.args.log.now - (c.loop-at.at + 1)) (omega (arith, c.loop-at.invariant.room, c.loop-at-test.true));
    }

pub read-requires-clause-few : goal.read-requires-clause-few
read-requires-clause-few c = λ e.
    let small = few c.args.log.now c.loop-at.at c.loop-at.self.infos.items e c.loop-at.invariant.counted in
    (omega (arith, small.0, c.loop-at-test.true), omega (arith, small.1, c.loop-at-test.true))
