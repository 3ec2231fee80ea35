use Rattle.std.proofs.Common.{◌≤◌, ◌+◌, ◌-◌, length, take}
use Rattle.std.specs.Prelude.{vec_capacity, vec_len}
use Rattle.ipx_net.specs.LogEntries.{entry_notes}
use Rattle.ipx_net.specs.EndSummaryChanges.{AreCounted, StayAs}
use Rattle.ipx_net.proofs.told.EndSummaries.read_from.Given as goal

abbrev pub invariant-loop-at : goal.invariant-loop-at
invariant-loop-at l =
    record {
      counted : AreCounted (entry_notes (take l.at l.log)) l.self.infos.items;
      same : StayAs l.fn.self.infos.items l.self.infos.items;
      room : vec_len l.self.infos + (length l.log - l.at) ≤ vec_capacity l.self.infos;
    }
