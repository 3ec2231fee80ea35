use Rattle.std.proofs.Common.{◌+◌, ◌++◌, List, drop}
use Rattle.ipx_router.specs.RouterPackets.{SendingView, sendings}
use Rattle.ipx_router.specs.Starting.{AreStarts}
use Rattle.ipx_router.proofs.starting.ask_all.Given as goal

abbrev pub invariant-loop-i : goal.invariant-loop-i
invariant-loop-i l =
    (later : List SendingView) → AreStarts (l.i + 1) (drop l.i l.ports) later → AreStarts 1 l.ports (sendings l.asked.items ++ later)
