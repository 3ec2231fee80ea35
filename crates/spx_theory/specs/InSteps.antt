-- The machine of a log is one that the laws of a connection hold for: steps from two new ends reach it
-- (Novell SPX).
use Rattle.std.specs.Prelude.{ℕ, List}
use Rattle.spx_link.specs.Machine.{IsRun, Step, start}
use Rattle.spx_theory.specs.InStep.{pair_in}
use Rattle.spx_theory.specs.PairLog.{Pair}
use Rattle.spx_theory.specs.Peers.{AreJoined, Premises}
use Rattle.spx_theory.specs.Scan.{role_of, scan}
use Rattle.spx_theory.specs.Scene.{Scene}

-- for two peers, steps lead from two new ends with their buffers to the ends of the log's machine
abbrev pub PairsTakeSteps : Scene → Type 0
PairsTakeSteps s = Premises s.log → (c d : ℕ) → AreJoined (scan s.log) c d
    → let p : Pair = pair_in s c d in
    (steps : List Step)
    × IsRun steps (start (role_of (scan s.log) c).buffers (role_of (scan s.log) d).buffers)
    (record { one = p.one.end; two = p.two.end })
