-- The premises of the headline for two ends, as far as they are settled: so they hold for every earlier log.
use Rattle.std.specs.Prelude.{ℕ, ◌≡◌, ◌<◌, true, false, List, Some, slice_get}
use Rattle.spx_theory.specs.Note.{Note}
use Rattle.spx_theory.specs.Scan.{Each, Scan, Reading, Role, scan}
use Rattle.spx_theory.specs.Peers.{end_of, units_between}

-- the roles of a caller c and of d, as far as they are settled
pub record AreRoles (c d a b : ℕ) (s : Scan) : Type 0 where
  pub caller : (r : Role) → slice_get s.roles c ≡ Some r
      → (r.buffers ≡ a) × (r.called ≡ true) × (r.joined ≡ true → r.partner ≡ Some d)
  pub callee : (r : Role) → slice_get s.roles d ≡ Some r
      → (r.buffers ≡ b) × (r.called ≡ false) × (r.joined ≡ true) × (r.partner ≡ Some c)

-- c reads only d, and only recent packets
pub record ReadsOf (c d : ℕ) (sent : List ℕ) (r : Reading) : Type 0 where
  pub own : r.who ≡ c → r.first ≡ false → end_of r.maker ≡ Some d
  pub fresh : r.who ≡ c → end_of r.maker ≡ Some d
      → (units_between c sent r < 32768) × (units_between d sent r < 32768)

-- the premises of a caller c, which has a buffers, and of d, which has b
pub record PairPremises (c d a b : ℕ) (log : List Note) : Type 0 where
  pub roles : AreRoles c d a b (scan log)
  pub one : Each (ReadsOf c d (scan log).sent) (scan log).readings
  pub two : Each (ReadsOf d c (scan log).sent) (scan log).readings
