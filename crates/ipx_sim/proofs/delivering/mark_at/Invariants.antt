use Rattle.std.proofs.Common.{◌≡◌, ℕ, false, get_or, length}
use Rattle.ipx_sim.proofs.delivering.mark_at.Given as goal

abbrev pub invariant-loop : goal.invariant-loop
invariant-loop l = ((k : ℕ) → get_or l.marks.items k false ≡ get_or l.fn.marks.items k false) × (length l.marks.items ≡ l.counter)
