use Rattle.std.proofs.Common.{◌≡◌, ℕ, ◌<◌, [], false, get_or, map, string_bytes}
use Rattle.std.specs.Str.{bytes_eq}
use Rattle.ipx_sim.proofs.names.place_among.Given as goal

abbrev pub invariant-loop-number : goal.invariant-loop-number
invariant-loop-number l = (k : ℕ) → k < l.number → bytes_eq (get_or (map string_bytes l.names) k []) l.name ≡ false
