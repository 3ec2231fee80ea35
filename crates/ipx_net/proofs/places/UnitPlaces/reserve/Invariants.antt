use Rattle.std.proofs.Common.{◌≡◌, map}
use Rattle.ipx_net.proofs.places.UnitPlaces.reserve.Given as goal

abbrev pub invariant-loop-entry : goal.invariant-loop-entry
invariant-loop-entry l =
    record {
      lists : map (λ v. v.items) l.self-inside.lists.items ≡ l.fn.self.lists;
      whole : l.self-inside.whole ≡ l.fn.self.whole;
    }
