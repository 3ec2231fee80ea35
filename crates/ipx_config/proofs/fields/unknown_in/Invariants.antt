use Rattle.std.proofs.Common.{◌≡◌}
use Rattle.ipx_config.proofs.Found.{first_unknown_name}
use Rattle.ipx_config.proofs.fields.unknown_in.Given as goal

-- the first unknown name is among the remaining ones
abbrev pub invariant-loop-name : goal.invariant-loop-name
invariant-loop-name l =
    (goal.iterator-loop-name).can_next l.name-iterator
    × (goal.iterator-loop-name).is_finite l.name-iterator
    × (first_unknown_name l.keys l.name-iterator ≡ first_unknown_name l.keys l.initial.name-iterator)
