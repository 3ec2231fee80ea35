use Rattle.std.proofs.Common.{◌≡◌, ◌++◌, false}
use Rattle.ipx_router.specs.Replying.{asks_all}
use Rattle.ipx_rate_limits.proofs.querier.names_all.Given as goal

-- no entry so far has all networks
abbrev pub invariant-loop-entry : goal.invariant-loop-entry
invariant-loop-entry l = record {
  all : l.yielded ++ l.entry-iterator ≡ l.fn.asked;
  named : asks_all l.yielded ≡ false;
}
