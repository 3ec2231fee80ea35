use Rattle.std.proofs.Common.{◌≡◌, drop}
use Rattle.ipx_rate_limits.specs.TokenBuckets.{back_at}
use Rattle.ipx_rate_limits.proofs.node_buckets.NodeBuckets.back_of.Given as goal

-- the querier is none of those before
abbrev pub invariant-loop-known : goal.invariant-loop-known
invariant-loop-known l = back_at (drop l.known-index l.known-items) l.querier ≡ back_at l.known-items l.querier
