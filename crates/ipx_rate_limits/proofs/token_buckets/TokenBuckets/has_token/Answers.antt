use Rattle.std.proofs.Common.{ℕ, subst, sym}
use Rattle.ipx_rate_limits.specs.TokenBuckets.{MayAsk, TokenBucketsView, own_tokens}
use Rattle.ipx_rate_limits.proofs.token_buckets.TokenBuckets.has_token.Goals as goal

pub returns-else-may_ask : goal.returns-else-may_ask
returns-else-may_ask c = (
  λ yes. absurd cc,
  λ has. c.may_ask.ensures.1 (subst (λ (now : ℕ). MayAsk own_tokens c.self.inside.queriers c.args.querier now) (sym c.from.ensures)
      (subst (λ (v : TokenBucketsView). MayAsk own_tokens v.queriers c.args.querier c.args.now) (sym c.self.view_is) has.node)),
)
