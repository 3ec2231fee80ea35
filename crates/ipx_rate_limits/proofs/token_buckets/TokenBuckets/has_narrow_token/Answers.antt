use Rattle.std.proofs.Common.{◌≡◌, ◌∙◌, ℕ, ap, subst, sym}
use Rattle.ipx_rate_limits.specs.PortBuckets.{at_port}
use Rattle.ipx_rate_limits.specs.TokenBuckets.{MayAsk, TokenBucketsView, narrow_clock, node_narrow}
use Rattle.ipx_rate_limits.proofs.token_buckets.TokenBuckets.has_narrow_token.Goals as goal

pub returns-else-may_ask : goal.returns-else-may_ask
returns-else-may_ask c =
    let who = c.args.querier in
    let burst : c.narrow_burst-burst.result ≡ (node_narrow (at_port c.self.inside.ports.items who.port)).burst =
    c.narrow_burst-burst.ensures ∙ ap (λ ports. (node_narrow (at_port ports who.port)).burst) c.deref.ensures.value in (
      λ yes. absurd cc,
      λ has. c.may_ask.ensures.1 (subst (λ (now : ℕ). MayAsk c.narrow_burst-burst.result c.self.inside.narrow who now) (sym c.narrow_clock.ensures.clock)
          (subst (λ (n : ℕ). MayAsk n c.self.inside.narrow who (narrow_clock c.args.now)) (sym burst)
          (subst (λ (v : TokenBucketsView). MayAsk (node_narrow (at_port v.ports who.port)).burst v.narrow who (narrow_clock c.args.now)) (sym c.self.view_is) has.node))),
    )
