use Rattle.std.proofs.Common.{ap, inl, inr, rules, subst, sym}
use Rattle.ipx_rate_limits.specs.declared.querier.QueryDrops.{QueryDrops}
use Rattle.ipx_rate_limits.specs.TokenBuckets.{TokenBucketsView, HasNarrowToken}
use Rattle.ipx_rate_limits.specs.RateLimiter.{HearOutOfMemoryBelow, HearsNarrow, IsNarrowQuery, RateLimiterView}
use Rattle.ipx_rate_limits.proofs.Either.{on_err, on_ok}
use Rattle.ipx_rate_limits.proofs.rate_limiter.RateLimiter.hear_narrow.Goals as goal

pub returns-then-not-has_narrow_token-clause-heard : goal.returns-then-not-has_narrow_token-clause-heard
returns-then-not-has_narrow_token-clause-heard g c =
    let inside = c.self.inside in
    let who = c.args.querier in
    let by : QueryDrops → RateLimiterView g.row.C.Denot = λ drops. record { core = inside.core; ports = inside.ports.items; buckets = inside.buckets; kept = drops; directed = inside.directed } in
    let query = subst (λ (v : RateLimiterView g.row.C.Denot). IsNarrowQuery v.ports c.args.port c.args.bytes.now who) (sym c.self.view_is) c.requires.asks in
    let none : HasNarrowToken inside.buckets who c.args.now → ⊥ = search rules in
    subst (λ (v : RateLimiterView g.row.C.Denot). HearsNarrow g.C.Core.hears v c.args.port c.args.bytes.now c.args.now (by c.saturating_increment.new.self)) c.self.view_is
    (inr (who, query, none, ap by c.saturating_increment.ensures))

pub returns-clause-heard : goal.returns-clause-heard
returns-clause-heard g c =
    let inside = c.self.inside in
    let who = c.args.querier in
    let by : TokenBucketsView → RateLimiterView g.row.C.Denot = λ a. record { core = c.hear-heard.new.self; ports = inside.ports.items; buckets = a; kept = inside.kept; directed = inside.directed } in
    let query = subst (λ (v : RateLimiterView g.row.C.Denot). IsNarrowQuery v.ports c.args.port c.args.bytes.now who) (sym c.self.view_is) c.requires.asks in
    let has : HasNarrowToken inside.buckets who c.args.now = search rules in
    on_ok c.hear-heard.result
    (λ heard. subst (λ (v : RateLimiterView g.row.C.Denot). HearsNarrow g.C.Core.hears v c.args.port c.args.bytes.now c.args.now (by c.take_narrow_token.new.self)) c.self.view_is
    (inl (who, (query, has, heard, ap by c.take_narrow_token.ensures))))
    c.hear-heard.ensures.heard

pub returns-clause-refused : goal.returns-clause-refused
returns-clause-refused g c =
    let inside = c.self.inside in
    let who = c.args.querier in
    let by : TokenBucketsView → RateLimiterView g.row.C.Denot = λ a. record { core = c.hear-heard.new.self; ports = inside.ports.items; buckets = a; kept = inside.kept; directed = inside.directed } in
    let query = subst (λ (v : RateLimiterView g.row.C.Denot). IsNarrowQuery v.ports c.args.port c.args.bytes.now who) (sym c.self.view_is) c.requires.asks in
    let has : HasNarrowToken inside.buckets who c.args.now = search rules in
    on_err c.hear-heard.result
    (λ heard. subst (λ (v : RateLimiterView g.row.C.Denot). HearOutOfMemoryBelow g.C.Core.hear_out_of_memory v c.args.port c.args.bytes.now c.args.now (by c.take_narrow_token.new.self)) c.self.view_is
    (inr (inl (who, (query, has, heard, ap by c.take_narrow_token.ensures)))))
    c.hear-heard.ensures.refused
