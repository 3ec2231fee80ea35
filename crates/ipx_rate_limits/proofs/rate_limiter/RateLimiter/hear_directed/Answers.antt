use Rattle.std.proofs.Common.{◌≡◌, true, false, ap, inl, inr, rules, subst, sym}
use Rattle.ipx_rate_limits.specs.declared.directed_broadcast.DirectedDrops.{DirectedDrops}
use Rattle.ipx_rate_limits.specs.DirectedBroadcasts.{IsDirectedBroadcast}
use Rattle.ipx_rate_limits.specs.PortBuckets.{at_port, directed_has}
use Rattle.ipx_rate_limits.specs.TokenBuckets.{TokenBucketsView}
use Rattle.ipx_rate_limits.specs.RateLimiter.{HearOutOfMemoryBelow, HearsBroadcast, RateLimiterView}
use Rattle.ipx_rate_limits.proofs.Either.{on_err, on_ok}
use Rattle.ipx_rate_limits.proofs.rate_limiter.RateLimiter.hear_directed.Goals as goal

pub returns-then-not-has_directed_token-clause-heard : goal.returns-then-not-has_directed_token-clause-heard
returns-then-not-has_directed_token-clause-heard g c =
    let inside = c.self.inside in
    let it = c.args.broadcast in
    let by : DirectedDrops → RateLimiterView g.row.C.Denot = λ drops. record { core = inside.core; ports = inside.ports.items; buckets = inside.buckets; kept = inside.kept; directed = drops } in
    let directed = subst (λ (v : RateLimiterView g.row.C.Denot). IsDirectedBroadcast v.ports v.buckets.ports c.args.port c.args.bytes.now it) (sym c.self.view_is) c.requires.directed in
    let none : directed_has (at_port inside.buckets.ports it.leaves_by) c.args.now ≡ false = search rules in
    subst (λ (v : RateLimiterView g.row.C.Denot). HearsBroadcast g.C.Core.hears v c.args.port c.args.bytes.now c.args.now (by c.saturating_increment.new.self)) c.self.view_is
    (inr (it, directed, none, ap by c.saturating_increment.ensures))

pub returns-clause-heard : goal.returns-clause-heard
returns-clause-heard g c =
    let inside = c.self.inside in
    let it = c.args.broadcast in
    let by : TokenBucketsView → RateLimiterView g.row.C.Denot = λ a. record { core = c.hear-heard.new.self; ports = inside.ports.items; buckets = a; kept = inside.kept; directed = inside.directed } in
    let directed = subst (λ (v : RateLimiterView g.row.C.Denot). IsDirectedBroadcast v.ports v.buckets.ports c.args.port c.args.bytes.now it) (sym c.self.view_is) c.requires.directed in
    let has : directed_has (at_port inside.buckets.ports it.leaves_by) c.args.now ≡ true = search rules in
    on_ok c.hear-heard.result
    (λ heard. subst (λ (v : RateLimiterView g.row.C.Denot). HearsBroadcast g.C.Core.hears v c.args.port c.args.bytes.now c.args.now (by c.take_directed_token.new.self)) c.self.view_is
    (inl (it, (directed, has, heard, ap by c.take_directed_token.ensures))))
    c.hear-heard.ensures.heard

pub returns-clause-refused : goal.returns-clause-refused
returns-clause-refused g c =
    let inside = c.self.inside in
    let it = c.args.broadcast in
    let by : TokenBucketsView → RateLimiterView g.row.C.Denot = λ a. record { core = c.hear-heard.new.self; ports = inside.ports.items; buckets = a; kept = inside.kept; directed = inside.directed } in
    let directed = subst (λ (v : RateLimiterView g.row.C.Denot). IsDirectedBroadcast v.ports v.buckets.ports c.args.port c.args.bytes.now it) (sym c.self.view_is) c.requires.directed in
    let has : directed_has (at_port inside.buckets.ports it.leaves_by) c.args.now ≡ true = search rules in
    on_err c.hear-heard.result
    (λ heard. subst (λ (v : RateLimiterView g.row.C.Denot). HearOutOfMemoryBelow g.C.Core.hear_out_of_memory v c.args.port c.args.bytes.now c.args.now (by c.take_directed_token.new.self)) c.self.view_is
    (inr (inr (inl (it, (directed, has, heard, ap by c.take_directed_token.ensures))))))
    c.hear-heard.ensures.refused
