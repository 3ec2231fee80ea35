-- The tokens of the nodes that send general and narrow queries to a router: each has its own of each kind, and
-- all at a port share those of the port. Defined by this project.
use Rattle.std.specs.Prelude.{◌≡◌, ◌<◌, ℕ, ◌==◌, ◌&&◌, ◌*◌, ◌/◌, Bool, true, not, List, [], ◌∷◌, ◌++◌, filter, count_by, nat_lt, if◌then◌else◌}
use Rattle.ipx_router.specs.Classify.{is_node}
use Rattle.ipx_rate_limits.specs.declared.node_buckets.Asking.{Asking}
use Rattle.ipx_rate_limits.specs.declared.port_buckets.PortBuckets.{PortBuckets}
use Rattle.ipx_rate_limits.specs.declared.querier.Querier.{Querier}
use Rattle.token_bucket.specs.declared.bucket.RateLimit.{RateLimit}
use Rattle.ipx_rate_limits.specs.PortBuckets.{at_port, narrow_has, query_has, with_narrow_taken, with_query_taken}
use Rattle.token_bucket.specs.TokenBucket.{back_after, has_tokens}

-- how many tokens a querier has, of which one comes back each second, and how many queriers are remembered at
-- most
abbrev pub own_tokens : ℕ
own_tokens = 8

abbrev pub max_askers : ℕ
max_askers = 1024

-- of a port's tokens for narrow queries one node may take half at once, and two more each second
abbrev pub node_narrow : PortBuckets → RateLimit
node_narrow p = record { burst = p.narrow.limit.burst / 2; per_second = 2 }

-- a clock by which one of these comes back in a second
abbrev pub narrow_clock : ℕ → ℕ
narrow_clock now = 2 * now

-- two queriers are the same
abbrev pub is_same_querier : Querier → Querier → Bool
is_same_querier a b = (a.port == b.port) && is_node a.node b.node

-- when all tokens of a querier are back; one that is not remembered has all its tokens
abbrev pub back_at : List Asking → Querier → ℕ
back_at [] who = 0
back_at (a ∷ rest) who = if is_same_querier a.querier who then a.back else back_at rest who

-- this is another querier, and it has missing tokens
abbrev pub is_another_out : Querier → ℕ → Asking → Bool
is_another_out who now a = not (is_same_querier a.querier who) && nat_lt now a.back

pub record TokenBucketsView : Type 0 where
  -- the queriers that are remembered, each with the time at which all its tokens are back
  pub queriers : List Asking
  -- the same for narrow queries, by their clock
  pub narrow : List Asking
  -- the buckets of each port
  pub ports : List PortBuckets

-- nobody has sent a query yet
abbrev pub fresh_buckets : List PortBuckets → TokenBucketsView
fresh_buckets ports = record { queriers = []; narrow = []; ports = ports }

-- of those that are remembered, one with so many tokens has one. Few enough others have missing tokens that it
-- can be remembered
pub record MayAsk (burst : ℕ) (known : List Asking) (who : Querier) (now : ℕ) : Type 0 where
  pub own : has_tokens burst 1 (back_at known who) now ≡ true
  pub few : count_by (is_another_out who now) known < max_askers

-- a querier has a token: one of its own, and one of its port
pub record HasToken (t : TokenBucketsView) (who : Querier) (now : ℕ) : Type 0 where
  pub node : MayAsk own_tokens t.queriers who now
  pub common : query_has (at_port t.ports who.port) now ≡ true

-- the same for a narrow query
pub record HasNarrowToken (t : TokenBucketsView) (who : Querier) (now : ℕ) : Type 0 where
  pub node : MayAsk (node_narrow (at_port t.ports who.port)).burst t.narrow who (narrow_clock now)
  pub common : narrow_has (at_port t.ports who.port) now ≡ true

-- it took one of its own. Queriers with all their tokens are forgotten
abbrev pub asked_by : Querier → ℕ → List Asking → List Asking
asked_by who now queriers = filter (is_another_out who now) queriers
    ++ record { querier = who; back = back_after 1 (back_at queriers who) now } ∷ []

-- it took one of its port too
abbrev pub with_token_taken : TokenBucketsView → Querier → ℕ → TokenBucketsView
with_token_taken t who now = record t {
  queriers = asked_by who now t.queriers;
  ports = with_query_taken t.ports who.port now;
}

-- the same for a narrow query
abbrev pub with_narrow_token_taken : TokenBucketsView → Querier → ℕ → TokenBucketsView
with_narrow_token_taken t who now = record t {
  narrow = asked_by who (narrow_clock now) t.narrow;
  ports = with_narrow_taken t.ports who.port now;
}
